-- What an op does by its register alone, read back: which register it was, and that the row refuses what it refuses.
use Rattle.std.proofs.Common.{Bool, true, false, ◌≡◌, ℕ, ◌==◌, ◌⊎◌, if◌then◌else◌, None, refl, sym, ◌∙◌, subst, arith, inl, inr}
use Rattle.std.specs.Prelude.{Ok, Err}
use Rattle.std.proofs.lemmas.Bool.{cases_eq, eq-eqb, ne_eqb}
use Rattle.pa_slot.specs.declared.word.SlotName.{SlotName}
use Rattle.pa_slot.specs.Count.{held_of}
use Rattle.pa_record.specs.declared.entry.Answer.{Answer}
use Rattle.pa_record.specs.declared.entry.Answer.TheVariants.{SecondFree, StaleReset, StaleUse, Nothing, Filled, NotRef}
use Rattle.pa_rules.specs.declared.register.Register.{Register}
use Rattle.pa_rules.specs.declared.register.Register.TheVariants.{Empty, Own, Ref, Freed, Cleared}
use Rattle.pa_rules.specs.declared.register.Next.TheVariants.{Refused, Step, Look}
use Rattle.pa_rules.specs.Registers.{Regs, Facts, AllocRow, CopyToRow, CopyRow, ResetRow, FreeRow, WriteRow, ReadRow}
use Rattle.pa_rules.specs.Nexts.{HasSomeHandle, named, copy_next, reset_next, free_next, write_next, read_next}

-- ---- the register of a handle

pub copy_steps : {H : Type 0} (r : Register H) (h : H) → copy_next r ≡ Ok h → (r ≡ Own h) ⊎ (r ≡ Ref h)
copy_steps Empty h e = absurd (let bad : ⊥ = cc in bad)
copy_steps (Own g) h e = inl cc
copy_steps (Ref g) h e = inr cc
copy_steps Freed h e = absurd (let bad : ⊥ = cc in bad)
copy_steps Cleared h e = absurd (let bad : ⊥ = cc in bad)

pub reset_steps : {H : Type 0} (r : Register H) (h : H) → reset_next r ≡ Ok h → r ≡ Ref h
reset_steps Empty h e = absurd (let bad : ⊥ = cc in bad)
reset_steps (Own g) h e = absurd (let bad : ⊥ = cc in bad)
reset_steps (Ref g) h e = cc
reset_steps Freed h e = absurd (let bad : ⊥ = cc in bad)
reset_steps Cleared h e = absurd (let bad : ⊥ = cc in bad)

pub free_steps : {H : Type 0} (r : Register H) (h : H) → free_next r ≡ Step h → r ≡ Own h
free_steps Empty h e = absurd (let bad : ⊥ = cc in bad)
free_steps (Own g) h e = cc
free_steps (Ref g) h e = absurd (let bad : ⊥ = cc in bad)
free_steps Freed h e = absurd (let bad : ⊥ = cc in bad)
free_steps Cleared h e = absurd (let bad : ⊥ = cc in bad)

pub free_looks : {H : Type 0} (r : Register H) (h : H) → free_next r ≡ Look h → r ≡ Ref h
free_looks Empty h e = absurd (let bad : ⊥ = cc in bad)
free_looks (Own g) h e = absurd (let bad : ⊥ = cc in bad)
free_looks (Ref g) h e = cc
free_looks Freed h e = absurd (let bad : ⊥ = cc in bad)
free_looks Cleared h e = absurd (let bad : ⊥ = cc in bad)

pub write_steps : {H : Type 0} (r : Register H) (h : H) → write_next r ≡ Step h → r ≡ Own h
write_steps Empty h e = absurd (let bad : ⊥ = cc in bad)
write_steps (Own g) h e = cc
write_steps (Ref g) h e = absurd (let bad : ⊥ = cc in bad)
write_steps Freed h e = absurd (let bad : ⊥ = cc in bad)
write_steps Cleared h e = absurd (let bad : ⊥ = cc in bad)

pub write_looks : {H : Type 0} (r : Register H) (h : H) → write_next r ≡ Look h → r ≡ Ref h
write_looks Empty h e = absurd (let bad : ⊥ = cc in bad)
write_looks (Own g) h e = absurd (let bad : ⊥ = cc in bad)
write_looks (Ref g) h e = cc
write_looks Freed h e = absurd (let bad : ⊥ = cc in bad)
write_looks Cleared h e = absurd (let bad : ⊥ = cc in bad)

pub read_looks : {H : Type 0} (r : Register H) (h : H) → read_next r ≡ Ok h → (r ≡ Own h) ⊎ (r ≡ Ref h)
read_looks Empty h e = absurd (let bad : ⊥ = cc in bad)
read_looks (Own g) h e = inl cc
read_looks (Ref g) h e = inr cc
read_looks Freed h e = absurd (let bad : ⊥ = cc in bad)
read_looks Cleared h e = absurd (let bad : ⊥ = cc in bad)

-- ---- the answers of refusals: what is true of each is true of this

pub copy_refusal : {H : Type 0} (P : Answer → Type 0) (r : Register H) (a : Answer) → copy_next r ≡ Err a → P Nothing →
    P (StaleUse None) → P a
copy_refusal P Empty a e nothing stale = let is : Nothing ≡ a = cc in subst P is nothing
copy_refusal P (Own h) a e nothing stale = absurd (let bad : ⊥ = cc in bad)
copy_refusal P (Ref h) a e nothing stale = absurd (let bad : ⊥ = cc in bad)
copy_refusal P Freed a e nothing stale = let is : StaleUse None ≡ a = cc in subst P is stale
copy_refusal P Cleared a e nothing stale = let is : StaleUse None ≡ a = cc in subst P is stale

pub reset_refusal : {H : Type 0} (P : Answer → Type 0) (r : Register H) (a : Answer) → reset_next r ≡ Err a → P Nothing → P NotRef →
    P StaleReset → P a
reset_refusal P Empty a e nothing not_ref stale = let is : Nothing ≡ a = cc in subst P is nothing
reset_refusal P (Own h) a e nothing not_ref stale = let is : NotRef ≡ a = cc in subst P is not_ref
reset_refusal P (Ref h) a e nothing not_ref stale = absurd (let bad : ⊥ = cc in bad)
reset_refusal P Freed a e nothing not_ref stale = let is : NotRef ≡ a = cc in subst P is not_ref
reset_refusal P Cleared a e nothing not_ref stale = let is : StaleReset ≡ a = cc in subst P is stale

pub free_refusal : {H : Type 0} (P : Answer → Type 0) (r : Register H) (a : Answer) → free_next r ≡ Refused a →
    P Nothing → P (SecondFree None) → P (StaleUse None) → P a
free_refusal P Empty a e nothing second stale = let is : Nothing ≡ a = cc in subst P is nothing
free_refusal P (Own h) a e nothing second stale = absurd (let bad : ⊥ = cc in bad)
free_refusal P (Ref h) a e nothing second stale = absurd (let bad : ⊥ = cc in bad)
free_refusal P Freed a e nothing second stale = let is : SecondFree None ≡ a = cc in subst P is second
free_refusal P Cleared a e nothing second stale = let is : StaleUse None ≡ a = cc in subst P is stale

pub write_refusal : {H : Type 0} (P : Answer → Type 0) (r : Register H) (a : Answer) → write_next r ≡ Refused a → P Nothing →
    P (StaleUse None) → P a
write_refusal P Empty a e nothing stale = let is : Nothing ≡ a = cc in subst P is nothing
write_refusal P (Own h) a e nothing stale = absurd (let bad : ⊥ = cc in bad)
write_refusal P (Ref h) a e nothing stale = absurd (let bad : ⊥ = cc in bad)
write_refusal P Freed a e nothing stale = let is : StaleUse None ≡ a = cc in subst P is stale
write_refusal P Cleared a e nothing stale = let is : StaleUse None ≡ a = cc in subst P is stale

pub read_refusal : {H : Type 0} (P : Answer → Type 0) (r : Register H) (a : Answer) → read_next r ≡ Err a → P Nothing →
    P (StaleUse None) → P a
read_refusal P Empty a e nothing stale = let is : Nothing ≡ a = cc in subst P is nothing
read_refusal P (Own h) a e nothing stale = absurd (let bad : ⊥ = cc in bad)
read_refusal P (Ref h) a e nothing stale = absurd (let bad : ⊥ = cc in bad)
read_refusal P Freed a e nothing stale = let is : StaleUse None ≡ a = cc in subst P is stale
read_refusal P Cleared a e nothing stale = let is : StaleUse None ≡ a = cc in subst P is stale

-- ---- the rows of refusals, whatever a handle is

pub copy_refused : {H : Type 0} (name : H → SlotName) (r : Register H) (a : Answer) (facts : Facts) (regs : Regs) (to : ℕ) →
    copy_next r ≡ Err a →
    CopyRow (named name r) facts regs to a regs
copy_refused name Empty a facts regs to e = (cc, λ k. refl)
copy_refused name (Own h) a facts regs to e = absurd (let bad : ⊥ = cc in bad)
copy_refused name (Ref h) a facts regs to e = absurd (let bad : ⊥ = cc in bad)
copy_refused name Freed a facts regs to e = (cc, λ k. refl)
copy_refused name Cleared a facts regs to e = (cc, λ k. refl)

pub reset_refused : {H : Type 0} (name : H → SlotName) (r : Register H) (a : Answer) (regs : Regs) (i : ℕ) → reset_next r ≡ Err a →
    ResetRow (named name r) regs i a regs
reset_refused name Empty a regs i e = (cc, λ k. refl)
reset_refused name (Own h) a regs i e = (cc, λ k. refl)
reset_refused name (Ref h) a regs i e = absurd (let bad : ⊥ = cc in bad)
reset_refused name Freed a regs i e = (cc, λ k. refl)
reset_refused name Cleared a regs i e = (cc, λ k. refl)

pub free_refused : {H : Type 0} (name : H → SlotName) (r : Register H) (a : Answer) (regs : Regs) (i : ℕ) → free_next r ≡ Refused a →
    FreeRow (named name r) regs i a regs
free_refused name Empty a regs i e = (cc, λ k. refl)
free_refused name (Own h) a regs i e = absurd (let bad : ⊥ = cc in bad)
free_refused name (Ref h) a regs i e = absurd (let bad : ⊥ = cc in bad)
free_refused name Freed a regs i e = (cc, λ k. refl)
free_refused name Cleared a regs i e = (cc, λ k. refl)

pub write_refused : {H : Type 0} (name : H → SlotName) (r : Register H) (a : Answer) (regs : Regs) → write_next r ≡ Refused a →
    WriteRow (named name r) regs a regs
write_refused name Empty a regs e = (cc, λ k. refl)
write_refused name (Own h) a regs e = absurd (let bad : ⊥ = cc in bad)
write_refused name (Ref h) a regs e = absurd (let bad : ⊥ = cc in bad)
write_refused name Freed a regs e = (cc, λ k. refl)
write_refused name Cleared a regs e = (cc, λ k. refl)

pub read_refused : {H : Type 0} (name : H → SlotName) (r : Register H) (a : Answer) (facts : Facts) (regs : Regs) (place : ℕ) →
    read_next r ≡ Err a →
    ReadRow (named name r) facts regs place a regs
read_refused name Empty a facts regs place e = (cc, λ k. refl)
read_refused name (Own h) a facts regs place e = absurd (let bad : ⊥ = cc in bad)
read_refused name (Ref h) a facts regs place e = absurd (let bad : ⊥ = cc in bad)
read_refused name Freed a facts regs place e = (cc, λ k. refl)
read_refused name Cleared a facts regs place e = (cc, λ k. refl)

-- ---- the rows of a register that has a handle

pub alloc_filled : {H : Type 0} (name : H → SlotName) (r : Register H) (facts : Facts) (regs : Regs) (i size : ℕ) → HasSomeHandle r →
    AllocRow (named name r) facts regs i size Filled regs
alloc_filled name Empty facts regs i size has = absurd has
alloc_filled name (Own h) facts regs i size has = (refl, λ k. refl)
alloc_filled name (Ref h) facts regs i size has = (refl, λ k. refl)
alloc_filled name Freed facts regs i size has = absurd has
alloc_filled name Cleared facts regs i size has = absurd has

pub copy_filled : {H : Type 0} (name : H → SlotName) (r : Register H) (plain : Bool) (s : SlotName) (regs : Regs) (to : ℕ) →
    HasSomeHandle r →
    CopyToRow (named name r) plain s regs to Filled regs
copy_filled name Empty plain s regs to has = absurd has
copy_filled name (Own h) plain s regs to has = (refl, λ k. refl)
copy_filled name (Ref h) plain s regs to has = (refl, λ k. refl)
copy_filled name Freed plain s regs to has = absurd has
copy_filled name Cleared plain s regs to has = absurd has

-- ---- the answer of a look

pub by_held : {A : Type 0} (w : ℕ) (one none : A) →
    ((held_of w ≡ 1) × ((if held_of w == 1 then one else none) ≡ one)) ⊎ ((held_of w ≡ 0) × ((if held_of w == 1 then one else none) ≡ none))
by_held w one none = elim (cases_eq (held_of w) 1) [
  | inl held ↦ inl (held, rw (eq-eqb (held_of w) 1 held) refl)
  | inr other ↦ inr (omega (arith, other), rw (ne_eqb (held_of w) 1 other) refl)
]

pub held_by : {A : Type 0} (w : ℕ) (a one none : A) → ((held_of w ≡ 1) × (a ≡ one)) ⊎ ((held_of w ≡ 0) × (a ≡ none)) →
    a ≡ (if held_of w == 1 then one else none)
held_by w a one none (inl h) = h.1 ∙ sym (rw (eq-eqb (held_of w) 1 h.0) refl)
held_by w a one none (inr h) = h.1 ∙ sym (rw (ne_eqb (held_of w) 1 (λ e. omega (arith, e, h.0))) refl)
