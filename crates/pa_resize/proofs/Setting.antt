-- What the rows of a move's records leave in the registers.
use Rattle.std.proofs.Common.{◌≡◌, ℕ, ◌≤◌, refl, sym, ap, ◌∙◌, subst, arith, inl, inr}
use Rattle.std.proofs.lemmas.Bool.{cases_eq, eq-eqb, ne_eqb}
use Rattle.pa_slot.specs.declared.word.SlotName.{SlotName}
use Rattle.pa_slot.specs.Count.{held_of}
use Rattle.pa_direct.specs.Shapes.{greatest_size}
use Rattle.pa_record.specs.declared.entry.Seen.{Seen}
use Rattle.pa_record.specs.declared.entry.Answer.{Answer}
use Rattle.pa_record.specs.declared.entry.Answer.TheVariants.{Made, Value}
use Rattle.pa_rules.specs.declared.register.Register.TheVariants.{Empty, Own}
use Rattle.pa_rules.specs.Registers.{Reg, Regs, AllRegs, Facts, Becomes, with, with_thread, AllocRow, ReadRow, ReadFromRow}
use Rattle.pa_resize.specs.Expansion.{HasNoRoom}

module _ (all : AllRegs) (thread : ℕ) (next : Regs) where
  thread_here : with_thread all thread next thread ≡ next
  thread_here = rw (eq-eqb thread thread refl) refl

  thread_other : (t : ℕ) → (t ≡ thread → ⊥) → with_thread all thread next t ≡ all t
  thread_other t ne = rw (ne_eqb t thread ne) refl

-- a record that sets no register
pub same_left : (all : AllRegs) (thread : ℕ) (next : Regs) → Becomes next (all thread) → (t k : ℕ) →
    with_thread all thread next t k ≡ all t k
same_left all thread next same t k = elim (cases_eq t thread) [
  | inl e ↦
      ap (λ i. with_thread all thread next i k) e ∙
      (ap (λ (q : Regs). q k) (thread_here all thread next) ∙ (same k ∙ ap (λ i. all i k) (sym e)))
  | inr ne ↦ ap (λ (q : Regs). q k) (thread_other all thread next t ne)
]

-- a record that sets one register of a thread
pub record Sets (all : AllRegs) (thread reg : ℕ) (v : Reg) (after : AllRegs) : Type 0 where
  pub here : after thread reg ≡ v
  pub other : (t k : ℕ) → ((t ≡ thread) × (k ≡ reg) → ⊥) → after t k ≡ all t k

pub sets_left : (all : AllRegs) (thread reg : ℕ) (v : Reg) (next : Regs) → Becomes next (with (all thread) reg v) →
    Sets all thread reg v (with_thread all thread next)
sets_left all thread reg v next becomes = record {
  here = ap (λ (q : Regs). q reg) (thread_here all thread next) ∙ (becomes reg ∙ rw (eq-eqb reg reg refl) refl);
  other = λ t k ne. elim (cases_eq t thread) [
    | inl e ↦ elim (cases_eq k reg) [
      | inl same ↦ absurd (ne (e, same))
      | inr apart ↦
          let beside : with (all thread) reg v k ≡ all thread k = rw (ne_eqb k reg apart) refl in
          ap (λ i. with_thread all thread next i k) e ∙
          (ap (λ (q : Regs). q k) (thread_here all thread next) ∙ (becomes k ∙ (beside ∙ ap (λ i. all i k) (sym e))))
    ]
    | inr apart ↦ ap (λ (q : Regs). q k) (thread_other all thread next t apart)
  ];
}

-- a read that gave a value, of what a register owns
pub record ReadHeld (s : SlotName) (seen : Seen) (regs next : Regs) : Type 0 where
  pub same : Becomes next regs
  pub slot : seen.slot ≡ s
  pub held : held_of seen.found.0 ≡ 1

read_from : (s : SlotName) (facts : Facts) (regs : Regs) (place : ℕ) (answer : Answer) (next : Regs) (seen : Seen) (value : ℕ) →
    answer ≡ Value seen value
    → ReadFromRow s facts regs place answer next → ReadHeld s seen regs next
read_from s facts regs place answer next seen value is (same, inl (past, out)) = absurd cc
read_from s facts regs place answer next seen value is (same, inr (low, other, got, at, inl (held, says))) =
    let one : other ≡ seen = cc in
    record { same = same; slot = ap (λ (z : Seen). z.slot) (sym one) ∙ at; held = ap (λ (z : Seen). held_of z.found.0) (sym one) ∙ held }
read_from s facts regs place answer next seen value is (same, inr (low, other, got, at, inr (free, says))) = absurd cc

pub read_held : (s : SlotName) (facts : Facts) (regs : Regs) (reg place : ℕ) (answer : Answer) (next : Regs) (seen : Seen) (value : ℕ) →
    regs reg ≡ Own s
    → answer ≡ Value seen value → ReadRow (regs reg) facts regs place answer next → ReadHeld s seen regs next
read_held s facts regs reg place answer next seen value own is row =
    read_from s facts regs place answer next seen value is (subst (λ x. ReadRow x facts regs place answer next) own row)

-- an allocation into an empty register, for which there was room
pub record Makes (regs : Regs) (reg : ℕ) (answer : Answer) (next : Regs) : Type 0 where
  pub seen : Seen
  pub usable : ℕ
  pub made : answer ≡ Made seen usable
  pub becomes : Becomes next (with regs reg (Own seen.slot))

asks : (facts : Facts) (regs : Regs) (reg size : ℕ) (answer : Answer) (next : Regs) → size ≤ greatest_size → (HasNoRoom answer → ⊥)
    → AllocRow Empty facts regs reg size answer next → Makes regs reg answer next
asks facts regs reg size answer next small room (inl (large, says, same)) = absurd (omega (arith, small, large))
asks facts regs reg size answer next small room (inr (inl (fits, seen, made, becomes))) =
    record { seen = seen; usable = facts.usable_of size; made = made; becomes = becomes }
asks facts regs reg size answer next small room (inr (inr (fits, entry, full, same))) = absurd (room (entry, full))

pub makes : (facts : Facts) (regs : Regs) (reg size : ℕ) (answer : Answer) (next : Regs) → regs reg ≡ Empty →
    size ≤ greatest_size → (HasNoRoom answer → ⊥)
    → AllocRow (regs reg) facts regs reg size answer next → Makes regs reg answer next
makes facts regs reg size answer next empty small room row =
    asks facts regs reg size answer next small room (subst (λ x. AllocRow x facts regs reg size answer next) empty row)
