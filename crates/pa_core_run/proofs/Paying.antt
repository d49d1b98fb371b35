-- What a change of one register, and of a thread's lists, pays for in the ledger.
use Rattle.std.proofs.Common.{◌≡◌, ℕ, zero, suc, ◌+◌, ◌<◌, ◌≤◌, Bool, List, [], ◌∷◌, refl, sym, ◌∙◌, ap, subst, arith, inl, inr}
use Rattle.std.proofs.lemmas.Bool.{cases_eq, eq-eqb, ne_eqb}
use Rattle.pa_slot.specs.declared.word.SlotName.{SlotName}
use Rattle.pa_slot.specs.declared.title.Title.{Title}
use Rattle.pa_slot.specs.declared.title.OwnState.TheVariants.{Clean}
use Rattle.pa_slot.specs.Holdings.{Piece, RefPiece, FreeTitle, OwnOf, RefOf, held_in}
use Rattle.pa_machine.specs.Events.{of_actor}
use Rattle.pa_slot.proofs.Runs.{same_slot_yes, same_slot_no}
use Rattle.pa_slot.proofs.Same.{title_tells}
use Rattle.pa_machine.proofs.Parts.{own_none, ref_none}
use Rattle.pa_machine.proofs.Amounts.{own_self, ref_self}
use Rattle.pa_machine.proofs.Totals.{of_actor_here, of_actor_apart}
use Rattle.pa_record.specs.Spans.{name_of}
use Rattle.pa_rules.specs.declared.register.Register.TheVariants.{Own, Ref}
use Rattle.pa_rules.specs.Registers.{Reg, Regs, with, reg_of}
use Rattle.pa_slot_effects.specs.Shown.{owns, points}
use Rattle.pa_core_run.specs.Ledger.{IsPaid}
use Rattle.pa_core_run.specs.Standing.{Standing, in_registers, in_lists, ledger_of}
use Rattle.pa_core_run.specs.Moves.{HaveNames}
use Rattle.pa_core_run.proofs.Showing.{own_piece}
use Rattle.pa_slot_effects.proofs.Handles.{over_same, over_one}

-- ---- sums

-- ---- pieces by name

pub owns_piece : (sealed : Bool) (Made : Title → Type 0) (t u : Title) → HaveNames Made → Made t → Made u →
    held_in (own_piece sealed t ∷ []) (OwnOf u) ≡ owns (name_of u) (Own (name_of t))
owns_piece sealed Made t u one m n = elim (title_tells t u) [
  | inl y ↦ subst (λ (v : Title). held_in (own_piece sealed t ∷ []) (OwnOf v) ≡ owns (name_of v) (Own (name_of t))) y.1
      (own_self sealed t Clean ∙ sym (rw (same_slot_yes (name_of t) (name_of t) refl) refl))
  | inr x ↦ (own_none sealed t u Clean x.1).own ∙ sym (rw (same_slot_no (name_of t) (name_of u) (λ e. x.1 (one t u m n e))) refl)
]

pub points_piece : (Made : Title → Type 0) (t u : Title) → HaveNames Made → Made t → Made u →
    held_in (RefPiece t ∷ []) (RefOf u) ≡ points (name_of u) (Ref (name_of t))
points_piece Made t u one m n = elim (title_tells t u) [
  | inl y ↦ subst (λ (v : Title). held_in (RefPiece t ∷ []) (RefOf v) ≡ points (name_of v) (Ref (name_of t))) y.1
      (ref_self t ∙ sym (rw (same_slot_yes (name_of t) (name_of t) refl) refl))
  | inr x ↦ (ref_none t u x.1).ref ∙ sym (rw (same_slot_no (name_of t) (name_of u) (λ e. x.1 (one t u m n e))) refl)
]

-- ---- one register changes, and the thread's lists

-- The state after thread k's register `reg` became `new`. Of the lists only the thread's may change, and of the slots only one.
pub record IsSet (partitions : ℕ) (st next : Standing) (k reg : ℕ) (new : Reg) (x : SlotName) (word : ℕ) : Type 0 where
  pub few : reg < 64
  pub here : (r : ℕ) → next.regs k r ≡ with (st.regs k) reg new r
  pub other : (j : ℕ) → (j ≡ k → ⊥) → (r : ℕ) → next.regs j r ≡ st.regs j r
  pub held : (c : ℕ) → next.held c ≡ st.held c
  pub lists : (j : ℕ) (y : SlotName) → (j ≡ k → ⊥) → in_lists partitions next y (suc j) ≡ in_lists partitions st y (suc j)
  pub word_left : next.word x ≡ word
  pub words : (y : SlotName) → (y ≡ x → ⊥) → next.word y ≡ st.word y
  pub contents : (y : SlotName) → (y ≡ x → ⊥) → next.content y ≡ st.content y

pub set_at : (regs : Regs) (reg : ℕ) (new : Reg) → with regs reg new reg ≡ new
set_at regs reg new = rw (eq-eqb reg reg refl) refl

pub set_apart : (regs : Regs) (reg : ℕ) (new : Reg) (r : ℕ) → (r ≡ reg → ⊥) → with regs reg new r ≡ regs r
set_apart regs reg new r ne = rw (ne_eqb r reg ne) refl

-- what the registers have then
registers_set : (partitions : ℕ) (st next : Standing) (k reg : ℕ) (new : Reg) (x : SlotName) (word : ℕ) (f : Reg → ℕ) →
    IsSet partitions st next k reg new x word →
    in_registers f next (suc k) + f (st.regs k reg) ≡ in_registers f st (suc k) + f new
registers_set partitions st next k reg new x word f s =
    let one = over_one 64 reg (λ r. f (st.regs k r)) (λ r. f (next.regs k r)) s.few
    (λ r ne. ap f (s.here r ∙ set_apart (st.regs k) reg new r ne)) in
    let e = ap f (s.here reg ∙ set_at (st.regs k) reg new) in
    omega arith

registers_apart : (partitions : ℕ) (st next : Standing) (k reg : ℕ) (new : Reg) (x : SlotName) (word : ℕ) (f : Reg → ℕ) →
    IsSet partitions st next k reg new x word →
    (j : ℕ) → (j ≡ suc k → ⊥) → in_registers f next j ≡ in_registers f st j
registers_apart partitions st next k reg new x word f s zero ne =
    over_same 64 (λ c. f (reg_of (st.held c))) (λ c. f (reg_of (next.held c))) (λ c. ap (λ h. f (reg_of h)) (s.held c))
registers_apart partitions st next k reg new x word f s (suc j) ne =
    over_same 64 (λ r. f (st.regs j r)) (λ r. f (next.regs j r)) (λ r. ap f (s.other j (λ e. ne (ap suc e)) r))

pub set_paid : (Made : Title → Type 0) (partitions : ℕ) (st next : Standing) (k reg : ℕ) (new : Reg) (t : Title) (word : ℕ)
    (lost gained : List Piece) →
    IsSet partitions st next k reg new (name_of t) word →
    ((u : Title) → Made u → owns (name_of u) new + held_in lost (OwnOf u) ≤ owns (name_of u) (st.regs k reg) + held_in gained (OwnOf u)) →
    ((u : Title) → Made u → points (name_of u) new + held_in lost (RefOf u) ≤ points (name_of u) (st.regs k reg) + held_in gained
    (RefOf u)) →
    ((u : Title) → Made u → in_lists partitions next (name_of u) (suc k) + held_in lost (FreeTitle u) ≤ in_lists partitions st (name_of u)
    (suc k) + held_in gained (FreeTitle u)) →
    IsPaid Made (ledger_of partitions st) (ledger_of partitions next) (of_actor (suc k) lost) (of_actor (suc k) gained) t word
set_paid Made partitions st next k reg new t word lost gained s own point free = record {
  own = λ j u m. elim (cases_eq j (suc k)) [
    | inl e ↦
        let a = registers_set partitions st next k reg new (name_of t) word (owns (name_of u)) s in
        let p = own u m in
        let l = of_actor_here (suc k) lost (OwnOf u) in
        let g = of_actor_here (suc k) gained (OwnOf u) in
        subst (λ i. in_registers (owns (name_of u)) next i + held_in (of_actor (suc k) lost i) (OwnOf u) ≤ in_registers (owns (name_of u))
        st i + held_in (of_actor (suc k) gained i) (OwnOf u)) (sym e) (omega arith)
    | inr ne ↦
        let a = registers_apart partitions st next k reg new (name_of t) word (owns (name_of u)) s j ne in
        let l = of_actor_apart (suc k) j lost (OwnOf u) ne in
        omega arith
  ];
  ref = λ j u m. elim (cases_eq j (suc k)) [
    | inl e ↦
        let a = registers_set partitions st next k reg new (name_of t) word (points (name_of u)) s in
        let p = point u m in
        let l = of_actor_here (suc k) lost (RefOf u) in
        let g = of_actor_here (suc k) gained (RefOf u) in
        subst (λ i. in_registers (points (name_of u)) next i + held_in (of_actor (suc k) lost i) (RefOf u) ≤ in_registers
        (points (name_of u)) st i + held_in (of_actor (suc k) gained i) (RefOf u)) (sym e) (omega arith)
    | inr ne ↦
        let a = registers_apart partitions st next k reg new (name_of t) word (points (name_of u)) s j ne in
        let l = of_actor_apart (suc k) j lost (RefOf u) ne in
        omega arith
  ];
  free = λ j u some m. elim (cases_eq j (suc k)) [
    | inl e ↦
        let p = free u m in
        let l = of_actor_here (suc k) lost (FreeTitle u) in
        let g = of_actor_here (suc k) gained (FreeTitle u) in
        subst (λ i. in_lists partitions next (name_of u) i + held_in (of_actor (suc k) lost i) (FreeTitle u) ≤ in_lists partitions st
        (name_of u) i + held_in (of_actor (suc k) gained i) (FreeTitle u)) (sym e) (omega arith)
    | inr ne ↦
        let a = lists_apart j u ne in
        let l = of_actor_apart (suc k) j lost (FreeTitle u) ne in
        omega arith
  ];
  word_left = s.word_left;
  words = s.words;
  contents = s.contents;
}
  where
    lists_apart : (j : ℕ) (u : Title) → (j ≡ suc k → ⊥) → in_lists partitions next (name_of u) j ≡ in_lists partitions st (name_of u) j
    lists_apart zero u ne = refl
    lists_apart (suc j) u ne = s.lists j (name_of u) (λ e. ne (ap suc e))
