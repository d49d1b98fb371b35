-- A step and one register's change together keep words and handles in balance.
use Rattle.std.proofs.Common.{◌≡◌, ℕ, ◌+◌, ◌<◌, inl, inr, refl, sym, ap, ◌∙◌, subst, arith}
use Rattle.std.proofs.lemmas.Bool.{cases_eq}
use Rattle.pa_slot.specs.declared.word.SlotName.{SlotName}
use Rattle.pa_slot.specs.declared.word.Step.{Step}
use Rattle.pa_slot.specs.declared.word.Step.TheVariants as steps
use Rattle.pa_slot.specs.Count.{held_of, refs_of, CanStep, stepped}
use Rattle.pa_slot.proofs.Runs.{same_slot_cases, same_slot_yes, same_slot_no}
use Rattle.pa_rules.specs.declared.register.Register.TheVariants.{Empty, Own, Ref, Freed, Cleared}
use Rattle.pa_rules.specs.Registers.{Reg, AllRegs, reg_of}
use Rattle.pa_slot_effects.specs.Shown.{Shown, owns, points, amount, IsUsed, AreHandles, with_slot, with_reg}
use Rattle.pa_slot_effects.specs.Turns.{HoldsNone}
use Rattle.pa_slot_effects.proofs.Contents.{StepsTo}
use Rattle.pa_slot_effects.proofs.Rows.{used_on}
use Rattle.pa_slot_effects.proofs.Handles.{amount_reg, reg_there, at_reg, at_other}
use Rattle.pa_slot_effects.proofs.Words.{owns_one, points_one, owns_other, points_other}

pub at_slot : (f : SlotName → ℕ) (s : SlotName) (n : ℕ) → with_slot f s n s ≡ n
at_slot f s n = rw (same_slot_yes s s refl) refl

pub at_other_slot : (f : SlotName → ℕ) (s : SlotName) (n : ℕ) (t : SlotName) → (t ≡ s → ⊥) → with_slot f s n t ≡ f t
at_other_slot f s n t ne = rw (same_slot_no t s ne) refl

pub steps_slot : (word : SlotName → ℕ) (s : SlotName) (p : Step) (w : ℕ) → w ≡ word s → CanStep p w →
    StepsTo s p w word (with_slot word s (stepped p w))
steps_slot word s p w found can = record {
  found = found;
  can = can;
  next = at_slot word s (stepped p w);
  others = λ t ne. at_other_slot word s (stepped p w) t ne;
}

-- what the register had of the slot and what it has are as far apart as the word's parts
pub record Balances (s : SlotName) (p : Step) (w : ℕ) (old new : Reg) : Type 0 where
  pub owners : held_of (stepped p w) + owns s old ≡ held_of w + owns s new
  pub pointers : refs_of (stepped p w) + points s old ≡ refs_of w + points s new
  pub other_owners : (t : SlotName) → (t ≡ s → ⊥) → owns t new ≡ owns t old
  pub other_pointers : (t : SlotName) → (t ≡ s → ⊥) → points t new ≡ points t old

pub used_reg : (word : SlotName → ℕ) (regs : AllRegs) (thread reg : ℕ) (x : Reg) → ((t r : ℕ) → IsUsed word (regs t r)) → IsUsed word x
    → (t r : ℕ) → IsUsed word (with_reg regs thread reg x t r)
used_reg word regs thread reg x named new t r = elim (cases_eq t thread) [
  | inl e ↦ elim (cases_eq r reg) [
    | inl f ↦
        let P : Reg → Type 0 = λ y. IsUsed word y in
        let at : with_reg regs thread reg x t r ≡ x = ap (λ k. with_reg regs thread reg x k r) e ∙
        ap (λ k. with_reg regs thread reg x thread k) f ∙ at_reg regs thread reg x in
        subst P (sym at) new
    | inr ne ↦
        let P : Reg → Type 0 = λ y. IsUsed word y in
        let at : with_reg regs thread reg x t r ≡ regs thread r = ap (λ k. with_reg regs thread reg x k r) e ∙
        at_other regs thread reg x r ne in
        subst P (sym at) (named thread r)
  ]
  | inr ne ↦
      let P : (ℕ → Reg) → Type 0 = λ row. IsUsed word (row r) in
      subst P (sym (reg_there regs thread reg x t ne)) (named t r)
]

pub handles_step : (threads : ℕ) (a : Shown) (after content : SlotName → ℕ) (thread reg : ℕ) (s : SlotName) (p : Step) (w : ℕ)
    (old new : Reg) → AreHandles threads a
    → thread < threads → reg < 64 → a.regs thread reg ≡ old → StepsTo s p w a.word after → Balances s p w old new → IsUsed after new
    → ((t : SlotName) → 0 < a.word t → 0 < after t)
    → AreHandles threads (record a { regs = with_reg a.regs thread reg new; word = after; content = content })
handles_step threads a after content thread reg s p w old new h ht hr was st b used up =
    let regs = with_reg a.regs thread reg new in
    let O : SlotName → Type 0 = λ t. held_of (after t) ≡ amount threads (owns t) regs a.held in
    let Q : SlotName → Type 0 = λ t. refs_of (after t) ≡ amount threads (points t) regs a.held in
    let moved_owns : (t : SlotName) →
    amount threads (owns t) regs a.held + owns t old ≡ amount threads (owns t) a.regs a.held + owns t new = λ t.
    ap (λ x. amount threads (owns t) regs a.held + owns t x) (sym was) ∙ amount_reg threads (owns t) a.regs a.held thread reg new ht hr in
    let moved_points : (t : SlotName) →
    amount threads (points t) regs a.held + points t old ≡ amount threads (points t) a.regs a.held + points t new = λ t.
    ap (λ x. amount threads (points t) regs a.held + points t x) (sym was) ∙
    amount_reg threads (points t) a.regs a.held thread reg new ht hr in
    let here_owns : O s = omega (arith, moved_owns s, b.owners, h.owners s, ap held_of st.next, ap held_of st.found) in
    let here_points : Q s = omega (arith, moved_points s, b.pointers, h.pointers s, ap refs_of st.next, ap refs_of st.found) in
    record {
      owners = λ t. elim (same_slot_cases t s) [
        | inl e ↦ subst O (sym e) here_owns
        | inr ne ↦ omega (arith, moved_owns t, b.other_owners t ne, h.owners t, ap held_of (st.others t ne))
      ];
      pointers = λ t. elim (same_slot_cases t s) [
        | inl e ↦ subst Q (sym e) here_points
        | inr ne ↦ omega (arith, moved_points t, b.other_pointers t ne, h.pointers t, ap refs_of (st.others t ne))
      ];
      named = used_reg after a.regs thread reg new (λ t r. used_on a.word after up (a.regs t r) (h.named t r)) used;
      celled = λ k. used_on a.word after up (reg_of (a.held k)) (h.celled k);
    }

-- a register without a handle has nothing of a slot
pub none_owns : (s : SlotName) (r : Reg) → HoldsNone r → owns s r ≡ 0
none_owns s Empty h = refl
none_owns s (Own t) h = absurd h
none_owns s (Ref t) h = absurd h
none_owns s Freed h = refl
none_owns s Cleared h = refl

pub none_points : (s : SlotName) (r : Reg) → HoldsNone r → points s r ≡ 0
none_points s Empty h = refl
none_points s (Own t) h = absurd h
none_points s (Ref t) h = absurd h
none_points s Freed h = refl
none_points s Cleared h = refl

apart : (s t : SlotName) → (t ≡ s → ⊥) → s ≡ t → ⊥
apart s t ne e = ne (sym e)

pub issue_balances : (s : SlotName) (w : ℕ) (old : Reg) → HoldsNone old → held_of w ≡ 0 → refs_of w ≡ 0 →
    Balances s steps.Issue w old (Own s)
issue_balances s w old none held refs = record {
  owners = omega (arith, none_owns s old none, owns_one s, held);
  pointers = omega (arith, none_points s old none, held);
  other_owners = λ t ne. owns_other s t (apart s t ne) ∙ sym (none_owns t old none);
  other_pointers = λ t ne. sym (none_points t old none);
}

pub copy_balances : (s : SlotName) (w : ℕ) (old : Reg) → HoldsNone old → refs_of w < 8388607 → Balances s steps.Copy w old (Ref s)
copy_balances s w old none room = record {
  owners = omega (arith, none_owns s old none);
  pointers = omega (arith, none_points s old none, points_one s, room);
  other_owners = λ t ne. sym (none_owns t old none);
  other_pointers = λ t ne. points_other s t (apart s t ne) ∙ sym (none_points t old none);
}

pub reset_balances : (s : SlotName) (w : ℕ) → CanStep steps.Reset w → Balances s steps.Reset w (Ref s) Cleared
reset_balances s w c = record {
  owners = omega (arith, c.0);
  pointers = omega (arith, points_one s, c.0);
  other_owners = λ t ne. refl;
  other_pointers = λ t ne. sym (points_other s t (apart s t ne));
}

pub free_balances : (s : SlotName) (w : ℕ) → CanStep steps.Free w → Balances s steps.Free w (Own s) Freed
free_balances s w c = record {
  owners = omega (arith, owns_one s, c.0);
  pointers = omega (arith, c.0);
  other_owners = λ t ne. sym (owns_other s t (apart s t ne));
  other_pointers = λ t ne. refl;
}

pub write_balances : (s : SlotName) (w : ℕ) (r : Reg) → Balances s steps.Write w r r
write_balances s w r = record {
  owners = omega arith;
  pointers = omega arith;
  other_owners = λ t ne. refl;
  other_pointers = λ t ne. refl;
}
