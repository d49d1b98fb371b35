-- How the mark of a step on a slot counts in the tallies.
use Rattle.std.proofs.Common.{◌≡◌, ℕ, ◌<◌, Bool, List, Option, Some, refl, ap, ◌∙◌, arith, inl, inr}
use Rattle.std.specs.Prelude.{if◌then◌else◌, ◌==◌}
use Rattle.std.proofs.lemmas.Bool.{cases_eq, eq-eqb, ne_eqb}
use Rattle.pa_slot.specs.declared.word.SlotName.{SlotName}
use Rattle.pa_slot.specs.declared.word.Step.{Step}
use Rattle.pa_slot.specs.declared.word.Step.TheVariants as steps
use Rattle.pa_slot.specs.Count.{held_of, refs_of}
use Rattle.pa_slot.specs.Run.{Mark, IsReturning}
use Rattle.pa_record.specs.declared.entry.Seen.{Seen}
use Rattle.pa_record.specs.declared.report.Tally.{Tally}
use Rattle.pa_rules.specs.Played.{mark_at}
use Rattle.pa_slot.specs.Kinds.{enters, leaves}
use Rattle.pa_legal.specs.Tallies.{one_of, bytes_of}
use Rattle.pa_player.specs.declared.table.Slot.{Slot}
use Rattle.pa_player.specs.Playing.{home_in, len_in}
use Rattle.pa_player.proofs.Shows.{IsTallyMore, gain}
use Rattle.pa_player.proofs.Counting.{IsMoreBy}
use Rattle.pa_player.proofs.Quiet.{AddsNone}

-- ---- a tally that one slot goes into, or leaves

pub tally_in : (into out : Step → ℕ → Bool) (table : List Slot) (k q len : ℕ) (s : SlotName) (o : Option Mark) (before after : Tally) →
    home_in table s ≡ q → len_in table s ≡ len
    → ((w : SlotName → ℕ) → gain into w o ≡ w s) → ((w : SlotName → ℕ) → gain out w o ≡ 0) → IsMoreBy q 1 len k before after →
    IsTallyMore into out table k o before after
tally_in into out table k q len s o before after home long enters none more =
    let one : one_of (home_in table) k s ≡ (if q == k then 1 else 0) = ap (λ z. if z == k then 1 else 0) home in
    let many : bytes_of (home_in table) (len_in table) k s ≡ (if q == k then len else 0) =
    ap (λ z. if z == k then len_in table s else 0) home ∙ ap (λ z. if q == k then z else 0) long in
    record {
      slots = omega (arith, enters (one_of (home_in table) k), none (one_of (home_in table) k), one, more.slots);
      bytes = omega (
        arith,
        enters (bytes_of (home_in table) (len_in table) k),
        none (bytes_of (home_in table) (len_in table) k),
        many,
        more.bytes,
      );
    }

pub tally_out : (into out : Step → ℕ → Bool) (table : List Slot) (k q len : ℕ) (s : SlotName) (o : Option Mark) (before after : Tally) →
    home_in table s ≡ q → len_in table s ≡ len
    → ((w : SlotName → ℕ) → gain into w o ≡ 0) → ((w : SlotName → ℕ) → gain out w o ≡ w s) → IsMoreBy q 1 len k after before →
    IsTallyMore into out table k o before after
tally_out into out table k q len s o before after home long none leaves less =
    let one : one_of (home_in table) k s ≡ (if q == k then 1 else 0) = ap (λ z. if z == k then 1 else 0) home in
    let many : bytes_of (home_in table) (len_in table) k s ≡ (if q == k then len else 0) =
    ap (λ z. if z == k then len_in table s else 0) home ∙ ap (λ z. if q == k then z else 0) long in
    record {
      slots = omega (arith, none (one_of (home_in table) k), leaves (one_of (home_in table) k), one, less.slots);
      bytes = omega (
        arith,
        none (bytes_of (home_in table) (len_in table) k),
        leaves (bytes_of (home_in table) (len_in table) k),
        many,
        less.bytes,
      );
    }

-- ---- what each step counts

pub copy_adds : (line : ℕ) (seen : Seen) → AddsNone (Some (mark_at line seen (Some steps.Copy)))
copy_adds line seen = record { issued = λ w. refl; freed = λ w. refl; entered = λ w. refl; left = λ w. refl }

pub write_adds : (line : ℕ) (seen : Seen) → AddsNone (Some (mark_at line seen (Some steps.Write)))
write_adds line seen = record { issued = λ w. refl; freed = λ w. refl; entered = λ w. refl; left = λ w. refl }

-- a reset that doesn't return
pub reset_adds : (line : ℕ) (seen : Seen) → (IsReturning steps.Reset seen.found.0 → ⊥) →
    AddsNone (Some (mark_at line seen (Some steps.Reset)))
reset_adds line seen stays = record {
  issued = λ w. refl;
  freed = λ w. refl;
  entered = λ w. refl;
  left = λ w. elim (cases_eq (held_of seen.found.0) 0) [
    | inr held ↦ rw (ne_eqb (held_of seen.found.0) 0 held) refl
    | inl free ↦ elim (cases_eq (refs_of seen.found.0) 1) [
      | inl last ↦ absurd (stays (free, last))
      | inr more ↦ rw (eq-eqb (held_of seen.found.0) 0 free, ne_eqb (refs_of seen.found.0) 1 more) refl
    ]
  ];
}

-- a reset that does ends a quarantine
pub reset_leaves : (line : ℕ) (seen : Seen) → IsReturning steps.Reset seen.found.0 → (w : SlotName → ℕ) →
    gain leaves w (Some (mark_at line seen (Some steps.Reset))) ≡ w seen.slot
reset_leaves line seen last w = rw (eq-eqb (held_of seen.found.0) 0 last.0, eq-eqb (refs_of seen.found.0) 1 last.1) refl

-- a free enters the quarantine where it finds raw_ptrs
pub free_enters : (line : ℕ) (seen : Seen) → 0 < refs_of seen.found.0 → (w : SlotName → ℕ) →
    gain enters w (Some (mark_at line seen (Some steps.Free))) ≡ w seen.slot
free_enters line seen some w = rw (ne_eqb (refs_of seen.found.0) 0 (λ e. omega (arith, e, some))) refl

pub free_enters_not : (line : ℕ) (seen : Seen) → refs_of seen.found.0 ≡ 0 → (w : SlotName → ℕ) →
    gain enters w (Some (mark_at line seen (Some steps.Free))) ≡ 0
free_enters_not line seen none w = rw (eq-eqb (refs_of seen.found.0) 0 none) refl
