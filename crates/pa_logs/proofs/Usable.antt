-- The usable bytes of a slot that was stepped on.
use Rattle.std.proofs.Common.{◌≡◌, ℕ, ◌+◌, ◌⊎◌, List, [], ◌∷◌, refl, ◌∙◌, ap, subst, arith, inl, inr}
use Rattle.std.specs.Prelude.{Contains}
use Rattle.std.proofs.lemmas.Bool.{cases_Bool}
use Rattle.pa_slot.specs.declared.word.SlotName.{SlotName}
use Rattle.pa_slot.specs.Run.{same_slot}
use Rattle.pa_slot.proofs.Runs.{same_slot_eq, same_slot_yes}
use Rattle.pa_trace.specs.declared.script.Op.{Op}
use Rattle.pa_record.specs.declared.entry.Seen.{Seen}
use Rattle.pa_record.specs.declared.entry.Answer.{Answer}
use Rattle.pa_record.specs.declared.entry.Answer.TheVariants as answers
use Rattle.pa_lists.proofs.Members.{not_in_none, first_in, later_in, in_cases}
use Rattle.pa_region.specs.declared.view.Entry.{Entry}
use Rattle.pa_rules.specs.declared.played.Played.{Played}
use Rattle.pa_rules.specs.Registers.{made_of, usable_or, usable_in}
use Rattle.pa_logs.specs.Told.{ToldRecord, played_in}
use Rattle.pa_logs.specs.Touches.{IsToldBy, AreTold}
use Rattle.pa_logs.specs.Rows.{UsableFollows}
use Rattle.pa_logs.proofs.OneSlot.{issue_at}

-- what a record says of the usable bytes: those of the slot that it made are all but 8, and it says of no other
said : (sizes : SlotName → ℕ) (s : SlotName) (op : Op) (a : Answer) (es : List Entry) (other : ℕ) → IsToldBy sizes op a es →
    (usable_or (made_of a) s other + 8 ≡ sizes s) ⊎ (usable_or (made_of a) s other ≡ other)
said sizes s op (answers.Made seen usable) es other told = elim (cases_Bool (same_slot seen.slot s)) [
  | inl y ↦ inl (rw y (told.1 ∙ ap sizes (same_slot_eq seen.slot s y)))
  | inr n ↦ inr (rw n refl)
]
said sizes s op a es other told = inr refl

made_here : (sizes : SlotName → ℕ) (s : SlotName) (op : Op) (a : Answer) (es : List Entry) (other : ℕ) (seen : Seen) (usable : ℕ)
    → IsToldBy sizes op a es → a ≡ answers.Made seen usable → seen.slot ≡ s →
    usable_or (made_of a) s other + 8 ≡ sizes s
made_here sizes s op a es other seen usable told e slot =
    let made = subst (λ b. IsToldBy sizes op b es) e told in
    let same : usable_or (made_of a) s other ≡ usable = ap (λ b. usable_or (made_of b) s other) e ∙
    rw (same_slot_yes seen.slot s slot) refl in
    let size : usable + 8 ≡ sizes s = made.1 ∙ ap sizes slot in
    omega arith

-- by the records, a slot that one of them made has 8 usable bytes fewer than its size
first_made : (sizes : SlotName → ℕ) (s : SlotName) (ts : List ToldRecord) (x : Played) (seen : Seen) (usable : ℕ) → AreTold sizes ts
    → Contains (played_in ts) x → x.answer ≡ answers.Made seen usable → seen.slot ≡ s →
    usable_in (played_in ts) s + 8 ≡ sizes s
first_made sizes s [] x seen usable told among e slot = absurd (not_in_none x among)
first_made sizes s (y ∷ ys) x seen usable told among e slot = elim (in_cases y.played x (played_in ys) among) [
  | inl same ↦ made_here sizes s y.played.op y.played.answer y.stretch (usable_in (played_in ys) s) seen usable (told y (first_in y ys))
      (ap (λ (z : Played). z.answer) same ∙ e) slot
  | inr rest ↦
      let again = first_made sizes s ys x seen usable (λ z member. told z (later_in y z ys member)) rest e slot in
      elim (said sizes s y.played.op y.played.answer y.stretch (usable_in (played_in ys) s) (told y (first_in y ys))) [
        | inl here ↦ here
        | inr other ↦ ap (λ n. n + 8) other ∙ again
      ]
]

pub usable_follows : UsableFollows
usable_follows sizes ts s history told are some_step =
    let (x, seen, usable, among, answer, slot) = issue_at (played_in ts) s history are some_step in
    first_made sizes s ts x seen usable told among answer slot
