-- Each title's history is that of its slot's steps by the records.
use Rattle.std.proofs.Common.{◌≡◌, ℕ, ◌<◌, ◌≤◌, List, [], ◌∷◌, length, Option, Some, None, refl, sym, ◌∙◌, ap, subst, arith, inl, inr, ltb}
use Rattle.std.specs.Prelude.{Contains}
use Rattle.std.specs.List.{sum_by}
use Rattle.std.proofs.lemmas.Bool.{cases_lt}
use Rattle.pa_slot.specs.declared.title.Title.{Title}
use Rattle.pa_slot.specs.declared.word.SlotName.{SlotName}
use Rattle.pa_slot.specs.declared.word.Step.{Step}
use Rattle.pa_slot.specs.Count.{number_of}
use Rattle.pa_slot.specs.Run.{Mark}
use Rattle.pa_lists.proofs.Joined.{map_cases, map_in}
use Rattle.pa_region.specs.declared.view.Entry.TheVariants.{Counted, Looked}
use Rattle.pa_region.specs.declared.view.View.{View}
use Rattle.pa_region.specs.Views.{logged_of, counted_at, counted_as, looked_at}
use Rattle.pa_region.specs.History.{Done, reached, IsWordIn, IsChained}
use Rattle.pa_region.specs.Contents.{word_at_number}
use Rattle.pa_region.proofs.AtNumber.{up_to_all, word_within}
use Rattle.pa_region.proofs.Adding.{one_small}
use Rattle.pa_region.proofs.Standing.{logged_two, at_number, step_stands}
use Rattle.pa_rules.specs.declared.played.Played.{Played}
use Rattle.pa_rules.specs.Played.{mark_of}
use Rattle.pa_logs.specs.Told.{ToldRecord, played_in, told_of, AreLogs}
use Rattle.pa_logs.specs.Touches.{title_of, StepMade, step_by, AreTold}
use Rattle.pa_logs.specs.Steps.{StandsIn, AreSteps, HistoriesFollow}
use Rattle.pa_logs.proofs.Logs.{logs_are_told}
use Rattle.pa_logs.proofs.Marks.{tells_its_mark}
use Rattle.pa_logs.proofs.StepMarks.{mark_step}
use Rattle.pa_logs.proofs.Sums.{sum_in, sum_one, told_in, told_some, counted_self, counted_there, looked_self, as_entry, entry_slot, entry_step}

-- the word at a number is one of the history
pub word_in : (k : ℕ) (history : List Done) → IsWordIn (word_at_number k history) history
word_in k [] = refl
word_in k (d ∷ older) = elim (cases_lt (length older) k) [
  | inl y ↦ inl (ap reached (up_to_all k (d ∷ older) (omega arith)))
  | inr n ↦ inr (subst (λ w. IsWordIn w older) (sym (word_within k d older n)) (word_in k older))
]

module _ (sizes : SlotName → ℕ) (v : View) (ts : List ToldRecord) (history : Title → List Done) (logs : AreLogs v ts)
    (told : AreTold sizes ts)
    (chain : (t : Title) → IsChained (logged_of v) t (history t)) where
  -- the entry of a step that a record made
  step_entry : (y : ToldRecord) (d : StepMade) (s : SlotName) → Contains ts y → step_by y.played ≡ Some d → d.slot ≡ s →
      Contains y.stretch (Counted (title_of sizes s) d.step d.found d.value)
  step_entry y d s among is slot =
      subst (λ u. Contains y.stretch (Counted (title_of sizes u) d.step d.found d.value)) slot
      ((tells_its_mark sizes y (told y among)).has_step d is)

  stands : (y : ToldRecord) (d : StepMade) (s : SlotName) → Contains ts y → step_by y.played ≡ Some d → d.slot ≡ s →
      StandsIn (history (title_of sizes s)) d
  stands y d s among is slot =
      let t = title_of sizes s in
      let there = told_in ts y (Counted t d.step d.found d.value) (counted_as t d.step d.found d.value) among
      (step_entry y d s among is slot) in
      let mine = counted_self t d.step d.found d.value in
      let same = logs_are_told v ts (counted_as t d.step d.found d.value) logs in
      let at = step_stands (logged_of v) t (history t) d.step d.found d.value (logged_two v) (chain t) (omega arith) in
      record { below = at.0; word = at.1; next = at.2 }

  looked : (y : ToldRecord) (m : Mark) (s : SlotName) (o : Option Step) → Contains ts y → mark_of y.played ≡ Some m → m.slot ≡ s →
      m.step ≡ o → IsWordIn m.found (history (title_of sizes s))
  looked y m s None among is slot none =
      let t = title_of sizes s in
      let look = ((tells_its_mark sizes y (told y among)).has_look m is none).0 in
      let there = told_in ts y (Looked t m.found) (looked_at t m.found) among
      (subst (λ u. Contains y.stretch (Looked (title_of sizes u) m.found)) slot look) in
      let mine = looked_self t m.found in
      let same = logs_are_told v ts (looked_at t m.found) logs in
      (chain t).looks m.found (omega arith)
  looked y m s (Some p) among is slot step =
      let (d, made, e) = mark_step y.played.line y.played.op y.played.answer m p is step in
      let at = stands y d s among made (sym (ap (λ (x : Mark). x.slot) e) ∙ slot) in
      let word : word_at_number (number_of d.found) (history (title_of sizes s)) ≡ m.found = at.word ∙ sym (ap (λ (x : Mark). x.found) e) in
      subst (λ w. IsWordIn w (history (title_of sizes s))) word (word_in (number_of d.found) (history (title_of sizes s)))

  made_at : (s : SlotName) (k : ℕ) → k < length (history (title_of sizes s)) →
      (x : Played) × (d : StepMade) × Contains (played_in ts) x × (step_by x ≡ Some d) × (d.slot ≡ s) ×
      (d.found ≡ word_at_number k (history (title_of sizes s)))
  made_at s k below =
      let t = title_of sizes s in
      let there = at_number (logged_of v) t (history t) k (chain t).steps below in
      let word = word_at_number k (history t) in
      let same = logs_are_told v ts (counted_as t there.0.step word there.0.value) logs in
      let one_there = there.1.logged in
      let (y, e, among, within, some_e) = told_some ts (counted_as t there.0.step word there.0.value) (omega arith) in
      let is : Contains y.stretch (Counted t there.0.step word there.0.value) =
      subst (λ u. Contains y.stretch u) (as_entry t there.0.step word there.0.value e some_e) within in
      let (d, made, equal) = (tells_its_mark sizes y (told y among)).step_is t there.0.step word there.0.value is in
      let of = entry_slot sizes s d.slot there.0.step d.step word d.found there.0.value d.value equal in
      let found = (entry_step t (title_of sizes d.slot) there.0.step d.step word d.found there.0.value d.value equal).1 in
      (y.played, d, map_in (λ (x : ToldRecord). x.played) ts y among, made, of, found)

  one_at : (s : SlotName) (x y : ToldRecord) (d e : StepMade) → Contains ts x → Contains ts y → step_by x.played ≡ Some d →
      step_by y.played ≡ Some e → d.slot ≡ s → e.slot ≡ s →
      number_of d.found ≡ number_of e.found → x ≡ y
  one_at s x y d e first second is other slot slot' same =
      let t = title_of sizes s in
      let k = number_of d.found in
      let all = logs_are_told v ts (counted_at t k) logs in
      let n = (chain t).numbers k in
      let few : told_of ts (counted_at t k) ≤ 1 = let small = one_small (ltb k (length (history t))) in omega (arith, n, all) in
      let a = sum_in (counted_at t k) x.stretch (Counted t d.step d.found d.value) (step_entry x d s first is slot) in
      let b = sum_in (counted_at t k) y.stretch (Counted t e.step e.found e.value) (step_entry y e s second other slot') in
      let p = counted_there t d.step d.found d.value in
      let q : 0 < counted_at t k (Counted t e.step e.found e.value) = rw same (counted_there t e.step e.found e.value) in
      sum_one (λ (z : ToldRecord). sum_by (counted_at t k) z.stretch) ts x y few first second (omega arith) (omega arith)

  -- the history of each slot
  are_steps : (s : SlotName) → AreSteps (played_in ts) s (history (title_of sizes s))
  are_steps s = record {
    legal = (chain (title_of sizes s)).legal;
    stand = λ x d among is slot.
        let (y, there, e) = map_cases (λ (z : ToldRecord). z.played) ts x among in
        stands y d s there (ap step_by e ∙ is) slot;
    made = made_at s;
    one = λ x y d e first second is other slot slot' same.
        let (a, there, p) = map_cases (λ (z : ToldRecord). z.played) ts x first in
        let (b, there', q) = map_cases (λ (z : ToldRecord). z.played) ts y second in
        sym p ∙ (ap (λ (z : ToldRecord). z.played)
        (one_at s a b d e there there' (ap step_by p ∙ is) (ap step_by q ∙ other) slot slot' same) ∙ q);
    looks = λ x m among is slot.
        let (y, there, e) = map_cases (λ (z : ToldRecord). z.played) ts x among in
        looked y m s m.step there (ap mark_of e ∙ is) slot refl;
  }

pub histories_follow : HistoriesFollow
histories_follow sizes v ts history logs told chain s = are_steps sizes v ts history logs told chain s
