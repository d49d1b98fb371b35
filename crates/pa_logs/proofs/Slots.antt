-- Each slot has one run: the words of its history.
use Rattle.std.proofs.Common.{◌≡◌, ℕ, zero, suc, ◌+◌, ◌≤◌, List, [], ◌∷◌, ◌++◌, length, sym, ◌∙◌, ap, subst, arith, inl, inr}
use Rattle.std.specs.Prelude.{Contains}
use Rattle.std.proofs.lemmas.Bool.{cases_lt}
use Rattle.std.proofs.lemmas.List.Elements.{Contains-append_left, Contains-push}
use Rattle.pa_slot.specs.declared.word.SlotName.{SlotName}
use Rattle.pa_slot.specs.declared.word.Step.{Step}
use Rattle.pa_slot.specs.Count.{CanStep, stepped, number_of}
use Rattle.pa_slot.specs.Run.{Mark, IsFirstAt, IsOneRun}
use Rattle.pa_slot.specs.Runs.{IsPath}
use Rattle.pa_slot.proofs.Runs.{path_push, run_of_path}
use Rattle.pa_lists.proofs.Members.{of_some}
use Rattle.pa_region.specs.History.{Done, reached}
use Rattle.pa_region.specs.Contents.{word_at_number}
use Rattle.pa_region.proofs.AtNumber.{up_to_all, up_to_none, word_found}
use Rattle.pa_rules.specs.declared.played.Played.{Played}
use Rattle.pa_rules.specs.Played.{marks_of}
use Rattle.pa_rules.specs.Report.{HasWord}
use Rattle.pa_rules.proofs.Running.{mark_from}
use Rattle.pa_logs.specs.Steps.{AreSteps, SlotsFollow}
use Rattle.pa_logs.specs.Touches.{StepMade}
use Rattle.pa_logs.proofs.StepMarks.{mark_made, mark_step}
use Rattle.pa_logs.proofs.OneSlot.{IsStepAt, number_at, step_at, can_made, first_made}
use Rattle.pa_rules.proofs.Paths.{path_ends}

-- the words of the history up to a number, as a path of the marks
abbrev HasWords : List Played → SlotName → List Done → ℕ → List ℕ → Type 0
HasWords ps s history k vs =
    IsPath (marks_of ps) s 0 vs (word_at_number k history) × ((j : ℕ) → j ≤ k → Contains (0 ∷ vs) (word_at_number j history))

module _ (ps : List Played) (s : SlotName) (history : List Done) (steps : AreSteps ps s history) where
  first_word : word_at_number 0 history ≡ 0
  first_word = ap reached (up_to_none history)

  first_step : (k : ℕ) (x : Played) (d : StepMade) → IsStepAt ps s history k x d →
      IsFirstAt (marks_of ps) s (word_at_number k history) (mark_made x.line d) d.step
  first_step k x d at = subst (λ w. IsFirstAt (marks_of ps) s w (mark_made x.line d) d.step) at.found
      (first_made ps s history steps x d at.among at.is at.slot)

  path : (k : ℕ) → k ≤ length history → (vs : List ℕ) × HasWords ps s history k vs
  path zero within = (
    [],
    (
      sym first_word,
      λ j low. let e : j ≡ 0 = omega arith in
          (0, omega arith, sym (ap (λ i. word_at_number i history) e ∙ first_word)),
    ),
  )
  path (suc k) within =
      let (vs, words) = path k (omega arith) in
      let (x, d, at) = step_at ps s history steps k (omega arith) in
      let w = word_at_number k history in
      let v = stepped d.step w in
      let more : suc k ≡ k + 1 = omega arith in
      let next : word_at_number (suc k) history ≡ v = ap (λ i. word_at_number i history) more ∙ ap reached at.stands in
      let pushed = path_push (marks_of ps) s 0 vs w (mark_made x.line d) d.step words.0 (first_step k x d at) at.can in (
        vs ++ v ∷ [],
        (
          subst (λ u. IsPath (marks_of ps) s 0 (vs ++ v ∷ []) u) (sym next) pushed,
          λ j low. elim (cases_lt j (suc k)) [
            | inl y ↦ Contains-append_left (0 ∷ vs) (v ∷ []) (word_at_number j history) (words.1 j (omega arith))
            | inr n ↦
                let e : j ≡ suc k = omega arith in
                subst (λ u. Contains (0 ∷ (vs ++ v ∷ [])) u) (sym (ap (λ i. word_at_number i history) e ∙ next)) (Contains-push (0 ∷ vs) v)
          ],
        ),
      )

  -- no step was made at the last word
  ends : (m : Mark) (p : Step) → IsFirstAt (marks_of ps) s (word_at_number (length history) history) m p →
      CanStep p (word_at_number (length history) history) → ⊥
  ends m p first can =
      let (y, member, marked) = mark_from ps m first.among in
      let (e, made, same) = mark_step y.line y.op y.answer m p marked first.step in
      let at = steps.stand y e member made (sym (ap (λ (z : Mark). z.slot) same) ∙ first.slot) in
      let below = at.below in
      let last = number_at ps s history steps (length history) (omega arith) in
      let n : number_of e.found ≡ number_of (word_at_number (length history) history) =
      ap number_of (sym (ap (λ (z : Mark). z.found) same) ∙ first.found) in
      absurd (omega arith)

  one_run : (vs : List ℕ) → HasWords ps s history (length history) vs → IsOneRun (marks_of ps) s (0 ∷ vs)
  one_run vs words = record {
    found = λ m among slot.
        let (y, member, marked) = mark_from ps m among in
        let at = word_found m.found history steps.legal (steps.looks y m member marked slot) in
        subst (λ w. Contains (0 ∷ vs) w) at.1 (words.1 (number_of m.found) at.0);
    used = λ m p among slot step.
        let (y, member, marked) = mark_from ps m among in
        let (e, made, same) = mark_step y.line y.op y.answer m p marked step in
        let of : e.slot ≡ s = sym (ap (λ (z : Mark). z.slot) same) ∙ slot in
        let first = first_made ps s history steps y e member made of in
        let can = can_made ps s history steps y e member made of in
        let is : e.step ≡ p = of_some e.step p (sym (ap (λ (z : Mark). z.step) same) ∙ step) in
        let both = subst (λ q. IsFirstAt (marks_of ps) s e.found (mark_made y.line e) q × CanStep q e.found) is (first, can) in
        subst (λ (z : Mark). IsFirstAt (marks_of ps) s z.found z p × CanStep p z.found) (sym same) both;
  }

-- the slot's word after the records is the last one of its history
pub last_is : (ps : List Played) (s : SlotName) (history : List Done) → AreSteps ps s history → HasWord ps s (reached history)
last_is ps s history steps =
    let (vs, words) = path ps s history steps (length history) (omega arith) in
    let last = word_at_number (length history) history in
    let same : reached history ≡ last = sym (ap reached (up_to_all (length history) history (omega arith))) in
    (vs, run_of_path (marks_of ps) s 0 vs last (ends ps s history steps) words.0, same ∙ path_ends (marks_of ps) s 0 vs last words.0)

pub slots_follow : SlotsFollow
slots_follow ps history steps s =
    let (vs, words) = path ps s (history s) (steps s) (length (history s)) (omega arith) in (
      vs,
      run_of_path (marks_of ps) s 0 vs (word_at_number (length (history s)) (history s)) (ends ps s (history s) (steps s)) words.0,
      one_run ps s (history s) (steps s) vs words,
    )
