-- A slot's steps by its history: each number's step, its record and its mark.
use Rattle.std.proofs.Common.{◌≡◌, ℕ, ◌+◌, ◌<◌, ◌≤◌, List, ◌∷◌, length, Option, Some, None, IsSome, refl, sym, ◌∙◌, ap, subst, arith, rules}
use Rattle.std.specs.Prelude.{Contains}
use Rattle.pa_slot.specs.declared.word.SlotName.{SlotName}
use Rattle.pa_slot.specs.declared.word.Step.{Step}
use Rattle.pa_slot.specs.Count.{CanStep, number_of}
use Rattle.pa_slot.specs.Run.{Mark, IsFirstAt}
use Rattle.pa_slot.proofs.Runs.{issue_first}
use Rattle.pa_record.specs.declared.entry.Seen.{Seen}
use Rattle.pa_record.specs.declared.entry.Answer.TheVariants as answers
use Rattle.pa_lists.proofs.Members.{of_some}
use Rattle.pa_region.specs.History.{Done, IsLegal, reached}
use Rattle.pa_region.specs.Contents.{up_to, word_at_number}
use Rattle.pa_region.proofs.LogPart.{reached_number}
use Rattle.pa_region.proofs.AtNumber.{up_to_length, up_to_legal, up_to_none}
use Rattle.pa_rules.specs.declared.played.Played.{Played}
use Rattle.pa_rules.specs.Played.{marks_of}
use Rattle.pa_rules.proofs.Running.{mark_from}
use Rattle.pa_rules.proofs.Phases.{mark_in}
use Rattle.pa_logs.specs.Touches.{StepMade, step_by}
use Rattle.pa_logs.specs.Steps.{AreSteps}
use Rattle.pa_logs.proofs.StepMarks.{mark_made, step_mark, mark_step, issue_is}

some_step : (o : Option Step) → IsSome o → (p : Step) × (o ≡ Some p)
some_step None h = absurd (none_is None refl h)
  where
    none_is : (o : Option Step) → o ≡ None → IsSome o → ⊥
    none_is None e i = search rules
    none_is (Some p) e i = cc
some_step (Some p) h = (p, refl)

-- the step that is at number k: its record, its word and the next
pub record IsStepAt (ps : List Played) (s : SlotName) (history : List Done) (k : ℕ) (x : Played) (d : StepMade) : Type 0 where
  pub among : Contains ps x
  pub is : step_by x ≡ Some d
  pub slot : d.slot ≡ s
  pub found : d.found ≡ word_at_number k history
  pub number : number_of d.found ≡ k
  pub stands : up_to (k + 1) history ≡ record { step = d.step; value = d.value } ∷ up_to k history
  pub can : CanStep d.step (word_at_number k history)

module _ (ps : List Played) (s : SlotName) (history : List Done) (steps : AreSteps ps s history) where
  -- the word at a number has it
  pub number_at : (k : ℕ) → k ≤ length history → number_of (word_at_number k history) ≡ k
  number_at k within = reached_number (up_to k history) (up_to_legal k history steps.legal) ∙ up_to_length k history within

  -- what is at a number could be made there
  pub can_at : (k : ℕ) (d : Done) → up_to (k + 1) history ≡ d ∷ up_to k history → CanStep d.step (word_at_number k history)
  can_at k d stands =
      let legal : IsLegal (d ∷ up_to k history) = subst IsLegal stands (up_to_legal (k + 1) history steps.legal) in
      legal.0

  pub step_at : (k : ℕ) → k < length history → (x : Played) × (d : StepMade) × IsStepAt ps s history k x d
  step_at k below =
      let (x, d, among, is, slot, found) = steps.made k below in
      let at = steps.stand x d among is slot in
      let n : number_of d.found ≡ k = ap number_of found ∙ number_at k (omega arith) in
      let there : Done = record { step = d.step; value = d.value } in
      let stands : up_to (k + 1) history ≡ there ∷ up_to k history =
      subst (λ j. up_to (j + 1) history ≡ there ∷ up_to j history) n at.next in
      (x, d, record { among = among; is = is; slot = slot; found = found; number = n; stands = stands; can = can_at k there stands })

  -- the first step is the issue: a record made the slot
  pub issue_at : 0 < length history →
      (x : Played) × (seen : Seen) × (usable : ℕ) × Contains ps x × (x.answer ≡ answers.Made seen usable) × (seen.slot ≡ s)
  issue_at some_step =
      let (x, d, at) = step_at 0 some_step in
      let zero_word : word_at_number 0 history ≡ 0 = ap reached (up_to_none history) in
      let is = issue_is x.op x.answer d at.is (issue_first d.step (word_at_number 0 history) at.can zero_word) in
      (x, is.seen, is.usable, at.among, is.answer, is.slot ∙ at.slot)

  -- a step that a record made could be made
  pub can_made : (x : Played) (d : StepMade) → Contains ps x → step_by x ≡ Some d → d.slot ≡ s → CanStep d.step d.found
  can_made x d among is slot =
      let at = steps.stand x d among is slot in
      subst (λ w. CanStep d.step w) at.word (can_at (number_of d.found) (record { step = d.step; value = d.value }) at.next)

  -- two steps at one number are one
  pub same_step : (x y : Played) (d e : StepMade) → Contains ps x → Contains ps y → step_by x ≡ Some d → step_by y ≡ Some e → d.slot ≡ s →
      e.slot ≡ s →
      number_of d.found ≡ number_of e.found → d ≡ e
  same_step x y d e first second is other slot slot' same =
      of_some d e (sym is ∙ (ap step_by (steps.one x y d e first second is other slot slot' same) ∙ other))

  -- no mark of the slot at the step's number is on an earlier line
  least_at : (x : Played) (d : StepMade) → Contains ps x → step_by x ≡ Some d → d.slot ≡ s → (n : Mark) → Contains (marks_of ps) n →
      n.slot ≡ s → n.found ≡ d.found →
      IsSome n.step → x.line ≤ n.line
  least_at x d among is slot n member of found some_made =
      let (p, step) = some_step n.step some_made in
      let (y, there, marked) = mark_from ps n member in
      let (e, made, same) = mark_step y.line y.op y.answer n p marked step in
      let one : x ≡ y = steps.one x y d e among there is made slot (sym (ap (λ (z : Mark). z.slot) same) ∙ of)
      (ap number_of (sym found ∙ ap (λ (z : Mark). z.found) same)) in
      let line : n.line ≡ y.line = ap (λ (z : Mark). z.line) same in
      let lines : x.line ≡ y.line = ap (λ (z : Played). z.line) one in
      omega arith

  -- the mark of a step is the first at its word
  pub first_made : (x : Played) (d : StepMade) → Contains ps x → step_by x ≡ Some d → d.slot ≡ s →
      IsFirstAt (marks_of ps) s d.found (mark_made x.line d) d.step
  first_made x d among is slot = record {
    among = mark_in ps x (mark_made x.line d) among (step_mark x.line x.op x.answer d is);
    slot = slot;
    found = refl;
    step = refl;
    least = least_at x d among is slot;
  }
