-- What is printed of a run, after its trace, is an input that `audit` calls legal.
use Rattle.std.proofs.Common.{◌≤◌, ℕ, List, ◌++◌, length, sym, subst}
use Rattle.pa_trace.specs.declared.script.Trace.{Trace}
use Rattle.pa_trace.specs.Limits.{IsInput}
use Rattle.pa_record.specs.declared.run.Run.{Run}
use Rattle.pa_record.specs.RunText.{IsRunText}
use Rattle.pa_record.proofs.OneRun.{one_text}
use Rattle.pa_rules.specs.Legal.{IsFileRun, IsLegal, IsLegalTold}
use Rattle.pa_one_run.proofs.OneRun.{one_file_run}
use Rattle.pa_audit_input.specs.Input.{most_audited}
use Rattle.pa_audit_input.specs.Judged.{IsLegalInput}
use Rattle.pa_audit_input.proofs.Together.{input_of_both, together, legal_input}
use Rattle.pa_cli.proofs.Judging.{same_told, one_input_trace, one_input_run}
use Rattle.pa_cli.specs.Laws.{DelayedIsLegalAsModelled, ResizedIsLegalInput, ModelledIsLegalInput, ReplayedIsLegalInput}

both_legal : (t : Trace) (r : Run) (front back : List ℕ) → IsInput t front → IsRunText r back → IsLegal t r →
    length (front ++ back) ≤ most_audited
    → IsLegalInput (front ++ back)
both_legal t r front back traced printed legal short = legal_input t r (front ++ back) (together t r front back traced printed legal short)

pub resized_legal : ResizedIsLegalInput
resized_legal s text h short =
    subst IsLegalInput (sym h.parts)
    (both_legal h.trace h.run h.front h.back h.traced h.printed h.expanded.file.0
    (subst (λ (z : List ℕ). length z ≤ most_audited) h.parts short))

pub modelled_legal : ModelledIsLegalInput
modelled_legal t front text traced h short = both_legal t h.run front text traced h.printed h.filed.0 short

-- if `audit` calls it legal, the run of this trace that was printed is legal
printed_legal : (t : Trace) (r : Run) (front back : List ℕ) → IsInput t front → IsRunText r back →
    length (front ++ back) ≤ most_audited → IsLegalInput (front ++ back) → IsLegal t r
printed_legal t r front back traced printed short h =
    let bytes = front ++ back in
    let input = input_of_both t r front back traced printed short in
    let trace = one_input_trace bytes h.trace t h.run r h.lines _ h.input input in
    let run = one_input_run bytes h.trace t h.run r h.lines _ h.input input in
    subst (λ (u : Trace). IsLegal u r) trace (subst (IsLegalTold h.trace) (same_told h.run r run) h.legal)

pub delayed_legal : DelayedIsLegalAsModelled
delayed_legal bytes t run words front delayed modelled traced d m short = (
  λ legal.
      let filed : IsFileRun t run = (printed_legal t run front delayed traced d.printed short legal, d.delayed.1) in
      one_text run m.run delayed modelled d.printed m.printed (one_file_run t run m.run traced.limits filed m.filed),
  λ same. subst (λ (z : List ℕ). IsLegalInput (front ++ z)) (sym same)
      (modelled_legal t front modelled traced m (subst (λ (z : List ℕ). length (front ++ z) ≤ most_audited) same short)),
)

pub replayed_legal : ReplayedIsLegalInput
replayed_legal t run words front text traced h short = both_legal t run front text traced h.printed h.legal short
