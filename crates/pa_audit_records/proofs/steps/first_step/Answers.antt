use Rattle.std.proofs.Common.{◌≡◌, Some, ap, sym, ◌∙◌}
use Rattle.pa_audit_records.specs.ByKeys.{value_at}
use Rattle.pa_slot.specs.declared.word.Step.{Step}
use Rattle.pa_slot.specs.Run.{Mark, IsFirstAt}
use Rattle.pa_rules.specs.Played.{marks_of}
use Rattle.pa_audit_records.specs.Keys.{word_key}
use Rattle.pa_audit_records.proofs.Stepping.{first_told, first_made, first_marked, first_none, firsts_within}
use Rattle.pa_audit_records.proofs.steps.first_step.Goals as goal

pub bounds-records-at : goal.bounds-records-at
bounds-records-at c =
    let f = value_at c.args.firsts.now in
    firsts_within c.args.records.now f c.key_word.result c.in-Some.at c.requires.firsts (sym c.in-Some.ensures)

pub returns-in-Some-told_mark-clause-step : goal.returns-in-Some-told_mark-clause-step
returns-in-Some-told_mark-clause-step c =
    let f = value_at c.args.firsts.now in
    let at : f (word_key c.args.slot c.args.word.0) ≡ Some c.in-Some.at = ap f (sym c.key_word.ensures.key) ∙ sym c.in-Some.ensures in
    first_told c.args.records.now f c.args.slot c.args.word.0 c.in-Some.at _ _ c.requires.rising c.requires.firsts c.key_word.ensures.sized
    at c.in-Some-told_mark.ensures.mark

pub returns-in-Some-told_mark-clause-none : goal.returns-in-Some-told_mark-clause-none
returns-in-Some-told_mark-clause-none c =
    let f = value_at c.args.firsts.now in
    first_made c.args.records.now f c.key_word.result c.in-Some.at _ _
    ((m : Mark) (p : Step) → IsFirstAt (marks_of c.args.records.now) c.args.slot c.args.word.0 m p → ⊥) c.requires.firsts
    (sym c.in-Some.ensures) c.in-Some-told_mark.ensures.mark

pub returns-in-None-told_mark-clause-none : goal.returns-in-None-told_mark-clause-none
returns-in-None-told_mark-clause-none c =
    let f = value_at c.args.firsts.now in
    absurd (first_marked c.args.records.now f c.key_word.result c.in-Some.at _ c.requires.firsts
    (sym c.in-Some.ensures) c.in-None-told_mark.ensures.mark)

pub returns-in-None-clause-none : goal.returns-in-None-clause-none
returns-in-None-clause-none c = λ m p first.
    let f = value_at c.args.firsts.now in
    first_none c.args.records.now f c.args.slot c.args.word.0 m p c.requires.firsts
    (ap f (sym c.key_word.ensures.key) ∙ sym c.in-None.ensures) first
