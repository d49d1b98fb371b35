use Rattle.std.proofs.Common.{◌≤◌, [], length, arith, inl, inr}
use Rattle.pa_audit_records.specs.ByKeys.{value_at}
use Rattle.std.proofs.lemmas.Bool.{cases_lt}
use Rattle.std.proofs.lemmas.List.{get_or_past}
use Rattle.pa_rules.specs.Roots.{journal_at}
use Rattle.pa_test_audit.proofs.OneHome.{homed_none, one_home_of, acts_none}
use Rattle.pa_test_audit.proofs.homed.are_homed.Goals as goal

pub returns : goal.returns
returns c = λ yes s.
    let roots = journal_at c.args.roots.now in
    let at = value_at c.args.homes.now in
    let l = c.loop-journal in
    let end : length c.args.roots.now ≤ l.partition = omega (arith, l.invariant.at, c.loop-journal-test.false) in
    one_home_of c.args.version roots at s
    (λ q. elim (cases_lt q l.partition) [
      | inl less ↦ l.invariant.homed q less
      | inr past ↦ homed_none roots at q (get_or_past c.args.roots.now q [] (omega (arith, end, past)))
    ])
    (λ q. elim (cases_lt q l.partition) [
      | inl less ↦ l.invariant.acts q less
      | inr past ↦ acts_none c.args.version roots q (get_or_past c.args.roots.now q [] (omega (arith, end, past)))
    ])
