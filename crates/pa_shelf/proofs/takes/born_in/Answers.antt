use Rattle.std.proofs.Common.{◌≡◌, ◌∙◌, Some, inl, inr, sym, ap, arith}
use Rattle.std.specs.Prelude.{◌≢◌, slice_get}
use Rattle.std.proofs.lemmas.Bool.{cases_lt}
use Rattle.std.proofs.lemmas.Option.{slice_get-get_or}
use Rattle.pa_lists.proofs.Indexed.{at_in, in_at, one_at, none_past}
use Rattle.pa_lists.proofs.Tests.{met_more}
use Rattle.pa_record.specs.declared.taken.SuperPage.{SuperPage}
use Rattle.pa_shelf.proofs.Finding.{one_number}
use Rattle.pa_shelf.proofs.takes.born_in.Goals as goal

pub returns-then-taken-number : goal.returns-then-taken-number
returns-then-taken-number c a apart among same =
    let ss = c.args.supers.now in let at = c.loop-taken.taken-index in
    ap (λ (z : SuperPage). z.born)
    (one_number _ a ss apart (at_in ss at _ (slice_get-get_or ss at _ c.loop-taken-test.true)) among (c.if-taken-number.true ∙ sym same))

pub loop-taken-preserved : goal.loop-taken-preserved
loop-taken-preserved c =
    let ss = c.args.supers.now in let l = c.loop-taken in let at = l.taken-index in
    record {
      before = met_more (λ i. (x : SuperPage) → slice_get ss i ≡ Some x → x.number ≢ c.args.number) at l.invariant.before
          (λ x is same. c.if-taken-number.false
          (ap (λ (z : SuperPage). z.number) (one_at ss at _ x (slice_get-get_or ss at _ c.loop-taken-test.true) is) ∙ same));
    }

pub returns : goal.returns
returns c a apart among same =
    let ss = c.args.supers.now in let l = c.loop-taken in
    let (i, is) = in_at ss a among in
    elim (cases_lt i l.taken-index) [
      | inl less ↦ absurd (l.invariant.before i less a is same)
      | inr past ↦ let end = c.loop-taken-test.false in absurd (none_past ss i a (omega arith) is)
    ]
