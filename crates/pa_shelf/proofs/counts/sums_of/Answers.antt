use Rattle.std.proofs.Common.{◌∙◌, ◌+◌, ◌*◌, sym, subst, take, arith}
use Rattle.std.specs.Prelude.{slice_index_or}
use Rattle.std.proofs.lemmas.List.Elements.{Contains-get_or}
use Rattle.pa_record.specs.declared.taken.SuperPage.{SuperPage}
use Rattle.pa_region.specs.Shares.{Share}
use Rattle.pa_shelf.specs.Counting.{HasPagesOf, sum_of_pages, sum_of_supers, no_sums, AreAdded}
use Rattle.pa_shelf.proofs.Totals.{added_on, supers_more, sums_more}
use Rattle.pa_shelf.proofs.counts.sums_of.Goals as goal

pub with_super_page-sums-requires-clause-pages : goal.with_super_page-sums-requires-clause-pages
with_super_page-sums-requires-clause-pages c =
    let d : SuperPage = record { number = 0; born = 0 } in
    let at = slice_index_or c.args.supers.now c.loop-at.at-index d in
    let inside = c.loop-at-test.true in
    subst (λ (z : Share). HasPagesOf z.view at.number) (sym c.loop-at.invariant.seat)
    (c.requires.pages at (Contains-get_or c.args.supers.now c.loop-at.at-index d (omega arith)))

pub loop-at-preserved : goal.loop-at-preserved
loop-at-preserved c =
    let d : SuperPage = record { number = 0; born = 0 } in
    let supers = c.args.supers.now in let i = c.loop-at.at-index in
    let words = c.args.own.now.view.words in
    let inside = c.loop-at-test.true in
    let more = subst (λ (z : Share). AreAdded
    (λ f. sum_of_pages f z.view.words (slice_index_or supers i d).number 126) c.loop-at.sums c.with_super_page-sums.result)
    c.loop-at.invariant.seat c.with_super_page-sums.ensures.added in
    record {
      seat = c.with_super_page-sums.ensures.seat ∙ c.loop-at.invariant.seat;
      added = added_on (λ f. sum_of_supers f words (take i supers)) (λ f. sum_of_pages f words (slice_index_or supers i d).number 126)
          (λ f. sum_of_supers f words (take (i + 1) supers)) no_sums c.loop-at.sums c.with_super_page-sums.result c.loop-at.invariant.added
          more
          (λ f. supers_more f words supers i d (omega arith));
      below = sums_more (126 * i + 126) (126 * (i + 1)) c.with_super_page-sums.result (omega arith)
          (c.with_super_page-sums.ensures.below (126 * i) c.loop-at.invariant.below);
    }
