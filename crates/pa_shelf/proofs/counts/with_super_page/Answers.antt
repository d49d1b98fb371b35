use Rattle.std.proofs.Common.{◌≡◌, ◌+◌, ◌-◌, ◌∙◌, sym, ap, subst, arith}
use Rattle.pa_buckets.specs.declared.spans.SpanShape.{SpanShape}
use Rattle.pa_layout.specs.Pages.{page_place}
use Rattle.pa_region.specs.Shares.{Share}
use Rattle.pa_records.specs.Words.{spans_in}
use Rattle.pa_shelf.specs.Counting.{IsSmall, sum_of_pages, AreAdded}
use Rattle.pa_shelf.proofs.Totals.{record_at, read_at, none_at, is_none, is_some, past_none, step_span, span_pages, sums_more}
use Rattle.pa_shelf.proofs.counts.with_super_page.Goals as goal

pub starts_none-requires-clause-record : goal.starts_none-requires-clause-record
starts_none-requires-clause-record c =
    let v = c.args.own.now.view in let less = c.loop-page-test.true in
    record_at v c.loop-page.own.view c.args.number c.loop-page.page c.page_start-place.result c.requires.pages
    (ap (λ (z : Share). z.view) c.loop-page.invariant.seat) c.page_start-place.ensures c.loop-page.invariant.first (omega arith)

pub loop-page-preserved-then-starts_none : goal.loop-page-preserved-then-starts_none
loop-page-preserved-then-starts_none c =
    let v = c.args.own.now.view in let less = c.loop-page-test.true in
    let page = c.loop-page.page in let first = c.loop-page.invariant.first in
    let state = none_at v c.loop-page.own.view c.args.number page c.page_start-place.result c.starts_none.result c.requires.pages
    (ap (λ (z : Share). z.view) c.loop-page.invariant.seat) c.page_start-place.ensures first (omega arith) c.starts_none.ensures.none in
    let none = is_none (spans_in v.words (page_place c.args.number page)).state c.starts_none.result state c.if-starts_none.true in
    record {
      seat = c.starts_none.ensures.seat ∙ c.loop-page.invariant.seat;
      first = omega arith;
      last = omega arith;
      added = past_none v.words c.args.number page c.args.sums c.loop-page.sums first none c.loop-page.invariant.added;
      below = λ n are. sums_more (n + (page - 1)) (n + (page + 1 - 1)) c.loop-page.sums (omega arith) (c.loop-page.invariant.below n are);
    }

pub read_meta-span-requires-clause-record : goal.read_meta-span-requires-clause-record
read_meta-span-requires-clause-record c =
    let v = c.args.own.now.view in let less = c.loop-page-test.true in
    record_at v c.starts_none.new.own.view c.args.number c.loop-page.page c.page_start-place.result c.requires.pages
    (ap (λ (z : Share). z.view) (c.starts_none.ensures.seat ∙ c.loop-page.invariant.seat)) c.page_start-place.ensures
    c.loop-page.invariant.first (omega arith)

pub with_span-sums-requires-clause-small : goal.with_span-sums-requires-clause-small
with_span-sums-requires-clause-small c =
    let v = c.args.own.now.view in let less = c.loop-page-test.true in
    let page = c.loop-page.page in let first = c.loop-page.invariant.first in
    let state = none_at v c.loop-page.own.view c.args.number page c.page_start-place.result c.starts_none.result c.requires.pages
    (ap (λ (z : Share). z.view) c.loop-page.invariant.seat) c.page_start-place.ensures first (omega arith) c.starts_none.ensures.none in
    let used = is_some (spans_in v.words (page_place c.args.number page)) c.starts_none.result state c.if-starts_none.false in
    let is = read_at v c.starts_none.new.own.view c.args.number page c.page_start-place.result c.read_meta-span.result c.requires.pages
    (ap (λ (z : Share). z.view) (c.starts_none.ensures.seat ∙ c.loop-page.invariant.seat)) c.page_start-place.ensures first
    (omega arith) c.read_meta-span.ensures.span in
    subst IsSmall (sym is) (c.requires.pages.counted page first (omega arith) used)

pub with_span-sums-requires-clause-below : goal.with_span-sums-requires-clause-below
with_span-sums-requires-clause-below c =
    let (n, few, are) = c.requires.below in let less = c.loop-page-test.true in
    (n + (c.loop-page.page - 1), omega arith, c.loop-page.invariant.below n are)

pub overflow_add-page-else-starts_none : goal.overflow_add-page-else-starts_none
overflow_add-page-else-starts_none c =
    let v = c.args.own.now.view in let less = c.loop-page-test.true in
    let page = c.loop-page.page in let first = c.loop-page.invariant.first in
    let state = none_at v c.loop-page.own.view c.args.number page c.page_start-place.result c.starts_none.result c.requires.pages
    (ap (λ (z : Share). z.view) c.loop-page.invariant.seat) c.page_start-place.ensures first (omega arith) c.starts_none.ensures.none in
    let used = is_some (spans_in v.words (page_place c.args.number page)) c.starts_none.result state c.if-starts_none.false in
    let is = read_at v c.starts_none.new.own.view c.args.number page c.page_start-place.result c.read_meta-span.result c.requires.pages
    (ap (λ (z : Share). z.view) (c.starts_none.ensures.seat ∙ c.loop-page.invariant.seat)) c.page_start-place.ensures first
    (omega arith) c.read_meta-span.ensures.span in
    let end = span_pages v c.args.number page c.span_of-page.result.pages c.read_meta-span.result c.requires.pages first
    (omega arith) is used
    (ap (λ (s : SpanShape). s.pages) c.span_of-page.ensures.shape) in
    omega arith

pub loop-page-smaller : goal.loop-page-smaller
loop-page-smaller c =
    let v = c.args.own.now.view in let less = c.loop-page-test.true in
    let page = c.loop-page.page in let first = c.loop-page.invariant.first in
    let state = none_at v c.loop-page.own.view c.args.number page c.page_start-place.result c.starts_none.result c.requires.pages
    (ap (λ (z : Share). z.view) c.loop-page.invariant.seat) c.page_start-place.ensures first (omega arith) c.starts_none.ensures.none in
    let used = is_some (spans_in v.words (page_place c.args.number page)) c.starts_none.result state c.if-starts_none.false in
    let is = read_at v c.starts_none.new.own.view c.args.number page c.page_start-place.result c.read_meta-span.result c.requires.pages
    (ap (λ (z : Share). z.view) (c.starts_none.ensures.seat ∙ c.loop-page.invariant.seat)) c.page_start-place.ensures first
    (omega arith) c.read_meta-span.ensures.span in
    let past = step_span v c.args.number page c.span_of-page.result.pages c.read_meta-span.result c.args.sums c.loop-page.sums
    c.with_span-sums.result
    c.requires.pages first (omega arith) is used c.span_of-page.ensures.bound (ap (λ (s : SpanShape). s.pages) c.span_of-page.ensures.shape)
    c.loop-page.invariant.added c.with_span-sums.ensures.added in
    let some = past.some in let end = past.ends in
    omega arith

pub loop-page-preserved : goal.loop-page-preserved
loop-page-preserved c =
    let v = c.args.own.now.view in let less = c.loop-page-test.true in
    let page = c.loop-page.page in let first = c.loop-page.invariant.first in
    let pages = c.span_of-page.result.pages in
    let state = none_at v c.loop-page.own.view c.args.number page c.page_start-place.result c.starts_none.result c.requires.pages
    (ap (λ (z : Share). z.view) c.loop-page.invariant.seat) c.page_start-place.ensures first (omega arith) c.starts_none.ensures.none in
    let used = is_some (spans_in v.words (page_place c.args.number page)) c.starts_none.result state c.if-starts_none.false in
    let is = read_at v c.starts_none.new.own.view c.args.number page c.page_start-place.result c.read_meta-span.result c.requires.pages
    (ap (λ (z : Share). z.view) (c.starts_none.ensures.seat ∙ c.loop-page.invariant.seat)) c.page_start-place.ensures first
    (omega arith) c.read_meta-span.ensures.span in
    let past = step_span v c.args.number page pages c.read_meta-span.result c.args.sums c.loop-page.sums c.with_span-sums.result
    c.requires.pages first (omega arith) is used c.span_of-page.ensures.bound (ap (λ (s : SpanShape). s.pages) c.span_of-page.ensures.shape)
    c.loop-page.invariant.added c.with_span-sums.ensures.added in
    let some = past.some in let end = past.ends in
    record {
      seat = c.read_meta-span.ensures.seat ∙ (c.starts_none.ensures.seat ∙ c.loop-page.invariant.seat);
      first = omega arith;
      last = omega arith;
      added = past.added;
      below = λ n are. sums_more (n + (page - 1) + 1) (n + (page + pages - 1)) c.with_span-sums.result (omega arith)
          (c.with_span-sums.ensures.below (n + (page - 1)) (c.loop-page.invariant.below n are));
    }

pub returns-clause-added : goal.returns-clause-added
returns-clause-added c =
    let not = c.loop-page-test.false in let most = c.loop-page.invariant.last in
    let e : c.loop-page.page ≡ 127 = omega arith in
    subst (λ k. AreAdded (λ f. sum_of_pages f c.args.own.now.view.words c.args.number (k - 1)) c.args.sums c.loop-page.sums) e
    c.loop-page.invariant.added

pub returns-clause-below : goal.returns-clause-below
returns-clause-below c n are =
    let most = c.loop-page.invariant.last in
    sums_more (n + (c.loop-page.page - 1)) (n + 126) c.loop-page.sums (omega arith) (c.loop-page.invariant.below n are)
