use Rattle.std.proofs.Common.{◌≡◌, ◌∙◌, ◌+◌, ◌*◌, ◌/◌, ◌%◌, ◌≤◌, ℕ, refl, sym, subst, ap, arith}
use Rattle.pa_record.specs.Spans.{Span as RootSpan, same_state}
use Rattle.pa_record.specs.Root.{Root}
use Rattle.pa_buckets.specs.declared.spans.State.TheVariants as state
use Rattle.pa_region.specs.Shares.{Share}
use Rattle.pa_records.specs.Words.{record_word, IsRecordAt, spans_in}
use Rattle.pa_records.proofs.Words.{span_is}
use Rattle.pa_spans.specs.declared.span.Span.{Span}
use Rattle.pa_meta.specs.Meta.{HasRawRecord}
use Rattle.pa_shelf.specs.Shelves.{IsBackAt}
use Rattle.pa_shelf.proofs.Finding.{inside, page_has, goes_on, is_first, at_last}
use Rattle.pa_shelf.proofs.shelf.Shelf.span_at.Goals as goal

pub loop-back-init : goal.loop-back-init
loop-back-init c = record {
  seat = refl;
  page = omega arith;
  after = λ r s n b.
      let i = inside c.args.own.now.view c.args.self.now s.place c.args.title r s n b in let low = i.low in
      let first = (b.shown.kept.stored.had s b.among).payload.aligned in
      omega arith;
}

-- the page that is asked has a span
page_is : (at back start : ℕ) → at + 16384 * back ≡ start / 16384 * 16384 → (at % 16384 ≡ 0) × (at ≤ start)
page_is at back start e = (omega arith, omega arith)

pub starts_none-requires-clause-region : goal.starts_none-requires-clause-region
starts_none-requires-clause-region c = ap (λ (z : Share). z.region) c.loop-back.invariant.seat ∙ c.requires.region

pub starts_none-requires-clause-raw : goal.starts_none-requires-clause-raw
starts_none-requires-clause-raw c =
    let i = c.loop-back.invariant in let (r, s, n, b) = c.requires.back in
    let (aligned, low) = page_is c.loop-back.at c.loop-back.back c.args.title.start i.page in
    let h = page_has c.args.own.now.view c.args.self.now c.args.title r s n c.loop-back.at b aligned (i.after r s n b) low in
    subst (λ (z : Share). HasRawRecord z.view c.loop-back.at) (sym i.seat) h.raw

pub starts_none-requires-clause-record : goal.starts_none-requires-clause-record
starts_none-requires-clause-record c =
    let i = c.loop-back.invariant in let (r, s, n, b) = c.requires.back in
    let (aligned, low) = page_is c.loop-back.at c.loop-back.back c.args.title.start i.page in
    let h = page_has c.args.own.now.view c.args.self.now c.args.title r s n c.loop-back.at b aligned (i.after r s n b) low in (
      h.span,
      subst (λ (z : Share). IsRecordAt z.view.words (record_word c.loop-back.at) h.span) (sym i.seat) h.recorded,
    )

pub returns-then-not-starts_none-clause-seat : goal.returns-then-not-starts_none-clause-seat
returns-then-not-starts_none-clause-seat c = c.starts_none.ensures.seat ∙ c.loop-back.invariant.seat

pub returns-then-not-starts_none-clause-start : goal.returns-then-not-starts_none-clause-start
returns-then-not-starts_none-clause-start c r s n b =
    let v = c.args.own.now.view in let at = c.loop-back.at in
    let i = c.loop-back.invariant in
    let (aligned, low) = page_is at c.loop-back.back c.args.title.start i.page in
    let h = page_has v c.args.self.now c.args.title r s n at b aligned (i.after r s n b) low in
    let is : spans_in v.words at ≡ h.span = span_is v.words at h.span aligned h.recorded in
    let none = c.starts_none.ensures.none h.span
    (subst (λ (z : Share). IsRecordAt z.view.words (record_word at) h.span) (sym i.seat) h.recorded) in
    is_first v c.args.self.now c.args.title r s n at b aligned (i.after r s n b) low
    (ap (λ (x : Span). same_state x.state state.None) is ∙ (sym none ∙ c.if-not-starts_none.true))

pub overflow_sub-at : goal.overflow_sub-at
overflow_sub-at c =
    let v = c.args.own.now.view in let at = c.loop-back.at in
    let i = c.loop-back.invariant in let (r, s, n, b) = c.requires.back in
    let (aligned, low) = page_is at c.loop-back.back c.args.title.start i.page in
    let h = page_has v c.args.self.now c.args.title r s n at b aligned (i.after r s n b) low in
    let is : spans_in v.words at ≡ h.span = span_is v.words at h.span aligned h.recorded in
    let none = c.starts_none.ensures.none h.span
    (subst (λ (z : Share). IsRecordAt z.view.words (record_word at) h.span) (sym i.seat) h.recorded) in
    let some = goes_on v c.args.self.now c.args.title r s n at b aligned (i.after r s n b)
    (ap (λ (x : Span). same_state x.state state.None) is ∙ (sym none ∙ c.if-not-starts_none.false)) in
    omega arith

pub loop-back-preserved : goal.loop-back-preserved
loop-back-preserved c =
    let v = c.args.own.now.view in let at = c.loop-back.at in
    let i = c.loop-back.invariant in
    let (aligned, low) = page_is at c.loop-back.back c.args.title.start i.page in
    let goes : (r : Root) (s : RootSpan) (n : ℕ) → IsBackAt v c.args.self.now s.place c.args.title r s n → s.place + 16384 ≤ at = λ r s n b.
    let h = page_has v c.args.self.now c.args.title r s n at b aligned (i.after r s n b) low in
    let is : spans_in v.words at ≡ h.span = span_is v.words at h.span aligned h.recorded in
    let none = c.starts_none.ensures.none h.span
    (subst (λ (z : Share). IsRecordAt z.view.words (record_word at) h.span) (sym i.seat) h.recorded) in
    goes_on v c.args.self.now c.args.title r s n at b aligned (i.after r s n b)
    (ap (λ (x : Span). same_state x.state state.None) is ∙ (sym none ∙ c.if-not-starts_none.false)) in
    let (r, s, n, b) = c.requires.back in let some = goes r s n b in
    record {
      seat = c.starts_none.ensures.seat ∙ i.seat;
      page = let p = i.page in omega arith;
      after = λ q u m a. let more = goes q u m a in omega arith;
    }

pub returns-clause-seat : goal.returns-clause-seat
returns-clause-seat c = c.loop-back.invariant.seat

pub returns-clause-start : goal.returns-clause-start
returns-clause-start c r s n b =
    let i = c.loop-back.invariant in
    let all : c.loop-back.back ≡ 3 = omega arith in
    let page = i.page in
    at_last c.args.own.now.view c.args.self.now c.args.title r s n c.loop-back.at b (omega arith) (i.after r s n b)
