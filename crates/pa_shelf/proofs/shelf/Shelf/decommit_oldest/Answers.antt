use Rattle.std.proofs.Common.{◌∙◌, sym, subst, ap}
use Rattle.std.specs.Prelude.{Contains}
use Rattle.pa_buckets.specs.declared.spans.State.TheVariants as state
use Rattle.pa_record.specs.Spans.{Span as RootSpan}
use Rattle.pa_record.specs.Root.{Root, entered}
use Rattle.pa_region.specs.Shares.{Share}
use Rattle.pa_spans.specs.Lists.{StaysListed, first_of_ring}
use Rattle.pa_records.specs.Words.{spans_in}
use Rattle.pa_meta.specs.Stores.{HasSpanAt, Rerecorded}
use Rattle.pa_shelf.specs.Moving.{IsRecordFor}
use Rattle.pa_shelf.specs.Shelves.{ShelfParts, RecordsRoot}
use Rattle.pa_shelf.proofs.Decommitting.{page_had, read_is, without_stays, few_left, decommit_shown, none_shown}
use Rattle.pa_shelf.proofs.shelf.Shelf.decommit_oldest.Goals as goal

pub read_meta-span-requires-clause-raw : goal.read_meta-span-requires-clause-raw
read_meta-span-requires-clause-raw c =
    let first = ap (λ (p : ShelfParts). first_of_ring p.lists.ring) (sym c.self.view_is) ∙ (sym c.first_empty.ensures ∙ c.in-Some.is) in
    (page_had c.args.own.now.view c.args.self.now c.requires.shown.0 c.in-Some.at c.requires.shown.1 first).raw

pub read_meta-span-requires-clause-record : goal.read_meta-span-requires-clause-record
read_meta-span-requires-clause-record c =
    let first = ap (λ (p : ShelfParts). first_of_ring p.lists.ring) (sym c.self.view_is) ∙ (sym c.first_empty.ensures ∙ c.in-Some.is) in
    let h = page_had c.args.own.now.view c.args.self.now c.requires.shown.0 c.in-Some.at c.requires.shown.1 first in
    (h.span, h.recorded)

pub change-requires-clause-has : goal.change-requires-clause-has
change-requires-clause-has c =
    let first = ap (λ (p : ShelfParts). first_of_ring p.lists.ring) (sym c.self.view_is) ∙ (sym c.first_empty.ensures ∙ c.in-Some.is) in
    subst (λ (z : Share). HasSpanAt z.view c.args.self.now.supers c.in-Some.at) (sym c.read_meta-span.ensures.seat)
    (page_had c.args.own.now.view c.args.self.now c.requires.shown.0 c.in-Some.at c.requires.shown.1 first)

pub change-requires-clause-stays : goal.change-requires-clause-stays
change-requires-clause-stays c =
    let v = c.args.own.now.view in
    let first = ap (λ (p : ShelfParts). first_of_ring p.lists.ring) (sym c.self.view_is) ∙ (sym c.first_empty.ensures ∙ c.in-Some.is) in
    let had = page_had v c.args.self.now c.requires.shown.0 c.in-Some.at c.requires.shown.1 first in
    subst (λ (z : Share). StaysListed (spans_in z.view.words c.in-Some.at) c.without_pages.result) (sym c.read_meta-span.ensures.seat)
    (without_stays c.read_meta-span.result c.without_pages.result (spans_in v.words c.in-Some.at)
    (read_is v c.args.self.now.supers c.in-Some.at c.read_meta-span.result had c.read_meta-span.ensures.span) c.without_pages.ensures)

pub change-requires-clause-few : goal.change-requires-clause-few
change-requires-clause-few c = few_left c.in-Some.at c.args.self.now.lists c.without_pages.result c.requires.shown.1.kept.few

pub returns-in-Some-clause-shown : goal.returns-in-Some-clause-shown
returns-in-Some-clause-shown c r sound shown =
    let v = c.args.own.now.view in let l = c.args.self.now in let w = c.change.new.own.view in let at = c.in-Some.at in
    let first = ap (λ (p : ShelfParts). first_of_ring p.lists.ring) (sym c.self.view_is) ∙ (sym c.first_empty.ensures ∙ c.in-Some.is) in
    let x = c.read_meta-span.result in let y = c.without_pages.result in
    let x_is = read_is v l.supers at x (page_had v l r at shown first) c.read_meta-span.ensures.span in
    let moved = subst (λ (z : Share). (q : Root) (s t : RootSpan) → RecordsRoot z.view l q → Contains q.spans s → IsRecordFor at y s t →
    RecordsRoot w c.change.new.self (entered state.Decommitted t q)) c.read_meta-span.ensures.seat c.change.ensures.kept in
    let wrote = subst (λ (z : Share). Rerecorded l.supers z.view w) c.read_meta-span.ensures.seat c.change.ensures.view in
    decommit_shown v w l c.change.new.self at x y r c.aware.ensures.aware wrote first x_is c.without_pages.ensures (moved r) sound shown

pub returns-in_default-clause-shown : goal.returns-in_default-clause-shown
returns-in_default-clause-shown c r sound shown =
    none_shown c.args.own.now.view c.args.self.now r
    (ap (λ (p : ShelfParts). first_of_ring p.lists.ring) (sym c.self.view_is) ∙ (sym c.first_empty.ensures ∙ c.in_default.is)) shown
