use Rattle.std.proofs.Common.{◌≡◌, ◌∙◌, ◌+◌, sym, subst, ap, arith}
use Rattle.pa_layout.specs.Pages.{page_place}
use Rattle.pa_buckets.specs.declared.spans.SpanShape.{SpanShape}
use Rattle.pa_buckets.specs.Table.{pages_of}
use Rattle.pa_lists.proofs.Indexed.{at_in}
use Rattle.pa_record.specs.Root.{new_span}
use Rattle.std.specs.Prelude.{Contains}
use Rattle.pa_meta.specs.Stores.{HasSpanAt}
use Rattle.pa_records.specs.Words.{spans_in}
use Rattle.pa_spans.specs.Lists.{IsOutside}
use Rattle.pa_shelf.specs.contracts.shelf.Shelf
use Rattle.pa_shelf.specs.Adding.{IsAddedAs}
use Rattle.pa_shelf.specs.Shelves.{ShelfParts, StartsAtZero}
use Rattle.pa_shelf.proofs.Fresh.{is_fresh, is_added, added_shown, at_is}
use Rattle.pa_shelf.proofs.Rewriting.{of_records}
use Rattle.pa_shelf.proofs.shelf.Shelf.start_span.Goals as goal

pub page_start-start-requires-clause-in_region : goal.page_start-start-requires-clause-in_region
page_start-start-requires-clause-in_region c =
    let (r, sound, shown, now, room) = c.requires.able in let k = shown.kept in
    k.small c.args.at (subst (λ zs. Contains zs c.args.at) k.supers (at_in r.supers _ c.args.at now))

pub page_start-start-requires-clause-in_super_page : goal.page_start-start-requires-clause-in_super_page
page_start-start-requires-clause-in_super_page c =
    let (r, sound, shown, now, room) = c.requires.able in
    let most = (sound.pages c.args.at now).1 in let page = shown.kept.page in
    let same = ap (λ (p : ShelfParts). p.page) c.self.view_is in
    omega arith

pub record_new-requires-clause-stand : goal.record_new-requires-clause-stand
record_new-requires-clause-stand c = let (r, sound, shown, now, room) = c.requires.able in shown.kept.stand

pub record_new-requires-clause-has : goal.record_new-requires-clause-has
record_new-requires-clause-has c =
    let (r, sound, shown, now, room) = c.requires.able in
    let v = c.args.own.now.view in let l = c.args.self.now in
    let start : page_place c.args.at.number r.page ≡ c.page_start-start.result =
    at_is c.args.at r.page c.self.inside.page c.page_start-start.result
    (shown.kept.page ∙ sym (ap (λ (p : ShelfParts). p.page) c.self.view_is)) c.page_start-start.ensures in
    subst (HasSpanAt v l.supers) start (is_fresh v l r c.args.class c.args.at sound shown now c.span_of-pages.ensures.bound room).has

pub record_new-requires-clause-outside : goal.record_new-requires-clause-outside
record_new-requires-clause-outside c =
    let (r, sound, shown, now, room) = c.requires.able in
    let v = c.args.own.now.view in let l = c.args.self.now in
    let start : page_place c.args.at.number r.page ≡ c.page_start-start.result =
    at_is c.args.at r.page c.self.inside.page c.page_start-start.result
    (shown.kept.page ∙ sym (ap (λ (p : ShelfParts). p.page) c.self.view_is)) c.page_start-start.ensures in
    subst (λ u. IsOutside (spans_in v.words u)) start
    (is_fresh v l r c.args.class c.args.at sound shown now c.span_of-pages.ensures.bound room).outside

pub record_new-requires-clause-zero : goal.record_new-requires-clause-zero
record_new-requires-clause-zero c =
    let (r, sound, shown, now, room) = c.requires.able in
    let v = c.args.own.now.view in let l = c.args.self.now in
    let start : page_place c.args.at.number r.page ≡ c.page_start-start.result =
    at_is c.args.at r.page c.self.inside.page c.page_start-start.result
    (shown.kept.page ∙ sym (ap (λ (p : ShelfParts). p.page) c.self.view_is)) c.page_start-start.ensures in
    subst (λ u. StartsAtZero (spans_in v.words u)) start
    (shown.kept.unused (page_place c.args.at.number r.page)
    (is_fresh v l r c.args.class c.args.at sound shown now c.span_of-pages.ensures.bound room).has)

pub returns-clause-shown : goal.returns-clause-shown
returns-clause-shown c r sound shown now room =
    let v = c.args.own.now.view in let l = c.args.self.now in let w = c.record_new.new.own.view in
    let class = c.args.class in let a = c.args.at in
    let pages : c.span_of-pages.result.pages ≡ pages_of class = ap (λ (s : SpanShape). s.pages) c.span_of-pages.ensures.shape in
    let start : page_place a.number r.page ≡ c.page_start-start.result =
    at_is a r.page c.self.inside.page c.page_start-start.result
    (shown.kept.page ∙ sym (ap (λ (p : ShelfParts). p.page) c.self.view_is)) c.page_start-start.ensures in
    let fresh = is_fresh v l r class a sound shown now c.span_of-pages.ensures.bound room in
    let added = subst (λ u. IsAddedAs u class r.spans (new_span class a r.page)) start (is_added v l r class a fresh) in
    added_shown v w l _ r class a sound shown c.aware.ensures.aware c.record_new.ensures.view
    (ap (λ n. record (Shelf.the_view c.self.inside) { page = c.self.inside.page + n }) pages
    ∙ ap (λ (p : ShelfParts). record p { page = p.page + pages_of class }) c.self.view_is)
    (c.record_new.ensures.kept r (new_span class a r.page) shown.kept added)

pub returns-clause-rest : goal.returns-clause-rest
returns-clause-rest c = of_records c.args.self.now.supers c.args.own.now.view c.record_new.new.own.view c.record_new.ensures.view
