use Rattle.std.proofs.Common.{◌≡◌, ◌∙◌, List, length, rules, ap, sym, subst}
use Rattle.std.specs.Prelude.{Contains, sum_by}
use Rattle.pa_slot.specs.declared.title.Title.{Title}
use Rattle.pa_layout.specs.Pages.{supers_for}
use Rattle.pa_record.specs.declared.taken.SuperPage.{SuperPage}
use Rattle.pa_record.proofs.Counted.{census_by}
use Rattle.pa_shelf.specs.Counting.{sum_of_supers, no_sums, AreAdded}
use Rattle.pa_shelf.specs.Shelves.{ShelfParts}
use Rattle.pa_shelf.proofs.Counting.{pages_had, census_added}
use Rattle.pa_shelf.proofs.shelf.Shelf.census.Goals as goal

pub sums_of-sums-requires-clause-pages : goal.sums_of-sums-requires-clause-pages
sums_of-sums-requires-clause-pages c at among =
    let (r, sound, used, shown) = c.requires.shown in
    let same = c.deref.ensures.value ∙ ap (λ (p : ShelfParts). p.supers) c.self.view_is in
    pages_had c.args.own.now.view c.args.self.now r at sound shown.kept (subst (λ (zs : List SuperPage). Contains zs at) same among)

pub returns-clause-census : goal.returns-clause-census
returns-clause-census c r sound used shown =
    let v = c.args.own.now.view in let l = c.args.self.now in
    let same = c.deref.ensures.value ∙ ap (λ (p : ShelfParts). p.supers) c.self.view_is in
    let added = subst (λ (zs : List SuperPage). AreAdded (λ f. sum_of_supers f v.words zs) no_sums c.sums_of-sums.result) same
    c.sums_of-sums.ensures.added in
    let are = census_added v l r c.sums_of-sums.result shown.kept used added in
    let maps = c.deref-2.ensures.value ∙ (ap (λ (p : ShelfParts). p.maps) c.self.view_is ∙ sym shown.kept.maps) in
    let mapped = c.mapped_of-mapped.ensures.bytes ∙ ap (λ (ts : List Title). sum_by (λ (t : Title). t.len) ts) maps in
    let supers = c.mapped_of-mapped.ensures.supers ∙ ap (λ (ts : List Title). sum_by (λ (t : Title). supers_for t.len) ts) maps in
    let here : c.len.result ≡ length c.self.inside.supers.items = search rules in
    let many = here ∙ (ap (λ (p : ShelfParts). length p.supers) c.self.view_is ∙
    sym (ap (λ (zs : List SuperPage). length zs) shown.kept.supers)) in
    census_by r _ _ _ _ _ _ _ _ _ _ _ _ are.slots are.bytes are.pages mapped many supers are.full are.active are.empty are.decommitted
    c.from.ensures c.from-2.ensures
