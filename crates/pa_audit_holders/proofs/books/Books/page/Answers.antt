use Rattle.std.proofs.Common.{◌<◌, get_or, length, sym, ap, subst, rules}
use Rattle.std.proofs.lemmas.Option.{get_or_from_slice_get}
use Rattle.pa_rules.specs.RecordDemands.{IsRecord}
use Rattle.pa_audit_holders.specs.Books.{IsOnPage, RunBooks, page_of}
use Rattle.pa_audit_holders.proofs.Paging.{on_page}
use Rattle.pa_audit_holders.proofs.books.Books.page.Goals as goal

pub offset_bounds-records-at : goal.offset_bounds-records-at
offset_bounds-records-at c =
    let below = subst (λ (b : RunBooks). c.args.at < length b.records) (sym c.self.view_is) c.requires in
    let few = c.self.invariant.few in
    search rules

pub invariant_of-result : goal.invariant_of-result
invariant_of-result c =
    let below = subst (λ (b : RunBooks). c.args.at < length b.records) (sym c.self.view_is) c.requires in
    subst (λ (b : RunBooks). IsOnPage b (get_or c.self.inside.records.now c.args.at _)) c.self.view_is
    (on_page _ _ _ c.args.at _ c.self.invariant below)

pub returns-clause-page : goal.returns-clause-page
returns-clause-page c = λ x is.
    let there = subst (λ (b : RunBooks). IsRecord b.records c.args.at x) (sym c.self.view_is) is in
    ap (page_of c.args.self.now) (get_or_from_slice_get _ c.args.at x _ there)
