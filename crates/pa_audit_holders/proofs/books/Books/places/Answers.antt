use Rattle.std.proofs.Common.{◌≤◌, length, sym, subst, rules}
use Rattle.pa_audit_holders.specs.Books.{IsRecordsLine, RunBooks}
use Rattle.pa_audit_holders.specs.Lines.{KnowsLine}
use Rattle.pa_audit_holders.proofs.Indexing.{places_none}
use Rattle.pa_audit_holders.proofs.Paging.{line_known}
use Rattle.pa_audit_holders.proofs.books.Books.places.Goals as goal

pub returns-in-Some : goal.returns-in-Some
returns-in-Some c =
    let b = c.self.inside in
    let on = subst (λ (z : RunBooks). IsRecordsLine z.records c.args.line) (sym c.self.view_is) c.requires in
    let known = subst (λ (z : RunBooks). KnowsLine z.roots b.lines.items c.args.line) c.self.view_is
    (line_known b.roots.now b.lines.items b.records.now c.args.line c.self.invariant.known on) in
    search rules

pub returns-in-None : goal.returns-in-None
returns-in-None c =
    let b = c.self.inside in
    let on = subst (λ (z : RunBooks). IsRecordsLine z.records c.args.line) (sym c.self.view_is) c.requires in
    let known = subst (λ (z : RunBooks). KnowsLine z.roots b.lines.items c.args.line) c.self.view_is
    (line_known b.roots.now b.lines.items b.records.now c.args.line c.self.invariant.known on) in
    let past : length b.lines.items ≤ c.args.partition = search rules in
    places_none c.args.self.now.roots b.lines.items c.args.line c.args.partition known past
