use Rattle.std.proofs.Common.{◌≡◌, ◌+◌, ◌≤◌, ◌∙◌, List, [], length, ap, sym, subst, arith}
use Rattle.std.proofs.lemmas.List.{get_or_default}
use Rattle.pa_record.specs.declared.root.RootEntry.{RootEntry}
use Rattle.pa_rules.specs.Roots.{journal_at}
use Rattle.pa_audit_holders.specs.Holding.{EntriesSoFar, KnowsJournal, TellsHolders}
use Rattle.pa_audit_holders.proofs.Placing.{entries_next, tables_more, tells_entry}
use Rattle.pa_audit_holders.proofs.holders.holders_meet.Goals as goal

pub loop-journal-preserved : goal.loop-journal-preserved
loop-journal-preserved c =
    let l = c.loop-journal in
    let i = l.journal-index in
    let ps = c.args.records.now in
    let roots = c.args.roots.now in
    let journal = c.journal-item.result in
    let walked = c.in_ok-walked.walked in
    let there : journal_at roots l.partition ≡ journal =
    ap (journal_at roots) l.invariant.at ∙ get_or_default roots i [] journal c.loop-journal-test.true ∙ sym c.journal-item.is in
    record {
      at = ap (λ n. n + 1) l.invariant.at;
      tables =
          tables_more ps roots l.tables.items c.push.new.self.items walked.table l.partition c.in_ok-push.ensures.items
          (subst (λ (es : List RootEntry). KnowsJournal ps es walked.table) (sym there) c.in_ok-walked.ensures.table) l.invariant.tables;
      entries = subst (λ o. EntriesSoFar ps (journal_at roots) (l.partition + 1) o) (sym c.first_entry-misfit.ensures)
          (entries_next ps roots journal l.partition l.misfit walked.misfit there l.invariant.entries c.in_ok-walked.ensures.misfit);
    }

pub returns : goal.returns
returns c =
    let l = c.loop-journal in
    let ps = c.args.records.now in
    let roots = c.args.roots.now in
    let at = l.invariant.at in
    let test = c.loop-journal-test.false in
    let end : length roots ≤ l.partition = omega (arith, at, test) in
    subst (λ o. TellsHolders ps (journal_at roots) o) (sym c.place_of.ensures)
    (tells_entry ps roots l.partition l.misfit end l.invariant.entries c.in-None.ensures)
