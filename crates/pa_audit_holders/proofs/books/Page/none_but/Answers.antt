use Rattle.std.proofs.Common.{◌≤◌, List, length, refl, ap, arith}
use Rattle.pa_record.specs.declared.root.RootEntry.{RootEntry}
use Rattle.std.proofs.lemmas.Bool.{both_ways, false≢true}
use Rattle.pa_audit_holders.proofs.Indexing.{none_more, none_all}
use Rattle.pa_audit_holders.proofs.books.Page.none_but.Goals as goal

pub returns-then-not-is_quiet_but : goal.returns-then-not-is_quiet_but
returns-then-not-is_quiet_but c = (
  λ yes. absurd (false≢true yes),
  λ none. absurd (both_ways _ c.if-not-is_quiet_but.true (c.is_quiet_but.ensures.1 (none c.loop-journal.at))),
)

pub loop-journal-preserved : goal.loop-journal-preserved
loop-journal-preserved c =
    let l = c.loop-journal in
    record {
      at = omega (arith, l.invariant.at);
      none = none_more c.args.self.now.roots c.args.self.now.told.line c.args.partition l.at l.invariant.none
          (c.is_quiet_but.ensures.0 c.if-not-is_quiet_but.false);
    }

pub returns : goal.returns
returns c =
    let l = c.loop-journal in
    let end : length c.args.self.now.roots ≤ l.at =
    omega (
      arith,
      ap (λ (rs : List (List RootEntry)). length rs) c.roots-journal-items.ensures.roots,
      l.invariant.at,
      c.loop-journal-test.false,
    ) in
    (λ yes. none_all c.args.self.now.roots c.args.self.now.told.line c.args.partition l.at l.invariant.none end, λ none. refl)
