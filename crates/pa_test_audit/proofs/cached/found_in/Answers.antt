use Rattle.std.proofs.Common.{ℕ, List, sym, ap, subst}
use Rattle.pa_rules.specs.declared.played.Played.{Played}
use Rattle.pa_audit_records.specs.Cuts.{AreRecordCuts}
use Rattle.pa_audit_holders.specs.Books.{RunBooks}
use Rattle.pa_test_audit.proofs.cached.found_in.Goals as goal

pub caches_meet-requires-clause-ends : goal.caches_meet-requires-clause-ends
caches_meet-requires-clause-ends c =
    let records = ap (λ (b : RunBooks). b.records) c.in_ok-books.ensures in
    subst (λ (ps : List Played). AreRecordCuts ps c.as_slice.result.now) (sym records)
    (subst (λ (es : List ℕ). AreRecordCuts c.as_slice-records.result.now es) (sym c.as_slice.ensures.value) c.in_ok-ends.ensures.cuts)
