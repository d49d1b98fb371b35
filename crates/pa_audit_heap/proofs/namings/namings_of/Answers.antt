use Rattle.std.proofs.Common.{◌≡◌, length, subst, arith}
use Rattle.pa_rules.specs.Roots.{journal_at}
use Rattle.pa_audit_heap.specs.Namings.{AreNamings}
use Rattle.pa_audit_heap.proofs.namings.namings_of.Goals as goal

pub returns : goal.returns
returns c =
    let l = c.loop-journal in
    let past = c.loop-journal-test.false in
    let end = l.auto.journal-index-end in
    let same : l.partition ≡ length c.args.roots.now = omega (arith, l.invariant.at) in
    subst (λ q. AreNamings (journal_at c.args.roots.now) q 0 c.args.size l.namings.items) same l.invariant.namings
