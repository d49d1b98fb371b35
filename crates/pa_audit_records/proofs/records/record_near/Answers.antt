use Rattle.std.proofs.Common.{◌≡◌, ltb, true, false, rules}
use Rattle.std.specs.List.Sorted.{IsPartitionPoint}
use Rattle.std.proofs.lemmas.Bool.{false≢true}
use Rattle.std.proofs.lemmas.List.Sorted.{IsPartitionPoint-from_clause}
use Rattle.pa_audit_records.proofs.Seeking.{lines_parted, seek_none}
use Rattle.pa_audit_records.proofs.records.record_near.Goals as goal

pub returns-else-is_on-2-clause-none : goal.returns-else-is_on-2-clause-none
returns-else-is_on-2-clause-none c =
    let ps = c.args.records.now in
    let point : IsPartitionPoint (λ x. ltb x.line c.args.line ≡ true) (λ x. ltb x.line c.args.line ≡ false) ps c.partition_point-at.result =
    IsPartitionPoint-from_clause (λ x. ltb x.line c.args.line) ps _ c.partition_point-at.ensures.partitioned
    (lines_parted ps c.args.line c.requires.rising) (λ a r q k. search rules)
    in
    seek_none ps c.args.line c.partition_point-at.result c.requires.rising point (λ on. false≢true (c.if-is_on-2.ensures.1 on))
