use Rattle.std.proofs.Common.{◌+◌, take, sym, subst}
use Rattle.pa_audit_records.specs.ByKeys.{value_at}
use Rattle.std.proofs.lemmas.Option.{slice_get-get_or}
use Rattle.pa_audit_report.specs.Counts.{HasCounted}
use Rattle.pa_audit_report.proofs.Counting.{counted_quiet, counted_other, counted_more}
use Rattle.pa_audit_report.proofs.counts.count_record.Goals as goal

pub returns-in-None : goal.returns-in-None
returns-in-None c =
    let ps = c.args.records.now in
    counted_quiet (value_at c.args.homes.now) c.args.partition c.args.at ps _ c.args.count
    (slice_get-get_or ps c.args.at _ c.requires.within) c.in-None.ensures.none c.requires.counted

pub returns-in-None-bytes_in : goal.returns-in-None-bytes_in
returns-in-None-bytes_in c =
    let ps = c.args.records.now in
    counted_other (value_at c.args.homes.now) c.args.partition c.args.at ps _ c.in-Some.stepped c.args.count
    (slice_get-get_or ps c.args.at _ c.requires.within) c.in-Some.ensures.some c.in-None-bytes_in.ensures.none c.requires.counted

pub returns-in-Some-bytes_in : goal.returns-in-Some-bytes_in
returns-in-Some-bytes_in c =
    let ps = c.args.records.now in
    let at = value_at c.args.homes.now in
    subst (λ z. HasCounted at c.args.partition (take (c.args.at + 1) ps) z) (sym c.raised.ensures)
    (counted_more at c.args.partition c.args.at c.in-Some-bytes_in.bytes ps _ c.in-Some.stepped c.args.count
    (slice_get-get_or ps c.args.at _ c.requires.within) c.in-Some.ensures.some c.in-Some-bytes_in.ensures.some
    c.in-Some-bytes_in.ensures.small c.requires.counted)
