use Rattle.std.proofs.Common.{◌+◌, ap, sym, ◌∙◌, subst}
use Rattle.std.specs.Ordering.{nat_cmp}
use Rattle.std.specs.BTreeMap.{get}
use Rattle.pa_slot.specs.Count.{number_of}
use Rattle.pa_audit_records.specs.Keys.{word_key}
use Rattle.pa_audit_records.specs.Marks.{IsSized}
use Rattle.pa_audit_records.specs.Tables.{Puts}
use Rattle.pa_audit_order.specs.Numbers.{AreByNumber}
use Rattle.pa_audit_order.proofs.Stamping.{put_key, table_skip, table_put}
use Rattle.pa_audit_order.proofs.numbers.by_number.Goals.{in-Some+in_ok-insert, in_default}
use Rattle.pa_audit_order.proofs.numbers.by_number.Goals as goal

pub loop-record-preserved : goal.loop-record-preserved
loop-record-preserved c =
    let kind = c.args.kind in
    let ps = c.args.records.now in
    let f = get nat_cmp c.loop-record.table in
    let k = c.loop-record.record-index in
    let inv = c.loop-record.invariant in
    record {
      table = elim c.match-seen_of.branch [
        | in-Some+in_ok-insert w ↦
            let seen = w.in-Some.seen in
            let g = get nat_cmp w.insert.new.self in
            let key = w.key.ensures.key ∙ ap (word_key seen.slot) w.number.ensures in
            let put = put_key f g w.key.result c.loop-record.at w.in_ok-insert.ensures.updates.1 w.in_ok-insert.ensures.updates.2 in
            let puts = subst (λ z. Puts f g (word_key seen.slot (number_of seen.found.0)) z) inv.at
            (subst (λ z. Puts f g z c.loop-record.at) key put) in
            let sized = subst (λ z. IsSized seen.slot z) w.number.ensures w.key.ensures.sized in
            subst (λ z. AreByNumber kind ps (get nat_cmp z) (k + 1)) (sym w.table-is)
            (table_put kind ps f g k _ seen c.requires.one c.loop-record-test.true (sym w.in-Some.ensures) sized puts inv.table)
        | in_default w ↦
            subst (λ z. AreByNumber kind ps (get nat_cmp z) (k + 1)) (sym w.table-is)
            (table_skip kind ps f k _ c.loop-record-test.true (sym w.in_default.ensures) inv.table)
      ];
      at = ap (λ n. n + 1) inv.at;
    }
