use Rattle.std.proofs.Common.{length, get_or, map, sym, subst, arith, refl}
use Rattle.std.proofs.lemmas.List.{length-map}
use Rattle.pa_record.specs.declared.pool.PoolEntry.{PoolEntry}
use Rattle.pa_audit_heap.specs.Parts.{ComesAt}
use Rattle.pa_audit_heap.proofs.Playing.{no_entry, line_there}
use Rattle.pa_audit_heap.proofs.Ordering.{order_more, order_stops, order_past}
use Rattle.pa_audit_heap.proofs.Telling.{tells_none}
use Rattle.pa_audit_heap.proofs.pool.come_in_order.Goals as goal

pub loop-entry-init : goal.loop-entry-init
loop-entry-init c =
    let lines = map (λ (e : PoolEntry). e.line) c.args.pools.now in
    record { at = refl; order = record { seen = c.new-order.ensures c.args.records.now lines; met = λ i less. absurd (omega arith) } }

pub returns-then-not-admits : goal.returns-then-not-admits
returns-then-not-admits c =
    let l = c.loop-entry in
    let pools = c.args.pools.now in
    let ps = c.args.records.now in
    let lines = map (λ (e : PoolEntry). e.line) pools in (
      subst (λ i. ComesAt ps pools i → ⊥) (sym l.invariant.at)
          (order_stops ps lines l.entry-index
          (get_or pools l.entry-index no_entry).line l.order c.admits.new.self c.admits.result l.invariant.order
          (line_there pools l.entry-index c.loop-entry-test.true) c.if-not-admits.true c.admits.ensures),
      λ j less. l.invariant.order.met j (omega arith),
    )

pub loop-entry-preserved : goal.loop-entry-preserved
loop-entry-preserved c =
    let l = c.loop-entry in
    let pools = c.args.pools.now in
    let ps = c.args.records.now in
    let lines = map (λ (e : PoolEntry). e.line) pools in
    record {
      at = omega arith;
      order = order_more ps lines l.entry-index (get_or pools l.entry-index no_entry).line l.order c.admits.new.self c.admits.result
          c.requires.threads l.invariant.order
          (line_there pools l.entry-index c.loop-entry-test.true) c.if-not-admits.false c.admits.ensures;
    }

pub returns : goal.returns
returns c =
    let l = c.loop-entry in
    let pools = c.args.pools.now in
    let ps = c.args.records.now in
    let lines = map (λ (e : PoolEntry). e.line) pools in
    let past = c.loop-entry-test.false in
    let size = length-map pools (λ (e : PoolEntry). e.line) in
    tells_none (ComesAt ps pools) (length pools) (λ j less. l.invariant.order.met j (omega arith))
    (λ j more. order_past ps lines j (omega arith))
