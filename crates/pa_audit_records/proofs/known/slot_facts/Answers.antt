use Rattle.std.proofs.Common.{◌-◌, arith, subst}
use Rattle.pa_audit_records.specs.ByKeys.{value_at}
use Rattle.pa_audit_records.specs.Keys.{name_key}
use Rattle.pa_audit_records.specs.Tables.{Puts}
use Rattle.pa_audit_records.specs.declared.known.SlotFacts.{SlotFacts}
use Rattle.pa_audit_records.proofs.Knowing.{told_here}
use Rattle.pa_audit_records.proofs.known.slot_facts.Goals as goal

pub loop-at-preserved-in-Continue-1 : goal.loop-at-preserved-in-Continue-1
loop-at-preserved-in-Continue-1 c =
    let f = value_at c.loop-at.slots in
    let g = value_at c.put.new.self in
    let facts : SlotFacts = record { usable = c.in-Made.usable; plain = c.is_plain-plain.result } in
    let puts : Puts f g (name_key c.in-Made.seen.slot) facts =
    subst (λ k. Puts f g k facts) c.key.ensures.key c.in_ok-put.ensures.puts in
    record {
      below = omega arith;
      facts =
          told_here c.args.records.now (c.loop-at.at - 1) c.loop-at.at _ c.in-Made.seen facts f g (omega arith) (omega arith)
          c.in-Made.is c.is_plain-plain.ensures c.key.ensures.start puts c.loop-at.invariant.facts;
    }
