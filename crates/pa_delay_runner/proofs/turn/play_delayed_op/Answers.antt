use Rattle.std.proofs.Common.{IfOk, sym, subst}
use Rattle.pa_trace.specs.declared.script.Op.{Op}
use Rattle.pa_heap.specs.Waiting.{PlaysDelayed}
use Rattle.pa_delay_runner.proofs.Beside.{ok_plays_beside, ok_waits_beside, plays_beside, waits_beside}
use Rattle.pa_delay_runner.proofs.turn.play_delayed_op.Goals as goal

pub returns-in-Alloc-clause-plays : goal.returns-in-Alloc-clause-plays
returns-in-Alloc-clause-plays g c =
    subst (λ (op : Op). IfOk c.alloc.result (λ answer.
    PlaysDelayed c.args.due.line op answer c.args.worker.now c.args.queue.now c.alloc.new.self c.args.queue.now))
    (sym c.in-Alloc.is) (ok_plays_beside c.args.due.line _ c.args.worker.now c.alloc.new.self c.args.queue.now c.requires.waits
    c.alloc.result c.alloc.ensures.plays tt)

pub returns-in-Alloc-clause-waits : goal.returns-in-Alloc-clause-waits
returns-in-Alloc-clause-waits g c =
    ok_waits_beside c.slots_stay_seen.ensures c.args.due.line _ c.args.worker.now c.alloc.new.self c.args.queue.now.slots c.requires.waits
    c.alloc.result c.alloc.ensures.plays

pub returns-in-Copy-clause-plays : goal.returns-in-Copy-clause-plays
returns-in-Copy-clause-plays g c =
    subst (λ (op : Op). PlaysDelayed c.args.due.line op c.copy.result c.args.worker.now c.args.queue.now c.copy.new.self c.args.queue.now)
    (sym c.in-Copy.is) (plays_beside c.args.due.line _ c.copy.result c.args.worker.now c.copy.new.self c.args.queue.now c.requires.waits
    c.copy.ensures.plays tt)

pub returns-in-Copy-clause-waits : goal.returns-in-Copy-clause-waits
returns-in-Copy-clause-waits g c =
    waits_beside c.slots_stay_seen.ensures c.args.due.line _ c.copy.result c.args.worker.now c.copy.new.self c.args.queue.now.slots
    c.requires.waits c.copy.ensures.plays

pub returns-in-Reset-clause-plays : goal.returns-in-Reset-clause-plays
returns-in-Reset-clause-plays g c =
    subst (λ (op : Op). IfOk c.reset_delayed.result (λ answer.
    PlaysDelayed c.args.due.line op answer c.args.worker.now c.args.queue.now c.reset_delayed.new.self c.reset_delayed.new.queue))
    (sym c.in-Reset.is) c.reset_delayed.ensures.plays

pub returns-in-Free-clause-plays : goal.returns-in-Free-clause-plays
returns-in-Free-clause-plays g c =
    subst (λ (op : Op). IfOk c.free_delayed.result (λ answer.
    PlaysDelayed c.args.due.line op answer c.args.worker.now c.args.queue.now c.free_delayed.new.self c.free_delayed.new.queue))
    (sym c.in-Free.is) c.free_delayed.ensures.plays

pub returns-in-Write-clause-plays : goal.returns-in-Write-clause-plays
returns-in-Write-clause-plays g c =
    subst (λ (op : Op). PlaysDelayed c.args.due.line op c.write.result c.args.worker.now c.args.queue.now c.write.new.self c.args.queue.now)
    (sym c.in-Write.is) (plays_beside c.args.due.line _ c.write.result c.args.worker.now c.write.new.self c.args.queue.now c.requires.waits
    c.write.ensures.plays tt)

pub returns-in-Write-clause-waits : goal.returns-in-Write-clause-waits
returns-in-Write-clause-waits g c =
    waits_beside c.slots_stay_seen.ensures c.args.due.line _ c.write.result c.args.worker.now c.write.new.self c.args.queue.now.slots
    c.requires.waits c.write.ensures.plays

pub returns-in-Read-clause-plays : goal.returns-in-Read-clause-plays
returns-in-Read-clause-plays g c =
    subst (λ (op : Op). PlaysDelayed c.args.due.line op c.deref.result c.args.worker.now c.args.queue.now c.deref.new.self c.args.queue.now)
    (sym c.in-Read.is) (plays_beside c.args.due.line _ c.deref.result c.args.worker.now c.deref.new.self c.args.queue.now c.requires.waits
    c.deref.ensures.plays tt)

pub returns-in-Read-clause-waits : goal.returns-in-Read-clause-waits
returns-in-Read-clause-waits g c =
    waits_beside c.slots_stay_seen.ensures c.args.due.line _ c.deref.result c.args.worker.now c.deref.new.self c.args.queue.now.slots
    c.requires.waits c.deref.ensures.plays

pub returns-in-Swap-clause-plays : goal.returns-in-Swap-clause-plays
returns-in-Swap-clause-plays g c =
    subst (λ (op : Op). IfOk c.exchange.result (λ answer.
    PlaysDelayed c.args.due.line op answer c.args.worker.now c.args.queue.now c.exchange.new.self c.args.queue.now))
    (sym c.in-Swap.is) (ok_plays_beside c.args.due.line _ c.args.worker.now c.exchange.new.self c.args.queue.now c.requires.waits
    c.exchange.result c.exchange.ensures.plays tt)

pub returns-in-Swap-clause-waits : goal.returns-in-Swap-clause-waits
returns-in-Swap-clause-waits g c =
    ok_waits_beside c.slots_stay_seen.ensures c.args.due.line _ c.args.worker.now c.exchange.new.self c.args.queue.now.slots
    c.requires.waits c.exchange.result c.exchange.ensures.plays

pub returns-in-Purge-clause-plays : goal.returns-in-Purge-clause-plays
returns-in-Purge-clause-plays g c =
    subst (λ (op : Op). IfOk c.purge_delayed.result (λ answer.
    PlaysDelayed c.args.due.line op answer c.args.worker.now c.args.queue.now c.purge_delayed.new.self c.purge_delayed.new.queue))
    (sym c.in-Purge.is) c.purge_delayed.ensures.plays
