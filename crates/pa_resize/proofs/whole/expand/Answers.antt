use Rattle.std.proofs.Common.{sym, subst, arith}
use Rattle.pa_trace.specs.Limits.{IsWithinLimits}
use Rattle.pa_resize.proofs.Scripts.{script_ends}
use Rattle.pa_resize.proofs.whole.expand.Goals as goal

pub returns-clause-expanded : goal.returns-clause-expanded
returns-clause-expanded c =
    script_ends c.args.script.now c.play_all.new.player c.in_ok-trace.trace c.in_ok-trace.run' c.in_ok-verdicts.verdicts.items
    c.in_ok-verdicts.ensures c.in_ok-trace.ensures

pub returns-clause-within : goal.returns-clause-within
returns-clause-within c = subst IsWithinLimits (sym c.in_ok-trace.ensures.trace) c.in_ok-verdicts.ensures.going.within

pub new-requires-clause-version : goal.new-requires-clause-version
new-requires-clause-version c = (omega arith, omega arith)

pub new-requires-clause-within : goal.new-requires-clause-within
new-requires-clause-within c = c.requires.head
