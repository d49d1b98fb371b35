use Rattle.std.proofs.Common.{arith}
use Rattle.pa_text.proofs.Words.{hexes_first, hexes_more, hexes_small}
use Rattle.pa_run_reader.proofs.Wide.{hexes_end, hexes_all, hexes_bound}
use Rattle.pa_run_reader.proofs.digits.hexes.Goals as goal

pub loop-init : goal.loop-init
loop-init c = hexes_first c.args.bytes.now

pub overflow_mul-value : goal.overflow_mul-value
overflow_mul-value c = omega
    (arith, hexes_small c.loop.counter c.loop.value c.args.bytes.now c.loop.rest.now c.loop.invariant (omega arith))

pub overflow_add-value : goal.overflow_add-value
overflow_add-value c =
    omega (
      arith,
      c.in-Some.ensures.small,
      hexes_small c.loop.counter c.loop.value c.args.bytes.now c.loop.rest.now c.loop.invariant (omega arith),
    )

pub loop-preserved : goal.loop-preserved
loop-preserved c =
    hexes_more c.loop.counter c.loop.value c.in-Some.digit c.args.bytes.now c.loop.rest.now c.in-Some.after.now c.loop.invariant
    c.in-Some.ensures.read

pub returns-clause-read : goal.returns-clause-read
returns-clause-read c = hexes_all c.args.count c.loop.counter c.loop.value c.args.bytes.now c.loop.rest.now c.loop.invariant (omega arith)

pub returns-clause-small : goal.returns-clause-small
returns-clause-small c =
    hexes_bound c.args.count c.loop.value c.args.bytes.now c.loop.rest.now
    (hexes_all c.args.count c.loop.counter c.loop.value c.args.bytes.now c.loop.rest.now c.loop.invariant (omega arith))

pub returns-in_default-clause-read : goal.returns-in_default-clause-read
returns-in_default-clause-read c =
    hexes_end c.args.count c.loop.counter c.loop.value c.args.bytes.now c.loop.rest.now c.loop.invariant c.in_default.ensures.read
    (omega arith)
