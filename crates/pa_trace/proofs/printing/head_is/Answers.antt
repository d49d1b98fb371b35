use Rattle.std.proofs.Common.{arith}
use Rattle.pa_trace.proofs.Printed.{head_spelled}
use Rattle.pa_trace.proofs.printing.head_is.Goals as goal

pub returns : goal.returns
returns c = head_spelled c.args.head (omega arith) (omega arith) (omega arith) (omega arith) c.requires.version c.requires.plain
