use Rattle.std.proofs.Common.{arith}
use Rattle.pa_place.proofs.plain_span.PlainSpan.number_of.Goals as goal
use Rattle.pa_record.proofs.SpanSteps.{size_some}

pub nonzero_div-result : goal.nonzero_div-result
nonzero_div-result c = let some = size_some c.self.inside.class c.slot_size.ensures.bound in omega arith
