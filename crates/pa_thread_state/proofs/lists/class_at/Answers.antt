use Rattle.std.proofs.Common.{◌+◌, ◌%◌, ◌∙◌, ap, ap₂, arith}
use Rattle.pa_rules.proofs.Versions.{real_in}
use Rattle.pa_buckets.specs.Limits.{first_class}
use Rattle.pa_rules.specs.Sizes.{class_total}
use Rattle.pa_thread_state.proofs.Places.{turn_real}
use Rattle.pa_thread_state.proofs.lists.class_at.Goals as goal

pub class_numbered-requires : goal.class_numbered-requires
class_numbered-requires c =
    let real = real_in c.args.version (first_class c.args.version + c.args.place % class_total c.args.version)
    (turn_real c.args.version c.args.place) in
    let rest = ap (λ n. c.args.place % n) c.class_total.ensures.count in
    omega (arith, real, rest, c.first_class.ensures)

pub returns : goal.returns
returns c = c.class_numbered.ensures ∙ ap₂ (λ a b. a + c.args.place % b) c.first_class.ensures c.class_total.ensures.count
