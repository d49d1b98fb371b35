use Rattle.std.proofs.Common.{drop, take, ◌∙◌, ap}
use Rattle.std.proofs.lemmas.List.{drop-take}
use Rattle.pa_audit_holders.proofs.lists.FreeSlots.keep.Goals as goal

pub returns-then-count-len : goal.returns-then-count-len
returns-then-count-len c =
    ap (drop c.self.inside.unused) c.truncate.ensures.items ∙ drop-take c.self.inside.unused c.args.count c.self.inside.slots.items ∙
    ap (take c.args.count) c.self.view_is
