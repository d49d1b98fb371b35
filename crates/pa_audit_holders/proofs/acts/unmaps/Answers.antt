use Rattle.std.proofs.Common.{ap}
use Rattle.pa_dense.specs.Act.{act_of}
use Rattle.pa_audit_holders.proofs.Acting.{unmap_is, unmap_was}
use Rattle.pa_audit_holders.proofs.acts.unmaps.Goals as goal

pub returns-in-Unmap : goal.returns-in-Unmap
returns-in-Unmap c = (
  λ yes. unmap_is (act_of c.args.act) c.in-Unmap.pool c.in-Unmap.back c.args.slot (ap act_of c.in-Unmap.is) (c.is_slot.ensures.0 yes),
  λ h. c.is_slot.ensures.1 (unmap_was (act_of c.args.act) c.in-Unmap.pool c.in-Unmap.back c.args.slot (ap act_of c.in-Unmap.is) h),
)
