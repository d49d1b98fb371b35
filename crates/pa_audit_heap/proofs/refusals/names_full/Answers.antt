use Rattle.std.proofs.Common.{refl}
use Rattle.pa_rules.specs.Roots.{journal_at}
use Rattle.pa_audit_heap.proofs.Refusing.{full_named}
use Rattle.pa_audit_heap.proofs.refusals.names_full.Goals as goal

pub returns-in-Alloc : goal.returns-in-Alloc
returns-in-Alloc c = (
  λ yes. full_named (journal_at c.args.roots.now) c.args.found c.in-Full.entry c.in-Alloc.reg c.in-Alloc.partition c.in-Alloc.size
      c.in-Full.is c.in-Alloc.is (c.has_full.ensures.0 yes),
  λ named. c.has_full.ensures.1 (named c.in-Full.entry c.in-Alloc.reg c.in-Alloc.partition c.in-Alloc.size c.in-Full.is c.in-Alloc.is),
)

pub returns-in_default-op : goal.returns-in_default-op
returns-in_default-op c = (λ yes j reg p size answer op. absurd (c.in_default-op.not-Alloc reg p size op), λ named. refl)

pub returns-in_default : goal.returns-in_default
returns-in_default c = (λ yes j reg p size answer op. absurd (c.in_default.not-Full j answer), λ named. refl)
