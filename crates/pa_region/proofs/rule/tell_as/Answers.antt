use Rattle.pa_region.proofs.Awareness.{tells_aware}
use Rattle.pa_region.proofs.rule.tell_as.Goals as goal

pub load-requires : goal.load-requires
load-requires g c = (
  c.requires.region.0,
  c.requires.region.1,
  tells_aware c.args.table.now.shared.table_id.slots c.args.seat.now.id 0 c.args.seat.now.me (λ n. n)
      (g.T.Telling.then c.args.seat.now.me) c.requires.allowed,
)
