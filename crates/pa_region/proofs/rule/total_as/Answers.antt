use Rattle.std.proofs.Common.{◌+◌, ◌%◌, ◌^◌}
use Rattle.pa_region.proofs.Awareness.{tells_aware}
use Rattle.pa_region.proofs.rule.total_as.Goals as goal

pub fetch_add-requires : goal.fetch_add-requires
fetch_add-requires g c = (
  c.requires.region.0,
  c.requires.region.1,
  tells_aware c.args.table.now.shared.table_id.slots c.args.seat.now.id c.args.place c.args.seat.now.me (λ n. (n + c.args.bytes) % 2 ^ 64)
      (g.T.Telling.then c.args.seat.now.me) c.requires.allowed,
)
