use Rattle.pa_slot.specs.Titles.{poison}
use Rattle.pa_region.proofs.Awareness.{tells_aware}
use Rattle.pa_region.proofs.rule.poison_as.Goals as goal

pub store-requires : goal.store-requires
store-requires g c = (
  c.requires.region.0,
  c.requires.region.1,
  tells_aware c.args.table.now.shared.table_id.slots c.args.seat.now.id c.args.word c.args.seat.now.me (λ _. poison)
      (λ _. g.T.Telling.then c.args.seat.now.me poison) c.requires.allowed,
)
