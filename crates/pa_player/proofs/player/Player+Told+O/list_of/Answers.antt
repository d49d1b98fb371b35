use Rattle.pa_player.proofs.OneList.{few_rows}
use Rattle.pa_player.proofs.player.Player+Told+O.list_of.Goals as goal

pub cache_place-requires-clause-row : goal.cache_place-requires-clause-row
cache_place-requires-clause-row g c =
    few_rows c.args.thread c.args.self.now.partitions c.args.partition c.requires.thread c.requires.partitions c.requires.partition
