use Rattle.pa_region.proofs.ReadKeeps.{read_event, read_keeps}
use Rattle.pa_region.proofs.laws.reads_keep_the_rule.Goals as goal

pub returns : goal.returns
returns c t place words views i v k at_i has stake below =
    (read_event words views i v t place k at_i has below, read_keeps words views i v t place k at_i has stake below)
