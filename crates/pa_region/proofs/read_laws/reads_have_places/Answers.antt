use Rattle.pa_region.proofs.WholeReads.{reads_by_place}
use Rattle.pa_region.proofs.read_laws.reads_have_places.Goals as goal

pub returns : goal.returns
returns c history v reads = reads_by_place history v reads
