use Rattle.pa_region.proofs.NextFree.{others_free}
use Rattle.pa_region.proofs.read_laws.others_have_the_free.Goals as goal

pub returns : goal.returns
returns c v t history r k chain freed = others_free v t history r k chain freed
