use Rattle.pa_region.proofs.AtNumber.{word_found}
use Rattle.pa_region.proofs.read_laws.a_look_finds_its_word.Goals as goal

pub returns : goal.returns
returns c logs t history word chain looked = word_found word history chain.legal (chain.looks word looked)
