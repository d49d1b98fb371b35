use Rattle.pa_region.proofs.Standing.{step_stands}
use Rattle.pa_region.proofs.read_laws.a_step_stands_at_its_number.Goals as goal

pub returns : goal.returns
returns c logs t history step word value adds chain logged = step_stands logs t history step word value adds chain logged
