use Rattle.pa_execution.proofs.Example.{small_course_fits}
use Rattle.pa_execution.proofs.laws.small_course_fits.Goals as goal

pub returns : goal.returns
returns c = small_course_fits
