use Rattle.pa_slot.proofs.Outcomes.{any_err, on_err}
use Rattle.pa_cli.proofs.Written.{first_written, rest_written}
use Rattle.pa_cli.proofs.output.write_printed.Goals as goal

pub returns-in_err-write_output-in-Parts-clause-part : goal.returns-in_err-write_output-in-Parts-clause-part
returns-in_err-write_output-in-Parts-clause-part g c =
    rw c.in-Parts.is (any_err c.from_residual.result _
    (first_written _ _ _ _ (rw c.as_slice-in-Parts.ensures.value at c.in_err-write_output-in-Parts.ensures.part)))

pub returns-in_ok-write_output-in-Parts-clause-part : goal.returns-in_ok-write_output-in-Parts-clause-part
returns-in_ok-write_output-in-Parts-clause-part g c =
    rw c.in-Parts.is (on_err c.write_output-in-Parts-2.result _ _ (λ part.
    rest_written _ _ _ _ _ (rw c.as_slice-in-Parts.ensures.value at c.in_ok-write_output-in-Parts.ensures.whole)
    (rw c.as_slice-in-Parts-2.ensures.value at part)) c.write_output-in-Parts-2.ensures.part)
