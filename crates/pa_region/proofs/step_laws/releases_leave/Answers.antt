use Rattle.pa_region.proofs.Pieces.{handle_piece}
use Rattle.pa_region.proofs.Releases.{returned_holds, kept_holds}
use Rattle.pa_region.proofs.step_laws.releases_leave.Goals as goal

pub returns : goal.returns
returns c step t word before after release has made =
    let piece = handle_piece step t before.view has in (
      (λ back. returned_holds step t word before after release piece made back),
      (λ other. kept_holds step t word before after release piece made other),
    )
