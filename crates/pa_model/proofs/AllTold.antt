-- What is reported at the end.
use Rattle.std.proofs.Common.{◌≡◌}
use Rattle.pa_trace.specs.declared.script.Trace.{Trace}
use Rattle.pa_trace.specs.Limits.{IsWithinLimits}
use Rattle.pa_trace.specs.Rules.{rules_of}
use Rattle.pa_record.specs.declared.run.Run.{Run}
use Rattle.pa_rules.specs.Legal.{IsFileRun}
use Rattle.pa_core_run.proofs.Whole.{files_are_played}
use Rattle.pa_player.specs.Player.{Player}
use Rattle.pa_player.specs.Changes.{phase_ended}
use Rattle.pa_model.specs.Played.{IsAllTold}
use Rattle.pa_player.specs.Playing.{rules_at, IsPlaying}
use Rattle.pa_player.specs.Told.{IsToldRun}
use Rattle.pa_player.proofs.Ended.{ends_filed, ends_printed}

-- what is reported at the end is what a run of the trace contains
pub all_told : (t : Trace) (p : Player) → rules_at p ≡ rules_of t → IsWithinLimits t → IsPlaying t.region t.partitions t.threads t.lines p →
    IsAllTold t (phase_ended p).told
all_told t p rules within playing =
    let filed : (r : Run) → IsToldRun (phase_ended p).told r → IsFileRun t r = λ r told. ends_filed t p r rules playing told in
    record {
      file = filed;
      core = λ r told. files_are_played t r within (filed r told);
      printable = λ r told. ends_printed t.region t.partitions t.threads t.lines p r playing told;
    }
