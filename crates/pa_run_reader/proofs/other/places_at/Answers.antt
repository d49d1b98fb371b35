use Rattle.std.proofs.Common.{refl}
use Rattle.pa_run_reader.specs.Lines.{places_in}
use Rattle.pa_run_reader.proofs.other.places_at.Goals as goal

pub returns-clause-read : goal.returns-clause-read
unfolding places_in
returns-clause-read c =
    rw (
      c.in_ok-phase.ensures.read,
      c.in_ok-partition.ensures.read,
      c.in_ok-live.ensures.read,
      c.in_ok-quarantined.ensures.read,
      c.in_ok-cached.ensures.read,
      c.in_ok-root.ensures.read,
    ) refl
