use Rattle.pa_delay_runner.proofs.run.play_delayed.Given as goal
use Rattle.pa_trace.specs.Rules.{rules_of}

-- the region that was just made, and the trace's first plain partition
abbrev pub ghosts-play_in : goal.ghosts-play_in
ghosts-play_in g a = record { region = a.region; plain_from = (rules_of a.trace.now).plain_from }
