use Rattle.pa_runner.proofs.whole.run_trace.Given as goal
use Rattle.pa_trace.specs.Rules.{rules_of}

-- the region that was just made, and the trace's first plain partition
abbrev pub ghosts-run_in : goal.ghosts-run_in
ghosts-run_in g a = record { region = a.region; plain_from = (rules_of a.trace.now).plain_from }
