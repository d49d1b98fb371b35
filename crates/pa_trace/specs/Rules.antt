-- By which rules the lines of a trace are played.
use Rattle.std.specs.Prelude.{ℕ, ◌-◌}
use Rattle.pa_trace.specs.declared.line.Head.{Head}
use Rattle.pa_trace.specs.declared.script.Rules.{Rules}
use Rattle.pa_trace.specs.declared.script.Trace.{Trace}
use Rattle.pa_trace.specs.Grammar.{head_of_trace}

-- those of version 1, for so many partitions: none of them is plain
abbrev pub first_rules : ℕ → Rules
first_rules partitions = record { version = 1; plain_from = partitions }

-- the head of version 1 with so many super pages, partitions and threads
abbrev pub first_head : ℕ → ℕ → ℕ → Head
first_head region partitions threads = record { version = 1; region = region; partitions = partitions; threads = threads; plain = 0 }

-- those of a trace with this head: of its version, and the last of its partitions are plain, as many as it tells
abbrev pub rules_by : Head → Rules
rules_by h = record { version = h.version; plain_from = h.partitions - h.plain }

-- those of a trace
abbrev pub rules_of : Trace → Rules
rules_of t = rules_by (head_of_trace t)
