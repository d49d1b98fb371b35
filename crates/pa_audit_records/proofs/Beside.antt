-- The records beside the ops of the lines, as far as both lists go.
use Rattle.std.proofs.Common.{◌≡◌, ℕ, List, ◌++◌, map, drop, length, zip}
use Rattle.pa_trace.specs.declared.script.Line.{Line}
use Rattle.pa_trace.specs.declared.script.Rules.{Rules}
use Rattle.pa_record.specs.declared.entry.Entry.{Entry}
use Rattle.pa_rules.specs.declared.played.Played.{Played}
use Rattle.pa_rules.specs.Played.{op_lines, beside, played}

-- these records, and after them the rest of the lines, from line n of this phase on, beside the rest of the entries, are all records
abbrev pub BesideSoFar : Rules → List Line → List Entry → List Line → ℕ → ℕ → List Played → Type 0
BesideSoFar rules ls es rest n phase xs = xs ++ map beside (zip (op_lines rules n phase rest) (drop (length xs) es)) ≡ played rules ls es
