-- The records of a trace within the limits are by its threads, and their ops within the limits too.
use Rattle.std.proofs.Common.{ℕ, ◌+◌, ◌<◌, List, [], ◌∷◌, subst, inl, inr}
use Rattle.std.specs.Prelude.{Contains}
use Rattle.std.specs.List.{AllByRecursion}
use Rattle.pa_trace.specs.declared.script.Rules.{Rules}
use Rattle.pa_trace.specs.declared.script.Trace.{Trace}
use Rattle.pa_trace.specs.Rules.{rules_of}
use Rattle.pa_trace.specs.declared.script.Line.{Line}
use Rattle.pa_trace.specs.declared.script.Line.TheVariants.{Phase, Do}
use Rattle.pa_trace.specs.Limits.{IsWithinLimits, IsLineWithin, IsOpWithin}
use Rattle.pa_lists.proofs.Members.{not_in_none, in_cases}
use Rattle.pa_lists.proofs.Joined.{map_in}
use Rattle.pa_rules.specs.declared.played.Played.{Played}
use Rattle.pa_rules.specs.Played.{OpLine, AreLines, op_lines, op_line_of}

-- an op line of lines that are within the limits is
abbrev IsOpLineWithin : ℕ → ℕ → OpLine → Type 0
IsOpLineWithin partitions threads a = (a.thread < threads) × IsOpWithin partitions a.op

ops_within : (rules : Rules) (partitions threads n phase : ℕ) (ls : List Line) (a : OpLine)
    → AllByRecursion (IsLineWithin partitions threads) ls → Contains (op_lines rules n phase ls) a → IsOpLineWithin partitions threads a
ops_within rules partitions threads n phase [] a h among = absurd (not_in_none a among)
ops_within rules partitions threads n phase (Phase ∷ ls) a h among = ops_within rules partitions threads (n + 1) (phase + 1) ls a h.1 among
ops_within rules partitions threads n phase (Do thread op ∷ ls) a h among = elim
    (in_cases (record { line = n; thread = thread; phase = phase; rules = rules; op = op }) a (op_lines rules (n + 1) phase ls) among) [
      | inl e ↦ subst (λ z. IsOpLineWithin partitions threads z) e h.0
      | inr rest ↦ ops_within rules partitions threads (n + 1) phase ls a h.1 rest
    ]

pub records_within : (t : Trace) (ps : List Played) (x : Played) → IsWithinLimits t → AreLines (rules_of t) t.lines ps → Contains ps x →
    (x.thread < t.threads) × IsOpWithin t.partitions x.op
records_within t ps x limits lines among =
    ops_within (rules_of t) t.partitions t.threads 2 1 t.lines (op_line_of x) limits.lines
    (subst (λ z. Contains z (op_line_of x)) lines (map_in op_line_of ps x among))
