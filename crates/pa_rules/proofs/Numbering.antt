-- The records of a trace's lines are in the order of the lines, and have a line each.
use Rattle.std.proofs.Common.{◌≡◌, ◌≢◌, ℕ, ◌+◌, ◌<◌, ◌≤◌, List, [], ◌∷◌, map, sym, ap, subst, arith, inl, inr}
use Rattle.std.specs.Prelude.{Contains, AllPairs}
use Rattle.pa_trace.specs.declared.script.Rules.{Rules}
use Rattle.pa_trace.specs.declared.script.Line.{Line}
use Rattle.pa_trace.specs.declared.script.Line.TheVariants.{Phase, Do}
use Rattle.pa_lists.proofs.Members.{not_in_none, in_cases}
use Rattle.pa_lists.proofs.Pairs.{pairs_none, pairs_cons, pairs_head, pairs_tail}
use Rattle.pa_lists.proofs.Joined.{map_in}
use Rattle.pa_rules.specs.declared.played.Played.{Played}
use Rattle.pa_rules.specs.Played.{OpLine, AreLines, op_lines, op_line_of}
use Rattle.pa_rules.specs.Laws.{LinesDiffer}

abbrev EarlierOp : OpLine → OpLine → Type 0
EarlierOp a b = a.line < b.line

abbrev EarlierRecord : Played → Played → Type 0
EarlierRecord x y = x.line < y.line

from_line : (rules : Rules) (n phase : ℕ) (ls : List Line) (a : OpLine) → Contains (op_lines rules n phase ls) a → n ≤ a.line
from_line rules n phase [] a among = absurd (not_in_none a among)
from_line rules n phase (Phase ∷ ls) a among = let ih = from_line rules (n + 1) (phase + 1) ls a among in omega arith
from_line rules n phase (Do thread op ∷ ls) a among =
    elim (in_cases (record { line = n; thread = thread; phase = phase; rules = rules; op = op }) a (op_lines rules (n + 1) phase ls) among) [
      | inl e ↦ let same : n ≡ a.line = ap (λ (z : OpLine). z.line) e in omega arith
      | inr rest ↦ let ih = from_line rules (n + 1) phase ls a rest in omega arith
    ]

ops_rise : (rules : Rules) (n phase : ℕ) (ls : List Line) → AllPairs EarlierOp (op_lines rules n phase ls)
ops_rise rules n phase [] = pairs_none EarlierOp
ops_rise rules n phase (Phase ∷ ls) = ops_rise rules (n + 1) (phase + 1) ls
ops_rise rules n phase (Do thread op ∷ ls) =
    pairs_cons EarlierOp (record { line = n; thread = thread; phase = phase; rules = rules; op = op }) (op_lines rules (n + 1) phase ls)
    (λ a among. let low = from_line rules (n + 1) phase ls a among in omega arith)
    (ops_rise rules (n + 1) phase ls)

records_rise : (ps : List Played) → AllPairs EarlierOp (map op_line_of ps) → AllPairs EarlierRecord ps
records_rise [] h = pairs_none EarlierRecord
records_rise (x ∷ xs) h =
    pairs_cons EarlierRecord x xs
    (λ y among. pairs_head EarlierOp (op_line_of x) (op_line_of y) (map op_line_of xs) h (map_in op_line_of xs y among))
    (records_rise xs (pairs_tail EarlierOp (op_line_of x) (map op_line_of xs) h))

pub lines_rise : (rules : Rules) (ls : List Line) (ps : List Played) → AreLines rules ls ps →
    AllPairs (λ (x y : Played). x.line < y.line) ps
lines_rise rules ls ps h = records_rise ps (subst (λ z. AllPairs EarlierOp z) (sym h) (ops_rise rules 2 1 ls))

-- lines that rise differ
pub rising_differ : (ps : List Played) → AllPairs (λ (x y : Played). x.line < y.line) ps → AllPairs (λ (x y : Played). x.line ≢ y.line) ps
rising_differ ps h i j d before below e = let up = h i j d before below in omega arith

pub lines_differ : LinesDiffer
lines_differ rules ls ps h = rising_differ ps (lines_rise rules ls ps h)
