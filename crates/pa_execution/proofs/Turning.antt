-- Turns go through a trace in order, and phases end with turns.
use Rattle.std.proofs.Common.{◌≡◌, ℕ, zero, suc, ◌+◌, ◌<◌, ◌≤◌, List, [], ◌∷◌, length, ap, arith, inl, inr, cond, refl}
use Rattle.std.specs.Prelude.{Contains, AllPairs, count_by}
use Rattle.std.proofs.lemmas.List.Sums.{sum_by-cons}
use Rattle.pa_lists.proofs.Members.{not_in_none, in_cases}
use Rattle.pa_lists.proofs.Pairs.{pairs_none, pairs_cons}
use Rattle.pa_trace.specs.declared.script.Line.{Line}
use Rattle.pa_trace.specs.declared.script.Line.TheVariants.{Phase, Do}
use Rattle.pa_trace.specs.declared.script.Op.{Op}
use Rattle.pa_trace.specs.declared.script.Rules.{Rules}
use Rattle.pa_trace.specs.declared.script.Trace.{Trace}
use Rattle.pa_trace.specs.Rules.{rules_of}
use Rattle.pa_rules.specs.Played.{OpLine, op_lines}
use Rattle.pa_rules.specs.Legal.{is_phase, phases_in}
use Rattle.pa_rules.proofs.Lined.{lines_from}
use Rattle.pa_execution.specs.Turns.{Manner, Beside, InTurn, turn_of, turns_in, lines_until, AllTurnsGo}

abbrev op_line : Rules → ℕ → ℕ → ℕ → Op → OpLine
op_line rules n phase thread op = record { line = n; thread = thread; phase = phase; rules = rules; op = op }

-- ---- lines by the phases that they end

-- a line's number is one of these lines'
lines_below : (rules : Rules) (n phase : ℕ) (ls : List Line) (a : OpLine) → Contains (op_lines rules n phase ls) a → a.line < n + length ls
lines_below rules n phase [] a among = absurd (not_in_none a among)
lines_below rules n phase (Phase ∷ ls) a among = let again = lines_below rules (n + 1) (phase + 1) ls a among in omega arith
lines_below rules n phase (Do thread op ∷ ls) a among =
    elim (in_cases (op_line rules n phase thread op) a (op_lines rules (n + 1) phase ls) among) [
      | inl e ↦ let same : n ≡ a.line = ap (λ (z : OpLine). z.line) e in omega arith
      | inr rest ↦ let again = lines_below rules (n + 1) phase ls a rest in omega arith
    ]

-- an op of the first m phases is before the end of the last of these, and one that is before that is of these
lines_early : (rules : Rules) (n phase m : ℕ) (ls : List Line) (a : OpLine) → Contains (op_lines rules n phase ls) a → a.phase < phase + m →
    a.line < n + lines_until m ls
lines_early rules n phase zero ls a among early = absurd (let from = (lines_from rules n phase ls a among).1 in omega arith)
lines_early rules n phase (suc m) [] a among early = absurd (not_in_none a among)
lines_early rules n phase (suc m) (Phase ∷ ls) a among early =
    let again = lines_early rules (n + 1) (phase + 1) m ls a among (omega arith) in omega arith
lines_early rules n phase (suc m) (Do thread op ∷ ls) a among early =
    elim (in_cases (op_line rules n phase thread op) a (op_lines rules (n + 1) phase ls) among) [
      | inl e ↦ let same : n ≡ a.line = ap (λ (z : OpLine). z.line) e in omega arith
      | inr rest ↦ let again = lines_early rules (n + 1) phase (suc m) ls a rest early in omega arith
    ]

lines_only : (rules : Rules) (n phase m : ℕ) (ls : List Line) (a : OpLine) → Contains (op_lines rules n phase ls) a →
    a.line < n + lines_until m ls → a.phase < phase + m
lines_only rules n phase zero ls a among early = absurd (let from = (lines_from rules n phase ls a among).0 in omega arith)
lines_only rules n phase (suc m) [] a among early = absurd (not_in_none a among)
lines_only rules n phase (suc m) (Phase ∷ ls) a among early =
    let again = lines_only rules (n + 1) (phase + 1) m ls a among (omega arith) in omega arith
lines_only rules n phase (suc m) (Do thread op ∷ ls) a among early =
    elim (in_cases (op_line rules n phase thread op) a (op_lines rules (n + 1) phase ls) among) [
      | inl e ↦ let same : phase ≡ a.phase = ap (λ (z : OpLine). z.phase) e in omega arith
      | inr rest ↦ lines_only rules (n + 1) phase (suc m) ls a rest (omega arith)
    ]

-- there are no more lines than these, and all are before the end of the last phase
lines_few : (m : ℕ) (ls : List Line) → lines_until m ls ≤ length ls
lines_few zero ls = omega arith
lines_few (suc m) [] = omega arith
lines_few (suc m) (Phase ∷ ls) = let again = lines_few m ls in omega arith
lines_few (suc m) (Do thread op ∷ ls) = let again = lines_few (suc m) ls in omega arith

lines_all : (m : ℕ) (ls : List Line) → count_by is_phase ls < m → lines_until m ls ≡ length ls
lines_all zero ls few = absurd (omega arith)
lines_all (suc m) [] few = refl
lines_all (suc m) (Phase ∷ ls) few =
    let more = sum_by-cons (λ (l : Line). cond (is_phase l) 1 0) Phase ls in
    ap suc (lines_all m ls (omega arith))
lines_all (suc m) (Do thread op ∷ ls) few =
    let more = sum_by-cons (λ (l : Line). cond (is_phase l) 1 0) (Do thread op) ls in
    ap suc (lines_all (suc m) ls (omega arith))

-- ---- turns rise

turn_after : (way : Manner) (rules : Rules) (n phase thread : ℕ) (op : Op) (ls : List Line) (a : OpLine) →
    Contains (op_lines rules (n + 1) phase ls) a → turn_of way (op_line rules n phase thread op) ≤ turn_of way a
turn_after Beside rules n phase thread op ls a among = (lines_from rules (n + 1) phase ls a among).1
turn_after InTurn rules n phase thread op ls a among = let from = (lines_from rules (n + 1) phase ls a among).0 in omega arith

turns_rise : (way : Manner) (rules : Rules) (n phase : ℕ) (ls : List Line) →
    AllPairs (λ (a b : OpLine). turn_of way a ≤ turn_of way b) (op_lines rules n phase ls)
turns_rise way rules n phase [] = pairs_none (λ (a b : OpLine). turn_of way a ≤ turn_of way b)
turns_rise way rules n phase (Phase ∷ ls) = turns_rise way rules (n + 1) (phase + 1) ls
turns_rise way rules n phase (Do thread op ∷ ls) =
    pairs_cons (λ (a b : OpLine). turn_of way a ≤ turn_of way b) (op_line rules n phase thread op) (op_lines rules (n + 1) phase ls)
    (λ a among. turn_after way rules n phase thread op ls a among) (turns_rise way rules (n + 1) phase ls)

-- there is a turn
pub some_turn : (way : Manner) (t : Trace) → 1 ≤ turns_in way t
some_turn Beside t = omega arith
some_turn InTurn t = omega arith

pub all_turns_go : AllTurnsGo
all_turns_go Beside t = record {
  first = λ o among. (lines_from (rules_of t) 2 1 t.lines o among).1;
  there = λ o among.
      let every = lines_all (phases_in t.lines) t.lines (omega arith) in
      let below = lines_below (rules_of t) 2 1 t.lines o among in
      let phase = lines_only (rules_of t) 2 1 (phases_in t.lines) t.lines o among (omega arith) in
      omega arith;
  order = turns_rise Beside (rules_of t) 2 1 t.lines;
  last = λ n low high. low;
  high = λ n low high. high;
  until = λ n o low among early. early;
  only = λ n o low among early. early;
  whole = refl;
}
all_turns_go InTurn t = record {
  first = λ o among. let from = (lines_from (rules_of t) 2 1 t.lines o among).0 in omega arith;
  there = λ o among. let below = lines_below (rules_of t) 2 1 t.lines o among in omega arith;
  order = turns_rise InTurn (rules_of t) 2 1 t.lines;
  last = λ n low high. omega arith;
  high = λ n low high. let few = lines_few n t.lines in omega arith;
  until = λ n o low among early. let line = lines_early (rules_of t) 2 1 n t.lines o among (omega arith) in omega arith;
  only = λ n o low among early. let phase = lines_only (rules_of t) 2 1 n t.lines o among (omega arith) in omega arith;
  whole = let every = lines_all (phases_in t.lines) t.lines (omega arith) in omega arith;
}
