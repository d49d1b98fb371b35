-- In which manner a run goes, turn by turn: its threads play beside each other, phase by phase, or one line is played after the other.
use Rattle.std.specs.Prelude.{◌≡◌, ℕ, zero, suc, ◌+◌, ◌≤◌, ◌==◌, ◌&&◌, Bool, List, [], ◌∷◌, filter, length, Contains, AllPairs}
use Rattle.pa_trace.specs.declared.script.Line.{Line}
use Rattle.pa_trace.specs.declared.script.Line.TheVariants.{Phase, Do}
use Rattle.pa_trace.specs.declared.script.Trace.{Trace}
use Rattle.pa_trace.specs.Rules.{rules_of}
use Rattle.pa_rules.specs.Played.{OpLine, op_lines}
use Rattle.pa_rules.specs.Legal.{phases_in}

-- How the threads of a run go.
--   Beside: beside each other, phase by phase; each op leads its thread's lists
--   InTurn: one line after the other; slots may wait elsewhere too, and nothing is said of the lists
pub data Manner : Type 0 where
  Beside : Manner
  InTurn : Manner

-- the turn in which an op is played: its phase, or its line
abbrev pub turn_of : Manner → OpLine → ℕ
turn_of Beside o = o.phase
turn_of InTurn o = o.line

-- how many turns a trace has: its phases, or its lines, of which the head is the first
abbrev pub turns_in : Manner → Trace → ℕ
turns_in Beside t = phases_in t.lines
turns_in InTurn t = length t.lines + 1

-- how many lines there are up to and with the one that ends phase n, or in all
abbrev pub lines_until : ℕ → List Line → ℕ
lines_until zero ls = 0
lines_until (suc n) [] = 0
lines_until (suc n) (Phase ∷ ls) = suc (lines_until n ls)
lines_until (suc n) (Do thread op ∷ ls) = suc (lines_until (suc n) ls)

-- the last turn of phase n: the phase itself, or the line that ends it
abbrev pub last_turn : Manner → Trace → ℕ → ℕ
last_turn Beside t n = n
last_turn InTurn t n = lines_until n t.lines + 1

-- the trace's ops by its rules, on lines from 2 on, in phases from 1 on
abbrev pub ops_of : Trace → List OpLine
ops_of t = op_lines (rules_of t) 2 1 t.lines

-- the op line is thread k's, in turn n
abbrev pub is_line_in : Manner → ℕ → ℕ → OpLine → Bool
is_line_in way n k o = (turn_of way o == n) && (o.thread == k)

-- the ops of thread k in turn n, in order
abbrev pub lines_in_turn : Manner → Trace → ℕ → ℕ → List OpLine
lines_in_turn way t n k = filter (is_line_in way n k) (ops_of t)

-- Turns go through a trace in order, and phases end with turns.
--   first, there: each op has a turn of the trace
--   order: an op isn't in a turn before that of an op before it
--   last, high: each phase has a last turn
--   until, only: up to that turn there are the ops up to that phase, and no others
--   whole: the last turn of the last phase is the trace's last
pub record TurnsGo (way : Manner) (t : Trace) : Type 0 where
  pub first : (o : OpLine) → Contains (ops_of t) o → 1 ≤ turn_of way o
  pub there : (o : OpLine) → Contains (ops_of t) o → turn_of way o ≤ turns_in way t
  pub order : AllPairs (λ (a b : OpLine). turn_of way a ≤ turn_of way b) (ops_of t)
  pub last : (n : ℕ) → 1 ≤ n → n ≤ phases_in t.lines → 1 ≤ last_turn way t n
  pub high : (n : ℕ) → 1 ≤ n → n ≤ phases_in t.lines → last_turn way t n ≤ turns_in way t
  pub until : (n : ℕ) (o : OpLine) → 1 ≤ n → Contains (ops_of t) o → o.phase ≤ n → turn_of way o ≤ last_turn way t n
  pub only : (n : ℕ) (o : OpLine) → 1 ≤ n → Contains (ops_of t) o → turn_of way o ≤ last_turn way t n → o.phase ≤ n
  pub whole : last_turn way t (phases_in t.lines) ≡ turns_in way t

-- so it is in each manner, of each trace
abbrev pub AllTurnsGo : Type 0
AllTurnsGo = (way : Manner) (t : Trace) → TurnsGo way t
