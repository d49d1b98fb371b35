-- What each thread plays in the turn of a line, and the line with which a phase ends.
use Rattle.std.proofs.Common.{◌≡◌, ℕ, zero, suc, ◌+◌, ◌<◌, ◌==◌, false, List, [], ◌∷◌, length, filter, take, get_or, refl, ◌∙◌, ap, arith, inl, inr, cond}
use Rattle.std.specs.Prelude.{if◌then◌else◌, count_by}
use Rattle.std.proofs.lemmas.Bool.{cases_eq, eq-eqb, ne_eqb}
use Rattle.std.proofs.lemmas.List.Sums.{sum_by-cons}
use Rattle.pa_trace.specs.declared.script.Line.{Line}
use Rattle.pa_trace.specs.declared.script.Line.TheVariants.{Phase, Do}
use Rattle.pa_trace.specs.declared.script.Rules.{Rules}
use Rattle.pa_trace.specs.declared.script.Trace.{Trace}
use Rattle.pa_trace.specs.Rules.{rules_of}
use Rattle.pa_rules.specs.Played.{OpLine, op_lines}
use Rattle.pa_rules.specs.Legal.{is_phase, phases_in}
use Rattle.pa_rules.proofs.Lined.{phase_after}
use Rattle.pa_execution.specs.Turns.{InTurn, lines_until, is_line_in, lines_in_turn}

-- ---- the lines of a turn

-- what thread k plays of this line
abbrev pub op_at : Rules → (line phase : ℕ) → Line → ℕ → List OpLine
op_at rules line phase Phase k = []
op_at rules line phase (Do thread op) k =
    if thread == k then record { line = line; thread = thread; phase = phase; rules = rules; op = op } ∷ [] else []

-- an op of another line isn't played in this turn
other_turn : (m k : ℕ) (o : OpLine) → (o.line ≡ m → ⊥) → is_line_in InTurn m k o ≡ false
other_turn m k o ne = rw (ne_eqb o.line m ne) refl

-- nothing is played before the first of the lines
none_low : (rules : Rules) (n phase m k : ℕ) (ls : List Line) → m < n → filter (is_line_in InTurn m k) (op_lines rules n phase ls) ≡ []
none_low rules n phase m k [] low = refl
none_low rules n phase m k (Phase ∷ ls) low = none_low rules (n + 1) (phase + 1) m k ls (omega arith)
none_low rules n phase m k (Do thread op ∷ ls) low =
    rw (other_turn m k (record { line = n; thread = thread; phase = phase; rules = rules; op = op }) (λ e. omega arith))
    (none_low rules (n + 1) phase m k ls (omega arith))

lines_at : (rules : Rules) (n phase i m k : ℕ) (ls : List Line) → m ≡ n + i → i < length ls →
    filter (is_line_in InTurn m k) (op_lines rules n phase ls) ≡ op_at rules m (phase_after phase (take i ls)) (get_or ls i Phase) k
lines_at rules n phase i m k [] is low = absurd (omega arith)
lines_at rules n phase zero m k (Phase ∷ ls) is low = none_low rules (n + 1) (phase + 1) m k ls (omega arith)
lines_at rules n phase zero m k (Do thread op ∷ ls) is low =
    let e : n ≡ m = omega arith in
    let rest = none_low rules (n + 1) phase m k ls (omega arith) in
    elim (cases_eq thread k) [
      | inl mine ↦
          rw (eq-eqb n m e, eq-eqb thread k mine)
          (ap (λ os. record { line = n; thread = thread; phase = phase; rules = rules; op = op } ∷ os) rest
          ∙ ap (λ (j : ℕ). record { line = j; thread = thread; phase = phase; rules = rules; op = op } ∷ []) e)
      | inr ne ↦ rw (eq-eqb n m e, ne_eqb thread k ne) rest
    ]
lines_at rules n phase (suc i) m k (Phase ∷ ls) is low = lines_at rules (n + 1) (phase + 1) i m k ls (omega arith) (omega arith)
lines_at rules n phase (suc i) m k (Do thread op ∷ ls) is low =
    rw (other_turn m k (record { line = n; thread = thread; phase = phase; rules = rules; op = op }) (λ e. omega arith))
    (lines_at rules (n + 1) phase i m k ls (omega arith) (omega arith))

-- what a thread plays in the turn of the line at index i
pub turn_lines : (t : Trace) (i m k : ℕ) → i < length t.lines → m ≡ i + 2 →
    lines_in_turn InTurn t m k ≡ op_at (rules_of t) m (phase_after 1 (take i t.lines)) (get_or t.lines i Phase) k
turn_lines t i m k low is = lines_at (rules_of t) 2 1 i m k t.lines (omega arith) low

-- nothing is played in the turn of the head
pub head_lines : (t : Trace) (k : ℕ) → lines_in_turn InTurn t 1 k ≡ []
head_lines t k = none_low (rules_of t) 2 1 1 k t.lines (omega arith)

-- ---- the line that ends a phase

until_at : (n i : ℕ) (ls : List Line) → n ≡ count_by is_phase (take i ls) → i < length ls → get_or ls i Phase ≡ Phase →
    lines_until (suc n) ls ≡ suc i
until_at n i [] is low at = absurd (omega arith)
until_at zero zero (Phase ∷ ls) is low at = refl
until_at (suc n) zero (Phase ∷ ls) is low at = absurd (omega arith)
until_at n zero (Do thread op ∷ ls) is low at = absurd cc
until_at zero (suc i) (Phase ∷ ls) is low at =
    absurd (let more = sum_by-cons (λ (l : Line). cond (is_phase l) 1 0) Phase (take i ls) in omega arith)
until_at (suc n) (suc i) (Phase ∷ ls) is low at =
    let more = sum_by-cons (λ (l : Line). cond (is_phase l) 1 0) Phase (take i ls) in
    ap suc (until_at n i ls (omega arith) (omega arith) at)
until_at n (suc i) (Do thread op ∷ ls) is low at =
    let more = sum_by-cons (λ (l : Line). cond (is_phase l) 1 0) (Do thread op) (take i ls) in
    ap suc (until_at n i ls (omega arith) (omega arith) at)

-- the line at index i that begins a phase ends the phase before it
pub phase_ends : (i : ℕ) (ls : List Line) → i < length ls → get_or ls i Phase ≡ Phase → lines_until (phases_in (take i ls)) ls ≡ i + 1
phase_ends i ls low at =
    let n = count_by is_phase (take i ls) in
    let e : n + 1 ≡ suc n = omega arith in
    let f : suc i ≡ i + 1 = omega arith in
    ap (λ m. lines_until m ls) e ∙ (until_at n i ls refl low at ∙ f)
