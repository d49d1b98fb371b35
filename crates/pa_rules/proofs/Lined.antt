-- The op lines of a trace, by their numbers and phases.
use Rattle.std.proofs.Common.{ℕ, List, Contains, arith, zero, ap, suc, ◌+◌, ◌≤◌, [], ◌∷◌, ◌<◌, refl, ◌≡◌, ◌++◌, length, ◌∙◌, count_by, cond}
use Rattle.std.proofs.lemmas.List.Sums.{sum_by-cons}
use Rattle.pa_trace.specs.declared.script.Rules.{Rules}
use Rattle.pa_trace.specs.declared.script.Line.{Line}
use Rattle.pa_trace.specs.declared.script.Op.{Op}
use Rattle.pa_rules.specs.Played.{OpLine, op_lines}
use Rattle.pa_rules.specs.Legal.{is_phase, phases_in}
use Rattle.pa_trace.specs.declared.script.Line.TheVariants.{Phase, Do}

-- lines and phases only grow
pub lines_from : (rules : Rules) (n phase : ℕ) (ls : List Line) (a : OpLine) → Contains (op_lines rules n phase ls) a → (n ≤ a.line) ×
    (phase ≤ a.phase)
lines_from rules n phase [] a c = absurd (omega (arith, c.1))
lines_from rules n phase (Phase ∷ ls) a c = let k = lines_from rules (n + 1) (phase + 1) ls a c in (omega (arith, k.0), omega (arith, k.1))
lines_from rules n phase (Do t o ∷ ls) a (zero, c, e) =
    (omega (arith, ap (λ (x : OpLine). x.line) e), omega (arith, ap (λ (x : OpLine). x.phase) e))
lines_from rules n phase (Do t o ∷ ls) a (suc i, c, e) =
    let k = lines_from rules (n + 1) phase ls a (i, omega (arith, c), e) in (omega (arith, k.0), k.1)

-- an op line of an earlier phase has a smaller line
pub lines_phases : (rules : Rules) (n phase : ℕ) (ls : List Line) (a b : OpLine) → Contains (op_lines rules n phase ls) a →
    Contains (op_lines rules n phase ls) b
    → a.phase < b.phase → a.line < b.line
lines_phases rules n phase [] a b c d lt = absurd (omega (arith, c.1))
lines_phases rules n phase (Phase ∷ ls) a b c d lt = lines_phases rules (n + 1) (phase + 1) ls a b c d lt
lines_phases rules n phase (Do t o ∷ ls) a b (zero, c, e) (zero, d, f) lt =
    absurd (omega (arith, lt, ap (λ (x : OpLine). x.phase) e, ap (λ (x : OpLine). x.phase) f))
lines_phases rules n phase (Do t o ∷ ls) a b (zero, c, e) (suc j, d, f) lt =
    omega (arith, (lines_from rules (n + 1) phase ls b (j, omega (arith, d), f)).0, ap (λ (x : OpLine). x.line) e)
lines_phases rules n phase (Do t o ∷ ls) a b (suc i, c, e) (zero, d, f) lt =
    absurd (omega (arith, lt, (lines_from rules (n + 1) phase ls a (i, omega (arith, c), e)).1, ap (λ (x : OpLine). x.phase) f))
lines_phases rules n phase (Do t o ∷ ls) a b (suc i, c, e) (suc j, d, f) lt =
    lines_phases rules (n + 1) phase ls a b (i, omega (arith, c), e) (j, omega (arith, d), f) lt

-- a line that begins a phase is no op line
pub lines_phase : (rules : Rules) (n phase : ℕ) (ls : List Line) → op_lines rules n phase (ls ++ Phase ∷ []) ≡ op_lines rules n phase ls
lines_phase rules n phase [] = refl
lines_phase rules n phase (Phase ∷ ls) = lines_phase rules (n + 1) (phase + 1) ls
lines_phase rules n phase (Do t o ∷ ls) =
    let first : OpLine = record { line = n; thread = t; phase = phase; rules = rules; op = o } in
    let g : List OpLine → List OpLine = λ xs. first ∷ xs in
    ap g (lines_phase rules (n + 1) phase ls)

-- ---- a line more

-- the phase after these lines
abbrev pub phase_after : ℕ → List Line → ℕ
phase_after phase [] = phase
phase_after phase (Phase ∷ ls) = phase_after (phase + 1) ls
phase_after phase (Do thread op ∷ ls) = phase_after phase ls

-- the phase never falls
pub phase_on : (phase : ℕ) (ls : List Line) → phase ≤ phase_after phase ls
phase_on phase [] = omega arith
phase_on phase (Phase ∷ ls) = omega (arith, phase_on (phase + 1) ls)
phase_on phase (Do thread op ∷ ls) = phase_on phase ls

-- an op line more, and one more phase
pub lines_push : (rules : Rules) (n phase : ℕ) (ls : List Line) (thread : ℕ) (op : Op)
    → op_lines rules n phase (ls ++ Do thread op ∷ [])
    ≡ op_lines rules n phase ls ++
    record { line = n + length ls; thread = thread; phase = phase_after phase ls; rules = rules; op = op } ∷ []
lines_push rules n phase [] thread op =
    let f : ℕ → List OpLine = λ x. record { line = x; thread = thread; phase = phase; rules = rules; op = op } ∷ [] in
    let e : n ≡ n + 0 = omega arith in
    ap f e
lines_push rules n phase (Phase ∷ ls) thread op =
    let f : ℕ → List OpLine = λ x. op_lines rules (n + 1) (phase + 1) ls ++
    record { line = x; thread = thread; phase = phase_after (phase + 1) ls; rules = rules; op = op } ∷ [] in
    let e : n + 1 + length ls ≡ n + length (Phase ∷ ls) = omega arith in
    lines_push rules (n + 1) (phase + 1) ls thread op ∙ ap f e
lines_push rules n phase (Do t o ∷ ls) thread op =
    let first : OpLine = record { line = n; thread = t; phase = phase; rules = rules; op = o } in
    let f : ℕ → List OpLine =
    λ x. first ∷ (op_lines rules (n + 1) phase ls ++
    record { line = x; thread = thread; phase = phase_after phase ls; rules = rules; op = op } ∷ []) in
    let g : List OpLine → List OpLine = λ xs. first ∷ xs in
    let e : n + 1 + length ls ≡ n + length (Do t o ∷ ls) = omega arith in
    ap g (lines_push rules (n + 1) phase ls thread op) ∙ ap f e

-- the phase after all lines is how many there are
phase_counts : (phase : ℕ) (ls : List Line) → phase_after phase ls ≡ phase + count_by is_phase ls
phase_counts phase [] = omega arith
phase_counts phase (Phase ∷ ls) =
    let c : count_by is_phase (Phase ∷ ls) ≡ 1 + count_by is_phase ls = sum_by-cons (λ l. cond (is_phase l) 1 0) Phase ls in
    omega (arith, phase_counts (phase + 1) ls, c)
phase_counts phase (Do thread op ∷ ls) =
    let c : count_by is_phase (Do thread op ∷ ls) ≡ 0 + count_by is_phase ls = sum_by-cons (λ l. cond (is_phase l) 1 0) (Do thread op) ls in
    omega (arith, phase_counts phase ls, c)

pub phases_are : (ls : List Line) → phase_after 1 ls ≡ phases_in ls
phases_are ls = omega (arith, phase_counts 1 ls)
