-- What a trace within its limits gives of its records, and what the places of a report give of its lines.
use Rattle.std.proofs.Common.{◌≡◌, ℕ, zero, suc, ◌+◌, ◌<◌, ◌≤◌, cond, List, [], ◌∷◌, sym, ap, subst, arith, inl, inr}
use Rattle.std.specs.Prelude.{Contains, AllPairs, count_by}
use Rattle.std.specs.List.{AllByRecursion as Each}
use Rattle.std.proofs.lemmas.List.Elements.{Contains-append_cases}
use Rattle.std.proofs.lemmas.List.Sums.{sum_by-cons}
use Rattle.pa_trace.specs.declared.script.Trace.{Trace}
use Rattle.pa_trace.specs.declared.script.Line.{Line}
use Rattle.pa_trace.specs.declared.script.Line.TheVariants.{Phase, Do}
use Rattle.pa_trace.specs.declared.script.Op.{Op}
use Rattle.pa_trace.specs.Limits.{IsOpWithin, IsLineWithin, IsWithinLimits}
use Rattle.pa_lists.proofs.Members.{not_in_none, in_cases}
use Rattle.pa_lists.proofs.Joined.{map_in}
use Rattle.pa_lists.proofs.Pairs.{pairs_none, pairs_cons, pairs_head, pairs_tail}
use Rattle.pa_trace.specs.Rules.{rules_of}
use Rattle.pa_trace.specs.declared.script.Rules.{Rules}
use Rattle.pa_rules.specs.declared.played.Played.{Played}
use Rattle.pa_rules.specs.Played.{OpLine, AreLines, op_lines, op_line_of}
use Rattle.pa_rules.specs.Report.{partitions_of, phases_of}
use Rattle.pa_rules.specs.Legal.{is_phase, phases_in}
use Rattle.pa_rules.proofs.Numbering.{lines_rise}
use Rattle.pa_logs.specs.Told.{ToldRecord, played_in}
use Rattle.pa_logs.specs.Listed.{AreRising}

-- the thread and the op of a line are the trace's, and it is in one of this many phases from one on
record IsDueIn (partitions threads phase later : ℕ) (a : OpLine) : Type 0 where
  thread : a.thread < threads
  op : IsOpWithin partitions a.op
  low : phase ≤ a.phase
  high : a.phase ≤ phase + later

abbrev op_line : Rules → ℕ → ℕ → ℕ → Op → OpLine
op_line rules n phase thread op = record { line = n; thread = thread; phase = phase; rules = rules; op = op }

lines_due : (rules : Rules) (partitions threads n phase : ℕ) (ls : List Line) (a : OpLine) → Each (IsLineWithin partitions threads) ls →
    Contains (op_lines rules n phase ls) a →
    IsDueIn partitions threads phase (count_by is_phase ls) a
lines_due rules partitions threads n phase [] a within among = absurd (not_in_none a among)
lines_due rules partitions threads n phase (Phase ∷ ls) a within among =
    let again = lines_due rules partitions threads (n + 1) (phase + 1) ls a within.1 among in
    let low = again.low in
    let high = again.high in
    let more = sum_by-cons (λ (l : Line). cond (is_phase l) 1 0) Phase ls in
    record { thread = again.thread; op = again.op; low = omega arith; high = omega arith }
lines_due rules partitions threads n phase (Do thread op ∷ ls) a within among =
    let more = sum_by-cons (λ (l : Line). cond (is_phase l) 1 0) (Do thread op) ls in
    elim (in_cases (op_line rules n phase thread op) a (op_lines rules (n + 1) phase ls) among) [
      | inl e ↦
          let same : phase ≡ a.phase = ap (λ (z : OpLine). z.phase) e in
          record {
            thread = subst (λ (z : OpLine). z.thread < threads) e within.0.0;
            op = subst (λ (z : OpLine). IsOpWithin partitions z.op) e within.0.1;
            low = omega arith;
            high = omega arith;
          }
      | inr rest ↦
          let again = lines_due rules partitions threads (n + 1) phase ls a within.1 rest in
          let low = again.low in
          let high = again.high in
          record { thread = again.thread; op = again.op; low = low; high = omega arith }
    ]

-- a record is within what the trace allows
pub record IsWithin (t : Trace) (x : Played) : Type 0 where
  pub thread : x.thread < t.threads
  pub op : IsOpWithin t.partitions x.op
  pub low : 1 ≤ x.phase
  pub high : x.phase ≤ phases_in t.lines

pub records_due : (t : Trace) (ps : List Played) (x : Played) → IsWithinLimits t → AreLines (rules_of t) t.lines ps → Contains ps x →
    IsWithin t x
records_due t ps x limits are among =
    let due = lines_due (rules_of t) t.partitions t.threads 2 1 t.lines (op_line_of x) limits.lines
    (subst (λ os. Contains os (op_line_of x)) are (map_in op_line_of ps x among)) in
    let high = due.high in
    record { thread = due.thread; op = due.op; low = due.low; high = omega arith }

-- annotated records are in the order of their lines if the records are
rising_told : (ts : List ToldRecord) → AllPairs (λ (x y : Played). x.line < y.line) (played_in ts) → AreRising ts
rising_told [] h = pairs_none (λ (x y : ToldRecord). x.played.line < y.played.line)
rising_told (x ∷ xs) h =
    let less : Played → Played → Type 0 = λ a b. a.line < b.line in
    pairs_cons (λ (a b : ToldRecord). a.played.line < b.played.line) x xs
    (λ y among. pairs_head less x.played y.played (played_in xs) h (map_in (λ (z : ToldRecord). z.played) xs y among))
    (rising_told xs (pairs_tail less x.played (played_in xs) h))

pub told_rise : (t : Trace) (ts : List ToldRecord) → AreLines (rules_of t) t.lines (played_in ts) → AreRising ts
told_rise t ts are = rising_told ts (lines_rise (rules_of t) t.lines (played_in ts) are)

-- ---- the places of a report

one_phase : (phase p n : ℕ) (a : ℕ × ℕ) → Contains (partitions_of phase p n) a → (a.0 ≡ phase) × (a.1 < p + n)
one_phase phase p zero a among = absurd (not_in_none a among)
one_phase phase p (suc n) a among = elim (in_cases (phase, p) a (partitions_of phase (p + 1) n) among) [
  | inl e ↦ let q : p ≡ a.1 = ap (λ (z : ℕ × ℕ). z.1) e in (sym (ap (λ (z : ℕ × ℕ). z.0) e), omega arith)
  | inr rest ↦ let again = one_phase phase (p + 1) n a rest in let below = again.1 in (again.0, omega arith)
]

-- a place's phase and partition
pub record IsPlace (partitions phase later : ℕ) (a : ℕ × ℕ) : Type 0 where
  pub low : phase ≤ a.0
  pub high : a.0 < phase + later
  pub partition : a.1 < partitions

pub place_is : (partitions phase n : ℕ) (a : ℕ × ℕ) → Contains (phases_of partitions phase n) a → IsPlace partitions phase n a
place_is partitions phase zero a among = absurd (not_in_none a among)
place_is partitions phase (suc n) a among =
    elim (Contains-append_cases (partitions_of phase 0 partitions) (phases_of partitions (phase + 1) n) a among) [
      | inl here ↦
          let one = one_phase phase 0 partitions a here in
          let at = one.0 in
          let below = one.1 in
          record { low = omega arith; high = omega arith; partition = omega arith }
      | inr later ↦
          let again = place_is partitions (phase + 1) n a later in
          let low = again.low in
          let high = again.high in
          record { low = omega arith; high = omega arith; partition = again.partition }
    ]
