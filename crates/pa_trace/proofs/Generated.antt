-- A generated trace has 81 lines a round and is within the limits, and no cell of it is touched by two threads in one phase.
use Rattle.std.proofs.Common.{◌≡◌, ℕ, zero, suc, ◌+◌, ◌*◌, ◌%◌, ◌<◌, ◌≤◌, List, [], ◌∷◌, ◌++◌, length, slice_get, Some, refl, sym, ap, subst, ◌∙◌, arith}
use Rattle.std.specs.List.{AllByRecursion}
use Rattle.std.proofs.lemmas.List.{length-append}
use Rattle.pa_trace.specs.declared.script.Trace.{Trace}
use Rattle.pa_trace.specs.declared.script.Line.{Line}
use Rattle.pa_trace.specs.declared.script.Line.TheVariants.{Phase, Do}
use Rattle.pa_trace.specs.declared.script.Op.TheVariants.{Swap}
use Rattle.pa_trace.specs.Limits.{IsLineWithin, IsWithinLimits}
use Rattle.pa_trace.specs.Generated.{parts, drawn_object, pointer_lines, thread_lines, round_lines, phase_before, generated_lines, IsGeneratedOf, phases_over, KeepsCellsApart}

-- ---- 81 lines a round

round_length : (words : List ℕ) (round : ℕ) → length (round_lines words round) ≡ 80
round_length words round = refl

lines_length : (words : List ℕ) (n : ℕ) → length (generated_lines words (suc n)) + 1 ≡ 81 * suc n
lines_length words zero = refl
lines_length words (suc n) =
    let e = length-append (generated_lines words (suc n)) (Phase ∷ round_lines words (suc n)) in
    let l = lines_length words n in
    let r = round_length words (suc n) in
    omega arith

pub generated_length : (words : List ℕ) (rounds : ℕ) (t : Trace) → 1 ≤ rounds → IsGeneratedOf words rounds t →
    length t.lines + 1 ≡ 81 * rounds
generated_length words zero t some h = absurd (omega arith)
generated_length words (suc n) t some h = ap (λ (x : List Line). length x + 1) h.lines ∙ lines_length words n

-- ---- the limits

abbrev AreWithin : List Line → Type 0
AreWithin ls = AllByRecursion (IsLineWithin 4 4) ls

within_append : (a b : List Line) → AreWithin a → AreWithin b → AreWithin (a ++ b)
within_append [] b ha hb = hb
within_append (l ∷ a) b ha hb = (ha.0, within_append a b ha.1 hb)

parts_within : (part : ℕ → List Line) (n : ℕ) → ((k : ℕ) → k < n → AreWithin (part k)) → AreWithin (parts part n)
parts_within part zero h = tt
parts_within part (suc n) h = within_append (parts part n) (part n) (parts_within part n (λ k lt. h k (omega arith))) (h n (omega arith))

object_within : (words : List ℕ) (round thread object : ℕ) → thread < 4 → object < 4 → AreWithin (drawn_object words round thread object)
object_within words round thread object lt small = ((lt, (omega arith, lt, omega arith)), ((lt, omega arith), tt))

pointers_within : (round thread : ℕ) → thread < 4 → AreWithin (pointer_lines round thread)
pointers_within round thread lt =
    let low : (k : ℕ) → k < 10 → k < 64 = λ k small. omega arith in (
      (lt, (low 0 (omega arith), low 8 (omega arith))),
      (
        (lt, (low 0 (omega arith), low 9 (omega arith))),
        (
          (lt, (omega arith, low 9 (omega arith))),
          (
            (lt, (low 8 (omega arith), omega arith)),
            (
              (lt, low 0 (omega arith)),
              (
                (lt, (low 8 (omega arith), omega arith)),
                (
                  (lt, low 8 (omega arith)),
                  (
                    (lt, (low 9 (omega arith), omega arith)),
                    ((lt, low 9 (omega arith)), ((lt, low 1 (omega arith)), ((lt, low 2 (omega arith)), ((lt, low 3 (omega arith)), tt)))),
                  ),
                ),
              ),
            ),
          ),
        ),
      ),
    )

thread_within : (words : List ℕ) (round thread : ℕ) → thread < 4 → AreWithin (thread_lines words round thread)
thread_within words round thread lt =
    within_append (parts (drawn_object words round thread) 4) (pointer_lines round thread)
    (parts_within (drawn_object words round thread) 4 (λ object small. object_within words round thread object lt small))
    (pointers_within round thread lt)

phase_within : (round : ℕ) → AreWithin (phase_before round)
phase_within zero = tt
phase_within (suc round) = (tt, tt)

lines_within : (words : List ℕ) (rounds : ℕ) → AreWithin (generated_lines words rounds)
lines_within words rounds =
    parts_within (λ round. phase_before round ++ round_lines words round) rounds (λ round lt.
    within_append (phase_before round) (round_lines words round) (phase_within round)
    (parts_within (thread_lines words round) 4 (thread_within words round)))

pub generated_within : (words : List ℕ) (rounds : ℕ) (t : Trace) → 1 ≤ rounds → rounds ≤ 800 → IsGeneratedOf words rounds t →
    IsWithinLimits t
generated_within words rounds t some few h = record {
  version = rw (h.version) (omega arith, omega arith);
  head = rw (h.version, h.region, h.partitions, h.threads, h.plain)
      ((omega arith, omega arith), (omega arith, omega arith), (omega arith, omega arith), omega arith);
  lines = rw (h.partitions, h.threads, h.lines) (lines_within words rounds);
  few = (let l = generated_length words rounds t some h in omega arith);
}

-- ---- the cells

-- in this phase an exchange is with the cell of its thread and phase
abbrev SwapsInTurn : ℕ → Line → Type 0
SwapsInTurn phase (Do thread (Swap cell reg)) = (cell ≡ (thread + phase) % 4) × (thread < 4)
SwapsInTurn phase l = Unit {0}

-- each line, of which the first is in this phase
abbrev AllInTurn : ℕ → List Line → Type 0
AllInTurn phase [] = Unit {0}
AllInTurn phase (Phase ∷ ls) = AllInTurn (suc phase) ls
AllInTurn phase (Do thread op ∷ ls) = SwapsInTurn phase (Do thread op) × AllInTurn phase ls

abbrev phases : List Line → ℕ
phases [] = 0
phases (Phase ∷ ls) = suc (phases ls)
phases (Do thread op ∷ ls) = phases ls

-- lines that begin in this phase, and how many phases they end
pub record Turns (phase over : ℕ) (ls : List Line) : Type 0 where
  all : AllInTurn phase ls
  many : phases ls ≡ over

-- lines after lines: the phase in which they begin, and how many phases end in all
turns_append : (p q m n s : ℕ) (a b : List Line) → q ≡ p + m → s ≡ m + n → Turns p m a → Turns q n b → Turns p s (a ++ b)
turns_append p q m n s [] b e f ha hb = record {
  all = subst (λ (x : ℕ). AllInTurn x b) (omega (arith, ha.many)) hb.all;
  many = omega (arith, ha.many, hb.many);
}
turns_append p q m n s (Phase ∷ a) b e f ha hb =
    let k : ℕ = phases a in
    let rest = turns_append (suc p) q k n (k + n) a b (omega (arith, ha.many)) refl (record { all = ha.all; many = refl }) hb in
    record { all = rest.all; many = omega (arith, rest.many, ha.many) }
turns_append p q m n s (Do thread op ∷ a) b e f ha hb =
    let rest = turns_append p q m n s a b e f (record { all = ha.all.1; many = ha.many }) hb in
    record { all = (ha.all.0, rest.all); many = rest.many }

parts_turns : (p : ℕ) (part : ℕ → List Line) (n : ℕ) → ((k : ℕ) → k < n → Turns p 0 (part k)) → Turns p 0 (parts part n)
parts_turns p part zero h = record { all = tt; many = refl }
parts_turns p part (suc n) h =
    turns_append p p 0 0 0 (parts part n) (part n) (omega arith) (omega arith) (parts_turns p part n (λ k lt. h k (omega arith)))
    (h n (omega arith))

thread_turns : (words : List ℕ) (round thread : ℕ) → thread < 4 → Turns round 0 (thread_lines words round thread)
thread_turns words round thread lt = record {
  all = (tt, (tt, (tt, (tt, (tt, (tt, (tt, (tt, (tt, (tt, ((refl, lt), (tt, (tt, (tt, (tt, (tt, (tt, (tt, (tt, (tt, tt))))))))))))))))))));
  many = refl;
}

round_turns : (words : List ℕ) (round : ℕ) → Turns round 0 (round_lines words round)
round_turns words round = parts_turns round (thread_lines words round) 4 (thread_turns words round)

lines_turns : (words : List ℕ) (n : ℕ) → Turns 0 n (generated_lines words (suc n))
lines_turns words zero = round_turns words 0
lines_turns words (suc n) =
    let round = round_turns words (suc n) in
    let begun : Turns n 1 (Phase ∷ round_lines words (suc n)) = record { all = round.all; many = ap suc round.many } in
    turns_append 0 n n 1 (suc n) (generated_lines words (suc n)) (Phase ∷ round_lines words (suc n)) (omega arith) (omega arith)
    (lines_turns words n) begun

swap_in_turn : (p : ℕ) (ls : List Line) (k thread cell reg : ℕ) → AllInTurn p ls → slice_get ls k ≡ Some (Do thread (Swap cell reg))
    → (cell ≡ (thread + (p + phases_over ls k)) % 4) × (thread < 4)
swap_in_turn p [] k thread cell reg h e = absurd cc
swap_in_turn p (Phase ∷ ls) zero thread cell reg h e = absurd cc
swap_in_turn p (Phase ∷ ls) (suc k) thread cell reg h e =
    let rest = swap_in_turn (suc p) ls k thread cell reg h e in (omega (arith, rest.0), rest.1)
swap_in_turn p (Do t op ∷ ls) zero thread cell reg h e =
    let same : ◌≡◌ {A = Line} (Do t op) (Do thread (Swap cell reg)) = cc in
    let turn : SwapsInTurn p (Do thread (Swap cell reg)) = subst (SwapsInTurn p) same h.0 in (omega (arith, turn.0), turn.1)
swap_in_turn p (Do t op ∷ ls) (suc k) thread cell reg h e = swap_in_turn p ls k thread cell reg h.1 e

-- threads of one turn and one cell are one
same_turn : (s t p c : ℕ) → s < 4 → t < 4 → c ≡ (s + p) % 4 → c ≡ (t + p) % 4 → s ≡ t
same_turn s t p c hs ht e f = omega (arith, e, f)

lines_apart : (words : List ℕ) (n : ℕ) → KeepsCellsApart (generated_lines words (suc n))
lines_apart words n = λ j k s t cell q r one other same.
    let turns = lines_turns words n in
    let a = swap_in_turn 0 (generated_lines words (suc n)) j s cell q turns.all one in
    let b = swap_in_turn 0 (generated_lines words (suc n)) k t cell r turns.all other in
    same_turn s t (0 + phases_over (generated_lines words (suc n)) k) cell a.1 b.1 (a.0 ∙ ap (λ (x : ℕ). (s + (0 + x)) % 4) same) b.0

pub generated_apart : (words : List ℕ) (rounds : ℕ) (t : Trace) → 1 ≤ rounds → IsGeneratedOf words rounds t → KeepsCellsApart t.lines
generated_apart words zero t some h = absurd (omega arith)
generated_apart words (suc n) t some h = subst KeepsCellsApart (sym h.lines) (lines_apart words n)
