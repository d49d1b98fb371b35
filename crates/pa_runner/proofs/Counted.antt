-- How many lines each thread has, line by line.
use Rattle.std.proofs.Common.{◌≡◌, ℕ, zero, suc, ◌+◌, ◌<◌, ◌≤◌, List, [], ◌∷◌, ◌++◌, length, take, get_or, replicate, refl, ◌∙◌, ap, subst, arith}
use Rattle.std.specs.Prelude.{slice_index}
use Rattle.std.specs.List.{AllByRecursion}
use Rattle.std.proofs.Common.{cond, Bool, true, false}
use Rattle.std.proofs.lemmas.List.Sums.{sum_by-cons}
use Rattle.std.proofs.lemmas.List.{take_more}
use Rattle.std.proofs.lemmas.List.Elements.{All-from_recursion, All-get_or}
use Rattle.pa_trace.specs.declared.script.Line.{Line}
use Rattle.pa_trace.specs.declared.script.Line.TheVariants.{Do}
use Rattle.pa_trace.specs.declared.script.Op.{Op}
use Rattle.pa_trace.specs.Limits.{IsLineWithin}
use Rattle.pa_runner.specs.Tracing.{is_by, lines_by}

-- the lines before place i were counted
pub record AreCounted (i : ℕ) (ls : List Line) (counts : List ℕ) : Type 0 where
  pub long : length counts ≡ 16
  pub each : (k : ℕ) → k < 16 → slice_index counts k ≡ lines_by k (take i ls)

none : (n k : ℕ) → slice_index (replicate n 0) k ≡ 0
none zero k = refl
none (suc n) zero = refl
none (suc n) (suc k) = none n k

pub lines_with : (i : ℕ) (ls : List Line) (d l : Line) (k : ℕ) → i < length ls → get_or ls i d ≡ l →
    lines_by k (take (i + 1) ls) ≡ lines_by k (take i ls ++ l ∷ [])
lines_with i ls d l k low is = ap (lines_by k) (take_more ls i d low ∙ ap (λ x. take i ls ++ x ∷ []) is)

pub line_there : (ls : List Line) (i : ℕ) (d : Line) (thread partitions threads : ℕ) (op : Op) → i < length ls →
    get_or ls i d ≡ Do thread op → threads ≤ 16 →
    AllByRecursion (IsLineWithin partitions threads) ls → thread < 16
line_there ls i d thread partitions threads op low is few within =
    let there = subst (IsLineWithin partitions threads) is
    (All-get_or (IsLineWithin partitions threads) ls i d low (All-from_recursion (IsLineWithin partitions threads) ls within)) in
    let t = there.0 in omega arith

at_most_one : (b : Bool) → cond b 1 0 ≤ 1
at_most_one true = omega arith
at_most_one false = omega arith

-- a count is at most the number of the lines before
pub count_few : (k i : ℕ) (ls : List Line) → lines_by k (take i ls) ≤ i
count_few k zero ls = omega arith
count_few k (suc i) [] = omega arith
count_few k (suc i) (l ∷ ls) =
    let again = count_few k i ls in
    let c = sum_by-cons (λ x. cond (is_by k x) 1 0) l (take i ls) in
    let z = at_most_one (is_by k l) in
    omega arith
