-- The workers of all threads get their stakes, one after the other.
use Rattle.std.proofs.Common.{◌≡◌, ℕ, zero, suc, ◌+◌, ◌<◌, ◌≤◌, cond, eqb, List, [], ◌∷◌, ◌++◌, length, Result, Ok, Err, IfOk, refl, sym, ◌∙◌, ap, subst, arith, inl, inr}
use Rattle.std.specs.Prelude.{if◌then◌else◌, nat_le}
use Rattle.std.proofs.lemmas.Bool.{cases_eq}
use Rattle.std.proofs.lemmas.Bool.Decides.{nat_tests}
use Rattle.std.proofs.lemmas.List.{length_push}
use Rattle.std.proofs.lemmas.List.Sums.{sum_by-cons}
use Rattle.pa_region.specs.declared.marks.Mark.TheVariants.{Stake}
use Rattle.pa_region.specs.declared.view.View.{View}
use Rattle.pa_region.specs.Views.{stake_of}
use Rattle.pa_region.specs.Takes.{log_of}
use Rattle.pa_region.specs.Hands.{left_after, given_after}
use Rattle.pa_region.specs.Lending.{stake_parcel}
use Rattle.pa_region.specs.Marks.{parcel_of}
use Rattle.pa_region.proofs.LendBack.{given_stake, given_beside, log_filter, marked_here}
use Rattle.pa_trace.specs.declared.script.Line.{Line}
use Rattle.pa_trace.specs.declared.script.Line.TheVariants.{Phase, Do}
use Rattle.pa_trace.specs.declared.script.Rules.{Rules}
use Rattle.pa_trace.specs.declared.script.Trace.{Trace}
use Rattle.pa_trace.specs.Rules.{rules_of}
use Rattle.pa_thread_state.specs.Starts.{HasAllStakes}
use Rattle.pa_op_specs.specs.Stocks.{IsForThread}
use Rattle.pa_op_specs.specs.Workers.{WorkerValue, IsNewWorker}
use Rattle.pa_execution.specs.Gathering.{HasAnswered}
use Rattle.pa_execution.proofs.Gathering.{workers_hear}
use Rattle.pa_runner.specs.Phases.{worker_in}
use Rattle.pa_runner.specs.Tracing.{is_by, lines_by}
use Rattle.pa_runner.specs.Opening.{IsNewFor, after_opening}

-- ---- one worker

-- a thread's stake, and this many counted steps
module _ (k lines : ℕ) (seat : View) where
  pub note_for : 0 < stake_of seat k → k < 16 → IsForThread k (given_after (parcel_of [] lines (Stake k ∷ [])) seat)
  note_for has small = record {
    stake = record { small = small; only = λ j ne. given_beside k j seat ne };
    has = let g = given_stake k seat in omega arith;
    unused = λ t. refl;
  }

  pub new_for : {E : Type 0} (partitions : ℕ) (rules : Rules) (r : Result WorkerValue E) (v : View) →
      v ≡ given_after (parcel_of [] lines (Stake k ∷ [])) seat → 0 < stake_of seat k → log_of k seat ≡ [] →
      IfOk r (IsNewWorker k partitions rules.plain_from rules.version lines v) → IfOk r (IsNewFor k partitions rules lines)
  new_for partitions rules (Ok w) v is has none new = record {
    view = v;
    new = new;
    stake = subst (λ (z : View). 0 < stake_of z k) (sym is) (let g = given_stake k seat in omega arith);
    log = ap (log_of k) is ∙ (log_filter (stake_parcel k).stakes k seat.stakes (marked_here k) ∙ none);
  }
  new_for partitions rules (Err e) v is has none new = tt

-- ---- how many lines are of threads from one on

abbrev pub lines_past : ℕ → List Line → ℕ
lines_past k [] = 0
lines_past k (Phase ∷ ls) = lines_past k ls
lines_past k (Do thread op ∷ ls) = (if nat_le k thread then 1 else 0) + lines_past k ls

one_splits : (k thread : ℕ) → cond (eqb thread k) 1 0 + cond (nat_le (k + 1) thread) 1 0 ≡ cond (nat_le k thread) 1 0
one_splits k thread = grind (arith, nat_tests)

at_most_one : (k thread : ℕ) → cond (nat_le k thread) 1 0 ≤ 1
at_most_one k thread = grind (arith, nat_tests)

past_splits : (k : ℕ) (ls : List Line) → lines_by k ls + lines_past (k + 1) ls ≡ lines_past k ls
past_splits k [] = refl
past_splits k (Phase ∷ ls) =
    let c = sum_by-cons (λ z. cond (is_by k z) 1 0) Phase ls in
    let again = past_splits k ls in
    omega arith
past_splits k (Do thread op ∷ ls) =
    let c = sum_by-cons (λ z. cond (is_by k z) 1 0) (Do thread op) ls in
    let one = one_splits k thread in
    let again = past_splits k ls in
    omega arith

past_few : (k : ℕ) (ls : List Line) → lines_past k ls ≤ length ls
past_few k [] = omega arith
past_few k (Phase ∷ ls) = let again = past_few k ls in omega arith
past_few k (Do thread op ∷ ls) = let again = past_few k ls in let one = at_most_one k thread in omega arith

-- ---- one after the other

-- The first k workers were opened, and the seat has the stakes of the others, and a counted step for each of their lines.
pub record IsOpening (t : Trace) (k : ℕ) (workers : List WorkerValue) (first seat : View) : Type 0 where
  pub answered : HasAnswered t.threads k first seat
  pub handed : seat ≡ after_opening t.lines k first
  pub budget : lines_past k t.lines ≤ seat.budget
  pub count : length workers ≡ k
  pub each : (j : ℕ) → j < k → IsNewFor j t.partitions (rules_of t) (lines_by j t.lines) (worker_in workers j)

pub open_start : (t : Trace) (budget : ℕ) (first : View) → length t.lines ≤ budget →
    HasAllStakes budget first → IsOpening t 0 [] first first
open_start t budget first fits all = record {
  answered = record {
    main = record { own = λ k past small. all.stakes k small; idle = λ k past. all.logs k; clean = all.clean };
    stakes = λ k low. refl;
    logs = λ k low. refl;
    seen = refl;
    lists = refl;
  };
  handed = refl;
  budget = let few = past_few 0 t.lines in let b = all.budget_is in omega arith;
  count = refl;
  each = λ j low. absurd (omega arith);
}

-- the next thread gets its stake
opening_more : (lines : List Line) (k : ℕ) (seat : View) →
    after_opening lines (k + 1) seat ≡ left_after (parcel_of [] (lines_by k lines) (Stake k ∷ [])) (after_opening lines k seat)
opening_more lines k seat = let e : k + 1 ≡ suc k = omega arith in ap (λ n. after_opening lines n seat) e

last_in : (ws : List WorkerValue) (w : WorkerValue) (k : ℕ) → length ws ≡ k → worker_in (ws ++ w ∷ []) k ≡ w
last_in [] w k long = subst (λ n. worker_in (w ∷ []) n ≡ w) long refl
last_in (v ∷ ws) w k long = subst (λ n. worker_in (v ∷ ws ++ w ∷ []) n ≡ w) long (last_in ws w (length ws) refl)

before_in : (ws : List WorkerValue) (w : WorkerValue) (j : ℕ) → j < length ws → worker_in (ws ++ w ∷ []) j ≡ worker_in ws j
before_in [] w j low = absurd (omega arith)
before_in (v ∷ ws) w zero low = refl
before_in (v ∷ ws) w (suc j) low = before_in ws w j (omega arith)

module _ (t : Trace) (k : ℕ) (workers : List WorkerValue) (first seat : View) (opening : IsOpening t k workers first seat)
    (few : k < t.threads) where
  -- what the next worker needs
  pub open_budget : lines_by k t.lines ≤ seat.budget
  open_budget = let s = past_splits k t.lines in let b = opening.budget in omega arith

  -- the seat after it handed that worker its stake
  pub open_handed : (next : View) → next ≡ left_after (parcel_of [] (lines_by k t.lines) (Stake k ∷ [])) seat →
      next ≡ after_opening t.lines (k + 1) first
  open_handed next left =
      left ∙ (ap (left_after (parcel_of [] (lines_by k t.lines) (Stake k ∷ []))) opening.handed ∙ sym (opening_more t.lines k first))

  pub open_next : (next : View) (w : WorkerValue) → next ≡ left_after (parcel_of [] (lines_by k t.lines) (Stake k ∷ [])) seat →
      IsNewFor k t.partitions (rules_of t) (lines_by k t.lines) w →
      IsOpening t (k + 1) (workers ++ w ∷ []) first next
  open_next next w left new =
      let l = left_after (parcel_of [] (lines_by k t.lines) (Stake k ∷ [])) seat in
      let step = workers_hear.next t.threads k first seat opening.answered few in
      record {
        answered = subst (HasAnswered t.threads (k + 1) first) (sym left) (record {
          main = record { own = step.main.own; idle = step.main.idle; clean = step.main.clean };
          stakes = step.stakes;
          logs = step.logs;
          seen = step.seen;
          lists = step.lists;
        });
        handed = open_handed next left;
        budget = subst (λ (z : View). lines_past (k + 1) t.lines ≤ z.budget) (sym left)
            (let s = past_splits k t.lines in let b = opening.budget in omega arith);
        count = length_push workers w ∙ ap (λ n. n + 1) opening.count;
        each = λ j low. elim (cases_eq j k) [
          | inl e ↦
              subst (λ n. IsNewFor n t.partitions (rules_of t) (lines_by n t.lines) (worker_in (workers ++ w ∷ []) n)) (sym e)
              (subst (IsNewFor k t.partitions (rules_of t) (lines_by k t.lines)) (sym (last_in workers w k opening.count)) new)
          | inr ne ↦
              let long = opening.count in
              subst (IsNewFor j t.partitions (rules_of t) (lines_by j t.lines)) (sym (before_in workers w j (omega arith)))
              (opening.each j (omega arith))
        ];
      }
