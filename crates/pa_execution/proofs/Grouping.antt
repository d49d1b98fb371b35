-- The records of an execution by their turns and threads.
use Rattle.std.proofs.Common.{◌≡◌, ℕ, zero, suc, ◌<◌, ◌≤◌, Bool, true, ◌==◌, List, [], ◌∷◌, ◌++◌, map, filter, refl, sym, ◌∙◌, ap, subst, arith, inl, inr}
use Rattle.std.specs.Prelude.{Contains, nat_le}
use Rattle.std.proofs.lemmas.Bool.{cases_lt, cases_eq, eq-eqb, ne_eqb, eqb-true, le-leb, lt-leb, leb-true}
use Rattle.std.proofs.lemmas.List.Elements.{filter-append}
use Rattle.pa_trace.specs.declared.script.Trace.{Trace}
use Rattle.pa_trace.specs.Limits.{IsWithinLimits}
use Rattle.pa_trace.specs.Rules.{rules_of}
use Rattle.pa_record.specs.declared.entry.Answer.TheVariants.{Nothing}
use Rattle.pa_lists.proofs.Joined.{map_in, filter_cases, filter_in}
use Rattle.pa_lists.proofs.Members.{first_in, later_in}
use Rattle.pa_lists.proofs.Pairs.{pairs_head, pairs_tail}
use Rattle.pa_rules.specs.declared.played.Played.{Played}
use Rattle.pa_rules.specs.Played.{OpLine, op_line_of, AreLines}
use Rattle.pa_rules.specs.Legal.{phases_in}
use Rattle.pa_logs.specs.Told.{ToldRecord, played_in, is_of_thread, is_until, told_until}
use Rattle.pa_logs.specs.Listed.{AreRising}
use Rattle.pa_logs.proofs.Due.{IsWithin, records_due, told_rise}
use Rattle.pa_logs.proofs.Filters.{filter_all, filter_none, filter_within, filter_both, pairs_filter}
use Rattle.pa_logs.proofs.Lined.{phases_rise}
use Rattle.pa_execution.specs.Turns.{Manner, Beside, InTurn, turn_of, turns_in, last_turn, ops_of, TurnsGo}
use Rattle.pa_execution.specs.Courses.{Course, IsCourseBy}
use Rattle.pa_execution.specs.Merged.{told_by_turns}
use Rattle.pa_execution.proofs.Merging.{is_told_in, merged_lines, merged_groups}
use Rattle.pa_execution.proofs.Turning.{all_turns_go}

-- a record of the line, whatever its answer
abbrev some_record : OpLine → Played
some_record o = record { line = o.line; thread = o.thread; phase = o.phase; rules = o.rules; op = o.op; answer = Nothing }

lines_again : (os : List OpLine) → map op_line_of (map some_record os) ≡ os
lines_again [] = refl
lines_again (o ∷ os) = ap (λ zs. o ∷ zs) (lines_again os)

-- the turn of a record
abbrev pub told_turn : Manner → ToldRecord → ℕ
told_turn way x = turn_of way (op_line_of x.played)

-- the records of one turn
abbrev pub is_of_turn : Manner → ℕ → ToldRecord → Bool
is_of_turn way n x = told_turn way x == n

-- the records up to the end of a turn
abbrev pub is_by_turn : Manner → ℕ → ToldRecord → Bool
is_by_turn way n x = nat_le (told_turn way x) n

abbrev pub turns_until : Manner → ℕ → List ToldRecord → List ToldRecord
turns_until way n xs = filter (is_by_turn way n) xs

-- what a thread played in the first turns
abbrev pub so_far : (ℕ → ℕ → List ToldRecord) → ℕ → ℕ → List ToldRecord
so_far plays k zero = []
so_far plays k (suc n) = so_far plays k n ++ plays (suc n) k

-- records up to a turn are those up to the one before, and then its own
pub until_split : (way : Manner) (n : ℕ) (xs : List ToldRecord) → AreRising xs →
    ((x y : ToldRecord) → Contains xs x → Contains xs y → told_turn way x < told_turn way y → x.played.line < y.played.line) →
    turns_until way (suc n) xs ≡ turns_until way n xs ++ filter (is_of_turn way (suc n)) xs
until_split way n [] rising turns = refl
until_split way n (x ∷ xs) rising turns =
    let again = until_split way n xs (pairs_tail (λ (a b : ToldRecord). a.played.line < b.played.line) x xs rising)
    (λ a b first second. turns a b (later_in x a xs first) (later_in x b xs second)) in
    elim (cases_lt n (told_turn way x)) [
      | inr low ↦
          let before = le-leb (told_turn way x) n (omega arith) in
          let also = le-leb (told_turn way x) (suc n) (omega arith) in
          let other = ne_eqb (told_turn way x) (suc n) (λ e. omega arith) in
          rw (before, also, other) (ap (λ zs. x ∷ zs) again)
      | inl high ↦ elim (cases_eq (told_turn way x) (suc n)) [
        | inl here ↦
            let none : turns_until way n xs ≡ [] = filter_none (is_by_turn way n) xs (λ y among passes.
            let early = leb-true (told_turn way y) n passes in
            let up = pairs_head (λ (a b : ToldRecord). a.played.line < b.played.line) x y xs rising among in
            let down = turns y x (later_in x y xs among) (first_in x xs) (omega arith) in
            omega arith) in
            let before = lt-leb (told_turn way x) n high in
            let also = le-leb (told_turn way x) (suc n) (omega arith) in
            let own = eq-eqb (told_turn way x) (suc n) here in
            rw (before, also, own, none) (ap (λ zs. x ∷ zs) (again ∙ ap (λ zs. zs ++ filter (is_of_turn way (suc n)) xs) none))
        | inr past ↦
            let before = lt-leb (told_turn way x) n high in
            let also = lt-leb (told_turn way x) (suc n) (omega arith) in
            let other = ne_eqb (told_turn way x) (suc n) past in
            rw (before, also, other) again
      ]
    ]

-- tests that the same members pass leave the same
same_filter : (f g : ToldRecord → Bool) (xs : List ToldRecord) → ((x : ToldRecord) → Contains xs x → f x ≡ true → g x ≡ true) →
    ((x : ToldRecord) → Contains xs x → g x ≡ true → f x ≡ true) → filter f xs ≡ filter g xs
same_filter f g xs each back =
    sym (filter_within f g xs each)
    ∙ filter_all f (filter g xs) (λ x among. let (inside, passes) = filter_cases g xs x among in back x inside passes)

-- a record of an earlier turn is of an earlier line
earlier_line : (way : Manner) (t : Trace) (ps : List Played) → AreLines (rules_of t) t.lines ps → (x y : Played) → Contains ps x →
    Contains ps y → turn_of way (op_line_of x) < turn_of way (op_line_of y) → x.line < y.line
earlier_line Beside t ps are x y first second late = phases_rise (rules_of t) t.lines ps are x y first second late
earlier_line InTurn t ps are x y first second late = late

module _ (way : Manner) (t : Trace) (c : Course) (limits : IsWithinLimits t) (course : IsCourseBy way t (turns_in way t) c) where
  -- the turns and threads of the trace
  abbrev IsThere : ℕ → ℕ → Type 0
  IsThere n k = (1 ≤ n) × (n ≤ turns_in way t) × (k < t.threads)

  go : TurnsGo way t
  go = all_turns_go way t

  lines_there : (o : OpLine) → Contains (ops_of t) o → IsThere (turn_of way o) o.thread
  lines_there o among =
      let is = records_due t (map some_record (ops_of t)) (some_record o) limits
      (lines_again (ops_of t)) (map_in some_record (ops_of t) o among) in
      (go.first o among, go.there o among, is.thread)

  pub are_lines : AreLines (rules_of t) t.lines (played_in (told_by_turns way t c))
  are_lines = merged_lines way IsThere c.plays (ops_of t) lines_there (λ n k there. course.lines n k there.0 there.1 there.2)

  pub group : (n k : ℕ) → 1 ≤ n → n ≤ turns_in way t → k < t.threads → filter (is_told_in way n k) (told_by_turns way t c) ≡ c.plays n k
  group n k low high few =
      merged_groups way IsThere c.plays (ops_of t) lines_there (λ m j there. course.lines m j there.0 there.1 there.2) n k (low, high, few)

  pub rising : AreRising (told_by_turns way t c)
  rising = told_rise t (told_by_turns way t c) are_lines

  -- a record's record is one
  is_played : (x : ToldRecord) → Contains (told_by_turns way t c) x → Contains (played_in (told_by_turns way t c)) x.played
  is_played x among = map_in (λ (z : ToldRecord). z.played) (told_by_turns way t c) x among

  pub within : (x : ToldRecord) → Contains (told_by_turns way t c) x → IsWithin t x.played
  within x among = records_due t (played_in (told_by_turns way t c)) x.played limits are_lines (is_played x among)

  -- its op line is one of the trace, so it has a turn
  of_trace : (x : ToldRecord) → Contains (told_by_turns way t c) x → Contains (ops_of t) (op_line_of x.played)
  of_trace x among = subst (λ os. Contains os (op_line_of x.played)) are_lines
      (map_in op_line_of (played_in (told_by_turns way t c)) x.played (is_played x among))

  pub turn_low : (x : ToldRecord) → Contains (told_by_turns way t c) x → 1 ≤ told_turn way x
  turn_low x among = go.first (op_line_of x.played) (of_trace x among)

  pub turn_high : (x : ToldRecord) → Contains (told_by_turns way t c) x → told_turn way x ≤ turns_in way t
  turn_high x among = go.there (op_line_of x.played) (of_trace x among)

  -- a record is among those of its thread in its turn, and those are among all
  pub in_group : (x : ToldRecord) → Contains (told_by_turns way t c) x → Contains (c.plays (told_turn way x) x.played.thread) x
  in_group x among =
      let own : is_told_in way (told_turn way x) x.played.thread x ≡ true =
      rw (eq-eqb (told_turn way x) (told_turn way x) refl, eq-eqb x.played.thread x.played.thread refl) refl in
      subst (λ xs. Contains xs x)
      (group (told_turn way x) x.played.thread (turn_low x among) (turn_high x among) (within x among).thread)
      (filter_in (is_told_in way (told_turn way x) x.played.thread) (told_by_turns way t c) x among own)

  pub from_group : (n k : ℕ) (x : ToldRecord) → 1 ≤ n → n ≤ turns_in way t → k < t.threads → Contains (c.plays n k) x →
      Contains (told_by_turns way t c) x
  from_group n k x low high few among =
      (filter_cases (is_told_in way n k) (told_by_turns way t c) x
      (subst (λ xs. Contains xs x) (sym (group n k low high few)) among)).0

  pub group_rises : (n k : ℕ) → 1 ≤ n → n ≤ turns_in way t → k < t.threads → AreRising (c.plays n k)
  group_rises n k low high few =
      subst AreRising (group n k low high few)
      (pairs_filter (λ (x y : ToldRecord). x.played.line < y.played.line) (is_told_in way n k) (told_by_turns way t c) rising)

  -- a record of an earlier turn is of an earlier line, and one of an earlier phase of an earlier turn
  pub earlier : (x y : ToldRecord) → Contains (told_by_turns way t c) x → Contains (told_by_turns way t c) y →
      told_turn way x < told_turn way y → x.played.line < y.played.line
  earlier x y first second late =
      earlier_line way t (played_in (told_by_turns way t c)) are_lines x.played y.played (is_played x first) (is_played y second) late

  pub phase_turns : (x y : ToldRecord) → Contains (told_by_turns way t c) x → Contains (told_by_turns way t c) y →
      x.played.phase < y.played.phase → told_turn way x < told_turn way y
  phase_turns x y first second late =
      let low = (within x first).low in
      let ends = go.until x.played.phase (op_line_of x.played) low (of_trace x first) (omega arith) in
      elim (cases_lt (told_turn way x) (told_turn way y)) [
        | inl less ↦ less
        | inr not_less ↦ absurd (
            let early = go.only x.played.phase (op_line_of y.played) low (of_trace y second) (omega arith) in
            omega arith
            )
      ]

  pub all_until : told_until (phases_in t.lines) (told_by_turns way t c) ≡ told_by_turns way t c
  all_until = filter_all (is_until (phases_in t.lines)) (told_by_turns way t c)
      (λ x among. le-leb x.played.phase (phases_in t.lines) (within x among).high)

  pub all_turns : turns_until way (turns_in way t) (told_by_turns way t c) ≡ told_by_turns way t c
  all_turns = filter_all (is_by_turn way (turns_in way t)) (told_by_turns way t c)
      (λ x among. le-leb (told_turn way x) (turns_in way t) (turn_high x among))

  -- the records up to a phase are those up to its last turn
  pub phase_until : (n : ℕ) → 1 ≤ n → told_until n (told_by_turns way t c) ≡ turns_until way (last_turn way t n) (told_by_turns way t c)
  phase_until n low =
      same_filter (is_until n) (is_by_turn way (last_turn way t n)) (told_by_turns way t c)
      (λ x among early. le-leb (told_turn way x) (last_turn way t n)
      (go.until n (op_line_of x.played) low (of_trace x among) (leb-true x.played.phase n early)))
      (λ x among early. le-leb x.played.phase n
      (go.only n (op_line_of x.played) low (of_trace x among) (leb-true (told_turn way x) (last_turn way t n) early)))

  -- the last turn of a phase is a turn
  pub last_low : (n : ℕ) → 1 ≤ n → n ≤ phases_in t.lines → 1 ≤ last_turn way t n
  last_low = go.last

  pub last_high : (n : ℕ) → 1 ≤ n → n ≤ phases_in t.lines → last_turn way t n ≤ turns_in way t
  last_high = go.high

  -- what a thread played up to a turn, and up to a phase
  pub thread_turns : (n k : ℕ) → n ≤ turns_in way t → k < t.threads →
      filter (is_of_thread k) (turns_until way n (told_by_turns way t c)) ≡ so_far c.plays k n
  thread_turns zero k high few =
      ap (filter (is_of_thread k)) (filter_none (is_by_turn way 0) (told_by_turns way t c) (λ x among passes.
      let low = turn_low x among in
      let early = leb-true (told_turn way x) 0 passes in
      omega arith))
  thread_turns (suc n) k high few =
      let ts = told_by_turns way t c in
      let again = thread_turns n k (omega arith) few in
      let own : filter (is_of_thread k) (filter (is_of_turn way (suc n)) ts) ≡ c.plays (suc n) k =
      filter_both (is_of_turn way (suc n)) (is_of_thread k) ts ∙ group (suc n) k (omega arith) high few in
      ap (filter (is_of_thread k)) (until_split way n ts rising earlier)
      ∙ (filter-append (is_of_thread k) (turns_until way n ts) (filter (is_of_turn way (suc n)) ts)
      ∙ (ap (λ zs. zs ++ filter (is_of_thread k) (filter (is_of_turn way (suc n)) ts)) again ∙ ap (λ zs. so_far c.plays k n ++ zs) own))

  pub thread_until : (n k : ℕ) → 1 ≤ n → n ≤ phases_in t.lines → k < t.threads →
      filter (is_of_thread k) (told_until n (told_by_turns way t c)) ≡ so_far c.plays k (last_turn way t n)
  thread_until n k low high few =
      ap (filter (is_of_thread k)) (phase_until n low) ∙ thread_turns (last_turn way t n) k (last_high n low high) few

  -- no record is of a thread that the run hasn't
  pub no_thread : (test : ToldRecord → Bool) (k : ℕ) → t.threads ≤ k →
      filter (is_of_thread k) (filter test (told_by_turns way t c)) ≡ []
  no_thread test k past = filter_none (is_of_thread k) (filter test (told_by_turns way t c)) (λ x among mine.
      let few = (within x (filter_cases test (told_by_turns way t c) x among).0).thread in
      let same = eqb-true x.played.thread k mine in
      omega arith)
