-- A thread's worker from turn to turn: it stays that of its thread, its log is that of its records, and seats forget nothing.
use Rattle.std.proofs.Common.{◌≡◌, ℕ, zero, suc, ◌+◌, ◌-◌, ◌<◌, ◌≤◌, List, [], ◌∷◌, ◌++◌, sym, ◌∙◌, ap, subst, arith, inl, inr, eqb}
use Rattle.std.specs.Prelude.{Contains}
use Rattle.std.specs.List.{sum_by, AllByRecursion as Each}
use Rattle.std.proofs.lemmas.Bool.{cases_lt, cases_eq, eq-eqb, ne_eqb}
use Rattle.std.proofs.lemmas.List.Concat.{flat_map-append}
use Rattle.std.proofs.lemmas.List.Sums.{sum_by-cons}
use Rattle.pa_slot.specs.Holdings.{one}
use Rattle.pa_lists.proofs.Members.{not_in_none, first_in, later_in, in_cases}
use Rattle.pa_region.specs.declared.view.Stake.{Stake}
use Rattle.pa_region.specs.declared.view.View.{View}
use Rattle.pa_region.specs.Pairs.{log_among}
use Rattle.pa_region.specs.Takes.{log_of}
use Rattle.pa_region.specs.Aware.{IsAware}
use Rattle.pa_trace.specs.declared.script.Trace.{Trace}
use Rattle.pa_trace.specs.Limits.{IsWithinLimits}
use Rattle.pa_rules.specs.Legal.{phases_in}
use Rattle.pa_logs.specs.Told.{ToldRecord}
use Rattle.pa_logs.specs.Told.{log_of as told_log}
use Rattle.pa_logs.specs.Said.{HasLogs, EndsPhase}
use Rattle.pa_op_specs.specs.Workers.{WorkerValue}
use Rattle.pa_op_specs.specs.Plays.{PlaysSome}
use Rattle.pa_execution.specs.Turns.{Manner, turns_in, last_turn}
use Rattle.pa_execution.specs.Courses.{Course, IsCourseBy, Closes, HasSeenAll, HearsIf, some_in}
use Rattle.pa_execution.specs.Merged.{told_by_turns, phase_seats}
use Rattle.pa_execution.proofs.Playing.{HasPlayed, some_by, sees_itself, sees_then, stays, stretches, logged, has_played}
use Rattle.pa_execution.proofs.Turning.{some_turn}
use Rattle.pa_execution.proofs.Grouping.{told_turn, is_by_turn, turns_until, so_far, within, turn_low, turn_high, in_group, all_turns, phase_until, last_low, last_high, thread_turns, no_thread}

-- ---- the logs of a seat, stake by stake

abbrev has_number : ℕ → Stake → ℕ
has_number k s = one (eqb s.number k)

each_from : (P : Stake → Type 0) (ss : List Stake) → ((s : Stake) → Contains ss s → P s) → Each P ss
each_from P [] each = tt
each_from P (s ∷ ss) each = (each s (first_in s ss), each_from P ss (λ z among. each z (later_in s z ss among)))

member_counts : (ss : List Stake) (s : Stake) → Contains ss s → 1 ≤ sum_by (has_number s.number) ss
member_counts [] s among = absurd (not_in_none s among)
member_counts (z ∷ zs) s among =
    let c = sum_by-cons (has_number s.number) z zs in
    elim (in_cases z s zs among) [
      | inl e ↦
          let here : has_number s.number z ≡ 1 = ap one (eq-eqb z.number s.number (ap (λ (x : Stake). x.number) e)) in
          omega arith
      | inr later ↦ let again = member_counts zs s later in omega arith
    ]

own_log : (ss : List Stake) (s : Stake) → Contains ss s → sum_by (has_number s.number) ss ≤ 1 → log_among s.number ss ≡ s.log
own_log [] s among few = absurd (not_in_none s among)
own_log (z ∷ zs) s among few =
    let c = sum_by-cons (has_number s.number) z zs in
    elim (in_cases z s zs among) [
      | inl e ↦ rw (eq-eqb z.number s.number (ap (λ (x : Stake). x.number) e)) (ap (λ (x : Stake). x.log) e)
      | inr later ↦
          let counted = member_counts zs s later in
          elim (cases_eq z.number s.number) [
            | inl same ↦ absurd (let here : has_number s.number z ≡ 1 = ap one (eq-eqb z.number s.number same) in omega arith)
            | inr other ↦ rw (ne_eqb z.number s.number other) (own_log zs s later (omega arith))
          ]
    ]

-- each stake of a seat has the log that the seat's logs say
each_log : (v : View) (ts : List ToldRecord) → IsAware v → ((k : ℕ) → log_of k v ≡ told_log k ts) →
    Each (λ (s : Stake). s.log ≡ told_log s.number ts) v.stakes
each_log v ts aware logs =
    each_from (λ (s : Stake). s.log ≡ told_log s.number ts) v.stakes
    (λ s among. sym (own_log v.stakes s among (aware.stake_once s.number)) ∙ logs s.number)

module _ (way : Manner) (t : Trace) (c : Course) (limits : IsWithinLimits t) (course : IsCourseBy way t (turns_in way t) c) where
  -- what a thread played in a turn
  pub played_some : (n k : ℕ) → 1 ≤ n → n ≤ turns_in way t → k < t.threads → PlaysSome (c.starts n k) (c.plays n k) (c.ends n k)
  played_some n k low high few = some_by way (c.starts n k) (c.ends n k) (c.plays n k) (course.plays n k low high few)

  -- how a record was played in its turn
  pub was_played : (x : ToldRecord) → Contains (told_by_turns way t c) x →
      HasPlayed (c.starts (told_turn way x) x.played.thread) (c.ends (told_turn way x) x.played.thread) x
  was_played x among =
      has_played (c.starts (told_turn way x) x.played.thread) (c.ends (told_turn way x) x.played.thread)
      (c.plays (told_turn way x) x.played.thread) x
      (played_some (told_turn way x) x.played.thread (turn_low way t c limits course x among) (turn_high way t c limits course x among)
      (within way t c limits course x among).thread)
      (in_group way t c limits course x among)

  -- ---- the worker of a thread

  pub record IsOf (k : ℕ) (w : WorkerValue) : Type 0 where
    pub thread : w.stock.thread ≡ k
    pub many : w.stock.partitions ≡ t.partitions

  pub heard_next : (n k : ℕ) → 1 ≤ n → n < turns_in way t → k < t.threads →
      HearsIf (some_in (c.plays (suc n) k)) k (c.seats n) (c.ends n k) (c.starts (suc n) k)
  heard_next n k low high few =
      let next : n + 1 ≡ suc n = omega arith in
      subst (λ m. HearsIf (some_in (c.plays m k)) k (c.seats n) (c.ends n k) (c.starts m k)) next (course.hears n k low high few)

  pub is_after : (k n : ℕ) → 1 ≤ n → n ≤ turns_in way t → k < t.threads → IsOf k (c.starts n k) → IsOf k (c.ends n k)
  is_after k n low high few is =
      let (thread, many) = stays (c.starts n k) (c.ends n k) (c.plays n k) (played_some n k low high few) in
      record { thread = thread ∙ is.thread; many = many ∙ is.many }

  pub starts_of : (k n : ℕ) → suc n ≤ turns_in way t → k < t.threads → IsOf k (c.starts (suc n) k)
  starts_of k zero high few =
      let new = (course.begins k few).new in
      record { thread = new.stock.thread_is; many = new.stock.partitions_are }
  starts_of k (suc n) high few =
      let before = is_after k (suc n) (omega arith) (omega arith) few (starts_of k n (omega arith) few) in
      let heard = heard_next (suc n) k (omega arith) (omega arith) few in
      record {
        thread = ap (λ (w : WorkerValue). w.stock.thread) heard.same ∙ before.thread;
        many = ap (λ (w : WorkerValue). w.stock.partitions) heard.same ∙ before.many;
      }

  -- the log of a thread at the end of a turn is that of its records so far
  pub log_after : (k n : ℕ) → suc n ≤ turns_in way t → k < t.threads →
      log_of k (c.ends (suc n) k).stock.view ≡ stretches (so_far c.plays k (suc n))
  log_after k zero high few =
      let begins = course.begins k few in
      let more = logged (c.starts 1 k) (c.ends 1 k) (c.plays 1 k) k (played_some 1 k (omega arith) high few)
      (starts_of k 0 high few).thread in
      let none : log_of k (c.starts 1 k).stock.view ≡ [] = ap (log_of k) begins.new.stock.view ∙ begins.log in
      more ∙ ap (λ es. es ++ stretches (c.plays 1 k)) none
  log_after k (suc n) high few =
      let again = log_after k n (omega arith) few in
      let heard = heard_next (suc n) k (omega arith) (omega arith) few in
      let more = logged (c.starts (suc (suc n)) k) (c.ends (suc (suc n)) k) (c.plays (suc (suc n)) k) k
      (played_some (suc (suc n)) k (omega arith) high few) (starts_of k (suc n) high few).thread in
      let same : log_of k (c.starts (suc (suc n)) k).stock.view ≡ stretches (so_far c.plays k (suc n)) =
      ap (λ (w : WorkerValue). log_of k w.stock.view) heard.same ∙ (heard.log ∙ again) in
      more ∙ (ap (λ es. es ++ stretches (c.plays (suc (suc n)) k)) same ∙
      sym (flat_map-append (λ (x : ToldRecord). x.stretch) (so_far c.plays k (suc n)) (c.plays (suc (suc n)) k)))

  -- ---- the main seat

  -- the logs of the main seat at the end of a turn are those of the records so far
  seat_logs : (n k : ℕ) → suc n ≤ turns_in way t →
      log_of k (c.seats (suc n)) ≡ told_log k (turns_until way (suc n) (told_by_turns way t c))
  seat_logs n k high = elim (cases_lt k t.threads) [
    | inl few ↦ (course.tells (suc n) (omega arith) high).logs k few ∙
        (log_after k n high few ∙ sym (ap stretches (thread_turns way t c limits course (suc n) k high few)))
    | inr past ↦
        (course.tells (suc n) (omega arith) high).idle k past
        ∙ sym (ap stretches (no_thread way t c limits course (is_by_turn way (suc n)) k past))
  ]

  -- the main seat forgets nothing from turn to turn
  pub sees_until : (n m : ℕ) → 1 ≤ n → n ≤ m → m ≤ turns_in way t → HasSeenAll (c.seats n) (c.seats m)
  sees_until n zero low more high = absurd (omega arith)
  sees_until n (suc m) low more high = elim (cases_lt n (suc m)) [
    | inl below ↦
        let next : m + 1 ≡ suc m = omega arith in
        let kept = subst (λ k. HasSeenAll (c.seats m) (c.seats k)) next (course.keeps m (omega arith) (omega arith)) in
        sees_then (c.seats n) (c.seats m) (c.seats (suc m)) (sees_until n m low (omega arith) (omega arith)) kept
    | inr at ↦
        let same : n ≡ suc m = omega arith in
        subst (λ k. HasSeenAll (c.seats n) (c.seats k)) same (sees_itself (c.seats n))
  ]

  module _ (v : View) (closes : Closes (c.seats (turns_in way t)) v) where
    pub sees_last : (n : ℕ) → 1 ≤ n → n ≤ turns_in way t → HasSeenAll (c.seats n) v
    sees_last n low high = sees_then (c.seats n) (c.seats (turns_in way t)) v
        (sees_until n (turns_in way t) low high (omega arith)) closes.sees

    -- the main seat at the end of a turn, and of a phase
    pub ends_turn : (n : ℕ) → 1 ≤ n → n ≤ turns_in way t → HasLogs (c.seats n) (turns_until way n (told_by_turns way t c))
    ends_turn zero low high = absurd (omega arith)
    ends_turn (suc n) low high =
        let told = course.tells (suc n) low high in
        record {
          aware = told.aware;
          every = told.every;
          logs = each_log (c.seats (suc n)) (turns_until way (suc n) (told_by_turns way t c)) told.aware (λ k. seat_logs n k high);
        }

    pub ends_phase : (n : ℕ) → 1 ≤ n → n ≤ phases_in t.lines → EndsPhase n (phase_seats way t c n) v (told_by_turns way t c)
    ends_phase n low high =
        let first = last_low way t c limits course n low high in
        let inside = last_high way t c limits course n low high in
        record {
          has = subst (HasLogs (phase_seats way t c n)) (sym (phase_until way t c limits course n low))
              (ends_turn (last_turn way t n) first inside);
          begins = λ q few. (sees_last (last_turn way t n) first inside).lists q;
        }

    last_logs : (k m : ℕ) → turns_in way t ≡ suc m → log_of k v ≡ told_log k (told_by_turns way t c)
    last_logs k m is =
        closes.logs k ∙ (ap (λ n. log_of k (c.seats n)) is ∙ (seat_logs m k (omega arith)
        ∙ (ap (λ n. told_log k (turns_until way n (told_by_turns way t c))) (sym is) ∙ ap (told_log k) (all_turns way t c limits course))))

    pub has_last : HasLogs v (told_by_turns way t c)
    has_last =
        let there = some_turn way t in
        let some : turns_in way t ≡ suc (turns_in way t - 1) = omega arith in
        record {
          aware = closes.aware;
          every = closes.every;
          logs = each_log v (told_by_turns way t c) closes.aware (λ k. last_logs k (turns_in way t - 1) some);
        }
