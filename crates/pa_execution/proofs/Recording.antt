-- The records that each worker has are those of its thread.
use Rattle.std.proofs.Common.{◌≡◌, ℕ, zero, suc, ◌<◌, ◌≤◌, List, [], ◌∷◌, ◌++◌, map, filter, refl, sym, ◌∙◌, ap, arith, append-nil, append_assoc}
use Rattle.pa_record.specs.declared.entry.Entry.{Entry}
use Rattle.pa_trace.specs.declared.script.Trace.{Trace}
use Rattle.pa_trace.specs.Limits.{IsWithinLimits}
use Rattle.pa_rules.specs.Played.{entry_of}
use Rattle.pa_rules.specs.Legal.{phases_in}
use Rattle.pa_logs.specs.Told.{ToldRecord, played_in, is_of_thread, told_until}
use Rattle.pa_op_specs.specs.Workers.{WorkerValue}
use Rattle.pa_op_specs.specs.Plays.{PlaysSome}
use Rattle.pa_execution.specs.Turns.{Manner, turns_in, last_turn}
use Rattle.pa_execution.specs.Courses.{Course, IsCourseBy}
use Rattle.pa_execution.specs.Merged.{told_by_turns}
use Rattle.pa_execution.specs.Telling.{WorkersHaveTheirs}
use Rattle.pa_execution.proofs.Chaining.{played_some, was_played, heard_next}
use Rattle.pa_execution.proofs.Grouping.{so_far, last_low, last_high, thread_until}

-- the entries of annotated records
abbrev entries_in : List ToldRecord → List Entry
entries_in xs = map entry_of (played_in xs)

entries_append : (xs ys : List ToldRecord) → entries_in (xs ++ ys) ≡ entries_in xs ++ entries_in ys
entries_append [] ys = refl
entries_append (x ∷ xs) ys = ap (λ es. entry_of x.played ∷ es) (entries_append xs ys)

-- a worker has the records that it played besides
recorded : (w v : WorkerValue) (xs : List ToldRecord) → PlaysSome w xs v → v.records ≡ w.records ++ entries_in xs
recorded w v [] same = ap (λ (z : WorkerValue). z.records) same ∙ sym (append-nil w.records)
recorded w v (x ∷ xs) (next, one, more) =
    recorded next v xs more ∙ (ap (λ es. es ++ entries_in xs) one.records ∙ append_assoc w.records (entry_of x.played ∷ []) (entries_in xs))

module _ (way : Manner) (t : Trace) (c : Course) (limits : IsWithinLimits t) (course : IsCourseBy way t (turns_in way t) c) where
  records_after : (k n : ℕ) → suc n ≤ turns_in way t → k < t.threads → (c.ends (suc n) k).records ≡ entries_in (so_far c.plays k (suc n))
  records_after k zero high few =
      recorded (c.starts 1 k) (c.ends 1 k) (c.plays 1 k) (played_some way t c limits course 1 k (omega arith) high few) ∙
      ap (λ es. es ++ entries_in (c.plays 1 k)) (course.begins k few).new.records
  records_after k (suc n) high few =
      let m = suc (suc n) in
      let heard = heard_next way t c limits course (suc n) k (omega arith) (omega arith) few in
      let same : (c.starts m k).records ≡ (c.ends (suc n) k).records = ap (λ (w : WorkerValue). w.records) heard.same in
      recorded (c.starts m k) (c.ends m k) (c.plays m k) (played_some way t c limits course m k (omega arith) high few)
      ∙ (ap (λ es. es ++ entries_in (c.plays m k)) (same ∙ records_after k n (omega arith) few) ∙
      sym (entries_append (so_far c.plays k (suc n)) (c.plays m k)))

  records_at : (n k : ℕ) → 1 ≤ n → n ≤ turns_in way t → k < t.threads → (c.ends n k).records ≡ entries_in (so_far c.plays k n)
  records_at zero k low high few = absurd (omega arith)
  records_at (suc n) k low high few = records_after k n high few

  records : (n k : ℕ) → 1 ≤ n → n ≤ phases_in t.lines → k < t.threads →
      (c.ends (last_turn way t n) k).records ≡ entries_in (filter (is_of_thread k) (told_until n (told_by_turns way t c)))
  records n k low high few =
      records_at (last_turn way t n) k (last_low way t c limits course n low high) (last_high way t c limits course n low high) few
      ∙ ap entries_in (sym (thread_until way t c limits course n k low high few))

pub workers_have_theirs : WorkersHaveTheirs
workers_have_theirs way t c limits course = record {
  records = records way t c limits course;
  unmaps = λ x u among there. (was_played way t c limits course x among).one.does.enters.uncuts u there;
}
