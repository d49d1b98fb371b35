-- What is cached at the end of a phase: the slots in the threads' lists and in their queues.
use Rattle.std.proofs.Common.{◌≡◌, ℕ, zero, suc, leb, ◌+◌, ◌<◌, ◌≤◌, ◌==◌, if◌then◌else◌, List, [], ◌∷◌, length, refl, sym, ◌∙◌, ap, subst, arith, inl, inr}
use Rattle.std.specs.Prelude.{Contains}
use Rattle.std.proofs.lemmas.Bool.{cases_Bool}
use Rattle.pa_lists.proofs.Members.{first_in, later_in}
use Rattle.pa_buckets.specs.Table.{slot_of}
use Rattle.pa_trace.specs.declared.script.Trace.{Trace}
use Rattle.pa_record.specs.declared.numbered.Numbered.{Numbered}
use Rattle.pa_record.specs.declared.report.Tally.{Tally}
use Rattle.pa_region.specs.declared.view.View.{View}
use Rattle.pa_rules.specs.Caches.{Cache, listed_slots, no_caches}
use Rattle.pa_rules.specs.Report.{until, listed_bytes, cached_slots, cached_bytes}
use Rattle.pa_rules.specs.Legal.{phases_in}
use Rattle.pa_rules.specs.Told.{Told}
use Rattle.pa_logs.specs.Told.{played_in}
use Rattle.pa_cells.specs.declared.handle.Handle.{Handle}
use Rattle.pa_cells.specs.Cells.{Exchange}
use Rattle.pa_cells.specs.Handles.{HasSeenMade}
use Rattle.pa_delay.specs.Delayed.{no_queues, DelayedTo}
use Rattle.pa_delay.specs.Queue.{queued_slots, queued_bytes, size_of_class}
use Rattle.pa_delay.specs.Runs.{QueuedOf, AllQueued, IsDelayedTally}
use Rattle.pa_op_specs.specs.Stocks.{StockValue, listed_in}
use Rattle.pa_op_specs.proofs.Following.{seen_before}
use Rattle.pa_op_specs.proofs.Seeing.{IsSlotIn, slot_in_run}
use Rattle.pa_heap.specs.Waiting.{waiting_in, CanWait}
use Rattle.pa_execution.specs.Turns.{InTurn, turns_in, last_turn}
use Rattle.pa_execution.specs.Courses.{Course}
use Rattle.pa_execution.specs.Lines.{sum_over}
use Rattle.pa_execution.specs.Merged.{told_by_turns, lists_at, outcome_of}
use Rattle.pa_execution.specs.Telling.{IsWholeRunBy}
use Rattle.pa_execution.proofs.Fitting.{end_sees, is_outcome, seen_of_it}
use Rattle.pa_execution.proofs.Grouping.{phase_until, last_low, last_high}
use Rattle.pa_execution.proofs.Heaping.{played_filter}
use Rattle.pa_delay_runner.specs.Course.{IsDelayedCourse, IsCachedWith}
use Rattle.pa_delay_runner.specs.Laws.{queues_at}
use Rattle.pa_delay_runner.proofs.Leading.{has_lists, has_queue, leads}

-- one more, if it is of the partition
one_more : (p q n m a : ℕ) → ((if q == p then 1 else 0) + n ≡ (if q == p then suc n else n))
    × ((if q == p then m else 0) + a ≡ (if q == p then m + a else a))
one_more p q n m a = elim (cases_Bool (q == p)) [ inl y ↦ rw y (omega arith, refl) | inr other ↦ rw other (omega arith, omega arith) ]

module _ (bytes : ℕ) (t : Trace) (r : Told) (c : Course) (v : View) (xs : List Exchange) (waiting : ℕ → ℕ → List Handle)
    (run : IsWholeRunBy InTurn t r c v xs) (delayed : IsDelayedCourse bytes t (turns_in InTurn t) c waiting) where
  -- a slot that a worker's seat has seen made is one of the run, and so is one that waits in its queue
  pub seen_in_run : (n k : ℕ) (h : Handle) → 1 ≤ n → n ≤ turns_in InTurn t → k < t.threads → HasSeenMade h (c.ends n k).stock.view →
      IsSlotIn (outcome_of t r) h
  seen_in_run n k h low high few made =
      let view = (c.ends n k).stock.view in
      slot_in_run (outcome_of t r) view h (is_outcome InTurn t r c v xs run)
      (seen_before (outcome_of t r) view v (end_sees InTurn t r c v xs run n k low high few).lists (seen_of_it InTurn t r c v xs run)) made

  pub waits_in_run : (n k : ℕ) (h : Handle) → 1 ≤ n → n ≤ turns_in InTurn t → k < t.threads → Contains (waiting n k) h →
      IsSlotIn (outcome_of t r) h
  waits_in_run n k h low high few among = seen_in_run n k h low high few ((delayed.holds n k low high few).each h among).made

  queued : (p : ℕ) (s : StockValue) (hs : List Handle) → ((h : Handle) → Contains hs h → IsSlotIn (outcome_of t r) h × CanWait h s) →
      QueuedOf r.roots p (waiting_in s hs) (queued_slots p hs) (queued_bytes p hs)
  queued p s [] each = (refl, refl)
  queued p s (h ∷ hs) each =
      let (slot, can) = each h (first_in h hs) in
      let (slots, more) = one_more p h.partition (queued_slots p hs) (slot_of can.class) (queued_bytes p hs) in (
        h.partition,
        can.class,
        queued_slots p hs,
        queued_bytes p hs,
        slot.class can.class can.class_is,
        queued p s hs (λ g among. each g (later_in h g hs among)),
        slots,
        ap (λ z. (if h.partition == p then size_of_class z else 0) + queued_bytes p hs) can.class_is ∙ more,
      )

  module _ (n : ℕ) (low : 1 ≤ n) (high : n ≤ turns_in InTurn t) (p : ℕ) where
    all_queued : (m : ℕ) → m ≤ t.threads →
        AllQueued r.roots p (queues_at t c waiting n) m (sum_over (λ k. queued_slots p (waiting n k)) m)
        (sum_over (λ k. queued_bytes p (waiting n k)) m)
    all_queued zero few = (refl, refl)
    all_queued (suc m) few =
        let below : m < t.threads = omega arith in (
          queued_slots p (waiting n m),
          queued_bytes p (waiting n m),
          sum_over (λ k. queued_slots p (waiting n k)) m,
          sum_over (λ k. queued_bytes p (waiting n k)) m,
          subst (λ (q : List Numbered). QueuedOf r.roots p q (queued_slots p (waiting n m)) (queued_bytes p (waiting n m)))
              (sym (has_queue bytes t r c v xs waiting run delayed n m below))
              (queued p (c.ends n m).stock (waiting n m)
              (λ h among. (waits_in_run n m h low high below among, (delayed.holds n m low high below).each h among))),
          all_queued m (omega arith),
          refl,
          refl,
        )

    abbrev lists_of : ℕ → Cache
    lists_of k = listed_in (c.ends n k).stock

    slots_over : (m : ℕ) → m ≤ t.threads →
        sum_over (λ k. listed_slots (lists_of k p) 0 170 + queued_slots p (waiting n k)) m
        ≡ cached_slots (lists_at t c n) p m + sum_over (λ k. queued_slots p (waiting n k)) m
    slots_over zero few = refl
    slots_over (suc m) few =
        let here : listed_slots (lists_at t c n m p) 0 170 ≡ listed_slots (lists_of m p) 0 170 =
        ap (λ (z : Cache). listed_slots (z p) 0 170) (has_lists bytes t r c v xs waiting run delayed n m (omega arith)) in
        let rest = slots_over m (omega arith) in
        omega arith

    bytes_over : (m : ℕ) → m ≤ t.threads →
        sum_over (λ k. listed_bytes (λ class. length (lists_of k p class)) 0 170 + queued_bytes p (waiting n k)) m
        ≡ cached_bytes (lists_at t c n) p m + sum_over (λ k. queued_bytes p (waiting n k)) m
    bytes_over zero few = refl
    bytes_over (suc m) few =
        let here : listed_bytes (λ class. length (lists_at t c n m p class)) 0 170 ≡ listed_bytes
        (λ class. length (lists_of m p class)) 0 170 =
        ap (λ (z : Cache). listed_bytes (λ class. length (z p class)) 0 170)
        (has_lists bytes t r c v xs waiting run delayed n m (omega arith)) in
        let rest = bytes_over m (omega arith) in
        omega arith

  -- the tally of a partition at the end of a phase
  pub tallied : (phase p : ℕ) (tally : Tally) → 1 ≤ phase → phase ≤ phases_in t.lines →
      IsCachedWith p t.threads (c.ends (last_turn InTurn t phase)) (waiting (last_turn InTurn t phase)) tally →
      IsDelayedTally bytes t.partitions t.threads r.roots (until phase (played_in (told_by_turns InTurn t c))) p tally
  tallied phase p tally low high is =
      let n = last_turn InTurn t phase in
      let first = last_low InTurn t c run.left.limits run.course phase low high in
      let last = last_high InTurn t c run.left.limits run.course phase low high in
      let ts = told_by_turns InTurn t c in
      let so_far = played_filter (λ x. leb x.phase phase) ts
      ∙ ap played_in (phase_until InTurn t c run.left.limits run.course phase low) in (
        lists_at t c n,
        queues_at t c waiting n,
        sum_over (λ k. queued_slots p (waiting n k)) t.threads,
        sum_over (λ k. queued_bytes p (waiting n k)) t.threads,
        subst (λ ps. DelayedTo bytes t.partitions r.roots no_caches no_queues ps (lists_at t c n) (queues_at t c waiting n)) (sym so_far)
            (leads bytes t r c v xs waiting run delayed n first last),
        all_queued n first last p t.threads (omega arith),
        is.slots ∙ slots_over n first last p t.threads (omega arith),
        is.bytes ∙ bytes_over n first last p t.threads (omega arith),
      )
