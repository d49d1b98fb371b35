-- A line of the report is right but for its cached slots if it is what the workers counted, what was added to the totals words, and a
-- root's census.
use Rattle.std.proofs.Common.{◌≡◌, ℕ, zero, suc, ◌+◌, ◌*◌, ◌<◌, ◌≤◌, Bool, List, [], refl, sym, ◌∙◌, ap, subst, arith}
use Rattle.std.specs.Prelude.{Contains}
use Rattle.std.specs.List.{sum_by}
use Rattle.pa_slot.specs.declared.word.SlotName.{SlotName}
use Rattle.pa_slot.specs.declared.word.Step.{Step}
use Rattle.pa_record.specs.declared.report.ReportLine.{ReportLine}
use Rattle.pa_record.specs.declared.report.Tally.{Tally}
use Rattle.pa_lists.proofs.Joined.{map_in}
use Rattle.pa_region.specs.declared.view.View.{View}
use Rattle.pa_region.specs.Takes.{log_of}
use Rattle.pa_region.specs.Totals.{is_of_kind, added_to}
use Rattle.pa_trace.specs.declared.script.Trace.{Trace}
use Rattle.pa_rules.specs.declared.played.Played.{Played}
use Rattle.pa_rules.specs.Played.{marks_of}
use Rattle.pa_rules.specs.Report.{until}
use Rattle.pa_rules.specs.Legal.{phases_in}
use Rattle.pa_rules.specs.Told.{Told}
use Rattle.pa_slot.specs.Kinds.{issues, frees, enters, leaves}
use Rattle.pa_legal.specs.Tallies.{weight_of, one_of, bytes_of}
use Rattle.pa_logs.specs.Told.{played_in}
use Rattle.pa_logs.specs.Rows.{records_by}
use Rattle.pa_logs.specs.Reported.{counted_by, IsLeftBy}
use Rattle.pa_logs.specs.Said.{sizes_in, homes_in}
use Rattle.pa_logs.proofs.Due.{place_is}
use Rattle.pa_totals.specs.Settled.{nothing_owed, owed_to, owed_at, none_owed, added_in}
use Rattle.pa_cells.specs.Cells.{Exchange}
use Rattle.pa_op_specs.specs.declared.counts.Count.{Count}
use Rattle.pa_op_specs.specs.Counts.{no_count, counted_in, GrewBy, CountsBy}
use Rattle.pa_op_specs.specs.Workers.{WorkerValue}
use Rattle.pa_op_specs.specs.Booking.{booked}
use Rattle.pa_op_specs.proofs.Counting.{weight_append, counts_append}
use Rattle.pa_op_specs.proofs.Following.{counts, bytes}
use Rattle.pa_execution.specs.Turns.{Manner, last_turn}
use Rattle.pa_execution.specs.Courses.{Course}
use Rattle.pa_execution.specs.Merged.{told_by_turns, phase_seats, outcome_of}
use Rattle.pa_execution.specs.Telling.{IsWholeRunBy}
use Rattle.pa_execution.specs.Lines.{sum_over, IsLeftOf, CoursesTellLines}
use Rattle.pa_execution.proofs.Adding.{added_by_threads}
use Rattle.pa_execution.proofs.Chaining.{played_some, heard_next, is_after, starts_of}
use Rattle.pa_execution.proofs.Fitting.{turns, fits}
use Rattle.pa_execution.proofs.Grouping.{so_far, last_low, last_high, thread_until}
use Rattle.pa_execution.proofs.Heaping.{played_append, thread_records}

-- ---- sums over threads

-- what threads count is the sum of what each counts
counted_over : (test : Step → ℕ → Bool) (weight : SlotName → ℕ) (xs : List Played) (f : ℕ → ℕ) (n : ℕ) →
    ((k : ℕ) → k < n → f k ≡ weight_of test weight (marks_of (records_by k xs))) →
    counted_by test weight xs n ≡ sum_over f n
counted_over test weight xs f zero each = refl
counted_over test weight xs f (suc n) each =
    let here = each n (omega arith) in
    let rest = counted_over test weight xs f n (λ k below. each k (omega arith)) in
    omega arith

-- ---- what a worker counted, and the bytes that it booked

-- counts that begin with the same grew from there
counts_from : (home : SlotName → ℕ) (xs : List Played) (a b d : List Count) → ((p : ℕ) → counted_in a p ≡ counted_in b p) →
    CountsBy home xs a d → CountsBy home xs b d
counts_from home xs a b d same is = record {
  issued = λ p low. subst (λ (z : Count). GrewBy issues home p xs z.issued (counted_in d p).issued) (same p) (is.issued p low);
  freed = λ p low. subst (λ (z : Count). GrewBy frees home p xs z.freed (counted_in d p).freed) (same p) (is.freed p low);
  entered = λ p low. subst (λ (z : Count). GrewBy enters home p xs z.entered (counted_in d p).entered) (same p) (is.entered p low);
  left = λ p low. subst (λ (z : Count). GrewBy leaves home p xs z.left (counted_in d p).left) (same p) (is.left p low);
}

-- what the worker of thread k owes to a word, and what its log added to it
abbrev booked_by : ℕ → WorkerValue → ℕ → ℕ → ℕ
booked_by k w p q = owed_to q (owed_at w.owed p) + sum_by (added_to (4 * p + q)) (log_of k w.stock.view)

by_thread : (k : ℕ) (w : WorkerValue) (p q : ℕ) → w.stock.thread ≡ k → booked w p q ≡ booked_by k w p q
by_thread k w p q own = ap (λ n. owed_to q (owed_at w.owed p) + sum_by (added_to (4 * p + q)) (log_of n w.stock.view)) own

-- a worker that owes nothing booked what its log added
owed_none : (p q : ℕ) → p < 4 → q < 4 → owed_to q (owed_at none_owed p) ≡ 0
owed_none p q low kind = ap (owed_to q) (nothing p low) ∙ none q kind
  where
    nothing : (i : ℕ) → i < 4 → owed_at none_owed i ≡ nothing_owed
    nothing zero few = refl
    nothing (suc zero) few = refl
    nothing (suc (suc zero)) few = refl
    nothing (suc (suc (suc zero))) few = refl
    nothing (suc (suc (suc (suc i)))) few = absurd (omega arith)

    none : (j : ℕ) → j < 4 → owed_to j nothing_owed ≡ 0
    none zero few = refl
    none (suc zero) few = refl
    none (suc (suc zero)) few = refl
    none (suc (suc (suc zero))) few = refl
    none (suc (suc (suc (suc j)))) few = absurd (omega arith)

module _ (way : Manner) (t : Trace) (r : Told) (c : Course) (v : View) (xs : List Exchange) (run : IsWholeRunBy way t r c v xs) where
  abbrev home : SlotName → ℕ
  home = homes_in t r

  abbrev size : SlotName → ℕ
  size = sizes_in t r

  counted_until : (k n : ℕ) → suc n ≤ turns way t r c v xs run → k < t.threads →
      CountsBy home (played_in (so_far c.plays k (suc n))) [] (c.ends (suc n) k).counts
  counted_until k zero high few =
      counts_from home (played_in (c.plays 1 k)) (c.starts 1 k).counts [] (c.ends 1 k).counts (run.course.begins k few).new.counts
      (counts (outcome_of t r) (c.starts 1 k) (c.ends 1 k) (c.plays 1 k)
      (played_some way t c run.left.limits run.course 1 k (omega arith) high few)
      (fits way t r c v xs run 1 k (omega arith) high few))
  counted_until k (suc n) high few =
      let m = suc (suc n) in
      let heard = heard_next way t c run.left.limits run.course (suc n) k (omega arith) (omega arith) few in
      let same : (c.starts m k).counts ≡ (c.ends (suc n) k).counts = ap (λ (w : WorkerValue). w.counts) heard.same in
      let next = counts (outcome_of t r) (c.starts m k) (c.ends m k) (c.plays m k)
      (played_some way t c run.left.limits run.course m k (omega arith) high few)
      (fits way t r c v xs run m k (omega arith) high few) in
      subst (λ ps. CountsBy home ps [] (c.ends m k).counts) (sym (played_append (so_far c.plays k (suc n)) (c.plays m k)))
      (counts_append home (played_in (so_far c.plays k (suc n))) (played_in (c.plays m k)) [] (c.ends (suc n) k).counts (c.ends m k).counts
      (counted_until k n (omega arith) few)
      (subst (λ cs. CountsBy home (played_in (c.plays m k)) cs (c.ends m k).counts) same next))

  counted_turn : (n k : ℕ) → 1 ≤ n → n ≤ turns way t r c v xs run → k < t.threads →
      CountsBy home (played_in (so_far c.plays k n)) [] (c.ends n k).counts
  counted_turn zero k low high few = absurd (omega arith)
  counted_turn (suc n) k low high few = counted_until k n high few

  -- the records of a thread up to the end of a phase
  thread_phase : (n k : ℕ) → 1 ≤ n → n ≤ phases_in t.lines → k < t.threads →
      records_by k (until n (played_in (told_by_turns way t c))) ≡ played_in (so_far c.plays k (last_turn way t n))
  thread_phase n k low high few =
      thread_records k n (told_by_turns way t c)
      ∙ ap played_in (thread_until way t c run.left.limits run.course n k low high few)

  -- of all records up to the end of a phase
  counted_at : (n k : ℕ) → 1 ≤ n → n ≤ phases_in t.lines → k < t.threads →
      CountsBy home (records_by k (until n (played_in (told_by_turns way t c)))) [] (c.ends (last_turn way t n) k).counts
  counted_at n k low high few =
      subst (λ ps. CountsBy home ps [] (c.ends (last_turn way t n) k).counts) (sym (thread_phase n k low high few))
      (counted_turn (last_turn way t n) k (last_low way t c run.left.limits run.course n low high)
      (last_high way t c run.left.limits run.course n low high) few)

  -- ---- bytes

  module _ (p q : ℕ) (low : p < 4) (kind : q < 4) where
    abbrev weighed : List Played → ℕ
    weighed ps = weight_of (is_of_kind q) (bytes_of home size p) (marks_of ps)

    -- in one turn
    booked_then : (n k : ℕ) → suc n ≤ turns way t r c v xs run → k < t.threads →
        booked_by k (c.ends (suc n) k) p q ≡ booked_by k (c.starts (suc n) k) p q + weighed (played_in (c.plays (suc n) k))
    booked_then n k high few =
        let m = suc n in
        let before = starts_of way t c run.left.limits run.course k n high few in
        let after = is_after way t c run.left.limits run.course k m (omega arith) high few before in
        let played = played_some way t c run.left.limits run.course m k (omega arith) high few in
        let more = bytes (outcome_of t r) (c.starts m k) (c.ends m k) (c.plays m k) played
        (fits way t r c v xs run m k (omega arith) high few) p q low kind in
        let a = by_thread k (c.starts m k) p q before.thread in
        let b = by_thread k (c.ends m k) p q after.thread in
        omega arith

    booked_until : (k n : ℕ) → suc n ≤ turns way t r c v xs run → k < t.threads →
        booked_by k (c.ends (suc n) k) p q ≡ weighed (played_in (so_far c.plays k (suc n)))
    booked_until k zero high few =
        let begins = run.course.begins k few in
        let more = booked_then zero k high few in
        let owed : owed_to q (owed_at (c.starts 1 k).owed p) ≡ 0 = ap (λ os. owed_to q (owed_at os p)) begins.new.owed ∙
        owed_none p q low kind in
        let log : log_of k (c.starts 1 k).stock.view ≡ [] = ap (log_of k) begins.new.stock.view ∙ begins.log in
        let added = ap (sum_by (added_to (4 * p + q))) log in
        omega arith
    booked_until k (suc n) high few =
        let m = suc (suc n) in
        let heard = heard_next way t c run.left.limits run.course (suc n) k (omega arith) (omega arith) few in
        let again = booked_until k n (omega arith) few in
        let more = booked_then (suc n) k high few in
        let same : booked_by k (c.starts m k) p q ≡ booked_by k (c.ends (suc n) k) p q =
        ap (λ (w : WorkerValue). booked_by k w p q) heard.same
        ∙ ap (λ log. owed_to q (owed_at (c.ends (suc n) k).owed p) + sum_by (added_to (4 * p + q)) log) heard.log in
        let both = ap weighed (played_append (so_far c.plays k (suc n)) (c.plays m k)) in
        let split = weight_append (is_of_kind q) (bytes_of home size p) (played_in (so_far c.plays k (suc n))) (played_in (c.plays m k)) in
        omega arith

    -- at the end of a turn nothing is owed, so a thread's log added what its records weigh
    added_turn : (n k : ℕ) → 1 ≤ n → n ≤ turns way t r c v xs run → k < t.threads →
        sum_by (added_to (4 * p + q)) (log_of k (c.seats n)) ≡ weighed (played_in (so_far c.plays k n))
    added_turn zero k first high few = absurd (omega arith)
    added_turn (suc n) k first high few =
        let all = booked_until k n high few in
        let owed = ap (λ os. owed_to q (owed_at os p)) (run.course.settled (suc n) k first high few) ∙ owed_none p q low kind in
        let log = ap (sum_by (added_to (4 * p + q))) ((run.course.tells (suc n) first high).logs k few) in
        omega arith

    -- at the end of phase n all threads have added to a totals word the bytes of its kind that their records count up to there
    added_by : (n : ℕ) → 1 ≤ n → n ≤ phases_in t.lines →
        added_in (phase_seats way t c n) (4 * p + q)
        ≡ counted_by (is_of_kind q) (bytes_of home size p) (until n (played_in (told_by_turns way t c))) t.threads
    added_by n first high =
        let from = last_low way t c run.left.limits run.course n first high in
        let to = last_high way t c run.left.limits run.course n first high in
        let told = run.course.tells (last_turn way t n) from to in
        added_by_threads (phase_seats way t c n) t.threads (4 * p + q) told.aware run.left.limits.head.2.1 told.idle
        ∙ sym (counted_over (is_of_kind q) (bytes_of home size p) (until n (played_in (told_by_turns way t c)))
        (λ k. sum_by (added_to (4 * p + q)) (log_of k (phase_seats way t c n))) t.threads
        (λ k few. added_turn (last_turn way t n) k from to few ∙ ap weighed (sym (thread_phase n k first high few))))

  -- ---- a tally

  -- one part of the counts of all threads, and two of the totals words
  left_by : (into out : Step → ℕ → Bool) (in_part out_part : Count → ℕ) (i j n p : ℕ) (tally : Tally) → in_part no_count ≡ 0 →
      out_part no_count ≡ 0 →
      ((k : ℕ) → k < t.threads →
      GrewBy into home p (records_by k (until n (played_in (told_by_turns way t c)))) (in_part no_count)
      (in_part (counted_in (c.ends (last_turn way t n) k).counts p))) →
      ((k : ℕ) → k < t.threads →
      GrewBy out home p (records_by k (until n (played_in (told_by_turns way t c)))) (out_part no_count)
      (out_part (counted_in (c.ends (last_turn way t n) k).counts p))) →
      added_in (phase_seats way t c n) (4 * p + i) ≡ counted_by into (bytes_of home size p)
      (until n (played_in (told_by_turns way t c))) t.threads →
      added_in (phase_seats way t c n) (4 * p + j) ≡ counted_by out (bytes_of home size p)
      (until n (played_in (told_by_turns way t c))) t.threads →
      IsLeftOf in_part out_part i j p t.threads (c.ends (last_turn way t n)) (phase_seats way t c n) tally →
      IsLeftBy into out home size p t.threads (until n (played_in (told_by_turns way t c))) tally
  left_by into out in_part out_part i j n p tally no_in no_out in_each out_each bytes_in bytes_out is =
      let ps = until n (played_in (told_by_turns way t c)) in
      let a = counted_over into (one_of home p) ps (λ k. in_part (counted_in (c.ends (last_turn way t n) k).counts p)) t.threads
      (λ k few. let e = in_each k few in omega arith) in
      let b = counted_over out (one_of home p) ps (λ k. out_part (counted_in (c.ends (last_turn way t n) k).counts p)) t.threads
      (λ k few. let e = out_each k few in omega arith) in
      let slots = is.slots in
      let bytes = is.bytes in
      record { slots = omega arith; bytes = omega arith }

pub courses_tell_lines : CoursesTellLines
courses_tell_lines way t r c v xs run l among is =
    let place : ℕ × ℕ = (l.phase, l.partition) in
    let at = place_is t.partitions 1 (phases_in t.lines) place
    (subst (λ ns. Contains ns place) run.left.places (map_in (λ (z : ReportLine). (z.phase, z.partition)) r.report l among)) in
    let n = l.phase in
    let p = l.partition in
    let low : 1 ≤ n = at.low in
    let high = at.high in
    let below : p < t.partitions = at.partition in
    let most = run.left.limits.head.1.1 in
    let small : p < 4 = omega arith in
    let inside : n ≤ phases_in t.lines = omega arith in
    record {
      live = left_by way t r c v xs run issues frees (λ (x : Count). x.issued) (λ (x : Count). x.freed) 0 1 n p l.live refl refl
          (λ k few. (counted_at way t r c v xs run n k low inside few).issued p small)
          (λ k few. (counted_at way t r c v xs run n k low inside few).freed p small)
          (added_by way t r c v xs run p 0 small (omega arith) n low inside)
          (added_by way t r c v xs run p 1 small (omega arith) n low inside) is.live;
      quarantined = left_by way t r c v xs run enters leaves (λ (x : Count). x.entered)
          (λ (x : Count). x.left) 2 3 n p l.quarantined refl refl
          (λ k few. (counted_at way t r c v xs run n k low inside few).entered p small)
          (λ k few. (counted_at way t r c v xs run n k low inside few).left p small)
          (added_by way t r c v xs run p 2 small (omega arith) n low inside)
          (added_by way t r c v xs run p 3 small (omega arith) n low inside) is.quarantined;
      root = is.root;
    }
