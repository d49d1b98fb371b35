-- If threads play beside each other, an execution says what is required of the threads' lists, and of the report's cached slots.
use Rattle.std.proofs.Common.{◌≡◌, ℕ, zero, suc, ◌<◌, ◌≤◌, List, [], ◌∷◌, ◌++◌, length, refl, sym, ◌∙◌, ap, subst, arith, inl, inr}
use Rattle.std.specs.Prelude.{Contains}
use Rattle.std.proofs.lemmas.Bool.{cases_lt, lt-ltb, le-ltb}
use mathlib.Core.Path.{fun_ext}
use Rattle.pa_record.specs.declared.report.ReportLine.{ReportLine}
use Rattle.pa_region.specs.declared.view.View.{View}
use Rattle.pa_trace.specs.declared.script.Trace.{Trace}
use Rattle.pa_rules.specs.declared.played.Played.{Played}
use Rattle.pa_rules.specs.Caches.{Cache, no_caches, listed_slots}
use Rattle.pa_rules.specs.Report.{listed_bytes, cached_slots, cached_bytes, until}
use Rattle.pa_rules.specs.Roots.{Journals}
use Rattle.pa_rules.specs.Told.{Told}
use Rattle.pa_logs.specs.Told.{played_in, is_until}
use Rattle.pa_logs.specs.Rows.{records_by}
use Rattle.pa_logs.specs.Reported.{CacheLeadsTo}
use Rattle.pa_cells.specs.Cells.{Exchange}
use Rattle.pa_root.specs.Handing.{numbered_by}
use Rattle.pa_op_specs.specs.Stocks.{listed_in}
use Rattle.pa_op_specs.proofs.Following.{lists}
use Rattle.pa_execution.specs.Turns.{Beside}
use Rattle.pa_execution.specs.Courses.{Course}
use Rattle.pa_execution.specs.Merged.{told_in, lists_at, outcome_of}
use Rattle.pa_execution.specs.Telling.{IsWholeRun}
use Rattle.pa_execution.specs.Lines.{sum_over, IsLineCached, CoursesTellLists}
use Rattle.pa_execution.proofs.Chaining.{heard_next}
use Rattle.pa_execution.proofs.Fitting.{turns, fits}
use Rattle.pa_execution.proofs.Grouping.{so_far, thread_until, no_thread}
use Rattle.pa_execution.proofs.Heaping.{played_append, thread_records}

lists_append : (partitions : ℕ) (roots : Journals) (a b c : Cache) (xs ys : List Played) → CacheLeadsTo partitions roots a xs b →
    CacheLeadsTo partitions roots b ys c →
    CacheLeadsTo partitions roots a (xs ++ ys) c
lists_append partitions roots a b c [] ys same rest = subst (λ z. CacheLeadsTo partitions roots z ys c) same rest
lists_append partitions roots a b c (x ∷ xs) ys (next, row, more) rest = (next, row, lists_append partitions roots next b c xs ys more rest)

-- ---- what the lists have, thread by thread

module _ (t : Trace) (c : Course) (n p : ℕ) where
  abbrev lists_of : ℕ → Cache
  lists_of k = listed_in (c.ends n k).stock

  has_lists : (k : ℕ) → k < t.threads → lists_at t c n k ≡ lists_of k
  has_lists k few = rw (lt-ltb k t.threads few) refl

  slots_over : (m : ℕ) → m ≤ t.threads → cached_slots (lists_at t c n) p m ≡ sum_over (λ k. listed_slots (lists_of k p) 0 170) m
  slots_over zero few = refl
  slots_over (suc m) few =
      let here : listed_slots (lists_at t c n m p) 0 170 ≡ listed_slots (lists_of m p) 0 170 =
      ap (λ (z : Cache). listed_slots (z p) 0 170) (has_lists m (omega arith)) in
      let rest = slots_over m (omega arith) in
      omega arith

  bytes_over : (m : ℕ) → m ≤ t.threads →
      cached_bytes (lists_at t c n) p m ≡ sum_over (λ k. listed_bytes (λ class. length (lists_of k p class)) 0 170) m
  bytes_over zero few = refl
  bytes_over (suc m) few =
      let here : listed_bytes (λ class. length (lists_at t c n m p class)) 0 170 ≡ listed_bytes
      (λ class. length (lists_of m p class)) 0 170 =
      ap (λ (z : Cache). listed_bytes (λ class. length (z p class)) 0 170) (has_lists m (omega arith)) in
      let rest = bytes_over m (omega arith) in
      omega arith

-- ---- the lists that a thread's records lead to

module _ (t : Trace) (r : Told) (c : Course) (v : View) (xs : List Exchange) (run : IsWholeRun t r c v xs) where
  lists_until : (k n : ℕ) → suc n ≤ turns Beside t r c v xs run → k < t.threads →
      CacheLeadsTo t.partitions r.roots (no_caches k) (played_in (so_far c.plays k (suc n))) (listed_in (c.ends (suc n) k).stock)
  lists_until k zero high few =
      let new = (run.course.begins k few).new in
      let none : listed_in (c.starts 1 k).stock ≡ no_caches k =
      fun_ext (λ p. fun_ext (λ class. ap (numbered_by (c.starts 1 k).stock.view) (new.stock.lists p class))) in
      subst (λ cache. CacheLeadsTo t.partitions r.roots cache (played_in (c.plays 1 k)) (listed_in (c.ends 1 k).stock)) none
      (lists (outcome_of t r) (c.starts 1 k) (c.ends 1 k) (c.plays 1 k) (run.course.plays 1 k (omega arith) high few)
      (fits Beside t r c v xs run 1 k (omega arith) high few))
  lists_until k (suc n) high few =
      let m = suc (suc n) in
      let again = lists_until k n (omega arith) few in
      let heard = heard_next Beside t c run.left.limits run.course (suc n) k (omega arith) (omega arith) few in
      let same : listed_in (c.starts m k).stock ≡ listed_in (c.ends (suc n) k).stock =
      fun_ext (λ p. fun_ext (λ class. heard.lists p class)) in
      let next = lists (outcome_of t r) (c.starts m k) (c.ends m k) (c.plays m k) (run.course.plays m k (omega arith) high few)
      (fits Beside t r c v xs run m k (omega arith) high few) in
      subst (λ ps. CacheLeadsTo t.partitions r.roots (no_caches k) ps (listed_in (c.ends m k).stock))
      (sym (played_append (so_far c.plays k (suc n)) (c.plays m k)))
      (lists_append t.partitions r.roots (no_caches k) (listed_in (c.ends (suc n) k).stock) (listed_in (c.ends m k).stock)
      (played_in (so_far c.plays k (suc n))) (played_in (c.plays m k)) again
      (subst (λ cache. CacheLeadsTo t.partitions r.roots cache (played_in (c.plays m k)) (listed_in (c.ends m k).stock)) same next))

  caches : (n k : ℕ) → 1 ≤ n → n ≤ turns Beside t r c v xs run →
      CacheLeadsTo t.partitions r.roots (no_caches k) (records_by k (until n (played_in (told_in t c)))) (lists_at t c n k)
  caches zero k low high = absurd (omega arith)
  caches (suc n) k low high = elim (cases_lt k t.threads) [
    | inl few ↦
        let own = thread_records k (suc n) (told_in t c) ∙ ap played_in
        (thread_until Beside t c run.left.limits run.course (suc n) k low high few) in
        let led = subst (λ ps. CacheLeadsTo t.partitions r.roots (no_caches k) ps (listed_in (c.ends (suc n) k).stock)) (sym own)
        (lists_until k n high few) in
        rw (lt-ltb k t.threads few) led
    | inr past ↦
        let none = thread_records k (suc n) (told_in t c) ∙ ap played_in
        (no_thread Beside t c run.left.limits run.course (is_until (suc n)) k past) in
        let led : CacheLeadsTo t.partitions r.roots (no_caches k) (records_by k (until (suc n) (played_in (told_in t c)))) (no_caches k) =
        subst (λ ps. CacheLeadsTo t.partitions r.roots (no_caches k) ps (no_caches k)) (sym none) refl in
        rw (le-ltb k t.threads past) led
  ]

pub courses_tell_lists : CoursesTellLists
courses_tell_lists t r c v xs run cached = record {
  lists = lists_at t c;
  caches = caches t r c v xs run;
  cached = λ l among. (
    (cached l among).slots ∙ sym (slots_over t c l.phase l.partition t.threads (omega arith)),
    (cached l among).bytes ∙ sym (bytes_over t c l.phase l.partition t.threads (omega arith)),
  );
}

-- the lists in it are those at the phases' ends
pub lists_told : (t : Trace) (r : Told) (c : Course) (v : View) (xs : List Exchange) (run : IsWholeRun t r c v xs)
    (cached : (l : ReportLine) → Contains r.report l → IsLineCached t c l) (n : ℕ) →
    (courses_tell_lists t r c v xs run cached).lists n ≡ lists_at t c n
unfolding courses_tell_lists
lists_told t r c v xs run cached n = refl
