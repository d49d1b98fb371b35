-- Line after line the records lead the threads' lists and queues to those that the workers have.
use Rattle.std.proofs.Common.{◌≡◌, ℕ, zero, suc, ◌+◌, ◌<◌, ◌≤◌, List, [], ◌∷◌, ◌++◌, filter, refl, sym, ◌∙◌, ap, subst, arith, inl, inr}
use Rattle.std.specs.Prelude.{Contains, AllPairs}
use Rattle.std.proofs.lemmas.Bool.{cases_lt, cases_eq, eq-eqb, ne_eqb, eqb-true, leb-true, lt-ltb, le-ltb}
use mathlib.Core.Path.{fun_ext}
use Rattle.pa_lists.proofs.Joined.{map_in, filter_cases}
use Rattle.pa_lists.proofs.Members.{first_in, later_in}
use Rattle.pa_lists.proofs.Pairs.{pairs_head}
use Rattle.pa_trace.specs.declared.script.Trace.{Trace}
use Rattle.pa_trace.specs.Rules.{rules_of}
use Rattle.pa_record.specs.declared.numbered.Numbered.{Numbered}
use Rattle.pa_region.specs.declared.view.View.{View}
use Rattle.pa_rules.specs.declared.played.Played.{Played}
use Rattle.pa_rules.specs.Played.{OpLine, op_line_of}
use Rattle.pa_rules.specs.Caches.{Cache, Caches, with_cache, no_caches}
use Rattle.pa_rules.specs.Roots.{Journals}
use Rattle.pa_rules.specs.Told.{Told}
use Rattle.pa_rules.proofs.Lined.{lines_from}
use Rattle.pa_logs.specs.InTurn.{is_up_to, told_up_to}
use Rattle.pa_logs.specs.Told.{ToldRecord, played_in, is_of_thread}
use Rattle.pa_logs.proofs.Filters.{filter_none, filter_both, pairs_filter}
use Rattle.pa_cells.specs.declared.handle.Handle.{Handle}
use Rattle.pa_cells.specs.Cells.{Exchange}
use Rattle.pa_root.specs.Handing.{numbered_by}
use Rattle.pa_delay.specs.Delayed.{Waiting, Queues, with_queue, no_queues, DelayedRow, DelayedTo}
use Rattle.pa_op_specs.specs.Plays.{PlaysSome}
use Rattle.pa_op_specs.specs.Stocks.{listed_in}
use Rattle.pa_op_specs.specs.Workers.{WorkerValue}
use Rattle.pa_heap.specs.Waiting.{waiting_in, lists_and_queue, LeadsDelayed}
use Rattle.pa_execution.specs.Turns.{InTurn, turns_in}
use Rattle.pa_execution.specs.Courses.{Course}
use Rattle.pa_execution.specs.Merged.{told_by_turns, lists_at, outcome_of}
use Rattle.pa_execution.specs.Telling.{IsWholeRunBy}
use Rattle.pa_execution.proofs.Chaining.{played_some, heard_next}
use Rattle.pa_execution.proofs.Fitting.{fits}
use Rattle.pa_execution.proofs.Grouping.{is_of_turn, until_split, are_lines, group, rising, within, earlier}
use Rattle.pa_execution.proofs.Heaping.{played_append}
use Rattle.pa_delay_runner.specs.Course.{IsDelayedCourse}
use Rattle.pa_delay_runner.specs.Laws.{queues_at, RecordsLead}

-- ---- rows one after the other

to_append : (bytes partitions : ℕ) (roots : Journals) (a b c : Caches) (u v w : Queues) (xs ys : List Played) →
    DelayedTo bytes partitions roots a u xs b v → DelayedTo bytes partitions roots b v ys c w →
    DelayedTo bytes partitions roots a u (xs ++ ys) c w
to_append bytes partitions roots a b c u v w [] ys (e, f) rest =
    subst (λ (q : Queues). DelayedTo bytes partitions roots a q ys c w) f
    (subst (λ (z : Caches). DelayedTo bytes partitions roots z v ys c w) e rest)
to_append bytes partitions roots a b c u v w (x ∷ xs) ys (next, row, more) rest = (
  next,
  row,
  to_append bytes partitions roots (with_cache a x.thread next.lists) b c (with_queue u x.thread next.queue) v w xs ys more rest,
)

-- a row from the same lists and the same queue
row_from : (bytes partitions : ℕ) (roots : Journals) (x : Played) (a b : Cache) (u v : List Numbered) (next : Waiting) → a ≡ b → u ≡ v →
    DelayedRow bytes partitions roots x x.answer (record { lists = a; queue = u }) next →
    DelayedRow bytes partitions roots x x.answer (record { lists = b; queue = v }) next
row_from bytes partitions roots x a b u v next e f row =
    subst (λ (q : List Numbered). DelayedRow bytes partitions roots x x.answer (record { lists = b; queue = q }) next) f
    (subst (λ (z : Cache). DelayedRow bytes partitions roots x x.answer (record { lists = z; queue = u }) next) e row)

module _ (bytes : ℕ) (t : Trace) (r : Told) (c : Course) (v : View) (xs : List Exchange) (waiting : ℕ → ℕ → List Handle)
    (run : IsWholeRunBy InTurn t r c v xs) (delayed : IsDelayedCourse bytes t (turns_in InTurn t) c waiting) where
  abbrev ts : List ToldRecord
  ts = told_by_turns InTurn t c

  -- ---- what threads have

  pub has_lists : (n k : ℕ) → k < t.threads → lists_at t c n k ≡ listed_in (c.ends n k).stock
  has_lists n k few = rw (lt-ltb k t.threads few) refl

  no_lists : (n k : ℕ) → t.threads ≤ k → lists_at t c n k ≡ no_caches k
  no_lists n k past = rw (le-ltb k t.threads past) refl

  pub has_queue : (n k : ℕ) → k < t.threads → queues_at t c waiting n k ≡ waiting_in (c.ends n k).stock (waiting n k)
  has_queue n k few = rw (lt-ltb k t.threads few) refl

  no_queue : (n k : ℕ) → t.threads ≤ k → queues_at t c waiting n k ≡ []
  no_queue n k past = rw (le-ltb k t.threads past) refl

  -- ---- the records of a turn

  -- the record of a line, or none
  abbrev of_turn : ℕ → List ToldRecord
  of_turn n = filter (is_of_turn InTurn n) ts

  theirs : (n k : ℕ) → 1 ≤ n → n ≤ turns_in InTurn t → k < t.threads → filter (is_of_thread k) (of_turn n) ≡ c.plays n k
  theirs n k low high few =
      filter_both (is_of_turn InTurn n) (is_of_thread k) ts ∙ group InTurn t c run.left.limits run.course n k low high few

  -- the head's line has no record
  line_low : (x : ToldRecord) → Contains ts x → 2 ≤ x.played.line
  line_low x among = (lines_from (rules_of t) 2 1 t.lines (op_line_of x.played)
      (subst (λ (os : List OpLine). Contains os (op_line_of x.played)) (are_lines InTurn t c run.left.limits run.course)
      (map_in op_line_of (played_in ts) x.played (map_in (λ (z : ToldRecord). z.played) ts x among)))).0

  first_none : of_turn 1 ≡ []
  first_none = filter_none (is_of_turn InTurn 1) ts (λ x among passes.
      let low = line_low x among in
      let here = eqb-true x.played.line 1 passes in
      omega arith)

  up_to_first : told_up_to 1 ts ≡ []
  up_to_first = filter_none (is_up_to 1) ts (λ x among passes.
      let low = line_low x among in
      let early = leb-true x.played.line 1 passes in
      omega arith)

  -- a worker that played nothing in a turn is as it was
  same_worker : (n k : ℕ) → 1 ≤ n → n ≤ turns_in InTurn t → k < t.threads → c.plays n k ≡ [] → c.ends n k ≡ c.starts n k
  same_worker n k low high few none =
      subst (λ zs. PlaysSome (c.starts n k) zs (c.ends n k)) none
      (played_some InTurn t c run.left.limits run.course n k low high few)

  -- ---- the head's turn

  first_plays : (k : ℕ) → k < t.threads → 1 ≤ turns_in InTurn t → c.plays 1 k ≡ []
  first_plays k few high = sym (theirs 1 k (omega arith) high few) ∙ ap (filter (is_of_thread k)) first_none

  first_lists : (k : ℕ) → 1 ≤ turns_in InTurn t → lists_at t c 1 k ≡ no_caches k
  first_lists k high = elim (cases_lt k t.threads) [
    | inl few ↦
        let new = (run.course.begins k few).new in
        has_lists 1 k few
        ∙ (ap (λ (w : WorkerValue). listed_in w.stock) (same_worker 1 k (omega arith) high few (first_plays k few high))
        ∙ fun_ext (λ p. fun_ext (λ class. ap (numbered_by (c.starts 1 k).stock.view) (new.stock.lists p class))))
    | inr past ↦ no_lists 1 k past
  ]

  first_queues : (k : ℕ) → queues_at t c waiting 1 k ≡ no_queues k
  first_queues k = elim (cases_lt k t.threads) [
    | inl few ↦ has_queue 1 k few ∙ ap (waiting_in (c.ends 1 k).stock) (delayed.first k few)
    | inr past ↦ no_queue 1 k past
  ]

  -- ---- from one turn to the next

  started_lists : (n k : ℕ) → 1 ≤ n → n < turns_in InTurn t → k < t.threads →
      listed_in (c.starts (suc n) k).stock ≡ listed_in (c.ends n k).stock
  started_lists n k low high few =
      let heard = heard_next InTurn t c run.left.limits run.course n k low high few in
      fun_ext (λ p. fun_ext (λ class. heard.lists p class))

  started_queue : (n k : ℕ) → 1 ≤ n → n < turns_in InTurn t → k < t.threads →
      waiting_in (c.starts (suc n) k).stock (waiting n k) ≡ waiting_in (c.ends n k).stock (waiting n k)
  started_queue n k low high few =
      let next : n + 1 ≡ suc n = omega arith in
      subst (λ m. waiting_in (c.starts m k).stock (waiting n k) ≡ waiting_in (c.ends n k).stock (waiting n k)) next
      (delayed.hears n k low high few)

  -- a thread that plays nothing keeps its lists and its queue
  idle_lists : (n k : ℕ) → 1 ≤ n → n < turns_in InTurn t → k < t.threads → c.plays (suc n) k ≡ [] →
      lists_at t c (suc n) k ≡ lists_at t c n k
  idle_lists n k low high few none =
      has_lists (suc n) k few
      ∙ (ap (λ (w : WorkerValue). listed_in w.stock) (same_worker (suc n) k (omega arith) high few none)
      ∙ (started_lists n k low high few ∙ sym (has_lists n k few)))

  idle_queue : (n k : ℕ) → 1 ≤ n → n < turns_in InTurn t → k < t.threads → c.plays (suc n) k ≡ [] →
      queues_at t c waiting (suc n) k ≡ queues_at t c waiting n k
  idle_queue n k low high few none =
      let next : n + 1 ≡ suc n = omega arith in
      let stays = subst (λ m. c.plays m k ≡ [] → waiting m k ≡ waiting n k) next (delayed.stays n k low high few) none in
      has_queue (suc n) k few
      ∙ (ap (waiting_in (c.ends (suc n) k).stock) stays
      ∙ (ap (λ (w : WorkerValue). waiting_in w.stock (waiting n k)) (same_worker (suc n) k (omega arith) high few none)
      ∙ (started_queue n k low high few ∙ sym (has_queue n k few))))

  -- the row of the record that a thread plays
  leads_row : (n : ℕ) (x : ToldRecord) → 1 ≤ n → n < turns_in InTurn t → x.played.thread < t.threads →
      c.plays (suc n) x.played.thread ≡ x ∷ [] →
      DelayedRow bytes t.partitions r.roots x.played x.played.answer
      (record { lists = lists_at t c n x.played.thread; queue = queues_at t c waiting n x.played.thread })
      (lists_and_queue (c.ends (suc n) x.played.thread).stock (waiting (suc n) x.played.thread))
  leads_row n x low high few one =
      let k = x.played.thread in
      let next : n + 1 ≡ suc n = omega arith in
      let leads = subst
      (λ m. c.plays m k ≡ x ∷ [] → LeadsDelayed bytes (c.starts m k).stock (waiting n k) (c.ends m k).stock (waiting m k) x) next
      (delayed.leads n k x low high few) one in
      let all = fits InTurn t r c v xs run (suc n) k (omega arith) high few in
      let among : Contains (c.plays (suc n) k) x = subst (λ zs. Contains zs x) (sym one) (first_in x []) in
      row_from bytes t.partitions r.roots x.played (listed_in (c.starts (suc n) k).stock) (lists_at t c n k)
      (waiting_in (c.starts (suc n) k).stock (waiting n k)) (queues_at t c waiting n k)
      (lists_and_queue (c.ends (suc n) k).stock (waiting (suc n) k))
      (started_lists n k low high few ∙ sym (has_lists n k few)) (started_queue n k low high few ∙ sym (has_queue n k few))
      (leads (outcome_of t r)
      (record { many = all.many; rules = all.rules x among; run = all.run; seen = all.seen; acts = all.acts x among }))

  module _ (n : ℕ) (low : 1 ≤ n) (high : n < turns_in InTurn t) where
    -- what a turn's record is: of this line, and of a thread of the trace
    turn_line : (x : ToldRecord) → Contains (of_turn (suc n)) x → (x.played.line ≡ suc n) × (x.played.thread < t.threads)
    turn_line x among =
        let (there, passes) = filter_cases (is_of_turn InTurn (suc n)) ts x among in
        (eqb-true x.played.line (suc n) passes, (within InTurn t c run.left.limits run.course x there).thread)

    -- in a turn without a record nothing changes
    turn_idle : of_turn (suc n) ≡ [] →
        (lists_at t c (suc n) ≡ lists_at t c n) × (queues_at t c waiting (suc n) ≡ queues_at t c waiting n)
    turn_idle none = (
      fun_ext (λ k. elim (cases_lt k t.threads) [
        | inl few ↦ idle_lists n k low high few (plays_none k few)
        | inr past ↦ no_lists (suc n) k past ∙ sym (no_lists n k past)
      ]),
      fun_ext (λ k. elim (cases_lt k t.threads) [
        | inl few ↦ idle_queue n k low high few (plays_none k few)
        | inr past ↦ no_queue (suc n) k past ∙ sym (no_queue n k past)
      ]),
    )
      where
        plays_none : (k : ℕ) → k < t.threads → c.plays (suc n) k ≡ []
        plays_none k few = sym (theirs (suc n) k (omega arith) high few) ∙ ap (filter (is_of_thread k)) none

    module _ (x : ToldRecord) (one : of_turn (suc n) ≡ x ∷ []) where
      is_of : (x.played.line ≡ suc n) × (x.played.thread < t.threads)
      is_of = turn_line x (subst (λ zs. Contains zs x) (sym one) (first_in x []))

      own : c.plays (suc n) x.played.thread ≡ x ∷ []
      own =
          sym (theirs (suc n) x.played.thread (omega arith) high is_of.1)
          ∙ (ap (filter (is_of_thread x.played.thread)) one ∙ rw (eq-eqb x.played.thread x.played.thread refl) refl)

      others : (k : ℕ) → k < t.threads → (k ≡ x.played.thread → ⊥) → c.plays (suc n) k ≡ []
      others k few other =
          sym (theirs (suc n) k (omega arith) high few)
          ∙ (ap (filter (is_of_thread k)) one ∙ rw (ne_eqb x.played.thread k (λ e. other (sym e))) refl)

      lists_then : (k : ℕ) →
          lists_at t c (suc n) k ≡ with_cache (lists_at t c n) x.played.thread (listed_in (c.ends (suc n) x.played.thread).stock) k
      lists_then k = elim (cases_eq k x.played.thread) [
        | inl same ↦
            let few = is_of.1 in
            rw (eq-eqb k x.played.thread same) (has_lists (suc n) k (omega arith)
            ∙ ap (λ j. listed_in (c.ends (suc n) j).stock) same)
        | inr other ↦ rw (ne_eqb k x.played.thread other) (elim (cases_lt k t.threads) [
          | inl few ↦ idle_lists n k low high few (others k few other)
          | inr past ↦ no_lists (suc n) k past ∙ sym (no_lists n k past)
        ])
      ]

      queues_then : (k : ℕ) →
          queues_at t c waiting (suc n) k ≡ with_queue (queues_at t c waiting n) x.played.thread
          (waiting_in (c.ends (suc n) x.played.thread).stock (waiting (suc n) x.played.thread)) k
      queues_then k = elim (cases_eq k x.played.thread) [
        | inl same ↦
            let few = is_of.1 in
            rw (eq-eqb k x.played.thread same) (has_queue (suc n) k (omega arith)
            ∙ ap (λ j. waiting_in (c.ends (suc n) j).stock (waiting (suc n) j)) same)
        | inr other ↦ rw (ne_eqb k x.played.thread other) (elim (cases_lt k t.threads) [
          | inl few ↦ idle_queue n k low high few (others k few other)
          | inr past ↦ no_queue (suc n) k past ∙ sym (no_queue n k past)
        ])
      ]

    -- the record of a turn, if it has one
    turn_leads : (zs : List ToldRecord) → of_turn (suc n) ≡ zs →
        DelayedTo bytes t.partitions r.roots (lists_at t c n) (queues_at t c waiting n) (played_in zs) (lists_at t c (suc n))
        (queues_at t c waiting (suc n))
    turn_leads [] none = turn_idle none
    turn_leads (x ∷ []) one = (
      lists_and_queue (c.ends (suc n) x.played.thread).stock (waiting (suc n) x.played.thread),
      leads_row n x low high (is_of x one).1 (own x one),
      (fun_ext (lists_then x one), fun_ext (queues_then x one)),
    )
    turn_leads (x ∷ y ∷ zs) two = absurd (
        let first = turn_line x (subst (λ us. Contains us x) (sym two) (first_in x (y ∷ zs))) in
        let second = turn_line y (subst (λ us. Contains us y) (sym two) (later_in x y (y ∷ zs) (first_in y zs))) in
        let a = first.0 in
        let b = second.0 in
        let less : ToldRecord → ToldRecord → Type 0 = λ a b. a.played.line < b.played.line in
        let up = pairs_head less x y (y ∷ zs)
        (subst (λ us. AllPairs less us) two
        (pairs_filter less (is_of_turn InTurn (suc n)) ts (rising InTurn t c run.left.limits run.course))) (first_in y zs) in
        omega arith
        )

  -- ---- all turns

  pub leads : (n : ℕ) → 1 ≤ n → n ≤ turns_in InTurn t →
      DelayedTo bytes t.partitions r.roots no_caches no_queues (played_in (told_up_to n ts)) (lists_at t c n) (queues_at t c waiting n)
  leads zero low high = absurd (omega arith)
  leads (suc zero) low high =
      subst (λ zs. DelayedTo bytes t.partitions r.roots no_caches no_queues (played_in zs) (lists_at t c 1) (queues_at t c waiting 1))
      (sym up_to_first) (fun_ext (λ k. first_lists k high), fun_ext first_queues)
  leads (suc (suc m)) low high =
      let n = suc m in
      let again = leads (suc m) (omega arith) (omega arith) in
      let split = ap played_in (until_split InTurn n ts (rising InTurn t c run.left.limits run.course)
      (earlier InTurn t c run.left.limits run.course)) ∙ played_append (told_up_to n ts) (of_turn (suc n)) in
      subst (λ ps. DelayedTo bytes t.partitions r.roots no_caches no_queues ps (lists_at t c (suc n)) (queues_at t c waiting (suc n)))
      (sym split)
      (to_append bytes t.partitions r.roots no_caches (lists_at t c n) (lists_at t c (suc n)) no_queues (queues_at t c waiting n)
      (queues_at t c waiting (suc n)) (played_in (told_up_to n ts)) (played_in (of_turn (suc n))) again
      (turn_leads n (omega arith) (omega arith) (of_turn (suc n)) refl))

pub records_lead : RecordsLead
records_lead = leads
