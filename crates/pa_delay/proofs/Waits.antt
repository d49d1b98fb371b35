-- A slot in a queue is free, and a free slot that is out of its root is in a thread's lists or queue.
use Rattle.std.proofs.Common.{◌≡◌, ℕ, zero, suc, ◌+◌, ◌<◌, ◌≤◌, ◌⊎◌, Bool, cond, List, [], ◌∷◌, ◌++◌, Some, refl, sym, ◌∙◌, ap, subst, arith, inl, inr, append_assoc}
use Rattle.std.specs.Prelude.{Contains, AllPairs, count_by}
use Rattle.std.proofs.lemmas.Bool.{cases_eq, cases_lt, eq-eqb, ne_eqb}
use Rattle.std.proofs.lemmas.List.{append-nil}
use Rattle.std.proofs.lemmas.List.Elements.{filter_map-append}
use Rattle.std.proofs.lemmas.List.Sums.{sum_by-append}
use Rattle.pa_slot.specs.declared.word.SlotName.{SlotName}
use Rattle.pa_slot.specs.declared.word.Step.TheVariants.{Issue}
use Rattle.pa_slot.specs.Count.{held_of, refs_of}
use Rattle.pa_slot.specs.Run.{Mark, Slots, IsFree}
use Rattle.pa_slot.proofs.Runs.{same_slot_yes}
use Rattle.pa_trace.specs.declared.script.Trace.{Trace}
use Rattle.pa_trace.specs.Rules.{rules_of}
use Rattle.pa_record.specs.declared.entry.Seen.{Seen}
use Rattle.pa_record.specs.declared.entry.Answer.TheVariants.{Made}
use Rattle.pa_record.specs.declared.history.CellEntry.{CellEntry}
use Rattle.pa_record.specs.declared.numbered.Numbered.{Numbered}
use Rattle.pa_record.specs.declared.pool.PoolEntry.{PoolEntry}
use Rattle.pa_record.specs.declared.root.RootEntry.{RootEntry}
use Rattle.pa_record.specs.Root.{names}
use Rattle.pa_record.proofs.Leaving.{out_is_left}
use Rattle.pa_lists.proofs.Members.{not_in_none, in_cases}
use Rattle.pa_lists.proofs.Joined.{map_cases, map_in}
use Rattle.pa_lists.proofs.Indexed.{in_at}
use Rattle.pa_lists.proofs.Elements.{all_from_members, pairs_front}
use Rattle.pa_rules.specs.declared.played.Played.{Played}
use Rattle.pa_rules.specs.Played.{mark_of, mark_of_answer, mark_at, marks_of}
use Rattle.pa_rules.specs.Told.{Told, records_of}
use Rattle.pa_rules.specs.Roots.{Journals, AreRoots}
use Rattle.pa_rules.specs.Report.{HasWord, last_word}
use Rattle.pa_rules.specs.Caches.{Caches, with_cache, IsOfClass, no_caches}
use Rattle.pa_rules.specs.Flow.{listed_times, is_issue_of, is_return_of, issues_of, returns_of, busy}
use Rattle.pa_rules.proofs.Counted.{stands}
use Rattle.pa_rules.proofs.Flowing.{class_leaves}
use Rattle.pa_rules.proofs.FourPlaces.{left_member, times_member}
use Rattle.pa_rules.proofs.Numbering.{lines_rise, rising_differ}
use Rattle.pa_rules.proofs.Recorded.{records_are_lines}
use Rattle.pa_rules.proofs.Running.{OtherRecord, busy_free, busy_some, issues_return}
use Rattle.pa_rules.proofs.Totals.{some_times}
use Rattle.pa_legal.specs.Flows.{marked}
use Rattle.pa_delay.specs.Delayed.{Queues, with_queue, no_queues, HaveBytes, DelayedRow, DelayedTo}
use Rattle.pa_delay.specs.Runs.{IsDelayedTold}
use Rattle.pa_delay.specs.Laws.{IsQueued, IsListed, IsPlayedInOrder, NoneIsIssuedWhileItWaits, WaitsSomewhere}
use Rattle.pa_delay.proofs.Fits.{all_fit, none_fit}
use Rattle.pa_delay.proofs.Listed.{thread_has}
use Rattle.pa_delay.proofs.Cut.{slots_so_far, front_so_far}
use Rattle.pa_delay.proofs.Holding.{held_times, held_once, mark_more}

-- each entry's line is that of a record
recorded : (partitions : ℕ) (ps : List Played) (pools : List PoolEntry) (roots : Journals) (p : ℕ) → AreRoots partitions ps pools roots →
    (e : RootEntry) → Contains (roots p) e → (x : Played) × Contains ps x × (e.line ≡ x.line)
recorded partitions ps pools roots p are_roots e among =
    let (j, at) = in_at (roots p) e among in
    let (x, of, makes) = are_roots.lines p j e at in
    (x, of.0, sym of.1)

-- ---- a slot in a queue

-- a slot of a queue is of a class
queue_class : (roots : Journals) (queue : List Numbered) (bytes : ℕ) (n : Numbered) → HaveBytes roots queue bytes → Contains queue n →
    (p class : ℕ) × IsOfClass roots n.slot p class
queue_class roots [] bytes n none among = absurd (not_in_none n among)
queue_class roots (m ∷ ms) bytes n (p, class, rest, of, more, sum) among = elim (in_cases m n ms among) [
  | inl same ↦ (p, class, subst (λ (z : Numbered). IsOfClass roots z.slot p class) same of)
  | inr later ↦ queue_class roots ms rest n more later
]

-- a slot in a thread's queue is had by the threads
held_here : (s : SlotName) (all : Caches) (waiting : Queues) (p t n : ℕ) → t < n → IsQueued s (waiting t) → 1 ≤ held_times s all waiting p n
held_here s all waiting p t zero below queued = absurd (omega arith)
held_here s all waiting p t (suc n) below queued = elim (cases_eq n t) [
  | inl same ↦
      let (m, among, is) = subst (λ u. IsQueued s (waiting u)) (sym same) queued in
      let some = some_times s (names (waiting n))
      (subst (λ z. Contains (names (waiting n)) z) is (map_in (λ (k : Numbered). k.slot) (waiting n) m among)) in
      omega arith
  | inr other ↦ let ih = held_here s all waiting p t n (omega arith) queued in omega arith
]

-- a number above the threads of some records, and above one more
threads_below : (t : ℕ) (xs : List Played) → (n : ℕ) × (t < n) × ((x : Played) → Contains xs x → x.thread < n)
threads_below t [] = (t + 1, omega arith, λ x none. absurd (not_in_none x none))
threads_below t (x ∷ xs) =
    let (n, more, each) = threads_below t xs in (
      n + (x.thread + 1),
      omega arith,
      λ y among. elim (in_cases x y xs among) [
        | inl same ↦ let e : x.thread ≡ y.thread = ap (λ (z : Played). z.thread) same in omega arith
        | inr later ↦ let low = each y later in omega arith
      ],
    )

not_busy : (w : ℕ) → busy w ≡ 0 → IsFree w
not_busy w none = elim (cases_lt 0 (held_of w + refs_of w)) [
  | inl some ↦ let more = busy_some w some in absurd (omega arith)
  | inr few ↦ (omega arith, omega arith)
]

module _ (bytes supers partitions : ℕ) (pools : List PoolEntry) (roots : Journals) (cells : ℕ → List CellEntry) (xs ys : List Played)
    (h : IsPlayedInOrder supers partitions (xs ++ ys) pools roots cells) where
  -- each record's line is its own
  lines : AllPairs OtherRecord xs
  lines = pairs_front OtherRecord xs ys (rising_differ (xs ++ ys) h.rising)

  steps : Slots (marks_of xs)
  steps = slots_so_far xs ys h.rising h.slots h.order.numbers

  in_partition : (p : ℕ) (e : RootEntry) → Contains (roots p) e → p < partitions
  in_partition p e among = elim (cases_lt p partitions) [
    | inl below ↦ below
    | inr past ↦ absurd (not_in_none e (subst (λ es. Contains es e) (h.are_roots.none_past p past) among))
  ]

  waits_free : (all : Caches) (waiting : Queues) (s : SlotName) (thread w : ℕ) →
      DelayedTo bytes partitions roots no_caches no_queues xs all waiting → IsQueued s (waiting thread) → HasWord xs s w → busy w ≡ 0
  waits_free all waiting s thread w to (n, among, same) word =
      let (size, have, few) = all_fit bytes roots partitions no_caches no_queues xs all waiting (none_fit bytes roots) to thread in
      let (p, class, of) = queue_class roots (waiting thread) size n have among in
      let left = class_leaves roots s p class (subst (λ z. IsOfClass roots z p class) same of) in
      let (threads, above, each) = threads_below thread xs in
      let (front, parts) =
      front_so_far xs ys h.rising (roots p) (h.order.journals p) (recorded partitions (xs ++ ys) pools roots p h.are_roots) in
      let some = held_here s all waiting p thread threads above (n, among, same) in
      elim (held_once bytes supers partitions threads p (xs ++ ys) pools roots xs front all waiting s w
      record {
        are_roots = h.are_roots;
        are_pool = h.are_pool;
        lines = lines;
        few = all_from_members (λ (x : Played). x.thread < threads) xs each;
        steps = steps;
        below = in_partition p left.0 left.1;
        parts = parts;
        delayed = to;
      }
      left word) [
        | inl (out, once) ↦ omega arith
        | inr (inside, none) ↦ absurd (omega arith)
      ]

  counts_so_far : (s : SlotName) (w : ℕ) → HasWord xs s w → issues_of s (marks_of xs) ≡ returns_of s (marks_of xs) + busy w
  counts_so_far s w word = issues_return xs s w lines steps word

-- ---- one more record

marks_push : (test : Mark → Bool) (xs : List Played) (x : Played) →
    count_by test (marks_of (xs ++ x ∷ [])) ≡ count_by test (marks_of xs) + marked test (mark_of x)
marks_push test xs x =
    let last = mark_more test (mark_of x) x [] refl in
    let all = ap (count_by test) (filter_map-append mark_of xs (x ∷ [])) ∙
    sum_by-append (λ m. cond (test m) 1 0) (marks_of xs) (marks_of (x ∷ [])) in
    omega arith

delayed_push : (bytes partitions : ℕ) (roots : Journals) (from all after : Caches) (first waiting left : Queues) (xs : List Played)
    (x : Played) → DelayedTo bytes partitions roots from first xs all waiting →
    DelayedTo bytes partitions roots all waiting (x ∷ []) after left → DelayedTo bytes partitions roots from first (xs ++ x ∷ []) after left
delayed_push bytes partitions roots from all after first waiting left [] x (lists, queues) to =
    subst (λ q. DelayedTo bytes partitions roots from q (x ∷ []) after left) queues
    (subst (λ c. DelayedTo bytes partitions roots c waiting (x ∷ []) after left) lists to)
delayed_push bytes partitions roots from all after first waiting left (y ∷ ys) x (next, row, rest) to = (
  next,
  row,
  delayed_push bytes partitions roots (with_cache from y.thread next.lists) all after (with_queue first y.thread next.queue)
      waiting left ys x rest to,
)

-- a record that made a slot leaves the queues as they were
made_stays : (bytes partitions : ℕ) (roots : Journals) (all after : Caches) (waiting left : Queues) (x : Played) (seen : Seen)
    (usable t : ℕ) → DelayedTo bytes partitions roots all waiting (x ∷ []) after left → x.answer ≡ Made seen usable → left t ≡ waiting t
made_stays bytes partitions roots all after waiting left x seen usable t (next, row, (lists, queues)) made =
    let (here, queue) = subst (λ a. DelayedRow bytes partitions roots x a (thread_has all waiting x.thread) next) made row in
    ap (λ (q : Queues). q t) queues ∙ elim (cases_eq t x.thread) [
      | inl same ↦ rw (eq-eqb t x.thread same) (queue ∙ ap waiting (sym same))
      | inr other ↦ rw (ne_eqb t x.thread other) refl
    ]

-- after a record that made a slot its word isn't free, and it is in no queue
made_apart : (bytes supers partitions : ℕ) (pools : List PoolEntry) (roots : Journals) (cells : ℕ → List CellEntry) (xs ys : List Played)
    (x : Played) (seen : Seen) (usable : ℕ) (all after : Caches) (waiting left : Queues) (thread : ℕ) →
    IsPlayedInOrder supers partitions (xs ++ x ∷ ys) pools roots cells →
    DelayedTo bytes partitions roots no_caches no_queues xs all waiting → DelayedTo bytes partitions roots all waiting (x ∷ []) after left →
    x.answer ≡ Made seen usable → IsQueued seen.slot (left thread) → ⊥
made_apart bytes supers partitions pools roots cells xs ys x seen usable all after waiting left thread h to on made queued =
    let s = seen.slot in
    let h' = subst (λ zs. IsPlayedInOrder supers partitions zs pools roots cells) (sym (append_assoc xs (x ∷ []) ys)) h in
    let word = word_of xs s (steps bytes supers partitions pools roots cells xs (x ∷ ys) h) in
    let word' = word_of (xs ++ x ∷ []) s (steps bytes supers partitions pools roots cells (xs ++ x ∷ []) ys h') in
    let before = counts_so_far bytes supers partitions pools roots cells xs (x ∷ ys) h s word.0 word.1 in
    let now = counts_so_far bytes supers partitions pools roots cells (xs ++ x ∷ []) ys h' s word'.0 word'.1 in
    let issues = marks_push (is_issue_of s) xs x in
    let returns = marks_push (is_return_of s) xs x in
    let mark : mark_of x ≡ Some (mark_at x.line seen (Some Issue)) = ap (mark_of_answer x.line x.op) made in
    let issued : marked (is_issue_of s) (mark_of x) ≡ 1 = ap (marked (is_issue_of s)) mark ∙ rw (same_slot_yes s s refl) refl in
    let returned : marked (is_return_of s) (mark_of x) ≡ 0 = ap (marked (is_return_of s)) mark ∙ rw (same_slot_yes s s refl) refl in
    let free = waits_free bytes supers partitions pools roots cells (xs ++ x ∷ []) ys h' after left s thread word'.0
    (delayed_push bytes partitions roots no_caches all after no_queues waiting left xs x to on) queued word'.1 in
    absurd (omega arith)
  where
    word_of : (zs : List Played) (s : SlotName) → Slots (marks_of zs) → (w : ℕ) × HasWord zs s w
    word_of zs s slots = let (vs, run, one) = slots s in (last_word 0 vs, (vs, run, refl))

told_in_order : (bytes : ℕ) (t : Trace) (r : Told) → IsDelayedTold bytes t r →
    IsPlayedInOrder t.region t.partitions (records_of t r) r.pools r.roots r.cells
told_in_order bytes t r (is, order) = record {
  rising = lines_rise (rules_of t) t.lines (records_of t r) (records_are_lines.lines (rules_of t) t.lines r.entries is.clauses.lines);
  slots = is.clauses.slots;
  are_pool = is.clauses.pool;
  are_roots = is.clauses.roots;
  order = order;
}

pub none_is_issued_while_it_waits : NoneIsIssuedWhileItWaits
none_is_issued_while_it_waits = record {
  told = told_in_order;
  free = λ bytes supers partitions pools roots cells xs ys all waiting s thread w h to queued word.
      not_busy w (waits_free bytes supers partitions pools roots cells xs ys h all waiting s thread w to queued word);
  made = λ bytes supers partitions pools roots cells xs ys x seen usable all after waiting left thread h to on made.
      let apart = made_apart bytes supers partitions pools roots cells xs ys x seen usable all after waiting left thread h to on made in
      let same = made_stays bytes partitions roots all after waiting left x seen usable thread on made in
      (λ queued. apart (subst (IsQueued seen.slot) (sym same) queued), apart);
}

-- ---- a free slot

-- a slot that is among some is one of them
queued_some : (s : SlotName) (queue : List Numbered) → 0 < stands s queue → IsQueued s queue
queued_some s queue some =
    let (n, among, same) = map_cases (λ (k : Numbered). k.slot) queue s (times_member s (names queue) (omega arith)) in
    (n, among, same)

-- a slot that is in the lists of `n` classes from one on is in one of them
listed_some : (s : SlotName) (lists : ℕ → List Numbered) (class n : ℕ) → 0 < listed_times s lists class n →
    (c : ℕ) × (c < class + n) × IsQueued s (lists c)
unfolding listed_times
listed_some s lists class zero some = absurd (omega arith)
listed_some s lists class (suc n) some = elim (cases_lt 0 (stands s (lists class))) [
  | inl here ↦ (class, omega arith, queued_some s (lists class) here)
  | inr none ↦ let (c, within, is) = listed_some s lists (class + 1) n (omega arith) in (c, omega arith, is)
]

-- a slot that some threads have is in the lists or the queue of one of them
held_some : (s : SlotName) (all : Caches) (waiting : Queues) (p n : ℕ) → 0 < held_times s all waiting p n →
    (t : ℕ) × (t < n) × (IsListed s (all t) p ⊎ IsQueued s (waiting t))
held_some s all waiting p zero some = absurd (omega arith)
held_some s all waiting p (suc t) some = elim (cases_lt 0 (listed_times s (all t p) 0 170)) [
  | inl listed ↦
      let (c, within, (n, among, same)) = listed_some s (all t p) 0 170 listed in (t, omega arith, inl (c, omega arith, n, among, same))
  | inr none ↦ elim (cases_lt 0 (stands s (waiting t))) [
    | inl queued ↦ (t, omega arith, inr (queued_some s (waiting t) queued))
    | inr nowhere ↦ let (u, below, is) = held_some s all waiting p t (omega arith) in (u, omega arith, is)
  ]
]

pub waits_somewhere : WaitsSomewhere
waits_somewhere bytes supers partitions threads p ps pools roots all waiting s w ours pool lines few slots to below out word free =
    elim (out_is_left pools (roots p) s (ours.journals p)) [
      | inr (inside, same) ↦ absurd (inside out)
      | inl (still, more) ↦ elim (held_once bytes supers partitions threads p ps pools roots ps (roots p) all waiting s w
          record {
            are_roots = ours;
            are_pool = pool;
            lines = lines;
            few = few;
            steps = slots;
            below = below;
            parts = record {
              rest = [];
              parts = sym (append-nil (roots p));
              each = recorded partitions ps pools roots p ours;
              none = λ e x member. absurd (not_in_none e member);
            };
            delayed = to;
          }
          (left_member s (roots p) (omega arith)) word) [
            | inr (inside, none) ↦ absurd (inside out)
            | inl (there, once) ↦
                let idle = busy_free w free.0 free.1 in
                held_some s all waiting p threads (omega arith)
          ]
    ]
