-- How often a slot is in the lists and queues of all threads, along a delayed run.
use Rattle.std.proofs.Common.{◌≡◌, ℕ, zero, suc, ◌+◌, ◌<◌, ◌≤◌, Bool, cond, List, [], ◌∷◌, Option, Some, None, refl, ◌∙◌, ap, subst, arith, inl, inr}
use Rattle.std.specs.Prelude.{All, AllPairs, count_by}
use Rattle.std.proofs.lemmas.Bool.{cases_eq, eq-eqb, ne_eqb}
use Rattle.std.proofs.lemmas.List.Elements.{All-head, All-tail}
use Rattle.std.proofs.lemmas.List.Sums.{sum_by-cons}
use Rattle.pa_slot.specs.declared.word.SlotName.{SlotName}
use Rattle.pa_slot.specs.Run.{Mark, Slots}
use Rattle.pa_record.specs.declared.pool.PoolEntry.{PoolEntry}
use Rattle.pa_record.specs.declared.root.RootEntry.{RootEntry}
use Rattle.pa_record.specs.Root.{new_root, root_replayed, IsJournal}
use Rattle.pa_record.proofs.Leaving.{out_is_left}
use Rattle.pa_rules.specs.declared.played.Played.{Played}
use Rattle.pa_rules.specs.Played.{mark_of, marks_of}
use Rattle.pa_rules.specs.Report.{HasWord}
use Rattle.pa_rules.specs.Roots.{Journals, AreRoots, IsPoolOf}
use Rattle.pa_rules.specs.Caches.{Caches, with_cache, no_caches}
use Rattle.pa_rules.specs.Flow.{is_issue_of, is_return_of, issues_of, returns_of, left_on, back_on, busy, IsOnlyOf}
use Rattle.pa_rules.proofs.Counted.{listed_none}
use Rattle.pa_rules.proofs.ByLines.{IsFront, left_front, back_front}
use Rattle.pa_rules.proofs.FourPlaces.{HasLeft, IsOnce}
use Rattle.pa_rules.proofs.Known.{IsKnown, known_with}
use Rattle.pa_rules.proofs.Owned.{only_of, journal_front}
use Rattle.pa_rules.proofs.Running.{OtherRecord, issues_return}
use Rattle.pa_legal.specs.Flows.{marked}
use Rattle.pa_delay.specs.Delayed.{Waiting, Queues, with_queue, no_queues, DelayedTo}
use Rattle.pa_delay.proofs.Listed.{thread_has, row_kept, none_known}
use Rattle.pa_delay.proofs.Passing.{had_times, row_passes}

-- how often the threads below a number have the slot, in their lists of partition p and in their queues
abbrev pub held_times : SlotName → Caches → Queues → ℕ → ℕ → ℕ
held_times s all waiting p zero = 0
held_times s all waiting p (suc t) = had_times s p (thread_has all waiting t) + held_times s all waiting p t

-- what one thread has was changed
held_below : (s : SlotName) (all : Caches) (waiting : Queues) (thread p n : ℕ) (next : Waiting) → n ≤ thread →
    held_times s (with_cache all thread next.lists) (with_queue waiting thread next.queue) p n ≡ held_times s all waiting p n
held_below s all waiting thread p zero next below = refl
held_below s all waiting thread p (suc n) next below =
    let ih = held_below s all waiting thread p n next (omega arith) in
    let here : had_times s p (thread_has (with_cache all thread next.lists) (with_queue waiting thread next.queue) n)
    ≡ had_times s p (thread_has all waiting n) = rw (ne_eqb n thread (λ e. omega arith)) refl in
    omega arith

held_changed : (s : SlotName) (all : Caches) (waiting : Queues) (thread p n : ℕ) (next : Waiting) → thread < n →
    held_times s (with_cache all thread next.lists) (with_queue waiting thread next.queue) p n
    + had_times s p (thread_has all waiting thread)
    ≡ held_times s all waiting p n + had_times s p next
held_changed s all waiting thread p zero next below = absurd (omega arith)
held_changed s all waiting thread p (suc n) next below = elim (cases_eq n thread) [
  | inl same ↦
      let rest = held_below s all waiting thread p n next (omega arith) in
      let here : had_times s p (thread_has (with_cache all thread next.lists) (with_queue waiting thread next.queue) n)
      ≡ had_times s p next = rw (eq-eqb n thread same) refl in
      let old : had_times s p (thread_has all waiting n) ≡ had_times s p (thread_has all waiting thread) =
      ap (λ t. had_times s p (thread_has all waiting t)) same in
      omega arith
  | inr other ↦
      let ih = held_changed s all waiting thread p n next (omega arith) in
      let here : had_times s p (thread_has (with_cache all thread next.lists) (with_queue waiting thread next.queue) n)
      ≡ had_times s p (thread_has all waiting n) = rw (ne_eqb n thread other) refl in
      omega arith
]

none_held : (s : SlotName) (p n : ℕ) → held_times s no_caches no_queues p n ≡ 0
none_held s p zero = refl
none_held s p (suc t) =
    let here = listed_none s (no_caches t p) 0 170 (λ c. refl) in
    let ih = none_held s p t in
    omega arith

-- the marks of one more record
pub mark_more : (test : Mark → Bool) (o : Option Mark) (x : Played) (xs : List Played) → mark_of x ≡ o →
    count_by test (marks_of (x ∷ xs)) ≡ marked test o + count_by test (marks_of xs)
mark_more test None x xs e = rw e (omega arith)
mark_more test (Some m) x xs e = rw e (sum_by-cons (λ y. cond (test y) 1 0) m (marks_of xs))

module _ (bytes partitions threads p : ℕ) (pools : List PoolEntry) (roots : Journals) (s : SlotName)
    (journals : (q : ℕ) → IsJournal pools (roots q)) (own : IsOnlyOf roots p s) (below : p < partitions) where
  all_hold : (xs : List Played) (all after : Caches) (waiting left : Queues) → All (λ (x : Played). x.thread < threads) xs →
      ((t : ℕ) → IsKnown roots (all t)) → DelayedTo bytes partitions roots all waiting xs after left →
      held_times s after left p threads + issues_of s (marks_of xs) + back_on s roots p xs
      ≡ held_times s all waiting p threads + left_on s roots p xs + returns_of s (marks_of xs)
  all_hold [] all after waiting left few known (lists, queues) =
      let same : held_times s after left p threads ≡ held_times s all waiting p threads =
      ap (λ c. held_times s c left p threads) lists ∙ ap (λ q. held_times s all q p threads) queues in
      omega arith
  all_hold (x ∷ xs) all after waiting left few known (next, row, rest) =
      let before = thread_has all waiting x.thread in
      let even = row_passes s p pools roots journals own bytes partitions x x.answer before next below (known x.thread) row in
      let change = held_changed s all waiting x.thread p threads next (All-head (λ (y : Played). y.thread < threads) x xs few) in
      let kept = row_kept roots bytes partitions x before next (known x.thread) row in
      let ih = all_hold xs (with_cache all x.thread next.lists) after (with_queue waiting x.thread next.queue) left
      (All-tail (λ (y : Played). y.thread < threads) x xs few) (known_with roots all x.thread next.lists known kept) rest in
      let i = mark_more (is_issue_of s) (mark_of x) x xs refl in
      let o = mark_more (is_return_of s) (mark_of x) x xs refl in
      omega arith

-- What the places of a slot after some records of a delayed run rest on: the journals and the pool, those records with a line each,
-- and the entries on their lines, which come before partition p's journal.
pub record Known (bytes supers partitions threads p : ℕ) (ps : List Played) (pools : List PoolEntry) (roots : Journals)
    (xs : List Played) (front : List RootEntry) (all : Caches) (waiting : Queues) : Type 0 where
  pub are_roots : AreRoots partitions ps pools roots
  pub are_pool : IsPoolOf supers ps pools roots
  pub lines : AllPairs OtherRecord xs
  pub few : All (λ (x : Played). x.thread < threads) xs
  pub steps : Slots (marks_of xs)
  pub below : p < partitions
  pub parts : IsFront xs (roots p) front
  pub delayed : DelayedTo bytes partitions roots no_caches no_queues xs all waiting

-- a slot that left, and is out after these records, is in a list, in a queue or in use once; if it isn't out it is in none
pub held_once : (bytes supers partitions threads p : ℕ) (ps : List Played) (pools : List PoolEntry) (roots : Journals) (xs : List Played)
    (front : List RootEntry) (all : Caches) (waiting : Queues) (s : SlotName) (w : ℕ) →
    Known bytes supers partitions threads p ps pools roots xs front all waiting → HasLeft roots p s → HasWord xs s w →
    IsOnce (root_replayed pools front new_root) s (held_times s all waiting p threads + busy w)
held_once bytes supers partitions threads p ps pools roots xs front all waiting s w k (e, among, leaves) word =
    let own = only_of supers partitions ps pools roots p e s k.are_roots k.are_pool among leaves in
    let none = none_held s p threads in
    let flow = all_hold bytes partitions threads p pools roots s k.are_roots.journals own k.below xs no_caches all no_queues waiting k.few
    (none_known roots) k.delayed in
    let run = issues_return xs s w k.lines k.steps word in
    let left = left_front s xs roots p front k.lines k.parts in
    let back = back_front s xs roots p front k.lines k.parts in
    let journal = journal_front pools front k.parts.rest (subst (λ z. IsJournal pools z) k.parts.parts (k.are_roots.journals p)) in
    elim (out_is_left pools front s journal) [
      | inl (out, more) ↦ inl (out, omega arith)
      | inr (inside, same) ↦ inr (inside, omega arith)
    ]
