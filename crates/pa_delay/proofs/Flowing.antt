-- The rows of a delayed run give what the laws above need of how slots flow.
use Rattle.std.proofs.Common.{◌≡◌, ℕ, ◌+◌, ◌<◌, ◌≤◌, List, [], ◌∷◌, ◌++◌, refl, sym, ap, subst, arith, inl, inr}
use Rattle.std.specs.Prelude.{Contains}
use Rattle.std.proofs.lemmas.Bool.{cases_eq, eq-eqb, ne_eqb}
use Rattle.std.proofs.lemmas.List.Elements.{Contains-append_cases}
use Rattle.pa_slot.specs.declared.word.SlotName.{SlotName}
use Rattle.pa_record.specs.declared.entry.Seen.{Seen}
use Rattle.pa_record.specs.declared.entry.Answer.TheVariants as answers
use Rattle.pa_record.specs.declared.numbered.Numbered.{Numbered}
use Rattle.pa_record.specs.declared.pool.PoolEntry.{PoolEntry}
use Rattle.pa_record.specs.declared.root.RootEntry.{RootEntry}
use Rattle.pa_record.specs.declared.root.RootAct.{RootAct}
use Rattle.pa_record.specs.declared.root.RootAct.TheVariants.{Unmap}
use Rattle.pa_record.specs.Root.{IsJournal}
use Rattle.pa_lists.proofs.Members.{first_in, later_in, not_in_none}
use Rattle.pa_rules.specs.declared.played.Played.{Played}
use Rattle.pa_rules.specs.Roots.{Journals}
use Rattle.pa_rules.specs.Caches.{Cache, Caches, with_cache, no_caches, acts_of, MadeRow, purge_acts}
use Rattle.pa_rules.specs.Flow.{IsOnlyOf}
use Rattle.pa_rules.proofs.Known.{IsKnown, known_with}
use Rattle.pa_legal.specs.Turns.{is_out}
use Rattle.pa_legal.specs.Flows.{IsNewMap, UnmapsNext, IsMadeFor, ReturnsMap, is_back, at_in, issues_at, returns_at, moves_on, over}
use Rattle.pa_legal.proofs.flow.Counts.{listed, listed_none}
use Rattle.pa_legal.proofs.flow.Threads.{one_more, with_here, with_other}
use Rattle.pa_legal.proofs.holders.Records.{made_by_row, returns_map, act_in, in_batches, in_purge, give_no_unmap}
use Rattle.pa_delay.specs.Delayed.{Waiting, Queues, with_queue, no_queues, Leaves, AllLeave, DelayedPurge, DelayedRow, DelayedTo}
use Rattle.pa_delay.specs.Runs.{AreDelayed}
use Rattle.pa_delay.specs.Laws.{DelayedFlow}
use Rattle.pa_delay.proofs.RowKinds.{kind_of}
use Rattle.pa_delay.proofs.Listed.{thread_has, row_kept, delayed_cut, none_known, delayed_row}
use Rattle.pa_delay.proofs.Rows.{has_at, delayed_flows}

-- ---- along some records

-- the queue of a thread whose queue was replaced, and that of another thread
queue_here : (waiting : Queues) (thread : ℕ) (queue : List Numbered) (t : ℕ) → t ≡ thread → with_queue waiting thread queue t ≡ queue
queue_here waiting thread queue t e = rw (eq-eqb t thread e) refl

queue_other : (waiting : Queues) (thread : ℕ) (queue : List Numbered) (t : ℕ) → (t ≡ thread → ⊥) →
    with_queue waiting thread queue t ≡ waiting t
queue_other waiting thread queue t other = rw (ne_eqb t thread other) refl

module _ (bytes partitions : ℕ) (pools : List PoolEntry) (roots : Journals) (journals : (q : ℕ) → IsJournal pools (roots q))
    (s : SlotName) (k p t : ℕ) (own : IsOnlyOf roots p s) (below : p < partitions) where
  -- how often thread t has the slot at the number
  abbrev Has : Caches → Queues → ℕ
  Has all waiting = has_at s k p (thread_has all waiting t)

  walk_flows : (xs : List Played) (all : Caches) (waiting : Queues) (after : Caches) (left : Queues) →
      ((x : Played) → Contains xs x → IsNewMap roots x × UnmapsNext roots x) → ((u : ℕ) → IsKnown roots (all u)) →
      DelayedTo bytes partitions roots all waiting xs after left →
      Has after left + over t (issues_at s k) xs + over t (moves_on is_back s k roots p) xs
      ≡ Has all waiting + over t (moves_on is_out s k roots p) xs + over t (returns_at s k) xs
  walk_flows [] all waiting after left each known (e, f) =
      let lists : listed s k (after t p) 0 170 ≡ listed s k (all t p) 0 170 = ap (λ (c : Caches). listed s k (c t p) 0 170) e in
      let queues : at_in s k (left t) ≡ at_in s k (waiting t) = ap (λ (q : Queues). at_in s k (q t)) f in
      omega arith
  walk_flows (x ∷ xs) all waiting after left each known (next, row, rest) =
      let before = thread_has all waiting x.thread in
      let (new, unmaps) = each x (first_in x xs) in
      let flow =
      delayed_flows s k p bytes partitions pools roots journals own below x before next (known x.thread) new unmaps row in
      let lists = with_cache all x.thread next.lists in
      let queues = with_queue waiting x.thread next.queue in
      let ih = walk_flows xs lists queues after left (λ y among. each y (later_in x y xs among))
      (known_with roots all x.thread next.lists known
      (row_kept roots bytes partitions x before next (known x.thread) row)) rest in
      one_more t x xs (issues_at s k) (moves_on is_back s k roots p) (moves_on is_out s k roots p) (returns_at s k)
      (Has all waiting) (Has lists queues) (Has after left)
      (λ e.
      let listed_now : listed s k (with_cache all x.thread next.lists t p) 0 170 ≡ listed s k (next.lists p) 0 170 =
      ap (λ (c : Cache). listed s k (c p) 0 170) (with_here all x.thread next.lists t (sym e)) in
      let queued_now : at_in s k (with_queue waiting x.thread next.queue t) ≡ at_in s k next.queue =
      ap (at_in s k) (queue_here waiting x.thread next.queue t (sym e)) in
      let listed_then : listed s k (all x.thread p) 0 170 ≡ listed s k (all t p) 0 170 = ap (λ z. listed s k (all z p) 0 170) e in
      let queued_then : at_in s k (waiting x.thread) ≡ at_in s k (waiting t) = ap (λ z. at_in s k (waiting z)) e in
      omega arith)
      (λ other.
      let listed_now : listed s k (with_cache all x.thread next.lists t p) 0 170 ≡ listed s k (all t p) 0 170 =
      ap (λ (c : Cache). listed s k (c p) 0 170) (with_other all x.thread next.lists t (λ e. other (sym e))) in
      let queued_now : at_in s k (with_queue waiting x.thread next.queue t) ≡ at_in s k (waiting t) =
      ap (at_in s k) (queue_other waiting x.thread next.queue t (λ e. other (sym e))) in
      omega arith)
      ih

-- ---- a direct map that goes back

module _ (roots : Journals) (asked : ℕ) (slot : Numbered) where
  one_gives : (s : Numbered) (cache after : Cache) (acts : ℕ → List RootAct) (p : ℕ) → Leaves roots s cache acts after →
      Contains (acts p) (Unmap asked slot) → ⊥
  one_gives s cache after acts p (q, class, of, are, becomes) among =
      let there = subst (λ zs. Contains zs (Unmap asked slot)) (are p) among in
      elim (cases_eq p q) [
        | inl same ↦
            let (ys, give) = in_batches _ _ (Unmap asked slot) (rw (eq-eqb p q same) at there) in
            give_no_unmap asked slot ys give
        | inr other ↦ not_in_none (Unmap asked slot) (rw (ne_eqb p q other) at there)
      ]

  -- what leaves a queue is given back, and no direct map is
  all_give : (ss : List Numbered) (cache after : Cache) (acts : ℕ → List RootAct) (p : ℕ) → AllLeave roots ss cache acts after →
      Contains (acts p) (Unmap asked slot) → ⊥
  all_give [] cache after acts p (none, same) among =
      not_in_none (Unmap asked slot) (subst (λ zs. Contains zs (Unmap asked slot)) (none p) among)
  all_give (s ∷ ss) cache after acts p (next, first, rest, here, later, joined) among =
      elim (Contains-append_cases (first p) (rest p) (Unmap asked slot)
      (subst (λ zs. Contains zs (Unmap asked slot)) (joined p) among)) [
        | inl one ↦ one_gives s cache next first p here one
        | inr more ↦ all_give ss next after rest p later more
      ]

  purge_gives : (partitions : ℕ) (x : Played) (slots p : ℕ) (before after : Waiting) → p < partitions →
      DelayedPurge partitions roots x slots before after → Contains (acts_of roots x.line p) (Unmap asked slot) → ⊥
  purge_gives partitions x slots p before after below (acts, mid, leave, are, count, lists, queue) among =
      elim (Contains-append_cases (acts p) (purge_acts (mid p) 0 170) (Unmap asked slot)
      (subst (λ zs. Contains zs (Unmap asked slot)) (are p below) among)) [
        | inl one ↦ all_give before.queue before.lists mid acts p leave one
        | inr more ↦ elim (in_purge (mid p) 0 170 (Unmap asked slot) more) [
          | inl (ys, give) ↦ give_no_unmap asked slot ys give
          | inr purge ↦ absurd cc
        ]
      ]

module _ (bytes partitions : ℕ) (roots : Journals) (ps : List Played) (delayed : AreDelayed bytes partitions roots ps) where
  made_flows : (x : Played) (seen : Seen) (usable : ℕ) → Contains ps x → x.answer ≡ answers.Made seen usable → IsMadeFor roots x seen.slot
  made_flows x seen usable among is =
      let (before, after, known, row) = delayed_row roots bytes partitions ps x delayed among in
      let made : MadeRow roots x seen before.lists after.lists × (after.queue ≡ before.queue) =
      subst (λ a. DelayedRow bytes partitions roots x a before after) is row in
      made_by_row roots x seen before.lists after.lists known made.0

  maps_flow : (x : Played) (e : RootEntry) (p asked : ℕ) (slot : Numbered) → p < partitions → Contains ps x → Contains (roots p) e →
      e.line ≡ x.line → e.act ≡ Unmap asked slot → ReturnsMap roots x slot.slot
  maps_flow x e p asked slot below among member line is =
      let (before, after, known, row) = delayed_row roots bytes partitions ps x delayed among in
      let here = act_in roots x.line p e (Unmap asked slot) member line is in
      elim (kind_of bytes partitions roots x before after x.answer row) [
        | inl stays ↦ returns_map partitions roots x p asked slot here x.answer before.lists after.lists below refl stays.0
        | inr (inl comes) ↦
            absurd (all_give roots asked slot comes.gone before.lists after.lists comes.acts p comes.leave
            (subst (λ zs. Contains zs (Unmap asked slot)) (comes.are p) here))
        | inr (inr purges) ↦ absurd (purge_gives roots asked slot partitions x purges.0 p before after below purges.2 here)
      ]

  -- in the first records no thread issued the slot and gave it back more often than it took it out and returned it
  front_flows : (pools : List PoolEntry) → ((q : ℕ) → IsJournal pools (roots q)) → (t p k : ℕ) (s : SlotName) (xs ys : List Played) →
      ps ≡ xs ++ ys → p < partitions → IsOnlyOf roots p s → ((x : Played) → Contains xs x → IsNewMap roots x × UnmapsNext roots x) →
      over t (issues_at s k) xs + over t (moves_on is_back s k roots p) xs
      ≤ over t (moves_on is_out s k roots p) xs + over t (returns_at s k) xs
  front_flows pools journals t p k s xs ys parts below own each =
      let (last, left, to) = delayed in
      let (mid, there, front, back, known) =
      delayed_cut roots bytes partitions no_caches no_queues xs ys last left (none_known roots)
      (subst (λ zs. DelayedTo bytes partitions roots no_caches no_queues zs last left) parts to) in
      let all =
      walk_flows bytes partitions pools roots journals s k p t own below xs no_caches no_queues mid there each (none_known roots) front in
      let start = listed_none s k (no_caches t p) 0 170 (λ c. refl) in
      omega arith

pub delayed_flow : DelayedFlow
delayed_flow bytes partitions ps pools roots journals delayed = record {
  made = made_flows bytes partitions roots ps delayed;
  maps = maps_flow bytes partitions roots ps delayed;
  flow = front_flows bytes partitions roots ps delayed pools journals;
}
