-- For 0 bytes no slot stays in a queue, so lists and entries are those of a run without queues.
use Rattle.std.proofs.Common.{◌≡◌, ℕ, zero, suc, ◌+◌, ◌<◌, ◌≤◌, List, [], ◌∷◌, ◌++◌, length, Option, Some, None, refl, sym, ◌∙◌, ap, subst, arith, inl, inr, append-nil, cond}
use Rattle.std.specs.Prelude.{◌==◌}
use Rattle.std.proofs.lemmas.Bool.{cases_eq, eq-eqb, ne_eqb}
use Rattle.pa_slot.specs.declared.word.Step.{Step}
use Rattle.pa_buckets.specs.Table.{slot_of}
use Rattle.pa_record.specs.declared.entry.Seen.{Seen}
use Rattle.pa_record.specs.declared.entry.Answer.{Answer}
use Rattle.pa_record.specs.declared.entry.Answer.TheVariants as answers
use Rattle.pa_record.specs.declared.numbered.Numbered.{Numbered}
use Rattle.pa_record.specs.declared.pool.PoolEntry.{PoolEntry}
use Rattle.pa_record.specs.declared.root.RootAct.{RootAct}
use Rattle.pa_record.specs.Root.{IsJournal}
use Rattle.pa_record.proofs.SpanSteps.{size_some}
use Rattle.pa_rules.specs.declared.played.Played.{Played}
use Rattle.pa_rules.specs.Played.{step_of}
use Rattle.pa_rules.specs.Roots.{Journals}
use Rattle.pa_rules.specs.Caches.{Cache, Caches, with_cache, acts_of, gives, spilled, purge_acts, ReturnRow, DoneRow, PurgedRow, CacheRow, CachesTo}
use Rattle.pa_rules.proofs.Flowing.{class_real}
use Rattle.pa_delay.specs.Delayed.{Waiting, Queues, with_queue, HaveBytes, AllLeave, DelayedReturn, DelayedDone, DelayedPurge, DelayedRow, DelayedTo}

-- what a purge does goes by the lists, one by one
purge_alike : (f g : ℕ → List Numbered) → ((c : ℕ) → f c ≡ g c) → (class n : ℕ) → purge_acts f class n ≡ purge_acts g class n
purge_alike f g same class zero = refl
purge_alike f g same class (suc n) =
    ap (λ xs. gives xs ++ purge_acts f (class + 1) n) (same class) ∙
    ap (λ acts. gives (g class) ++ acts) (purge_alike f g same (class + 1) n)

-- all queues stay empty
stay_empty : (waiting : Queues) (thread : ℕ) (queue : List Numbered) → queue ≡ [] → ((t : ℕ) → waiting t ≡ []) → (t : ℕ) →
    with_queue waiting thread queue t ≡ []
stay_empty waiting thread queue none empty t = elim (cases_eq t thread) [
  | inl same ↦ rw (eq-eqb t thread same) none
  | inr other ↦ rw (ne_eqb t thread other) (empty t)
]

module _ (pools : List PoolEntry) (roots : Journals) (journals : (p : ℕ) → IsJournal pools (roots p)) where
  none_fit : (xs : List Numbered) (n : ℕ) → HaveBytes roots xs n → n ≤ 0 → xs ≡ []
  none_fit [] n have few = refl
  none_fit (s ∷ ss) n (p, class, m, of, rest, sum) few =
      let some : 0 < slot_of class = size_some class (class_real pools roots s.slot p class (journals p) of) in absurd (omega arith)

  -- the one slot that leaves goes to its list as a slot that comes back does
  one_leaves : (x : Played) (slot : Numbered) (cache after : Cache) (acts : ℕ → List RootAct) → AllLeave roots (slot ∷ []) cache acts after
      → ((q : ℕ) → acts_of roots x.line q ≡ acts q) → ReturnRow roots x slot cache after
  one_leaves x slot cache after acts (next, first, rest, (p, class, of, first_is, next_is), (none, after_is), joined) are =
      inl (
        p,
        class,
        of,
        (here p ∙ rw (eq-eqb p p refl) refl, λ q other. here q ∙ rw (ne_eqb q p other) refl),
        λ q c. after_is q c ∙
            next_is q c,
      )
    where
      here : (q : ℕ) → acts_of roots x.line q ≡ cond (q == p) (gives (spilled class (slot ∷ cache p class))) []
      here q = are q ∙ (joined q ∙ (ap (λ zs. first q ++ zs) (none q) ∙ (append-nil (first q) ∙ first_is q)))

  return_zero : (x : Played) (slot : Numbered) (before after : Waiting) → before.queue ≡ [] → DelayedReturn 0 roots x slot before after
      → ReturnRow roots x slot before.lists after.lists × (after.queue ≡ [])
  return_zero x slot before after none (inl (p, class, gone, acts, of, past, leave, are)) =
      let (n, have, few) = past.fits in
      let stays : after.queue ≡ [] = none_fit after.queue n have few in
      let all : slot ∷ [] ≡ gone =
      ap (λ zs. zs ++ slot ∷ []) (sym none) ∙ (past.parts ∙ (ap (λ zs. gone ++ zs) stays ∙ append-nil gone)) in (
        one_leaves x slot before.lists after.lists acts (subst (λ zs. AllLeave roots zs before.lists acts after.lists) (sym all) leave) are,
        stays,
      )
  return_zero x slot before after none (inr (p, asked, number, direct, only, (same, queue))) =
      (inr (p, asked, number, direct, only, same), queue ∙ none)

  done_zero : (x : Played) (step : Option Step) (seen : Seen) (before after : Waiting) → before.queue ≡ [] →
      DelayedDone 0 roots x step seen before after
      → DoneRow roots x step seen before.lists after.lists × (after.queue ≡ [])
  done_zero x None seen before after none (quiet, (same, queue)) = ((quiet, same), queue ∙ none)
  done_zero x (Some step) seen before after none (inl (returning, row)) =
      let (here, empty) = return_zero x _ before after none row in (inl (returning, here), empty)
  done_zero x (Some step) seen before after none (inr (other, quiet, (same, queue))) = (inr (other, quiet, same), queue ∙ none)

  purge_zero : (partitions : ℕ) (x : Played) (slots : ℕ) (before after : Waiting) → before.queue ≡ [] →
      DelayedPurge partitions roots x slots before after
      → PurgedRow partitions roots x slots before.lists after.lists × (after.queue ≡ [])
  purge_zero partitions x slots before after none (acts, mid, leave, are, count, lists, queue) =
      let (quiet, same) = subst (λ zs. AllLeave roots zs before.lists acts mid) none leave in
      let long : length before.queue ≡ 0 = ap length none in (
        (
          λ p below. are p below ∙
              (ap (λ zs. zs ++ purge_acts (mid p) 0 170) (quiet p) ∙ purge_alike (mid p) (before.lists p) (same p) 0 170),
          omega arith,
          lists,
        ),
        queue,
      )

  row_zero : (partitions : ℕ) (x : Played) (a : Answer) (before after : Waiting) → before.queue ≡ [] →
      DelayedRow 0 partitions roots x a before after
      → CacheRow partitions roots x a before.lists after.lists × (after.queue ≡ [])
  row_zero partitions x (answers.Done seen) before after none row = done_zero x (step_of x.op) seen before after none row
  row_zero partitions x (answers.Purged slots) before after none row = purge_zero partitions x slots before after none row
  row_zero partitions x (answers.Made seen usable) before after none (row, queue) = (row, queue ∙ none)
  row_zero partitions x (answers.Full entry) before after none (row, queue) = (row, queue ∙ none)
  row_zero partitions x (answers.Value seen value) before after none (row, queue) = (row, queue ∙ none)
  row_zero partitions x (answers.Dangling seen value) before after none (row, queue) = (row, queue ∙ none)
  row_zero partitions x (answers.SecondFree seen) before after none (row, queue) = (row, queue ∙ none)
  row_zero partitions x (answers.NotOwner seen) before after none (row, queue) = (row, queue ∙ none)
  row_zero partitions x answers.StaleReset before after none (row, queue) = (row, queue ∙ none)
  row_zero partitions x (answers.StaleUse seen) before after none (row, queue) = (row, queue ∙ none)
  row_zero partitions x answers.Nothing before after none (row, queue) = (row, queue ∙ none)
  row_zero partitions x answers.Filled before after none (row, queue) = (row, queue ∙ none)
  row_zero partitions x answers.Uncounted before after none (row, queue) = (row, queue ∙ none)
  row_zero partitions x answers.NotRef before after none (row, queue) = (row, queue ∙ none)
  row_zero partitions x (answers.Shared seen) before after none (row, queue) = (row, queue ∙ none)
  row_zero partitions x answers.OutOfRange before after none (row, queue) = (row, queue ∙ none)
  row_zero partitions x answers.TooLarge before after none (row, queue) = (row, queue ∙ none)
  row_zero partitions x (answers.Swapped entry) before after none (row, queue) = (row, queue ∙ none)

  -- record by record
  pub walk_zero : (partitions : ℕ) (all : Caches) (waiting : Queues) (xs : List Played) (after : Caches) (left : Queues) →
      ((t : ℕ) → waiting t ≡ [])
      → DelayedTo 0 partitions roots all waiting xs after left → CachesTo partitions roots all xs after × ((t : ℕ) → left t ≡ [])
  walk_zero partitions all waiting [] after left empty (same, still) = (same, λ t. ap (λ (q : Queues). q t) still ∙ empty t)
  walk_zero partitions all waiting (x ∷ xs) after left empty (next, row, rest) =
      let (here, none) = row_zero partitions x x.answer (record { lists = all x.thread; queue = waiting x.thread }) next
      (empty x.thread) row in
      let (later, done) =
      walk_zero partitions (with_cache all x.thread next.lists) (with_queue waiting x.thread next.queue) xs after left
      (stay_empty waiting x.thread next.queue none empty) rest in
      ((next.lists, here, later), done)
