-- After each record each queue has at most as many bytes as the limit says.
use Rattle.std.proofs.Common.{◌≡◌, ℕ, List, [], ◌∷◌, Option, Some, None, refl, sym, subst, arith, inl, inr}
use Rattle.std.proofs.lemmas.Bool.{cases_eq, eq-eqb, ne_eqb}
use Rattle.pa_slot.specs.declared.word.Step.{Step}
use Rattle.pa_record.specs.declared.entry.Seen.{Seen}
use Rattle.pa_record.specs.declared.entry.Answer.{Answer}
use Rattle.pa_record.specs.declared.entry.Answer.TheVariants as answers
use Rattle.pa_record.specs.declared.numbered.Numbered.{Numbered}
use Rattle.pa_rules.specs.declared.played.Played.{Played}
use Rattle.pa_rules.specs.Played.{step_of}
use Rattle.pa_rules.specs.Roots.{Journals}
use Rattle.pa_rules.specs.Caches.{Caches, with_cache, no_caches}
use Rattle.pa_delay.specs.Delayed.{Waiting, Queues, with_queue, no_queues, DelayedReturn, DelayedDone, DelayedRow, DelayedTo}
use Rattle.pa_delay.specs.Laws.{HasAtMost, HaveAtMost, QueuesFit}
use Rattle.pa_delay.proofs.Listed.{delayed_cut, none_known}

module _ (bytes : ℕ) (roots : Journals) where
  same_fits : (before after : Waiting) → HasAtMost bytes roots before.queue → after.queue ≡ before.queue → HasAtMost bytes roots after.queue
  same_fits before after fits same = subst (HasAtMost bytes roots) (sym same) fits

  return_fits : (x : Played) (slot : Numbered) (before after : Waiting) → HasAtMost bytes roots before.queue
      → DelayedReturn bytes roots x slot before after → HasAtMost bytes roots after.queue
  return_fits x slot before after fits (inl (p, class, gone, acts, of, past, leave, are)) = past.fits
  return_fits x slot before after fits (inr (p, asked, number, direct, only, (same, queue))) = same_fits before after fits queue

  done_fits : (x : Played) (step : Option Step) (seen : Seen) (before after : Waiting) → HasAtMost bytes roots before.queue
      → DelayedDone bytes roots x step seen before after → HasAtMost bytes roots after.queue
  done_fits x None seen before after fits (quiet, (same, queue)) = same_fits before after fits queue
  done_fits x (Some step) seen before after fits (inl (returning, row)) = return_fits x _ before after fits row
  done_fits x (Some step) seen before after fits (inr (other, quiet, (same, queue))) = same_fits before after fits queue

  row_fits : (partitions : ℕ) (x : Played) (a : Answer) (before after : Waiting) → HasAtMost bytes roots before.queue
      → DelayedRow bytes partitions roots x a before after → HasAtMost bytes roots after.queue
  row_fits partitions x (answers.Done seen) before after fits row = done_fits x (step_of x.op) seen before after fits row
  row_fits partitions x (answers.Purged slots) before after fits (acts, mid, leave, are, count, lists, queue) =
      subst (HasAtMost bytes roots) (sym queue) (0, refl, omega arith)
  row_fits partitions x (answers.Made seen usable) before after fits (row, queue) = same_fits before after fits queue
  row_fits partitions x (answers.Full entry) before after fits (row, queue) = same_fits before after fits queue
  row_fits partitions x (answers.Value seen value) before after fits (row, queue) = same_fits before after fits queue
  row_fits partitions x (answers.Dangling seen value) before after fits (row, queue) = same_fits before after fits queue
  row_fits partitions x (answers.SecondFree seen) before after fits (row, queue) = same_fits before after fits queue
  row_fits partitions x (answers.NotOwner seen) before after fits (row, queue) = same_fits before after fits queue
  row_fits partitions x answers.StaleReset before after fits (row, queue) = same_fits before after fits queue
  row_fits partitions x (answers.StaleUse seen) before after fits (row, queue) = same_fits before after fits queue
  row_fits partitions x answers.Nothing before after fits (row, queue) = same_fits before after fits queue
  row_fits partitions x answers.Filled before after fits (row, queue) = same_fits before after fits queue
  row_fits partitions x answers.Uncounted before after fits (row, queue) = same_fits before after fits queue
  row_fits partitions x answers.NotRef before after fits (row, queue) = same_fits before after fits queue
  row_fits partitions x (answers.Shared seen) before after fits (row, queue) = same_fits before after fits queue
  row_fits partitions x answers.OutOfRange before after fits (row, queue) = same_fits before after fits queue
  row_fits partitions x answers.TooLarge before after fits (row, queue) = same_fits before after fits queue
  row_fits partitions x (answers.Swapped entry) before after fits (row, queue) = same_fits before after fits queue

  with_fits : (waiting : Queues) (thread : ℕ) (queue : List Numbered) → HaveAtMost bytes roots waiting → HasAtMost bytes roots queue
      → HaveAtMost bytes roots (with_queue waiting thread queue)
  with_fits waiting thread queue fits one t = elim (cases_eq t thread) [
    | inl same ↦ rw (eq-eqb t thread same) one
    | inr other ↦ rw (ne_eqb t thread other) (fits t)
  ]

  -- along some records
  pub all_fit : (partitions : ℕ) (all : Caches) (waiting : Queues) (xs : List Played) (after : Caches) (left : Queues)
      → HaveAtMost bytes roots waiting → DelayedTo bytes partitions roots all waiting xs after left → HaveAtMost bytes roots left
  all_fit partitions all waiting [] after left fits (lists, queues) = subst (HaveAtMost bytes roots) (sym queues) fits
  all_fit partitions all waiting (x ∷ xs) after left fits (next, row, rest) =
      let one = row_fits partitions x x.answer (record { lists = all x.thread; queue = waiting x.thread }) next (fits x.thread) row in
      all_fit partitions (with_cache all x.thread next.lists) (with_queue waiting x.thread next.queue) xs after left
      (with_fits waiting x.thread next.queue fits one) rest

  pub none_fit : HaveAtMost bytes roots no_queues
  none_fit t = (0, refl, omega arith)

pub queues_fit : QueuesFit
queues_fit bytes partitions roots xs ys (after, left, to) =
    let (mid, there, front, back, known) =
    delayed_cut roots bytes partitions no_caches no_queues xs ys after left (none_known roots) to in
    (mid, there, front, all_fit bytes roots partitions no_caches no_queues xs mid there (none_fit bytes roots) front)
