-- A record that leaves a worker's queue alone: what it leads lists and queue to, if it leads the lists.
use Rattle.std.proofs.Common.{◌≡◌, ℕ, List, map, Option, Some, None, refl, sym, ◌∙◌, subst, inl, inr}
use Rattle.pa_slot.specs.declared.title.Title.{Title}
use Rattle.pa_slot.specs.declared.word.Step.{Step}
use Rattle.pa_slot.specs.Run.{IsReturning}
use Rattle.pa_trace.specs.declared.script.Op.{Op}
use Rattle.pa_record.specs.declared.entry.Seen.{Seen}
use Rattle.pa_record.specs.declared.entry.Answer.{Answer}
use Rattle.pa_record.specs.declared.entry.Answer.TheVariants as answers
use Rattle.pa_lists.proofs.Joined.{map_cases}
use Rattle.pa_lists.proofs.Members.{of_some}
use Rattle.pa_region.specs.Views.{seen_of}
use Rattle.pa_region.specs.Lists.{list_of, IsBeginning}
use Rattle.pa_rules.specs.declared.played.Played.{Played}
use Rattle.pa_rules.specs.Played.{step_of}
use Rattle.pa_rules.specs.Caches.{CacheRow, DoneRow}
use Rattle.pa_rules.specs.Sizes.{HasClass}
use Rattle.pa_logs.specs.Told.{ToldRecord}
use Rattle.pa_delay.specs.Delayed.{DelayedDone, DelayedRow}
use Rattle.pa_delay.specs.Queue.{QueueList}
use Rattle.pa_cells.specs.declared.handle.Handle.{Handle}
use Rattle.pa_cells.specs.Handles.{SlotsStaySeen}
use Rattle.pa_op_specs.specs.Stocks.{StockValue, listed_in}
use Rattle.pa_op_specs.specs.Outcomes.{Outcome, FitsRun}
use Rattle.pa_op_specs.specs.Owing.{IsNotDone}
use Rattle.pa_op_specs.specs.Plays.{KeepsApart, Does, LeadsLists, DoesOp}
use Rattle.pa_op_specs.proofs.Quiet.{same_titles}
use Rattle.pa_heap.specs.Waiting.{HoldsQueue, LeadsDelayed, DoesDelayed, waiting_in, lists_and_queue}

-- A record with this answer leaves the queue alone: it tells of no step that returned a slot, and of no purge.
pub record IsBeside (op : Op) (answer : Answer) : Type 0 where
  pub no_return : (seen : Seen) (step : Step) → answer ≡ answers.Done seen → step_of op ≡ Some step → IsReturning step seen.found.0 → ⊥
  pub no_purge : (slots : ℕ) → answer ≡ answers.Purged slots → ⊥

-- an op that wasn't done leaves it alone, and so does one whose step didn't return its slot
pub not_done_beside : (op : Op) (answer : Answer) → IsNotDone answer → IsBeside op answer
not_done_beside op answer none = record {
  no_return = λ seen step is steps returning. subst IsNotDone is none;
  no_purge = λ slots is. subst IsNotDone is none;
}

pub kept_beside : (op : Op) (step : Step) (seen : Seen) → step_of op ≡ Some step → (IsReturning step seen.found.0 → ⊥) →
    IsBeside op (answers.Done seen)
kept_beside op step seen steps stays = record {
  no_return = λ other s is other_steps returning.
      stays (subst (λ (z : Seen). IsReturning step z.found.0) (sym (same_seen seen other is))
      (subst (λ t. IsReturning t other.found.0) (of_some s step (sym other_steps ∙ steps)) returning));
  no_purge = λ slots is. differ seen slots is;
}
  where
    same_seen : (a b : Seen) → answers.Done a ≡ answers.Done b → a ≡ b
    same_seen a b e = cc

    differ : (a : Seen) (n : ℕ) → answers.Done a ≡ answers.Purged n → ⊥
    differ a n e = cc

-- the slots that wait do so at the same numbers, if what is free and on no list stays so
pub same_waiting : (hs : List Handle) (before after : StockValue) → HoldsQueue hs before → KeepsApart before after →
    waiting_in after hs ≡ waiting_in before hs
same_waiting hs before after holds keeps = same_titles before.view after.view (map (λ (h : Handle). h.title) hs)
    (λ t among.
    let (h, inside, is) = map_cases (λ (h : Handle). h.title) hs t among in
    subst (λ (u : Title). seen_of after.view u ≡ seen_of before.view u) is (keeps h.title (holds.each h inside).apart).1)

-- in every run that fits, the lists go on as without a queue, and that stays as it was
pub leads_beside : (bytes : ℕ) (hs : List Handle) (before after : StockValue) (x : ToldRecord) → HoldsQueue hs before →
    LeadsLists before after x →
    ((o : Outcome) → FitsRun o before.partitions after.view x → IsBeside x.played.op x.played.answer) →
    LeadsDelayed bytes before hs after hs x
leads_beside bytes hs before after x holds leads beside o fits = by_answer x.played.answer refl (leads.row o fits)
  where
    same : waiting_in after hs ≡ waiting_in before hs
    same = same_waiting hs before after holds leads.apart

    done : (seen : Seen) (step : Option Step) → x.played.answer ≡ answers.Done seen → step_of x.played.op ≡ step →
        DoneRow o.roots x.played step seen (listed_in before) (listed_in after) →
        DelayedDone bytes o.roots x.played step seen (lists_and_queue before hs) (lists_and_queue after hs)
    done seen None is steps (quiet, lists) = (quiet, (lists, same))
    done seen (Some step) is steps (inl (returning, row)) = absurd ((beside o fits).no_return seen step is steps returning)
    done seen (Some step) is steps (inr (stays, quiet, lists)) = inr (stays, quiet, (lists, same))

    by_answer : (a : Answer) → x.played.answer ≡ a →
        CacheRow o.partitions o.roots x.played a (listed_in before) (listed_in after) →
        DelayedRow bytes o.partitions o.roots x.played a (lists_and_queue before hs) (lists_and_queue after hs)
    by_answer (answers.Done seen) is row = done seen (step_of x.played.op) is refl row
    by_answer (answers.Purged slots) is row = absurd ((beside o fits).no_purge slots is)
    by_answer (answers.Made seen usable) is row = (row, same)
    by_answer (answers.Full entry) is row = (row, same)
    by_answer (answers.Value seen value) is row = (row, same)
    by_answer (answers.Dangling seen value) is row = (row, same)
    by_answer (answers.SecondFree seen) is row = (row, same)
    by_answer (answers.NotOwner seen) is row = (row, same)
    by_answer answers.StaleReset is row = (row, same)
    by_answer (answers.StaleUse seen) is row = (row, same)
    by_answer answers.Nothing is row = (row, same)
    by_answer answers.Filled is row = (row, same)
    by_answer answers.Uncounted is row = (row, same)
    by_answer answers.NotRef is row = (row, same)
    by_answer (answers.Shared seen) is row = (row, same)
    by_answer answers.OutOfRange is row = (row, same)
    by_answer answers.TooLarge is row = (row, same)
    by_answer (answers.Swapped entry) is row = (row, same)

-- an op that leaves the queue alone does what it should, and the queue is as it was
pub beside_does : (line : ℕ) (op : Op) (answer : Answer) (before after : StockValue) (queue : QueueList) → HoldsQueue queue.slots before →
    IsBeside op answer → DoesOp line op answer before after → DoesDelayed line op answer before queue after queue
beside_does line op answer before after queue holds beside does phase =
    let (x, is, done, leads, none) = does phase in (
      x,
      is,
      done,
      none,
      leads_beside queue.limit queue.slots before after x holds leads
          (λ o fits. subst (λ (y : Played). IsBeside y.op y.answer) (sym is) beside),
    )

-- the slots of the queue can wait still, if what is free and on no list stays so
pub holds_on : SlotsStaySeen → (hs : List Handle) (before after : StockValue) → HoldsQueue hs before →
    after.caches.version ≡ before.caches.version → ((k : ℕ) → IsBeginning (list_of k before.view) (list_of k after.view)) →
    KeepsApart before after → HoldsQueue hs after
holds_on stays hs before after holds version lists keeps = record {
  each = λ h among.
      let can = holds.each h among in
      record {
        class = can.class;
        class_is = can.class_is;
        real = subst (λ v. HasClass v can.class) (sym version) can.real;
        apart = (keeps h.title can.apart).0;
        made = stays h before.view after.view can.made (lists h.partition);
      };
  differ = holds.differ;
}

pub holds_after : SlotsStaySeen → (hs : List Handle) (before after : StockValue) (x : ToldRecord) → HoldsQueue hs before →
    Does before after x → LeadsLists before after x → HoldsQueue hs after
holds_after stays hs before after x holds does leads = holds_on stays hs before after holds does.version does.lists leads.apart

pub beside_holds : SlotsStaySeen → (line : ℕ) (op : Op) (answer : Answer) (before after : StockValue) (hs : List Handle) →
    HoldsQueue hs before → DoesOp line op answer before after → HoldsQueue hs after
beside_holds stays line op answer before after hs holds does =
    let (x, is, done, leads, none) = does 0 in holds_after stays hs before after x holds done leads
