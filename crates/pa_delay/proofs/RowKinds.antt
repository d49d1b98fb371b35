-- A row of a delayed run is one of the caches with the queue as it was, one of a slot that comes to the queue, or one of a purge.
use Rattle.std.proofs.Common.{◌≡◌, ℕ, ◌+◌, ◌⊎◌, List, [], ◌∷◌, ◌++◌, Option, Some, None, refl, inl, inr}
use Rattle.pa_slot.specs.declared.word.Step.{Step}
use Rattle.pa_slot.specs.Count.{number_of}
use Rattle.pa_slot.specs.Run.{IsReturning}
use Rattle.pa_record.specs.declared.entry.Seen.{Seen}
use Rattle.pa_record.specs.declared.entry.Answer.{Answer}
use Rattle.pa_record.specs.declared.entry.Answer.TheVariants as answers
use Rattle.pa_record.specs.declared.numbered.Numbered.{Numbered}
use Rattle.pa_record.specs.declared.root.RootAct.{RootAct}
use Rattle.pa_rules.specs.declared.played.Played.{Played}
use Rattle.pa_rules.specs.Played.{step_of}
use Rattle.pa_rules.specs.Roots.{Journals}
use Rattle.pa_rules.specs.Caches.{acts_of, IsOfClass, DoneRow, CacheRow}
use Rattle.pa_delay.specs.Queue.{GoesPast}
use Rattle.pa_delay.specs.Delayed.{Waiting, HaveBytes, AllLeave, DelayedDone, DelayedPurge, DelayedRow}

-- a slot with the number that a step at this word leaves
abbrev pub returned : Seen → Numbered
returned seen = record { slot = seen.slot; number = number_of seen.found.0 + 1 }

-- The answer tells of a step that returned a slot of a class: it comes to the queue, and others leave it.
pub record Comes (bytes : ℕ) (roots : Journals) (x : Played) (a : Answer) (before after : Waiting) : Type 0 where
  pub seen : Seen
  pub answer : a ≡ answers.Done seen
  pub step : Step
  pub steps : step_of x.op ≡ Some step
  pub returning : IsReturning step seen.found.0
  pub partition : ℕ
  pub class : ℕ
  pub of : IsOfClass roots seen.slot partition class
  pub gone : List Numbered
  pub acts : ℕ → List RootAct
  pub past : GoesPast (HaveBytes roots) bytes (before.queue ++ returned seen ∷ []) gone after.queue
  pub leave : AllLeave roots gone before.lists acts after.lists
  pub are : (q : ℕ) → acts_of roots x.line q ≡ acts q

-- the queue stays, and the lists go on as without one
abbrev pub Stays : ℕ → Journals → Played → Answer → Waiting → Waiting → Type 0
Stays partitions roots x a before after = CacheRow partitions roots x a before.lists after.lists × (after.queue ≡ before.queue)

-- a purge, by its answer
abbrev pub Purges : ℕ → Journals → Played → Answer → Waiting → Waiting → Type 0
Purges partitions roots x a before after = (slots : ℕ) × (a ≡ answers.Purged slots) × DelayedPurge partitions roots x slots before after

-- the three kinds
abbrev pub IsOfKind : ℕ → ℕ → Journals → Played → Answer → Waiting → Waiting → Type 0
IsOfKind bytes partitions roots x a before after =
    Stays partitions roots x a before after ⊎ (Comes bytes roots x a before after ⊎ Purges partitions roots x a before after)

module _ (bytes partitions : ℕ) (roots : Journals) (x : Played) (before after : Waiting) where
  done_kinds : (o : Option Step) (seen : Seen) → step_of x.op ≡ o → DelayedDone bytes roots x o seen before after →
      (DoneRow roots x o seen before.lists after.lists × (after.queue ≡ before.queue))
      ⊎ Comes bytes roots x (answers.Done seen) before after
  done_kinds None seen steps (quiet, (same, queue)) = inl ((quiet, same), queue)
  done_kinds (Some step) seen steps (inl (returning, inl (p, class, gone, acts, of, past, leave, are))) = inr (record {
    seen = seen;
    answer = refl;
    step = step;
    steps = steps;
    returning = returning;
    partition = p;
    class = class;
    of = of;
    gone = gone;
    acts = acts;
    past = past;
    leave = leave;
    are = are;
  })
  done_kinds (Some step) seen steps (inl (returning, inr (p, asked, number, direct, only, (same, queue)))) =
      inl (inl (returning, inr (p, asked, number, direct, only, same)), queue)
  done_kinds (Some step) seen steps (inr (other, quiet, (same, queue))) = inl (inr (other, quiet, same), queue)

  done_kind : (seen : Seen) → DelayedDone bytes roots x (step_of x.op) seen before after →
      IsOfKind bytes partitions roots x (answers.Done seen) before after
  done_kind seen row = elim (done_kinds (step_of x.op) seen refl row) [ inl stays ↦ inl stays | inr comes ↦ inr (inl comes) ]

  pub kind_of : (a : Answer) → DelayedRow bytes partitions roots x a before after → IsOfKind bytes partitions roots x a before after
  kind_of (answers.Done seen) row = done_kind seen row
  kind_of (answers.Purged slots) row = inr (inr (slots, refl, row))
  kind_of (answers.Made seen usable) row = inl row
  kind_of (answers.Full entry) row = inl row
  kind_of (answers.Value seen value) row = inl row
  kind_of (answers.Dangling seen value) row = inl row
  kind_of (answers.SecondFree seen) row = inl row
  kind_of (answers.NotOwner seen) row = inl row
  kind_of answers.StaleReset row = inl row
  kind_of (answers.StaleUse seen) row = inl row
  kind_of answers.Nothing row = inl row
  kind_of answers.Filled row = inl row
  kind_of answers.Uncounted row = inl row
  kind_of answers.NotRef row = inl row
  kind_of (answers.Shared seen) row = inl row
  kind_of answers.OutOfRange row = inl row
  kind_of answers.TooLarge row = inl row
  kind_of (answers.Swapped entry) row = inl row
