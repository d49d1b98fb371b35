-- A reset or a free does what it should if its slot came to the queue, and others left that for their lists.
use Rattle.std.proofs.Common.{◌≡◌, ℕ, List, [], ◌∷◌, ◌++◌, Some, refl, sym, ◌∙◌, ap, subst, inl, inr}
use Rattle.std.specs.Prelude.{◌==◌, if◌then◌else◌, Contains}
use Rattle.pa_slot.specs.declared.word.Step.{Step}
use Rattle.pa_trace.specs.declared.script.Op.{Op}
use Rattle.pa_trace.specs.declared.script.Rules.{Rules}
use Rattle.pa_record.specs.declared.entry.Answer.TheVariants as answers
use Rattle.pa_record.specs.declared.numbered.Numbered.{Numbered}
use Rattle.pa_record.specs.declared.root.RootAct.{RootAct}
use Rattle.pa_record.specs.Spans.{name_of}
use Rattle.pa_region.specs.declared.view.Entry.{Entry}
use Rattle.pa_region.specs.declared.view.Entry.TheVariants.{Counted}
use Rattle.pa_region.specs.declared.view.View.{View}
use Rattle.pa_rules.specs.Roots.{Journals}
use Rattle.pa_rules.specs.Caches.{Cache, SameLists, gives, kept, spilled, with_list}
use Rattle.pa_delay.specs.Delayed.{HaveBytes, AllLeave}
use Rattle.pa_delay.specs.Queue.{QueueList, GoesPast, AreBytes}
use Rattle.pa_cells.specs.declared.handle.Handle.{Handle}
use Rattle.pa_cells.specs.Handles.{SlotsStaySeen}
use Rattle.pa_thread_state.proofs.Looking.{seen_at}
use Rattle.pa_op_specs.specs.Stocks.{StockRegister, StockValue, IsStock, listed_in}
use Rattle.pa_op_specs.proofs.Entered.{entered_some, line_acts}
use Rattle.pa_op_specs.proofs.Quiet.{quiet_record, touched_apart}
use Rattle.pa_heap.specs.Waiting.{HoldsQueue, DoesDelayed, waiting_in, lists_and_queue}
use Rattle.pa_heap.proofs.Returned.{HasReturned, left_at, returned_delays}
use Rattle.pa_heap.proofs.Given.{GivesAfter, return_enters, return_entered, return_acts, return_slot, return_says}
use Rattle.pa_heap.proofs.Settling.{step_lists, same_with}
use Rattle.pa_heap.proofs.Beside.{same_waiting}
use Rattle.pa_heap.proofs.Passed.{IsClassedIn, waiting_append, slots_go_past}
use Rattle.pa_heap.proofs.CameBack.{CameBack}

-- ---- lists that are the same

-- slots leave for lists that are the same
leave_alike : (roots : Journals) (ss : List Numbered) (a b after : Cache) (acts : ℕ → List RootAct) → SameLists a b →
    AllLeave roots ss a acts after → AllLeave roots ss b acts after
leave_alike roots [] a b after acts same (none, after_is) = (none, λ p c. after_is p c ∙ same p c)
leave_alike roots (s ∷ ss) a b after acts same (next, first, rest, (p, class, of, first_is, next_is), later, joined) =
    let front : s ∷ a p class ≡ s ∷ b p class = ap (λ xs. s ∷ xs) (same p class) in (
      next,
      first,
      rest,
      (
        p,
        class,
        of,
        subst (λ xs. (q : ℕ) → first q ≡ (if q == p then gives (spilled class xs) else [])) front first_is,
        λ q d. next_is q d ∙ (same_with a b p class (kept class (s ∷ a p class)) same q d
            ∙ ap (λ xs. with_list b p class (kept class xs) q d) front),
      ),
      later,
      joined,
    )

-- ---- the op

module _ (op : Op) (step : Step) (h : Handle) (class word line : ℕ) (s after : StockValue) (w : View) (rs : List StockRegister)
    (queue rest : QueueList) (gone : List Handle) where
  -- the op did what it should, and the queue got its slot, at the number that the step left
  pub waits_does : SlotsStaySeen → IsStock s → HasReturned op step h word s w rs → h.class ≡ Some class → HoldsQueue queue.slots s →
      HoldsQueue (queue.slots ++ h ∷ []) (record s { view = w; registers = rs }) →
      GoesPast AreBytes queue.limit (queue.slots ++ h ∷ []) gone rest.slots →
      CameBack line gone rest.slots (record s { view = w; registers = rs }) after →
      DoesDelayed line op (answers.Done (seen_at h word)) s queue after rest
  waits_does stays sound is of holds held past came phase =
      let (does, adds) = entered_some s after line phase op (answers.Done (seen_at h word)) (c ∷ came.stretch) came.same.0 came.same.1
      (ap (λ (k : Rules). k.plain_from) came.same.2) (ap (λ (k : Rules). k.version) came.same.2)
      (return_enters stays op step h word line s after w rs came.stretch came.acts is gave came.registers)
      (return_says stays op step h word line s after w rs came.stretch came.acts is gave came.registers phase) in (
        quiet_record s after.view line phase op (answers.Done (seen_at h word)) (c ∷ came.stretch),
        refl,
        does,
        adds,
        λ o fits. returned_delays op step h word s w rs is o.partitions line phase o.roots queue.limit (lists_and_queue s queue.slots)
            (lists_and_queue after rest.slots)
            (inl (
              h.partition,
              class,
              waiting_in mid gone,
              came.acts,
              (return_slot stays op step h word line s after w rs came.stretch came.acts is gave came.registers o fits.run fits.seen).class
                  class of,
              subst (λ xs. GoesPast (HaveBytes o.roots) queue.limit xs (waiting_in mid gone) (waiting_in after rest.slots)) behind
                  (subst (λ xs. GoesPast (HaveBytes o.roots) queue.limit (waiting_in mid (queue.slots ++ h ∷ [])) (waiting_in mid gone) xs)
                  (sym came.numbers)
                  (slots_go_past o fits.run mid after.view fits.seen queue.limit (queue.slots ++ h ∷ []) gone rest.slots classed past)),
              leave_alike o.roots (waiting_in mid gone) (listed_in mid) (listed_in s) (listed_in after) came.acts
                  (step_lists op step h word s w rs sound is) (came.leaves o fits.run fits.seen),
              return_acts stays op step h word line s after w rs came.stretch came.acts is gave came.registers phase o
                  (line_acts o (quiet_record s after.view line phase op (answers.Done (seen_at h word)) (c ∷ came.stretch))
                  (return_entered stays op step h word line s after w rs came.stretch came.acts is gave came.registers phase)
                  fits.run fits.acts),
            )),
      )
    where
      mid : StockValue
      mid = record s { view = w; registers = rs }

      c : Entry
      c = Counted h.title step word 0

      gave : GivesAfter line came.stretch came.acts (record s { view = w; registers = rs }) after.view
      gave = record {
        enters = came.enters;
        says = came.says;
        past = came.past;
        gives = came.gives;
        homes = λ q. elim (came.homes q) [ inl none ↦ inl none | inr some ↦ inr some.some ];
        quiet = came.quiet;
        uncut = came.uncut;
      }

      classed : (g : Handle) → Contains (queue.slots ++ h ∷ []) g → IsClassedIn after.view g
      classed g among =
          let can = held.each g among in
          record { class = can.class; class_is = can.class_is; made = stays g w after.view can.made (came.enters.lists g.partition) }

      behind : waiting_in mid (queue.slots ++ h ∷ []) ≡ waiting_in s queue.slots ++ left_at h word ∷ []
      behind =
          waiting_append mid queue.slots (h ∷ [])
          ∙ (ap (λ n. waiting_in mid queue.slots ++ record { slot = name_of h.title; number = n } ∷ []) is.number
          ∙ ap (λ xs. xs ++ left_at h word ∷ [])
          (same_waiting queue.slots s mid holds (touched_apart s w rs s.caches (c ∷ []) is.touched (λ t alone. alone.off))))
