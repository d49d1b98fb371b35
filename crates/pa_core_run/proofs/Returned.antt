-- A reset or a free that returned its slot: the core plays its step, and shows then the thread's lists with the slot before one
-- of them. What follows on its line gives slots, or a direct map, back to the roots.
use Rattle.std.proofs.Common.{◌≡◌, ℕ, zero, suc, ◌+◌, ◌*◌, ◌<◌, ◌≤◌, List, ◌∷◌, ◌++◌, Some, refl, sym, ◌∙◌, ap, subst, arith, inl, inr}
use Rattle.std.specs.Prelude.{Contains}
use Rattle.std.proofs.lemmas.List.Elements.{All-contains}
use Rattle.pa_slot.specs.declared.word.SlotName.{SlotName}
use Rattle.pa_slot.specs.declared.word.Step.{Step}
use Rattle.pa_slot.specs.declared.word.Step.TheVariants.{Copy, Reset, Free, Write}
use Rattle.pa_slot.specs.declared.title.Title.{Title}
use Rattle.pa_slot.specs.Run.{Mark, IsReturning}
use Rattle.pa_machine.specs.Events.{State}
use Rattle.pa_trace.specs.Limits.{IsOpWithin}
use Rattle.pa_trace.specs.declared.script.Op.{Op}
use Rattle.pa_trace.specs.declared.script.Op.TheVariants as ops
use Rattle.pa_record.specs.declared.entry.Seen.{Seen}
use Rattle.pa_record.specs.declared.entry.Answer.TheVariants as answers
use Rattle.pa_record.specs.declared.numbered.Numbered.{Numbered}
use Rattle.pa_record.specs.Spans.{name_of}
use Rattle.pa_record.specs.Root.{names}
use Rattle.pa_rules.specs.declared.register.Register.TheVariants.{Empty, Own, Ref, Freed, Cleared}
use Rattle.pa_rules.specs.declared.played.Played.{Played}
use Rattle.pa_rules.specs.Played.{mark_of, mark_at, step_of}
use Rattle.pa_rules.specs.Registers.{Reg, Row, ResetRow, FreeRow}
use Rattle.pa_rules.specs.Caches.{Cache, with_list}
use Rattle.pa_rules.specs.Once.{once}
use Rattle.pa_rules.proofs.Counted.{times_cons}
use Rattle.pa_one_run.specs.Parts.{Parts}
use Rattle.pa_one_run.specs.Before.{root_at, facts_of}
use Rattle.pa_one_run.proofs.Filed.{IsFiled}
use Rattle.pa_core_run.specs.Playing.{AreBeside}
use Rattle.pa_core_run.specs.Ledger.{IsShown}
use Rattle.pa_core_run.specs.Standing.{Standing, in_registers, in_lists, ledger_of}
use Rattle.pa_core_run.specs.Fronts.{MadeIn, KeptIn, titles_in, IsFrontOf}
use Rattle.pa_core_run.specs.Moves.{named_in, IsReached}
use Rattle.pa_core_run.proofs.NextFronts.{among, regs_left, row_here, cache_left, front_next, lists_left}
use Rattle.pa_core_run.proofs.Records.{Outcome}
use Rattle.pa_core_run.proofs.Stepped.{given_st, GetsBack, IsGivenBack, reset_given, free_given}
use Rattle.pa_core_run.proofs.Listing.{over_lists}
use Rattle.pa_core_run.proofs.Fronted.{left_free}
use Rattle.pa_core_run.proofs.Issued.{listing, lists_mine, lists_others, names_next}
use Rattle.pa_core_run.proofs.Moving.{keeping}
use Rattle.pa_core_run.proofs.Batching.{kept_with}
use Rattle.pa_core_run.proofs.Bringing.{titles_go}

module _ (a : Parts) (before rest : List Played) (x : Played) (h : IsFiled a) (parts : a.ps ≡ before ++ x ∷ rest) (st : Standing)
    (f : IsFrontOf a x.line before (x ∷ rest) st) (s : State)
    (shown : IsShown (titles_in a (root_at a x.line)) (a.threads + 1) (2097152 * a.supers) (ledger_of a.partitions st) s) where
  -- the thread's lists get no more than the slot
  abbrev pub Grows : Cache → SlotName → Type 0
  Grows list slot = (y : SlotName) →
      in_lists a.partitions (listing a before rest x h parts st f s shown list) y (suc x.thread) ≤ in_lists a.partitions st y
      (suc x.thread) + once y slot

  -- a slot before a list is one more of it
  pub one_more : (p class : ℕ) (slot : Numbered) → class < 170 →
      Grows (with_list (st.caches x.thread) p class (slot ∷ st.caches x.thread p class)) slot.slot
  one_more p class slot real y =
      let cache = st.caches x.thread in
      let list = with_list cache p class (slot ∷ cache p class) in
      let mine = lists_mine a before rest x h parts st f s shown list y in
      let one = times_cons y slot.slot (names (cache p class)) in
      let grown = over_lists a.partitions p class y cache list (slot ∷ cache p class) (once y slot.slot) real (λ q c. refl) (omega arith) in
      omega arith

  -- what the step gives back is the slot
  gives_slot : (m : Mark) (p : Step) (list : Cache) → mark_of x ≡ Some m → m.step ≡ Some p → IsReturning p m.found → Grows list m.slot →
      GetsBack a before rest x h parts st f s shown list p m.slot
  gives_slot m p list is step returning grows t made name word u mine =
      let more = grows (name_of u) in
      let back = left_free a before rest x h parts st f s shown m p t u is step returning made name word mine in
      omega arith

  -- ---- by the op

  resets : (r : Reg) (reg : ℕ) (seen : Seen) (list : Cache) → x.op ≡ ops.Reset reg → x.answer ≡ answers.Done seen → reg < 64
      → st.regs x.thread reg ≡ r → ResetRow r (st.regs x.thread) reg (answers.Done seen) (regs_left a before rest x h parts st f) →
      IsReturning Reset seen.found.0 → Grows list seen.slot → (mid : State) × IsGivenBack a before rest x h parts st f s shown list mid
  resets Empty reg seen list op answer few is row returning grows = absurd (let e = row.0 in cc)
  resets (Own y) reg seen list op answer few is row returning grows = absurd (let e = row.0 in cc)
  resets Freed reg seen list op answer few is row returning grows = absurd (let e = row.0 in cc)
  resets Cleared reg seen list op answer few is row returning grows = absurd (let e = row.0 in cc)
  resets (Ref y) reg seen list op answer few is (other, slot, same, becomes) returning grows =
      let one : other ≡ seen = cc in
      let m : Mark = mark_at x.line seen (Some Reset) in
      reset_given a before rest x h parts st f s shown reg seen list op answer few
      (is ∙ ap Ref (sym slot ∙ ap (λ (z : Seen). z.slot) one)) becomes
      (gives_slot m Reset list (rw (answer, op) refl) refl returning grows)

  frees : (r : Reg) (reg : ℕ) (seen : Seen) (list : Cache) → x.op ≡ ops.Free reg → x.answer ≡ answers.Done seen → reg < 64
      → st.regs x.thread reg ≡ r → FreeRow r (st.regs x.thread) reg (answers.Done seen) (regs_left a before rest x h parts st f) →
      IsReturning Free seen.found.0 → Grows list seen.slot → (mid : State) × IsGivenBack a before rest x h parts st f s shown list mid
  frees Empty reg seen list op answer few is row returning grows = absurd (let e = row.0 in cc)
  frees Freed reg seen list op answer few is row returning grows = absurd (let e = row.0 in cc)
  frees Cleared reg seen list op answer few is row returning grows = absurd (let e = row.0 in cc)
  frees (Ref y) reg seen list op answer few is (other, slot, becomes, inl (bit, same)) returning grows = absurd cc
  frees (Ref y) reg seen list op answer few is (other, slot, becomes, inr (bit, same)) returning grows = absurd cc
  frees (Own y) reg seen list op answer few is (other, slot, same, becomes) returning grows =
      let one : other ≡ seen = cc in
      let m : Mark = mark_at x.line seen (Some Free) in
      free_given a before rest x h parts st f s shown reg seen list op answer few (is ∙ ap Own (sym slot ∙ ap (λ (z : Seen). z.slot) one))
      becomes (gives_slot m Free list (rw (answer, op) refl) refl returning grows)

  -- the op whose step returned a slot is a reset or a free
  by_op : (op : Op) (step : Step) (seen : Seen) (list : Cache) → x.op ≡ op → step_of op ≡ Some step → x.answer ≡ answers.Done seen
      → IsOpWithin a.partitions op → Row (facts_of a) op (st.regs x.thread) (answers.Done seen) (regs_left a before rest x h parts st f) →
      IsReturning step seen.found.0 → Grows list seen.slot → (mid : State) × IsGivenBack a before rest x h parts st f s shown list mid
  by_op (ops.Alloc reg part size) step seen list op makes answer within row returning grows = absurd cc
  by_op (ops.Copy from to) step seen list op makes answer within row returning grows = absurd
      (let P : Step → Type 0 = λ p. IsReturning p seen.found.0 in let e : step ≡ Copy = cc in subst P e returning)
  by_op (ops.Reset reg) step seen list op makes answer within row returning grows =
      let P : Step → Type 0 = λ p. IsReturning p seen.found.0 in
      let e : step ≡ Reset = cc in
      resets (st.regs x.thread reg) reg seen list op answer within refl row (subst P e returning) grows
  by_op (ops.Free reg) step seen list op makes answer within row returning grows =
      let P : Step → Type 0 = λ p. IsReturning p seen.found.0 in
      let e : step ≡ Free = cc in
      frees (st.regs x.thread reg) reg seen list op answer within refl row (subst P e returning) grows
  by_op (ops.Write reg value) step seen list op makes answer within row returning grows = absurd
      (let P : Step → Type 0 = λ p. IsReturning p seen.found.0 in let e : step ≡ Write = cc in subst P e returning)
  by_op (ops.Read reg place) step seen list op makes answer within row returning grows = absurd cc
  by_op (ops.Swap cell reg) step seen list op makes answer within row returning grows = absurd cc
  by_op ops.Purge step seen list op makes answer within row returning grows = absurd cc

  pub return_plays : (step : Step) (seen : Seen) (list : Cache) → step_of x.op ≡ Some step → x.answer ≡ answers.Done seen
      → IsReturning step seen.found.0 → Grows list seen.slot → (mid : State) × IsGivenBack a before rest x h parts st f s shown list mid
  return_plays step seen list makes answer returning grows =
      let within = All-contains (λ (y : Played). IsOpWithin a.partitions y.op) a.ps x h.within (among a before rest x h parts st f) in
      let row = subst (λ z. Row (facts_of a) x.op (st.regs x.thread) z (regs_left a before rest x h parts st f)) answer
      (row_here a before rest x h parts st f) in
      by_op x.op step seen list refl makes answer within row returning grows

  -- ---- what follows

  -- titles of which the thread's lists had more before than after the record go to the roots
  pub titles_back : (ts : List Title) (list : Cache) (mid : State)
      → IsShown (titles_in a (root_at a x.line)) (a.threads + 1) (2097152 * a.supers)
      (ledger_of a.partitions (given_st a before rest x h parts st f s shown list)) mid →
      ((t : Title) → Contains ts t → MadeIn a t) →
      ((y : SlotName) → in_lists a.partitions (given_st a before rest x h parts st f s shown (cache_left a before rest x h parts st f)) y
      (suc x.thread) + named_in y ts ≤ in_lists a.partitions (given_st a before rest x h parts st f s shown list) y (suc x.thread)) →
      (after : State) × IsReached (keeping (titles_in a (root_at a x.line)) (kept_with (KeptIn (root_at a x.line)) ts)) (a.threads + 1)
      (2097152 * a.supers) (ledger_of a.partitions (given_st a before rest x h parts st f s shown
      (cache_left a before rest x h parts st f))) mid (suc x.thread) after
  titles_back ts list mid now made less =
      titles_go a before rest x h parts st f s shown (given_st a before rest x h parts st f s shown list)
      (given_st a before rest x h parts st f s shown (cache_left a before rest x h parts st f)) ts mid now registers (λ y. refl)
      (λ y. refl) made less others
    where
      others : (j : ℕ) (y : SlotName) → (j ≡ suc x.thread → ⊥)
          → in_lists a.partitions (given_st a before rest x h parts st f s shown (cache_left a before rest x h parts st f)) y j ≤ in_lists
          a.partitions (given_st a before rest x h parts st f s shown list) y j
      others zero y ne = omega arith
      others (suc j) y ne =
          let here = lists_left a before rest x h parts st f st.content j y (λ e. ne (ap suc e)) in
          let there = lists_others a before rest x h parts st f s shown list j y (λ e. ne (ap suc e)) in
          omega arith

      registers : (g : Reg → ℕ) (k : ℕ) → in_registers g (given_st a before rest x h parts st f s shown
          (cache_left a before rest x h parts st f)) k ≡ in_registers g (given_st a before rest x h parts st f s shown list) k
      registers g zero = refl
      registers g (suc k) = refl

  -- if the core comes to show the next roots and the record's lists, the record is played
  pub given_plays : (list : Cache) (mid after : State) → IsGivenBack a before rest x h parts st f s shown list mid →
      IsReached (names_next a before rest x h parts st f s shown) (a.threads + 1) (2097152 * a.supers)
      (ledger_of a.partitions (given_st a before rest x h parts st f s shown (cache_left a before rest x h parts st f))) mid
      (suc x.thread) after →
      Outcome a before rest x h parts st f s shown
  given_plays list mid after given reached =
      let e : suc x.thread ≡ x.thread + 1 = omega arith in (
        after,
        given.plays reached.events after reached.run (subst (λ k. AreBeside k reached.events) e reached.beside),
        record {
          st = given_st a before rest x h parts st f s shown (cache_left a before rest x h parts st f);
          front = front_next a before rest x h parts st f st.content given.right;
          shown = reached.shown;
        },
      )
