-- An allocation whose line has an entry: some events bring its slot to the thread, and then it is issued.
use Rattle.std.proofs.Common.{◌≡◌, ℕ, suc, ◌+◌, ◌*◌, ◌<◌, ◌≤◌, List, [], ◌∷◌, ◌++◌, Some, refl, sym, ◌∙◌, ap, subst, arith, inl, inr}
use Rattle.std.proofs.lemmas.Bool.{eq-eqb}
use Rattle.pa_slot.specs.declared.word.SlotName.{SlotName}
use Rattle.pa_slot.specs.declared.word.Step.TheVariants.{Issue}
use Rattle.pa_machine.specs.declared.event.Event.{Event}
use Rattle.pa_slot.specs.Count.{number_of, stepped, CanStep}
use Rattle.pa_slot.specs.Run.{Mark}
use Rattle.pa_slot.specs.Titles.{content_count}
use Rattle.pa_slot.specs.Holdings.{FreePiece, FreeTitle}
use Rattle.pa_machine.specs.Events.{State, Holds}
use Rattle.pa_machine.specs.Trail.{IsRunTo}
use Rattle.pa_slot.proofs.Runs.{same_slot_yes}
use Rattle.pa_machine.proofs.Lasting.{run_start}
use Rattle.pa_trace.specs.declared.script.Op.TheVariants as ops
use Rattle.pa_record.specs.declared.entry.Seen.{Seen}
use Rattle.pa_record.specs.declared.entry.Answer.TheVariants as answers
use Rattle.pa_record.specs.Spans.{name_of}
use Rattle.pa_rules.specs.declared.register.Register.TheVariants.{Own}
use Rattle.pa_rules.specs.declared.played.Played.{Played}
use Rattle.pa_rules.specs.Played.{mark_of, mark_at}
use Rattle.pa_rules.specs.Registers.{Becomes, with, is_plain_op, plain_in}
use Rattle.pa_rules.specs.Caches.{Cache, with_cache}
use Rattle.pa_rules.specs.Contents.{IsContent}
use Rattle.pa_rules.specs.Flow.{listed_times}
use Rattle.pa_slot_effects.specs.Shown.{over, with_slot}
use Rattle.pa_slot_effects.specs.Turns.{HoldsNone}
use Rattle.pa_slot_effects.proofs.Balance.{at_slot, at_other_slot}
use Rattle.pa_one_run.proofs.Filed.{IsFiled}
use Rattle.pa_one_run.proofs.roots.Classes.{made_class}
use Rattle.pa_core_steps.specs.Turns.{IsDone, stores, issue_event}
use Rattle.pa_rules.specs.Once.{once}
use Rattle.pa_one_run.specs.Parts.{Parts}
use Rattle.pa_one_run.specs.Before.{root_at}
use Rattle.pa_core_run.specs.Playing.{AreBeside}
use Rattle.pa_core_run.specs.Ledger.{Titles, IsShown}
use Rattle.pa_core_run.specs.Standing.{Standing, in_lists, ledger_of}
use Rattle.pa_core_run.specs.Fronts.{MadeIn, titles_in, IsFrontOf}
use Rattle.pa_core_run.proofs.Showing.{own_piece}
use Rattle.pa_core_run.proofs.Acting.{play_step}
use Rattle.pa_core_run.proofs.Paying.{IsSet}
use Rattle.pa_core_run.proofs.Stepping.{issue_stands}
use Rattle.pa_core_run.proofs.Named.{made_unique, HasTitle, class_title, direct_title}
use Rattle.pa_core_run.proofs.Contents.{content_made}
use Rattle.pa_core_run.proofs.Plain.{made_plain}
use Rattle.pa_core_run.proofs.Listing.{free_piece}
use Rattle.pa_core_run.proofs.NextFronts.{among, lists_beside, regs_left, cache_left, front_next, found_word, can_step, set_by, right_after}
use Rattle.pa_core_run.proofs.Records.{Outcome}
use Rattle.pa_core_run.proofs.Stepped.{next_st, below, set_named, stores_beside}
use Rattle.pa_core_run.proofs.Fronted.{lists_here}
use Rattle.pa_slot_effects.proofs.Handles.{over_same}
use Rattle.pa_machine.proofs.Holding.{free_title}

module _ (a : Parts) (before rest : List Played) (x : Played) (h : IsFiled a) (parts : a.ps ≡ before ++ x ∷ rest) (st : Standing)
    (f : IsFrontOf a x.line before (x ∷ rest) st) (s : State)
    (shown : IsShown (titles_in a (root_at a x.line)) (a.threads + 1) (2097152 * a.supers) (ledger_of a.partitions st) s) where
  -- what holds if the thread's lists are these
  abbrev pub listing : Cache → Standing
  listing list = record st { caches = with_cache st.caches x.thread list }

  abbrev pub names_next : Titles
  names_next = titles_in a (root_at a (x.line + 1))

  pub lists_mine : (list : Cache) (y : SlotName) →
      in_lists a.partitions (listing list) y (suc x.thread) ≡ over a.partitions (λ p. listed_times y (list p) 0 170)
  lists_mine list y =
      let same : with_cache st.caches x.thread list x.thread ≡ list = rw (eq-eqb x.thread x.thread refl) refl in
      over_same a.partitions (λ p. listed_times y (list p) 0 170)
      (λ p. listed_times y (with_cache st.caches x.thread list x.thread p) 0 170)
      (λ p. ap (λ (c : Cache). listed_times y (c p) 0 170) same)

  pub lists_others : (list : Cache) (j : ℕ) (y : SlotName) → (j ≡ x.thread → ⊥) →
      in_lists a.partitions (listing list) y (suc j) ≡ in_lists a.partitions st y (suc j)
  lists_others list j y ne = lists_beside a before rest x h parts st f list j y ne

  -- the core shows, after some events, the roots of the next line, and the thread's lists with the slot
  pub record IsBrought (list : Cache) (mid : State) : Type 0 where
    pub events : List Event
    pub run : IsRunTo s events mid
    pub beside : AreBeside (suc x.thread) events
    pub now : IsShown names_next (a.threads + 1) (2097152 * a.supers) (ledger_of a.partitions (listing list)) mid

  pub issue_plays : (reg part size usable : ℕ) (seen : Seen) (list : Cache) (mid : State) → x.op ≡ ops.Alloc reg part size
      → x.answer ≡ answers.Made seen usable → reg < 64 → HoldsNone (st.regs x.thread reg) →
      Becomes (regs_left a before rest x h parts st f) (with (st.regs x.thread) reg (Own seen.slot)) →
      ((y : SlotName) → over a.partitions
      (λ p. listed_times y (cache_left a before rest x h parts st f p) 0 170) + once y seen.slot ≤ over a.partitions
      (λ p. listed_times y (list p) 0 170)) →
      IsBrought list mid → Outcome a before rest x h parts st f s shown
  issue_plays reg part size usable seen list mid op answer reg_few none becomes fall brought =
      let m : Mark = mark_at x.line seen (Some Issue) in
      let is : mark_of x ≡ Some m = rw answer refl in
      let here = among a before rest x h parts st f in
      let titled : HasTitle a seen.slot = elim (made_class a x seen usable h here answer) [
        | inl (p, c, asks, of) ↦ class_title a seen.slot p c h of
        | inr (p, n, asks, direct) ↦ direct_title a seen.slot p h direct
      ] in
      let (t, made, name) = titled in
      let other : (k r : ℕ) → x.op ≡ ops.Swap k r →
      ⊥ = λ k r swap. (let both : ops.Alloc reg part size ≡ ops.Swap k r = sym op ∙ swap in absurd cc) in
      let content = with_slot st.content seen.slot 0 in
      let kept : (y : SlotName) → (y ≡ m.slot → ⊥) → content y ≡ st.content y = λ y ne. at_other_slot st.content seen.slot 0 y ne in
      let st2 = next_st a before rest x h parts st f s shown content in
      let first = set_named a before rest x h parts st f s shown t m Issue reg Own content name
      (set_by a before rest x h parts st f m Issue reg (Own m.slot) content is refl reg_few other becomes kept) in
      let set : IsSet a.partitions (listing list) st2 x.thread reg (Own (name_of t)) (name_of t) (stepped Issue (st.word (name_of t))) =
      record {
        few = first.few;
        here = first.here;
        other = first.other;
        held = first.held;
        lists = λ j y ne. first.lists j y ne ∙ sym (lists_others list j y ne);
        word_left = first.word_left;
        words = first.words;
        contents = first.contents;
      } in
      let can = subst (λ y. CanStep Issue (st.word y)) (sym name) (can_step a before rest x h parts st f m Issue is refl) in
      let now : content seen.slot ≡ 0 = at_slot st.content seen.slot 0 in
      let down = below a before rest x h parts st f s shown in
      let has = brought.now.free (suc x.thread) t (omega arith) down made in
      let mine = fall (name_of t) in
      let lists = lists_mine list (name_of t) in
      let one : once (name_of t) seen.slot ≡ 1 = rw (same_slot_yes (name_of t) seen.slot name) refl in
      let free : Holds mid (suc x.thread) (FreeTitle t) = omega arith in
      let sealed = is_plain_op x.rules x.op in
      let plain = ap (plain_in a.ps) name ∙ made_plain a h x seen usable here answer in
      let turned = issue_stands names_next a.partitions (a.threads + 1) (2097152 * a.supers) (listing list) mid brought.now
      (made_unique a h) st2 x.thread reg t sealed plain down made none can set (ap content name ∙ now) free
      (λ u m2.
      let less = fall (name_of u) in
      let after = lists_here a before rest x h parts st f s shown content (name_of u) in
      let had = lists_mine list (name_of u) in
      let piece = free_piece (MadeIn a) t u (made_unique a h) made m2 ∙ ap (once (name_of u)) name in
      omega arith) in
      let held = free_title mid (suc x.thread) t free in
      let found = found_word a before rest x h parts st f m is in
      let P : ℕ → Type 0 = λ w. IsContent a.ps seen.slot (number_of w + 1) (content seen.slot) in
      let Q : ℕ → Type 0 = λ v. IsContent a.ps seen.slot (number_of seen.found.0 + 1) v in
      let right = right_after a before rest x h parts st f m Issue content is refl kept
      (λ held2. subst P found (subst Q (sym now) (content_made a h x seen usable here answer))) in
      let e : suc x.thread ≡ x.thread + 1 = omega arith in
      let T : ℕ → Type 0 = λ k.
      ((after : State) × IsDone mid k t Issue (issue_event sealed k t) (FreePiece t ∷ []) (own_piece sealed t ∷ [])
      (stores (content_count t) 0 k t 0) after
      × IsShown names_next (a.threads + 1) (2097152 * a.supers) (ledger_of a.partitions st2) after) in
      let (after, done, last) = subst T e turned in (
        after,
        play_step (MadeIn a) x s mid after after m t Issue (FreePiece t ∷ []) (own_piece sealed t ∷ []) brought.events
            (stores (content_count t) 0 (x.thread + 1) t 0) [] is refl (rw op refl) shown.good made name
            (brought.now.words t held ∙ (ap st.word name ∙ sym found)) brought.run done (run_start after last.good)
            (subst (λ k. AreBeside k brought.events) e brought.beside) (stores_beside (content_count t) 0 (x.thread + 1) t 0) tt,
        record { st = st2; front = front_next a before rest x h parts st f content right; shown = last },
      )
