-- Records on lines without an entry that move a slot between its owner and the thread's lists: one that returns, and one that is made.
use Rattle.std.proofs.Common.{◌≡◌, ℕ, suc, ◌+◌, ◌*◌, ◌<◌, List, [], ◌∷◌, ◌++◌, Some, refl, sym, ◌∙◌, ap, subst, arith, inl, inr}
use Rattle.std.proofs.lemmas.Bool.{eq-eqb}
use Rattle.pa_slot.specs.declared.word.SlotName.{SlotName}
use Rattle.pa_slot.specs.declared.word.Step.{Step}
use Rattle.pa_slot.specs.declared.word.Step.TheVariants.{Issue}
use Rattle.pa_slot.specs.declared.title.Title.{Title}
use Rattle.pa_slot.specs.Count.{number_of, held_of, refs_of, stepped, CanStep}
use Rattle.pa_slot.specs.Run.{Mark, IsReturning}
use Rattle.pa_slot.specs.Titles.{content_count, count_word}
use Rattle.pa_slot.specs.Holdings.{FreePiece, FreeTitle, held_in}
use Rattle.pa_machine.specs.Events.{State, Holds}
use Rattle.pa_slot.proofs.Runs.{same_slot_yes}
use Rattle.pa_machine.proofs.Amounts.{returned_cases}
use Rattle.pa_trace.specs.declared.script.Op.TheVariants as ops
use Rattle.pa_rules.proofs.Versions.{real_in}
use Rattle.pa_record.specs.declared.entry.Seen.{Seen}
use Rattle.pa_record.specs.declared.entry.Answer.TheVariants as answers
use Rattle.pa_record.specs.Spans.{name_of}
use Rattle.pa_rules.specs.declared.register.Register.TheVariants.{Own}
use Rattle.pa_rules.specs.declared.played.Played.{Played}
use Rattle.pa_rules.specs.Played.{mark_of, mark_at}
use Rattle.pa_rules.specs.Registers.{Becomes, with, is_plain_op, plain_in}
use Rattle.pa_rules.specs.Caches.{Cache, NoActs, ReturnRow, MadeRow, with_cache}
use Rattle.pa_rules.specs.Contents.{IsContent}
use Rattle.pa_rules.specs.Flow.{listed_times}
use Rattle.pa_rules.proofs.Flowing.{class_real}
use Rattle.pa_legal.proofs.Words.{leaves_free}
use Rattle.pa_slot_effects.specs.Shown.{over, with_slot}
use Rattle.pa_slot_effects.specs.Turns.{HoldsNone}
use Rattle.pa_slot_effects.proofs.Balance.{at_slot, at_other_slot}
use Rattle.pa_one_run.proofs.Filed.{IsFiled}
use Rattle.pa_one_run.proofs.roots.Classes.{made_class}
use Rattle.pa_core_steps.specs.Turns.{left_by, stores}
use Rattle.pa_rules.specs.Once.{once}
use Rattle.pa_one_run.specs.Parts.{Parts}
use Rattle.pa_one_run.specs.Before.{root_at}
use Rattle.pa_core_run.specs.Ledger.{IsShown}
use Rattle.pa_core_run.specs.Standing.{Standing, in_lists, ledger_of}
use Rattle.pa_core_run.specs.Fronts.{MadeIn, titles_in, IsFrontOf}
use Rattle.pa_core_run.proofs.Showing.{own_piece}
use Rattle.pa_core_run.proofs.Stepping.{issue_stands}
use Rattle.pa_core_run.proofs.Named.{made_unique, HasTitle, class_title, direct_title}
use Rattle.pa_core_run.proofs.Contents.{content_made}
use Rattle.pa_core_run.proofs.Plain.{made_plain}
use Rattle.pa_core_run.proofs.Listing.{free_piece, lists_grow, lists_fall}
use Rattle.pa_core_run.proofs.NextFronts.{among, regs_left, cache_left, found_word, can_step, set_by, right_after}
use Rattle.pa_core_run.proofs.Records.{Outcome}
use Rattle.pa_core_run.proofs.Stepped.{next_st, GetsBack, names_here, bytes_here, below, turned_plays, set_named, stores_beside}
use Rattle.pa_slot_effects.proofs.Handles.{over_same}
use Rattle.pa_machine.proofs.Holding.{free_title}

module _ (a : Parts) (before rest : List Played) (x : Played) (h : IsFiled a) (parts : a.ps ≡ before ++ x ∷ rest) (st : Standing)
    (f : IsFrontOf a x.line before (x ∷ rest) st) (s : State)
    (shown : IsShown (titles_in a (root_at a x.line)) (a.threads + 1) (2097152 * a.supers) (ledger_of a.partitions st) s) where
  -- the lists of the thread after the record
  pub lists_here : (content : SlotName → ℕ) (y : SlotName) →
      in_lists a.partitions (next_st a before rest x h parts st f s shown content) y (suc x.thread) ≡ over a.partitions
      (λ p. listed_times y (cache_left a before rest x h parts st f p) 0 170)
  lists_here content y =
      let same : with_cache st.caches x.thread
      (cache_left a before rest x h parts st f) x.thread ≡ cache_left a before rest x h parts st f =
      rw (eq-eqb x.thread x.thread refl) refl in
      over_same a.partitions (λ p. listed_times y (cache_left a before rest x h parts st f p) 0 170)
      (λ p. listed_times y (with_cache st.caches x.thread (cache_left a before rest x h parts st f) x.thread p) 0 170)
      (λ p. ap (λ (c : Cache). listed_times y (c p) 0 170) same)

  -- what a step that returns a slot leaves is its free title
  pub left_free : (m : Mark) (p : Step) (t u : Title) → mark_of x ≡ Some m → m.step ≡ Some p → IsReturning p m.found → MadeIn a t
      → name_of t ≡ m.slot → count_word s.words t ≡ st.word (name_of t) → MadeIn a u →
      held_in (left_by p s t) (FreeTitle u) ≡ once (name_of u) m.slot
  left_free m p t u is step returning made name word other =
      let found = found_word a before rest x h parts st f m is in
      let can = can_step a before rest x h parts st f m p is step in
      let now : count_word s.words t ≡ m.found = word ∙ (ap st.word name ∙ sym found) in
      let (free, alone) = leaves_free p m.found (subst (λ w. CanStep p w) (sym found) can) returning in
      elim (returned_cases (stepped p (count_word s.words t)) t) [
        | inl y ↦ ap (λ ps. held_in ps (FreeTitle u)) y.1 ∙
            (free_piece (MadeIn a) t u (made_unique a h) made other ∙ ap (once (name_of u)) name)
        | inr n ↦ absurd (n.0 (ap (λ w. held_of (stepped p w)) now ∙ free, ap (λ w. refs_of (stepped p w)) now ∙ alone))
      ]

  -- a slot that a step returned goes to the front of its list
  pub gets_back : (m : Mark) (p : Step) → mark_of x ≡ Some m → m.step ≡ Some p → IsReturning p m.found →
      ReturnRow a.roots x (record { slot = m.slot; number = number_of m.found + 1 }) (st.caches x.thread)
      (cache_left a before rest x h parts st f) → NoActs a.roots x.line →
      GetsBack a before rest x h parts st f s shown (cache_left a before rest x h parts st f) p m.slot
  gets_back m p is step returning row none t made name word u other =
      let grow = lists_grow a.partitions a.roots x (record { slot = m.slot; number = number_of m.found + 1 }) (st.caches x.thread)
      (cache_left a before rest x h parts st f) (name_of u)
      (λ q class of. class_real a.pools a.roots m.slot q class (h.journals.journals q) of) none row in
      let here = lists_here st.content (name_of u) in
      let back = left_free m p t u is step returning made name word other in
      omega arith

  -- an allocation from the front of a list
  pub made_plays : (reg part size usable : ℕ) (seen : Seen) → x.op ≡ ops.Alloc reg part size → x.answer ≡ answers.Made seen usable →
      reg < 64 → part < a.partitions → HoldsNone (st.regs x.thread reg) →
      Becomes (regs_left a before rest x h parts st f) (with (st.regs x.thread) reg (Own seen.slot))
      → MadeRow a.roots x seen (st.caches x.thread) (cache_left a before rest x h parts st f) → NoActs a.roots x.line →
      Outcome a before rest x h parts st f s shown
  made_plays reg part size usable seen op answer reg_few part_few none becomes row no_acts =
      let m : Mark = mark_at x.line seen (Some Issue) in
      let is : mark_of x ≡ Some m = rw answer refl in
      let here = among a before rest x h parts st f in
      let titled : HasTitle a seen.slot = elim (made_class a x seen usable h here answer) [
        | inl (p, c, asks, of) ↦ class_title a seen.slot p c h of
        | inr (p, n, asks, direct) ↦ direct_title a seen.slot p h direct
      ] in
      let (t, made, name) = titled in
      let other : (k r : ℕ) → x.op ≡ ops.Swap k r →
      ⊥ = λ k r swap. (let both : ops.Alloc reg part size ≡ ops.Swap k r = sym op ∙ swap in absurd cc) in
      let content = with_slot st.content seen.slot 0 in
      let kept : (y : SlotName) → (y ≡ m.slot → ⊥) → content y ≡ st.content y = λ y ne. at_other_slot st.content seen.slot 0 y ne in
      let fall = lists_fall a.partitions a.roots x seen (st.caches x.thread) (cache_left a before rest x h parts st f)
      (λ p class (r, n, asks, class_of). (let both : ops.Alloc reg part size ≡ ops.Alloc r p n = sym op
      ∙ asks in let e : part ≡ p = cc in (
        subst (λ z. z < a.partitions) e part_few,
        real_in x.rules.version class (class_of.from, class_of.real),
      ))) no_acts row in
      let set = set_named a before rest x h parts st f s shown t m Issue reg Own content name
      (set_by a before rest x h parts st f m Issue reg (Own m.slot) content is refl reg_few other becomes kept) in
      let can = subst (λ y. CanStep Issue (st.word y)) (sym name) (can_step a before rest x h parts st f m Issue is refl) in
      let now : content seen.slot ≡ 0 = at_slot st.content seen.slot 0 in
      let down = below a before rest x h parts st f s shown in
      let has = shown.free (suc x.thread) t (omega arith) down made in
      let mine = fall (name_of t) in
      let one : once (name_of t) seen.slot ≡ 1 = rw (same_slot_yes (name_of t) seen.slot name) refl in
      let free : Holds s (suc x.thread) (FreeTitle t) = omega arith in
      let names = names_here a before rest x h parts st f s shown in
      let sealed = is_plain_op x.rules x.op in
      let plain = ap (plain_in a.ps) name ∙ made_plain a h x seen usable here answer in
      let turned = issue_stands names a.partitions (a.threads + 1) (bytes_here a before rest x h parts st f s shown) st s shown
      (made_unique a h) (next_st a before rest x h parts st f s shown content) x.thread reg t sealed plain down made none can set
      (ap content name ∙ now) free
      (λ u m2.
      let less = fall (name_of u) in
      let after = lists_here content (name_of u) in
      let piece = free_piece (MadeIn a) t u (made_unique a h) made m2 ∙ ap (once (name_of u)) name in
      omega arith) in
      let held = free_title s (suc x.thread) t free in
      let found = found_word a before rest x h parts st f m is in
      let P : ℕ → Type 0 = λ w. IsContent a.ps seen.slot (number_of w + 1) (content seen.slot) in
      let Q : ℕ → Type 0 = λ v. IsContent a.ps seen.slot (number_of seen.found.0 + 1) v in
      turned_plays a before rest x h parts st f s shown m Issue t (FreePiece t ∷ []) (own_piece sealed t ∷ [])
      (λ k. stores (content_count t) 0 k t 0) content is refl (rw op refl) made name (shown.words t held)
      (λ k. stores_beside (content_count t) 0 k t 0) no_acts
      (right_after a before rest x h parts st f m Issue content is refl kept
      (λ held2. subst P found (subst Q (sym now) (content_made a h x seen usable here answer))))
      turned
