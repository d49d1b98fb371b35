-- Records of counted steps: a copy, a write, and a reset and a free up to the lists that they leave.
use Rattle.std.proofs.Common.{◌≡◌, ℕ, zero, suc, ◌+◌, ◌*◌, ◌<◌, ◌≤◌, false, List, [], ◌∷◌, ◌++◌, Some, None, refl, sym, ◌∙◌, ap, subst, arith, ◌⊎◌, inl, inr}
use Rattle.std.proofs.lemmas.Bool.{cases_eq}
use Rattle.pa_slot.specs.declared.word.SlotName.{SlotName}
use Rattle.pa_slot.specs.declared.word.Step.{Step}
use Rattle.pa_slot.specs.declared.word.Step.TheVariants.{Issue, Copy, Reset, Free, Write}
use Rattle.pa_slot.specs.declared.title.Title.{Title}
use Rattle.pa_slot.specs.declared.title.OwnState.TheVariants.{Clean}
use Rattle.pa_machine.specs.declared.event.Event.{Event}
use Rattle.pa_slot.specs.Count.{number_of, held_of, refs_of, stepped, CanStep}
use Rattle.pa_slot.specs.Run.{Mark}
use Rattle.pa_slot.specs.Titles.{content_count, count_word}
use Rattle.pa_slot.specs.Holdings.{Piece, RefPiece, FreeTitle, held_in}
use Rattle.pa_machine.specs.Events.{State}
use Rattle.pa_machine.specs.Trail.{IsRunTo}
use Rattle.pa_machine.proofs.Lasting.{run_start}
use Rattle.pa_trace.specs.declared.script.Op.TheVariants as ops
use Rattle.pa_record.specs.declared.entry.Seen.{Seen}
use Rattle.pa_record.specs.declared.entry.Answer.TheVariants as answers
use Rattle.pa_record.specs.Spans.{name_of}
use Rattle.pa_rules.specs.declared.register.Register.TheVariants.{Own, Ref, Freed, Cleared}
use Rattle.pa_rules.specs.declared.played.Played.{Played}
use Rattle.pa_rules.specs.Played.{mark_of, mark_at}
use Rattle.pa_rules.specs.Registers.{Reg, Becomes, with, is_plain_op, plain_in}
use Rattle.pa_rules.specs.Caches.{Cache, SameLists, NoActs}
use Rattle.pa_rules.specs.Contents.{IsContent}
use Rattle.pa_slot_effects.specs.Shown.{with_slot}
use Rattle.pa_slot_effects.specs.Turns.{HoldsNone}
use Rattle.pa_slot_effects.proofs.Contents.{held_before}
use Rattle.pa_slot_effects.proofs.Balance.{at_slot, at_other_slot}
use Rattle.pa_one_run.proofs.Filed.{IsFiled}
use Rattle.pa_core_steps.specs.Turns.{IsDone, left_by, poisons, stores}
use Rattle.pa_core_run.specs.Playing.{read_by, count_event, AreBeside, Plays}
use Rattle.pa_core_run.specs.Ledger.{Titles, IsShown}
use Rattle.pa_core_run.specs.Standing.{Standing, in_lists, ledger_of}
use Rattle.pa_core_run.specs.Fronts.{MadeIn, titles_in, IsFrontOf}
use Rattle.pa_rules.proofs.Leading.{slot_in}
use Rattle.pa_one_run.specs.Parts.{Parts}
use Rattle.pa_one_run.specs.Before.{word_after, root_at}
use Rattle.pa_core_run.proofs.Showing.{own_piece}
use Rattle.pa_core_run.proofs.Acting.{play_step, handle_held}
use Rattle.pa_core_run.proofs.Paying.{IsSet, set_at, set_apart}
use Rattle.pa_core_run.proofs.Stepping.{has_own, has_ref, has_handle, copy_stands, reset_stands, free_stands, write_stands}
use Rattle.pa_core_run.proofs.Named.{made_unique}
use Rattle.pa_core_run.proofs.Contents.{content_left, content_written}
use Rattle.pa_core_run.proofs.NextFronts.{after_record, among, regs_left, cache_left, found_word, can_step, set_by, roots_left, lists_beside, lists_same, right_after}
use Rattle.pa_core_run.proofs.Records.{Outcome, few, shows_next, named_title}
use Rattle.pa_machine.proofs.Holding.{own_title, ref_title}

-- poisons and stores of an actor are beside its step
pub poisons_beside : (n k : ℕ) (t : Title) → AreBeside k (poisons n k t)
poisons_beside zero k t = tt
poisons_beside (suc n) k t = (inr refl, poisons_beside n k t)

pub stores_beside : (n i k : ℕ) (t : Title) (value : ℕ) → AreBeside k (stores n i k t value)
stores_beside zero i k t value = tt
stores_beside (suc n) i k t value = (inr refl, stores_beside n (i + 1) k t value)

module _ (a : Parts) (before rest : List Played) (x : Played) (h : IsFiled a) (parts : a.ps ≡ before ++ x ∷ rest) (st : Standing)
    (f : IsFrontOf a x.line before (x ∷ rest) st) (s : State)
    (shown : IsShown (titles_in a (root_at a x.line)) (a.threads + 1) (2097152 * a.supers) (ledger_of a.partitions st) s) where
  abbrev pub names_here : Titles
  names_here = titles_in a (root_at a x.line)

  abbrev pub bytes_here : ℕ
  bytes_here = 2097152 * a.supers

  abbrev pub next_st : (SlotName → ℕ) → Standing
  next_st content = after_record a before x st (regs_left a before rest x h parts st f) (cache_left a before rest x h parts st f) content

  -- the content of a slot that is stepped on, but not made or written
  content_goes : (m : Mark) (p : Step) → mark_of x ≡ Some m → m.step ≡ Some p → (p ≡ Issue → ⊥)
      → ((seen : Seen) (usable : ℕ) → x.answer ≡ answers.Made seen usable → ⊥) → ((reg other : ℕ) → x.op ≡ ops.Write reg other → ⊥) →
      held_of (stepped p (st.word m.slot)) ≡ 1 → IsContent a.ps m.slot (number_of (st.word m.slot) + 1) (st.content m.slot)
  content_goes m p is step other not_made not_written held =
      let can = can_step a before rest x h parts st f m p is step in
      let found = found_word a before rest x h parts st f m is in
      let had = f.contents m.slot (held_before p (st.word m.slot) other held can) in
      let P : ℕ → Type 0 = λ w. IsContent a.ps m.slot (number_of w) (st.content m.slot) in
      let Q : ℕ → Type 0 = λ w. IsContent a.ps m.slot (number_of w + 1) (st.content m.slot) in
      subst Q found (content_left a h x m p (st.content m.slot) (among a before rest x h parts st f) is step not_made not_written
      (subst P (sym found) had))

  -- a step p of the slot that a register names, whose turn the core can make
  abbrev pub Turned : (t : Title) (p : Step) (lost gained : List Piece) (first : List Event) (content : SlotName → ℕ) (k : ℕ) → Type 0
  Turned t p lost gained first content k =
      (after : State) × IsDone s k t p (count_event (is_plain_op x.rules x.op) k t p) lost gained first after ×
      IsShown names_here (a.threads + 1) bytes_here (ledger_of a.partitions (next_st content)) after

  -- is the record's, if it has no entry
  pub turned_plays : (m : Mark) (p : Step) (t : Title) (lost gained : List Piece) (first : ℕ → List Event) (content : SlotName → ℕ)
      → mark_of x ≡ Some m → m.step ≡ Some p → read_by x.op x.answer ≡ None →
      MadeIn a t → name_of t ≡ m.slot → count_word s.words t ≡ st.word (name_of t) → ((k : ℕ) → AreBeside k (first k)) →
      NoActs a.roots x.line →
      ((y : SlotName) → held_of (word_after (before ++ x ∷ []) y) ≡ 1 →
      IsContent a.ps y (number_of (word_after (before ++ x ∷ []) y)) (content y)) →
      Turned t p lost gained (first (suc x.thread)) content (suc x.thread) → Outcome a before rest x h parts st f s shown
  turned_plays m p t lost gained first content is step unread made name word beside none right turned =
      let e : suc x.thread ≡ x.thread + 1 = omega arith in
      let there : Turned t p lost gained (first (x.thread + 1)) content (x.thread + 1) =
      subst (λ k. Turned t p lost gained (first k) content k) e turned in
      let good2 = there.2.good in (
        there.0,
        play_step (MadeIn a) x s s there.0 there.0 m t p lost gained [] (first (x.thread + 1)) [] is step unread shown.good made name
            (word ∙ (ap st.word name ∙ sym (found_word a before rest x h parts st f m is))) (run_start s shown.good) there.1
            (run_start there.0 good2) tt (beside (x.thread + 1)) tt,
        shows_next a before rest x h parts st f s shown content there.0 (roots_left a before rest x h parts st f none) right there.2,
      )

  -- what a record sets, by the title's name
  pub set_named : (t : Title) (m : Mark) (p : Step) (reg : ℕ) (new : SlotName → Reg) (content : SlotName → ℕ) → name_of t ≡ m.slot
      → IsSet a.partitions st (next_st content) x.thread reg (new m.slot) m.slot (stepped p (st.word m.slot)) →
      IsSet a.partitions st (next_st content) x.thread reg (new (name_of t)) (name_of t) (stepped p (st.word (name_of t)))
  set_named t m p reg new content name set =
      subst (λ y. IsSet a.partitions st (next_st content) x.thread reg (new y) y (stepped p (st.word y))) (sym name) set

  pub below : suc x.thread < a.threads + 1
  below = let low = few a before rest x h parts st f s shown in omega arith

  same_lists : (content : SlotName → ℕ) → SameLists (cache_left a before rest x h parts st f) (st.caches x.thread) → (y : SlotName)
      → in_lists a.partitions (next_st content) y (suc x.thread) ≡ in_lists a.partitions st y (suc x.thread)
  same_lists content same y = lists_same a before rest x h parts st f content same (suc x.thread) y

  pub copy_plays : (from to : ℕ) (seen : Seen) → x.op ≡ ops.Copy from to → x.answer ≡ answers.Done seen → from < 64 → to < 64
      → (st.regs x.thread from ≡ Own seen.slot) ⊎ (st.regs x.thread from ≡ Ref seen.slot) →
      (st.regs x.thread from ≡ Own seen.slot → plain_in a.ps seen.slot ≡ false) → HoldsNone (st.regs x.thread to) →
      Becomes (regs_left a before rest x h parts st f) (with (st.regs x.thread) to (Ref seen.slot))
      → SameLists (cache_left a before rest x h parts st f) (st.caches x.thread) → NoActs a.roots x.line →
      Outcome a before rest x h parts st f s shown
  copy_plays from to seen op answer from_few to_few names counted none becomes lists no_acts =
      let m : Mark = mark_at x.line seen (Some Copy) in
      let is : mark_of x ≡ Some m = rw (answer, op) refl in
      let (t, made, name) = named_title a before rest x h parts st f s shown from seen.slot
      (elim names [ inl own ↦ ap slot_in own | inr ref ↦ ap slot_in ref ]) in
      let other : (k r : ℕ) → x.op ≡ ops.Swap k r →
      ⊥ = λ k r swap. (let both : ops.Copy from to ≡ ops.Swap k r = sym op ∙ swap in absurd cc) in
      let set = set_named t m Copy to Ref st.content name
      (set_by a before rest x h parts st f m Copy to (Ref m.slot) st.content is refl to_few other becomes (λ y ne. refl)) in
      let P : SlotName → Type 0 = λ y. (st.regs x.thread from ≡ Own y) ⊎ (st.regs x.thread from ≡ Ref y) in
      let can = subst (λ y. CanStep Copy (st.word y)) (sym name) (can_step a before rest x h parts st f m Copy is refl) in
      let names_it : P (name_of t) = subst P (sym name) names in
      let Counted : SlotName → Type 0 = λ y. st.regs x.thread from ≡ Own y → plain_in a.ps y ≡ false in
      let counts_it : Counted (name_of t) = subst Counted (sym name) counted in
      let turned = copy_stands names_here a.partitions (a.threads + 1) bytes_here st s shown (made_unique a h) (next_st st.content)
      x.thread from to t below from_few made names_it counts_it none can set refl (same_lists st.content lists) in
      let held = handle_held s (suc x.thread) t
      (has_handle names_here a.partitions (a.threads + 1) bytes_here st s shown
      (made_unique a h) x.thread from t below from_few made names_it) in
      turned_plays m Copy t [] (RefPiece t ∷ []) (λ k. []) st.content is refl (rw op refl) made name (shown.words t held) (λ k. tt) no_acts
      (right_after a before rest x h parts st f m Copy st.content is refl (λ y ne. refl)
      (content_goes m Copy is refl (λ e. absurd cc) (λ seen2 usable e.
      (let both : answers.Done seen ≡ answers.Made seen2 usable = sym answer ∙ e in absurd cc))
      (λ reg v e. (let both : ops.Copy from to ≡ ops.Write reg v = sym op ∙ e in absurd cc))))
      turned

  -- ---- a reset and a free

  -- the state after the record, if the thread's lists are these
  abbrev pub given_st : Cache → Standing
  given_st list = after_record a before x st (regs_left a before rest x h parts st f) list st.content

  -- the thread's lists get no more than what a step of the slot gives back
  abbrev pub GetsBack : Cache → Step → SlotName → Type 0
  GetsBack list p y = (t : Title) → MadeIn a t → name_of t ≡ y → count_word s.words t ≡ st.word (name_of t) → (u : Title) → MadeIn a u →
      in_lists a.partitions (given_st list) (name_of u) (suc x.thread) ≤ in_lists a.partitions st (name_of u) (suc x.thread) + held_in
      (left_by p s t) (FreeTitle u)

  -- What the step leads to: the core shows the record's registers and words with these lists, and the roots as they were. With
  -- any events that follow, of its thread and of actor 0, the record is played.
  pub record IsGivenBack (list : Cache) (mid : State) : Type 0 where
    pub now : IsShown names_here (a.threads + 1) bytes_here (ledger_of a.partitions (given_st list)) mid
    pub right : (y : SlotName) → held_of (word_after (before ++ x ∷ []) y) ≡ 1 →
        IsContent a.ps y (number_of (word_after (before ++ x ∷ []) y)) (st.content y)
    pub plays : (last : List Event) (next : State) → IsRunTo mid last next → AreBeside (x.thread + 1) last → Plays (MadeIn a) x s next

  set_given : (t : Title) (m : Mark) (p : Step) (reg : ℕ) (new : Reg) (list : Cache) → name_of t ≡ m.slot
      → IsSet a.partitions st (next_st st.content) x.thread reg new m.slot (stepped p (st.word m.slot)) →
      IsSet a.partitions st (given_st list) x.thread reg new (name_of t) (stepped p (st.word (name_of t)))
  set_given t m p reg new list name set =
      let first = set_named t m p reg (λ y. new) st.content name set in
      record {
        few = first.few;
        here = first.here;
        other = first.other;
        held = first.held;
        lists = λ j y ne. lists_beside a before rest x h parts st f list j y ne;
        word_left = first.word_left;
        words = first.words;
        contents = first.contents;
      }

  -- a step of the slot that a register names, whose turn the core can make
  abbrev GivenTurn : (t : Title) (p : Step) (lost : List Piece) (first : List Event) (list : Cache) (k : ℕ) → Type 0
  GivenTurn t p lost first list k =
      (mid : State) × IsDone s k t p (count_event (is_plain_op x.rules x.op) k t p) lost (left_by p s t) first mid ×
      IsShown names_here (a.threads + 1) bytes_here (ledger_of a.partitions (given_st list)) mid

  turned_given : (m : Mark) (p : Step) (t : Title) (lost : List Piece) (first : ℕ → List Event) (list : Cache) → mark_of x ≡ Some m →
      m.step ≡ Some p → read_by x.op x.answer ≡ None →
      MadeIn a t → name_of t ≡ m.slot → count_word s.words t ≡ st.word (name_of t) → ((k : ℕ) → AreBeside k (first k)) →
      ((y : SlotName) → held_of (word_after (before ++ x ∷ []) y) ≡ 1 →
      IsContent a.ps y (number_of (word_after (before ++ x ∷ []) y)) (st.content y)) →
      GivenTurn t p lost (first (suc x.thread)) list (suc x.thread) → (mid : State) × IsGivenBack list mid
  turned_given m p t lost first list is step unread made name word beside right turned =
      let e : suc x.thread ≡ x.thread + 1 = omega arith in
      let there : GivenTurn t p lost (first (x.thread + 1)) list (x.thread + 1) =
      subst (λ k. GivenTurn t p lost (first k) list k) e turned in (
        there.0,
        record {
          now = there.2;
          right = right;
          plays = λ last next run last_beside. play_step (MadeIn a) x s s there.0 next m t p lost (left_by p s t) []
              (first (x.thread + 1)) last is step unread shown.good made name
              (word ∙ (ap st.word name ∙ sym (found_word a before rest x h parts st f m is))) (run_start s shown.good) there.1 run tt
              (beside (x.thread + 1)) last_beside;
        },
      )

  pub reset_given : (reg : ℕ) (seen : Seen) (list : Cache) → x.op ≡ ops.Reset reg → x.answer ≡ answers.Done seen → reg < 64 →
      st.regs x.thread reg ≡ Ref seen.slot →
      Becomes (regs_left a before rest x h parts st f) (with (st.regs x.thread) reg Cleared) → GetsBack list Reset seen.slot →
      (mid : State) × IsGivenBack list mid
  reset_given reg seen list op answer reg_few names becomes lists =
      let m : Mark = mark_at x.line seen (Some Reset) in
      let is : mark_of x ≡ Some m = rw (answer, op) refl in
      let (t, made, name) = named_title a before rest x h parts st f s shown reg seen.slot (ap slot_in names) in
      let other : (k r : ℕ) → x.op ≡ ops.Swap k r →
      ⊥ = λ k r swap. (let both : ops.Reset reg ≡ ops.Swap k r = sym op ∙ swap in absurd cc) in
      let set = set_given t m Reset reg Cleared list name
      (set_by a before rest x h parts st f m Reset reg Cleared st.content is refl reg_few other becomes (λ y ne. refl)) in
      let can = subst (λ y. CanStep Reset (st.word y)) (sym name) (can_step a before rest x h parts st f m Reset is refl) in
      let names_it = names ∙ ap Ref (sym name) in
      let held = ref_title s (suc x.thread) t
      (has_ref names_here a.partitions (a.threads + 1) bytes_here st s shown
      (made_unique a h) x.thread reg t below reg_few made names_it) in
      let turned = reset_stands names_here a.partitions (a.threads + 1) bytes_here st s shown (made_unique a h) (given_st list) x.thread
      reg t below made names_it can set refl (lists t made name (shown.words t held)) in
      turned_given m Reset t (RefPiece t ∷ []) (λ k. []) list is refl (rw op refl) made name (shown.words t held) (λ k. tt)
      (right_after a before rest x h parts st f m Reset st.content is refl (λ y ne. refl)
      (content_goes m Reset is refl (λ e. absurd cc) (λ seen2 usable e.
      (let both : answers.Done seen ≡ answers.Made seen2 usable = sym answer ∙ e in absurd cc))
      (λ r v e. (let both : ops.Reset reg ≡ ops.Write r v = sym op ∙ e in absurd cc))))
      turned

  pub free_given : (reg : ℕ) (seen : Seen) (list : Cache) → x.op ≡ ops.Free reg → x.answer ≡ answers.Done seen → reg < 64 →
      st.regs x.thread reg ≡ Own seen.slot →
      Becomes (regs_left a before rest x h parts st f) (with (st.regs x.thread) reg Freed) → GetsBack list Free seen.slot → (mid : State) ×
      IsGivenBack list mid
  free_given reg seen list op answer reg_few names becomes lists =
      let m : Mark = mark_at x.line seen (Some Free) in
      let is : mark_of x ≡ Some m = rw (answer, op) refl in
      let (t, made, name) = named_title a before rest x h parts st f s shown reg seen.slot (ap slot_in names) in
      let other : (k r : ℕ) → x.op ≡ ops.Swap k r → ⊥ = λ k r swap. (let both : ops.Free reg ≡ ops.Swap k r = sym op ∙ swap in absurd cc) in
      let set = set_given t m Free reg Freed list name
      (set_by a before rest x h parts st f m Free reg Freed st.content is refl reg_few other becomes (λ y ne. refl)) in
      let can = subst (λ y. CanStep Free (st.word y)) (sym name) (can_step a before rest x h parts st f m Free is refl) in
      let names_it = names ∙ ap Own (sym name) in
      let held = own_title s (suc x.thread) t Clean
      (has_own names_here a.partitions (a.threads + 1) bytes_here st s shown
      (made_unique a h) x.thread reg t below reg_few made names_it) in
      let turned = free_stands names_here a.partitions (a.threads + 1) bytes_here st s shown (made_unique a h) (given_st list) x.thread
      reg t below made names_it can set (lists t made name (shown.words t held)) in
      turned_given m Free t (own_piece (names_here.plain t) t ∷ []) (λ k. poisons (content_count t) k t) list is refl (rw op refl) made name
      (shown.words t held) (λ k. poisons_beside (content_count t) k t)
      (right_after a before rest x h parts st f m Free st.content is refl (λ y ne. refl)
      (content_goes m Free is refl (λ e. absurd cc) (λ seen2 usable e.
      (let both : answers.Done seen ≡ answers.Made seen2 usable = sym answer ∙ e in absurd cc))
      (λ r v e. (let both : ops.Free reg ≡ ops.Write r v = sym op ∙ e in absurd cc))))
      turned

  -- if the line has no entry nothing follows
  pub given_stays : (mid : State) → NoActs a.roots x.line → IsGivenBack (cache_left a before rest x h parts st f) mid →
      Outcome a before rest x h parts st f s shown
  given_stays mid none given = (
    mid,
    given.plays [] mid (run_start mid given.now.good) tt,
    shows_next a before rest x h parts st f s shown st.content mid
        (roots_left a before rest x h parts st f none) given.right given.now,
  )

  pub write_plays : (reg value : ℕ) (seen : Seen) → x.op ≡ ops.Write reg value → x.answer ≡ answers.Done seen → reg < 64 →
      st.regs x.thread reg ≡ Own seen.slot → refs_of seen.found.0 ≡ 0 →
      Becomes (regs_left a before rest x h parts st f) (st.regs x.thread)
      → SameLists (cache_left a before rest x h parts st f) (st.caches x.thread) → NoActs a.roots x.line
      → Outcome a before rest x h parts st f s shown
  write_plays reg value seen op answer reg_few names alone becomes lists no_acts =
      let m : Mark = mark_at x.line seen (Some Write) in
      let is : mark_of x ≡ Some m = rw (answer, op) refl in
      let (t, made, name) = named_title a before rest x h parts st f s shown reg seen.slot (ap slot_in names) in
      let other : (k r : ℕ) → x.op ≡ ops.Swap k r →
      ⊥ = λ k r swap. (let both : ops.Write reg value ≡ ops.Swap k r = sym op ∙ swap in absurd cc) in
      let content = with_slot st.content seen.slot value in
      let kept : (y : SlotName) → (y ≡ m.slot → ⊥) → content y ≡ st.content y = λ y ne. at_other_slot st.content seen.slot value y ne in
      let stays : Becomes (regs_left a before rest x h parts st f) (with (st.regs x.thread) reg (Own m.slot)) =
      λ r. (becomes r ∙ elim (cases_eq r reg) [
        | inl e ↦ ap (st.regs x.thread) e ∙
            (names ∙ (sym (set_at (st.regs x.thread) reg (Own m.slot)) ∙ ap (λ i. with (st.regs x.thread) reg (Own m.slot) i) (sym e)))
        | inr ne ↦ sym (set_apart (st.regs x.thread) reg (Own m.slot) r ne)
      ]) in
      let set = set_named t m Write reg Own content name
      (set_by a before rest x h parts st f m Write reg (Own m.slot) content is refl reg_few other stays kept) in
      let can = subst (λ y. CanStep Write (st.word y)) (sym name) (can_step a before rest x h parts st f m Write is refl) in
      let names_it = names ∙ ap Own (sym name) in
      let found = found_word a before rest x h parts st f m is in
      let now : content seen.slot ≡ value = at_slot st.content seen.slot value in
      let turned = write_stands names_here a.partitions (a.threads + 1) bytes_here st s shown (made_unique a h)
      (next_st content) x.thread reg value t below made names_it
      (ap (λ y. refs_of (st.word y)) name ∙ (ap refs_of (sym found) ∙ alone)) can set (ap content name ∙ now) (same_lists content lists) in
      let held = own_title s (suc x.thread) t Clean
      (has_own names_here a.partitions (a.threads + 1) bytes_here st s shown
      (made_unique a h) x.thread reg t below reg_few made names_it) in
      let P : ℕ → Type 0 = λ w. IsContent a.ps seen.slot (number_of w + 1) (content seen.slot) in
      let Q : ℕ → Type 0 = λ v. IsContent a.ps seen.slot (number_of seen.found.0 + 1) v in
      let own = own_piece (names_here.plain t) t in
      turned_plays m Write t (own ∷ []) (own ∷ []) (λ k. stores (content_count t) 0 k t value) content is refl (rw op refl)
      made name (shown.words t held) (λ k. stores_beside (content_count t) 0 k t value) no_acts
      (right_after a before rest x h parts st f m Write content is refl kept
      (λ held2. subst P found (subst Q (sym now) (content_written a h x seen reg value (among a before rest x h parts st f) op answer))))
      turned
