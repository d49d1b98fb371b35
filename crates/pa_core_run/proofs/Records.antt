-- Records without an entry of a journal: what reports no slot, looks, and counted steps.
use Rattle.std.proofs.Common.{◌≡◌, ℕ, zero, suc, ◌+◌, ◌*◌, ◌<◌, List, [], ◌∷◌, ◌++◌, Some, None, refl, sym, ◌∙◌, ap, subst, arith, ◌⊎◌, inl, inr}
use Rattle.pa_slot.specs.declared.word.SlotName.{SlotName}
use Rattle.pa_slot.specs.declared.title.Title.{Title}
use Rattle.pa_slot.specs.Count.{number_of, held_of}
use Rattle.pa_slot.specs.Run.{Mark}
use Rattle.pa_machine.specs.Events.{State}
use Rattle.pa_machine.proofs.Lasting.{run_start}
use Rattle.pa_trace.specs.declared.script.Op.TheVariants as ops
use Rattle.pa_record.specs.Root.{Root}
use Rattle.pa_record.specs.Spans.{name_of}
use Rattle.pa_rules.specs.declared.register.Register.TheVariants.{Own, Ref}
use Rattle.pa_rules.specs.declared.played.Played.{Played}
use Rattle.pa_rules.specs.Played.{mark_of}
use Rattle.pa_rules.specs.Registers.{Reg, Becomes, reg_of}
use Rattle.pa_rules.specs.Caches.{SameLists}
use Rattle.pa_rules.specs.Contents.{IsContent}
use Rattle.pa_slot_effects.specs.Shown.{owns, points}
use Rattle.pa_one_run.proofs.Filed.{IsFiled}
use Rattle.std.proofs.lemmas.List.Elements.{All-contains}
use Rattle.pa_rules.proofs.Leading.{slot_in}
use Rattle.pa_one_run.specs.Parts.{Parts}
use Rattle.pa_one_run.specs.Before.{word_after, root_at}
use Rattle.pa_one_run.proofs.rows.Handles.{holds_made}
use Rattle.pa_core_run.specs.Playing.{Plays, read_by, HasRead}
use Rattle.pa_core_run.specs.Ledger.{Ledger, Titles, IsShown}
use Rattle.pa_core_run.specs.Standing.{Standing, in_registers, ledger_of}
use Rattle.pa_core_run.specs.Fronts.{MadeIn, titles_in, IsFrontOf, ShowsFront}
use Rattle.pa_core_run.proofs.Acting.{play_none, play_look, HasHandle, handle_held}
use Rattle.pa_core_run.proofs.Stepping.{has_handle}
use Rattle.pa_core_run.proofs.Named.{made_unique, HasTitle, made_title}
use Rattle.pa_core_run.proofs.NextFronts.{after_record, among, regs_left, cache_left, front_next, cells_left, found_word, regs_same, lists_same, words_same, right_same}
use Rattle.pa_slot_effects.proofs.Handles.{over_same}

-- a ledger with the same numbers, words and contents is shown too
shown_alike : (names : Titles) (actors bytes : ℕ) (b next : Ledger) (s : State) → IsShown names actors bytes b s
    → ((k : ℕ) (x : SlotName) → next.own k x ≡ b.own k x) → ((k : ℕ) (x : SlotName) → next.ref k x ≡ b.ref k x) →
    ((k : ℕ) (x : SlotName) → next.free k x ≡ b.free k x) → ((x : SlotName) → next.word x ≡ b.word x) →
    ((x : SlotName) → next.content x ≡ b.content x) → IsShown names actors bytes next s
shown_alike names actors bytes b next s h own ref free word content = record {
  good = h.good;
  many = h.many;
  long = h.long;
  own = λ k t below made. let e = own k (name_of t) in let a = h.own k t below made in omega arith;
  ref = λ k t below made. let e = ref k (name_of t) in let a = h.ref k t below made in omega arith;
  free = λ k t some below made. let e = free k (name_of t) in let a = h.free k t some below made in omega arith;
  kept = h.kept;
  words = λ t held. h.words t held ∙ sym (word (name_of t));
  contents = λ t some. let had = h.contents t some in λ i low inside. had i low inside ∙ sym (content (name_of t));
  clean = h.clean;
  sealed = h.sealed;
  raw = h.raw;
  there = h.there;
}

module _ (a : Parts) (before rest : List Played) (x : Played) (h : IsFiled a) (parts : a.ps ≡ before ++ x ∷ rest) (st : Standing)
    (f : IsFrontOf a x.line before (x ∷ rest) st) (s : State)
    (shown : IsShown (titles_in a (root_at a x.line)) (a.threads + 1) (2097152 * a.supers) (ledger_of a.partitions st) s) where
  -- the record is played, and the core shows the state after it
  abbrev pub Outcome : Type 0
  Outcome = (next : State) × Plays (MadeIn a) x s next × ShowsFront a (x.line + 1) (before ++ x ∷ []) rest next

  pub few : x.thread + 1 < a.threads + 1
  few = let low = All-contains (λ (y : Played). y.thread < a.threads) a.ps x h.few (among a before rest x h parts st f) in omega arith

  -- if the roots stay
  pub shows_next : (content : SlotName → ℕ) (next : State) → root_at a (x.line + 1) ≡ root_at a x.line →
      ((y : SlotName) → held_of (word_after (before ++ x ∷ []) y) ≡ 1 →
      IsContent a.ps y (number_of (word_after (before ++ x ∷ []) y)) (content y)) →
      IsShown (titles_in a (root_at a x.line)) (a.threads + 1) (2097152 * a.supers)
      (ledger_of a.partitions (after_record a before x st (regs_left a before rest x h parts st f)
      (cache_left a before rest x h parts st f) content)) next →
      ShowsFront a (x.line + 1) (before ++ x ∷ []) rest next
  shows_next content next same right now =
      let st2 = after_record a before x st (regs_left a before rest x h parts st f) (cache_left a before rest x h parts st f) content in
      record {
        st = st2;
        front = front_next a before rest x h parts st f content right;
        shown = subst (λ (root : ℕ → Root). IsShown (titles_in a root) (a.threads + 1) (2097152 * a.supers)
            (ledger_of a.partitions st2) next) (sym same) now;
      }

  -- what a record without a step leaves shown
  still_shown : (mark_of x ≡ None) ⊎ ((m : Mark) × (mark_of x ≡ Some m) × (m.step ≡ None)) →
      Becomes (regs_left a before rest x h parts st f) (st.regs x.thread) →
      SameLists (cache_left a before rest x h parts st f) (st.caches x.thread) → ((k r : ℕ) → x.op ≡ ops.Swap k r → ⊥)
      → root_at a (x.line + 1) ≡ root_at a x.line → ShowsFront a (x.line + 1) (before ++ x ∷ []) rest s
  still_shown unmarked regs lists other none =
      let words = words_same a before rest x h parts st f unmarked in
      shows_next st.content s none (right_same a before rest x h parts st f words)
      (shown_alike (titles_in a (root_at a x.line)) (a.threads + 1) (2097152 * a.supers) (ledger_of a.partitions st)
      (ledger_of a.partitions (after_record a before x st (regs_left a before rest x h parts st f)
      (cache_left a before rest x h parts st f) st.content)) s shown
      (λ k y. registers (owns y) k) (λ k y. registers (points y) k)
      (λ k y. lists_same a before rest x h parts st f st.content lists k y) words (λ y. refl))
    where
      registers : (g : Reg → ℕ) (k : ℕ) → in_registers g (after_record a before x st (regs_left a before rest x h parts st f)
          (cache_left a before rest x h parts st f) st.content) k ≡ in_registers g st k
      registers g zero = over_same 64 _ _ (λ c. ap (λ v. g (reg_of v)) (cells_left a before rest x h parts st f other c))
      registers g (suc j) = over_same 64 _ _ (λ r. ap g (regs_same a before rest x h parts st f regs j r))

  -- a record that reports no slot
  pub none_plays : mark_of x ≡ None → Becomes (regs_left a before rest x h parts st f) (st.regs x.thread) →
      SameLists (cache_left a before rest x h parts st f) (st.caches x.thread) →
      ((k r : ℕ) → x.op ≡ ops.Swap k r → ⊥) → root_at a (x.line + 1) ≡ root_at a x.line → Outcome
  none_plays unmarked regs lists other none =
      (s, play_none (MadeIn a) x s s [] unmarked shown.good (run_start s shown.good) tt, still_shown (inl unmarked) regs lists other none)

  -- the title of the slot that a register names
  pub named_title : (reg : ℕ) (y : SlotName) → slot_in (st.regs x.thread reg) ≡ Some y → HasTitle a y
  named_title reg y names =
      made_title a before (x ∷ rest) y h parts ((holds_made a before (x ∷ rest) st.regs h parts f.registers).registers x.thread reg y names)

  -- a look at the slot that a register names
  pub look_plays : (m : Mark) (reg : ℕ) → mark_of x ≡ Some m → m.step ≡ None → reg < 64 → (st.regs x.thread reg ≡ Own m.slot) ⊎
      (st.regs x.thread reg ≡ Ref m.slot) →
      ((t : Title) → MadeIn a t → name_of t ≡ m.slot → HasHandle s (x.thread + 1) t → HasRead s.words t (read_by x.op x.answer)) →
      Becomes (regs_left a before rest x h parts st f) (st.regs x.thread) →
      SameLists (cache_left a before rest x h parts st f) (st.caches x.thread) →
      ((k r : ℕ) → x.op ≡ ops.Swap k r → ⊥) → root_at a (x.line + 1) ≡ root_at a x.line → Outcome
  look_plays m reg is look below names reads regs lists other none =
      let (t, made, name) = named_title reg m.slot (elim names [ inl own ↦ ap slot_in own | inr ref ↦ ap slot_in ref ]) in
      let P : SlotName → Type 0 = λ y. (st.regs x.thread reg ≡ Own y) ⊎ (st.regs x.thread reg ≡ Ref y) in
      let e : suc x.thread ≡ x.thread + 1 = omega arith in
      let top = few in
      let handle = has_handle (titles_in a (root_at a x.line)) a.partitions (a.threads + 1) (2097152 * a.supers) st s shown
      (made_unique a h) x.thread reg t (omega arith) below made (subst P (sym name) names) in
      let here = subst (λ k. HasHandle s k t) e handle in
      let many = shown.many in (
        s,
        play_look (MadeIn a) x s m t is look shown.good (omega arith) here made name
            (shown.words t (handle_held s (x.thread + 1) t here) ∙ (ap st.word name ∙ sym (found_word a before rest x h parts st f m is)))
            (reads t made name here),
        still_shown (inr (m, is, look)) regs lists other none,
      )
