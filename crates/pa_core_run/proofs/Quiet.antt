-- Each record on a line without an entry of a journal can be played, whatever its op and answer.
use Rattle.std.proofs.Common.{◌≡◌, ℕ, zero, suc, ◌+◌, ◌*◌, ◌<◌, ◌≤◌, Bool, true, false, List, [], ◌∷◌, ◌++◌, length, Some, None, refl, sym, ◌∙◌, ap, subst, arith, ◌⊎◌, inl, inr}
use Rattle.std.proofs.lemmas.List.{length-append}
use Rattle.std.proofs.lemmas.List.Elements.{All-contains}
use Rattle.pa_slot.specs.declared.word.SlotName.{SlotName}
use Rattle.pa_slot.specs.declared.word.Step.{Step}
use Rattle.pa_slot.specs.declared.word.Step.TheVariants.{Copy, Reset, Free, Write}
use Rattle.pa_slot.specs.declared.title.Title.{Title}
use Rattle.pa_slot.specs.Count.{number_of, held_of}
use Rattle.pa_slot.specs.Run.{Mark}
use Rattle.pa_slot.specs.Titles.{content_count, count_word, poison}
use Rattle.pa_machine.specs.Events.{State}
use Rattle.pa_trace.specs.Limits.{IsOpWithin}
use Rattle.pa_trace.specs.declared.script.Op.{Op}
use Rattle.pa_trace.specs.declared.script.Op.TheVariants as ops
use Rattle.pa_record.specs.declared.entry.Seen.{Seen}
use Rattle.pa_record.specs.declared.entry.Answer.{Answer}
use Rattle.pa_record.specs.declared.entry.Answer.TheVariants as answers
use Rattle.pa_record.specs.declared.root.RootAct.{RootAct}
use Rattle.pa_record.specs.declared.numbered.Numbered.{Numbered}
use Rattle.pa_record.specs.Spans.{name_of}
use Rattle.pa_rules.specs.Roots.{Journals}
use Rattle.pa_rules.specs.declared.register.Register.TheVariants.{Empty, Own, Ref, Freed, Cleared}
use Rattle.pa_rules.specs.declared.played.Played.{Played}
use Rattle.pa_rules.specs.Played.{mark_of, mark_at, mark_of_answer, step_of}
use Rattle.pa_rules.specs.Registers.{Reg, Regs, Row, usable_in, plain_in, Becomes, with, AllocRow, RequestRow, CopyRow, CopyToRow, PointRow, ResetRow, FreeRow, WriteRow, ReadRow, ReadFromRow}
use Rattle.pa_rules.specs.Caches.{Cache, CacheRow, SameLists, NoActs, acts_of, DoneRow, purge_acts, gives}
use Rattle.pa_rules.specs.Contents.{IsContent, IsReadExact}
use Rattle.pa_rules.specs.Sizes.{usable_of}
use Rattle.pa_slot_effects.specs.Turns.{HoldsNone}
use Rattle.pa_one_run.proofs.Filed.{IsFiled}
use Rattle.pa_rules.specs.Told.{told_by}
use Rattle.pa_rules.proofs.Leading.{slot_in}
use Rattle.pa_one_run.specs.Parts.{Parts, parts_of}
use Rattle.pa_one_run.specs.Before.{root_at, facts_of}
use Rattle.pa_one_run.proofs.Legality.{filed}
use Rattle.pa_core_run.specs.Laws.{QuietRecordsArePlayed}
use Rattle.pa_lists.proofs.Elements.{in_front}
use Rattle.pa_one_run.proofs.rows.Handles.{holds_made}
use Rattle.pa_core_run.specs.Playing.{read_by, HasRead}
use Rattle.pa_core_run.specs.Ledger.{IsShown}
use Rattle.pa_core_run.specs.Standing.{Standing, ledger_of}
use Rattle.pa_core_run.specs.Fronts.{MadeIn, titles_in, IsFrontOf, CanBePlayed}
use Rattle.pa_core_run.proofs.Acting.{HasHandle, handle_held}
use Rattle.pa_core_run.proofs.Contents.{content_one}
use Rattle.pa_core_run.proofs.Values.{held_content, freed_content, usable_made}
use Rattle.pa_core_run.proofs.Lengths.{made_long_as}
use Rattle.pa_core_run.proofs.NextFronts.{among, regs_left, row_here, cache_left, cache_row, found_word, roots_left, lists_same}
use Rattle.pa_core_run.proofs.Records.{Outcome, none_plays, look_plays}
use Rattle.pa_core_run.proofs.Stepped.{GetsBack, copy_plays, reset_given, free_given, given_stays, write_plays}
use Rattle.pa_core_run.proofs.Fronted.{gets_back, made_plays}
use Rattle.pa_core_run.proofs.Exchanged.{swap_plays}

-- no entry, but some
none_some : (roots : Journals) (line p : ℕ) (act : RootAct) (more : List RootAct) → NoActs roots line → acts_of roots line p ≡ act ∷ more →
    ⊥
none_some roots line p act more none some =
    let e : [] ≡ act ∷ more = sym (none p) ∙ some in
    let P : List RootAct → Type 0 = λ xs. (length xs ≡ 0) in
    let z : length (act ∷ more) ≡ 0 = subst P e refl in
    omega arith

-- a purge has an entry at least
purge_some : (lists : ℕ → List Numbered) (class n : ℕ) → 1 ≤ length (purge_acts lists class n)
purge_some lists class zero = omega arith
purge_some lists class (suc n) = let ih = purge_some lists (class + 1) n in
    let e = length-append (gives (lists class)) (purge_acts lists (class + 1) n) in omega arith

module _ (a : Parts) (before rest : List Played) (x : Played) (h : IsFiled a) (some : 1 ≤ a.partitions) (parts : a.ps ≡ before ++ x ∷ rest)
    (none : NoActs a.roots x.line)
    (st : Standing) (f : IsFrontOf a x.line before (x ∷ rest) st) (s : State)
    (shown : IsShown (titles_in a (root_at a x.line)) (a.threads + 1) (2097152 * a.supers) (ledger_of a.partitions st) s) where
  abbrev Plays_it : Type 0
  Plays_it = Outcome a before rest x h parts st f s shown

  abbrev old_cache : Cache
  old_cache = st.caches x.thread

  abbrev new_cache : Cache
  new_cache = cache_left a before rest x h parts st f

  abbrev new_regs : Regs
  new_regs = regs_left a before rest x h parts st f

  -- the row of the lists, by the answer
  cache_as : (answer : Answer) → x.answer ≡ answer → CacheRow a.partitions a.roots x answer old_cache new_cache
  cache_as answer is = subst (λ z. CacheRow a.partitions a.roots x z old_cache new_cache) is (cache_row a before rest x h parts st f)

  -- an answer that reports no slot
  quiet : (answer : Answer) → x.answer ≡ answer → mark_of_answer x.line x.op answer ≡ None → SameLists new_cache old_cache
      → ((k r : ℕ) → x.op ≡ ops.Swap k r → ⊥) → Becomes new_regs (st.regs x.thread) → Plays_it
  quiet answer is unmarked lists other becomes =
      none_plays a before rest x h parts st f s shown (ap (λ z. mark_of_answer x.line x.op z) is ∙ unmarked) becomes lists other
      (roots_left a before rest x h parts st f none)

  -- an answer that looked at the slot of a register
  looks : (answer : Answer) (seen : Seen) (reg : ℕ) → x.answer ≡ answer →
      mark_of_answer x.line x.op answer ≡ Some (mark_at x.line seen None) → reg < 64 →
      (st.regs x.thread reg ≡ Own seen.slot) ⊎ (st.regs x.thread reg ≡ Ref seen.slot)
      → ((t : Title) → MadeIn a t → name_of t ≡ seen.slot → HasHandle s (x.thread + 1) t → HasRead s.words t (read_by x.op x.answer)) →
      SameLists new_cache old_cache → ((k r : ℕ) → x.op ≡ ops.Swap k r → ⊥) → Becomes new_regs (st.regs x.thread) → Plays_it
  looks answer seen reg is marked few names reads lists other becomes =
      look_plays a before rest x h parts st f s shown (mark_at x.line seen None) reg (ap (λ z. mark_of_answer x.line x.op z) is ∙ marked)
      refl few names reads becomes lists other (roots_left a before rest x h parts st f none)

  -- what an op other than a read reads
  unread : (op : Op) → x.op ≡ op → ((answer : Answer) → read_by op answer ≡ None) → (t : Title) → MadeIn a t → (y : SlotName)
      → name_of t ≡ y → HasHandle s (x.thread + 1) t → HasRead s.words t (read_by x.op x.answer)
  unread op is no_read t made y name handle = subst (λ o. HasRead s.words t o) (sym (ap (λ o. read_by o x.answer) is ∙ no_read x.answer)) tt

  -- ---- an allocation

  request : (reg part size : ℕ) → x.op ≡ ops.Alloc reg part size → IsOpWithin a.partitions (ops.Alloc reg part size)
      → HoldsNone (st.regs x.thread reg) → RequestRow (facts_of a) (st.regs x.thread) reg size x.answer new_regs → Plays_it
  request reg part size op within free (inl (large, is, becomes)) =
      quiet answers.TooLarge is refl (cache_as answers.TooLarge is).1
      (λ k r e. (let both : ops.Alloc reg part size ≡ ops.Swap k r = sym op ∙ e in absurd cc)) becomes
  request reg part size op within free (inr (inl (fits, seen, is, becomes))) =
      made_plays a before rest x h parts st f s shown reg part size (usable_of a.rules.version size) seen op is within.0 within.1 free
      becomes (cache_as (answers.Made seen (usable_of a.rules.version size)) is) none
  request reg part size op within free (inr (inr (fits, entry, is, becomes))) = absurd (elim (cache_as (answers.Full entry) is) [
    | inl (p, class, asked, asks, empty, only, same) ↦ none_some a.roots x.line p _ [] none only.0
    | inr (p, n, asked, asks, only, same) ↦ none_some a.roots x.line p _ [] none only.0
  ])

  allocs : (r : Reg) (reg part size : ℕ) → x.op ≡ ops.Alloc reg part size → IsOpWithin a.partitions (ops.Alloc reg part size)
      → st.regs x.thread reg ≡ r → AllocRow r (facts_of a) (st.regs x.thread) reg size x.answer new_regs → Plays_it
  allocs Empty reg part size op within is row = request reg part size op within (subst HoldsNone (sym is) tt) row
  allocs Freed reg part size op within is row = request reg part size op within (subst HoldsNone (sym is) tt) row
  allocs Cleared reg part size op within is row = request reg part size op within (subst HoldsNone (sym is) tt) row
  allocs (Own y) reg part size op within is (answer, becomes) = quiet answers.Filled answer refl (cache_as answers.Filled answer).1
      (λ k r e. (let both : ops.Alloc reg part size ≡ ops.Swap k r = sym op ∙ e in absurd cc)) becomes
  allocs (Ref y) reg part size op within is (answer, becomes) = quiet answers.Filled answer refl (cache_as answers.Filled answer).1
      (λ k r e. (let both : ops.Alloc reg part size ≡ ops.Swap k r = sym op ∙ e in absurd cc)) becomes

  -- ---- a copy

  not_swap : (op : Op) → x.op ≡ op → ((k r : ℕ) → op ≡ ops.Swap k r → ⊥) → (k r : ℕ) → x.op ≡ ops.Swap k r → ⊥
  not_swap op is other k r e = other k r (sym is ∙ e)

  copied : (from to : ℕ) (y : SlotName) → x.op ≡ ops.Copy from to → from < 64 → to < 64 → (st.regs x.thread from ≡ Own y) ⊎
      (st.regs x.thread from ≡ Ref y) → (st.regs x.thread from ≡ Own y → plain_in a.ps y ≡ false) → HoldsNone (st.regs x.thread to) →
      (seen : Seen) × (seen.slot ≡ y) × (x.answer ≡ answers.Done seen) × Becomes new_regs (with (st.regs x.thread) to (Ref y)) → Plays_it
  copied from to y op from_few to_few names counted free (seen, slot, is, becomes) =
      let row : DoneRow a.roots x (Some Copy) seen old_cache new_cache =
      subst (λ o. DoneRow a.roots x o seen old_cache new_cache) (ap step_of op) (cache_as (answers.Done seen) is) in
      let P : SlotName → Type 0 = λ z. (st.regs x.thread from ≡ Own z) ⊎ (st.regs x.thread from ≡ Ref z) in
      let Q : SlotName → Type 0 = λ z. Becomes new_regs (with (st.regs x.thread) to (Ref z)) in
      let Counted : SlotName → Type 0 = λ z. st.regs x.thread from ≡ Own z → plain_in a.ps z ≡ false in
      elim row [
        | inl (returning, back) ↦ absurd returning
        | inr (stays, no_acts, lists) ↦
            copy_plays a before rest x h parts st f s shown from to seen op is from_few to_few (subst P (sym slot) names)
            (subst Counted (sym slot) counted) free (subst Q (sym slot) becomes) lists none
      ]

  -- a copy into a register without a handle, of an owner that is plain so or of a raw_ptr
  points_to : (plain : Bool) (from to : ℕ) (y : SlotName) → x.op ≡ ops.Copy from to → from < 64 → to < 64 →
      (st.regs x.thread from ≡ Own y) ⊎ (st.regs x.thread from ≡ Ref y) → (st.regs x.thread from ≡ Own y → plain_in a.ps y ≡ plain) →
      HoldsNone (st.regs x.thread to) → PointRow plain y (st.regs x.thread) to x.answer new_regs → Plays_it
  points_to true from to y op from_few to_few names so free (answer, becomes) =
      quiet answers.Uncounted answer refl (cache_as answers.Uncounted answer).1 (not_swap _ op (λ k r e. absurd cc)) becomes
  points_to false from to y op from_few to_few names so free row = copied from to y op from_few to_few names so free row

  copy_to : (r : Reg) (plain : Bool) (from to : ℕ) (y : SlotName) → x.op ≡ ops.Copy from to → from < 64 → to < 64 →
      (st.regs x.thread from ≡ Own y) ⊎ (st.regs x.thread from ≡ Ref y) → (st.regs x.thread from ≡ Own y → plain_in a.ps y ≡ plain) →
      st.regs x.thread to ≡ r → CopyToRow r plain y (st.regs x.thread) to x.answer new_regs → Plays_it
  copy_to Empty plain from to y op from_few to_few names so is row =
      points_to plain from to y op from_few to_few names so (subst HoldsNone (sym is) tt) row
  copy_to Freed plain from to y op from_few to_few names so is row =
      points_to plain from to y op from_few to_few names so (subst HoldsNone (sym is) tt) row
  copy_to Cleared plain from to y op from_few to_few names so is row =
      points_to plain from to y op from_few to_few names so (subst HoldsNone (sym is) tt) row
  copy_to (Own z) plain from to y op from_few to_few names so is (answer, becomes) =
      quiet answers.Filled answer refl (cache_as answers.Filled answer).1 (not_swap _ op (λ k r e. absurd cc)) becomes
  copy_to (Ref z) plain from to y op from_few to_few names so is (answer, becomes) =
      quiet answers.Filled answer refl (cache_as answers.Filled answer).1 (not_swap _ op (λ k r e. absurd cc)) becomes

  copies : (r : Reg) (from to : ℕ) → x.op ≡ ops.Copy from to → from < 64 → to < 64 → st.regs x.thread from ≡ r →
      CopyRow r (facts_of a) (st.regs x.thread) to x.answer new_regs → Plays_it
  copies Empty from to op from_few to_few is (answer, becomes) =
      quiet answers.Nothing answer refl (cache_as answers.Nothing answer).1 (not_swap _ op (λ k r e. absurd cc)) becomes
  copies (Own y) from to op from_few to_few is row =
      copy_to (st.regs x.thread to) (plain_in a.ps y) from to y op from_few to_few (inl is) (λ own. refl) refl row
  copies (Ref y) from to op from_few to_few is row =
      copy_to (st.regs x.thread to) false from to y op from_few to_few (inr is)
      (λ own. (let both : Own y ≡ Ref y = sym own ∙ is in absurd cc)) refl row
  copies Freed from to op from_few to_few is (answer, becomes) =
      quiet (answers.StaleUse None) answer refl (cache_as (answers.StaleUse None) answer).1 (not_swap _ op (λ k r e. absurd cc)) becomes
  copies Cleared from to op from_few to_few is (answer, becomes) =
      quiet (answers.StaleUse None) answer refl (cache_as (answers.StaleUse None) answer).1 (not_swap _ op (λ k r e. absurd cc)) becomes

  -- ---- a reset and a free

  stays_listed : (p : Step) (y : SlotName) → SameLists new_cache old_cache → GetsBack a before rest x h parts st f s shown new_cache p y
  stays_listed p y lists t made name word u other = let e =
      lists_same a before rest x h parts st f st.content lists (suc x.thread) (name_of u) in omega arith

  resets : (r : Reg) (reg : ℕ) → x.op ≡ ops.Reset reg → reg < 64 → st.regs x.thread reg ≡ r →
      ResetRow r (st.regs x.thread) reg x.answer new_regs → Plays_it
  resets Empty reg op few is (answer, becomes) =
      quiet answers.Nothing answer refl (cache_as answers.Nothing answer).1 (not_swap _ op (λ k r e. absurd cc)) becomes
  resets (Own y) reg op few is (answer, becomes) =
      quiet answers.NotRef answer refl (cache_as answers.NotRef answer).1 (not_swap _ op (λ k r e. absurd cc)) becomes
  resets Freed reg op few is (answer, becomes) =
      quiet answers.NotRef answer refl (cache_as answers.NotRef answer).1 (not_swap _ op (λ k r e. absurd cc)) becomes
  resets Cleared reg op few is (answer, becomes) =
      quiet answers.StaleReset answer refl (cache_as answers.StaleReset answer).1 (not_swap _ op (λ k r e. absurd cc)) becomes
  resets (Ref y) reg op few is (seen, slot, answer, becomes) =
      let row : DoneRow a.roots x (Some Reset) seen old_cache new_cache =
      subst (λ o. DoneRow a.roots x o seen old_cache new_cache) (ap step_of op) (cache_as (answers.Done seen) answer) in
      let m : Mark = mark_at x.line seen (Some Reset) in
      let marked : mark_of x ≡ Some m = rw (answer, op) refl in
      let (mid, given) = reset_given a before rest x h parts st f s shown reg seen new_cache op answer few (is ∙ ap Ref (sym slot)) becomes
      (elim row [
        | inl (returning, back) ↦ gets_back a before rest x h parts st f s shown m Reset marked refl returning back none
        | inr (other, no_acts, lists) ↦ stays_listed Reset seen.slot lists
      ]) in
      given_stays a before rest x h parts st f s shown mid none given

  frees : (r : Reg) (reg : ℕ) → x.op ≡ ops.Free reg → reg < 64 → st.regs x.thread reg ≡ r →
      FreeRow r (st.regs x.thread) reg x.answer new_regs → Plays_it
  frees Empty reg op few is (answer, becomes) =
      quiet answers.Nothing answer refl (cache_as answers.Nothing answer).1 (not_swap _ op (λ k r e. absurd cc)) becomes
  frees Freed reg op few is (answer, becomes) =
      quiet (answers.SecondFree None) answer refl (cache_as (answers.SecondFree None) answer).1 (not_swap _ op (λ k r e. absurd cc)) becomes
  frees Cleared reg op few is (answer, becomes) =
      quiet (answers.StaleUse None) answer refl (cache_as (answers.StaleUse None) answer).1 (not_swap _ op (λ k r e. absurd cc)) becomes
  frees (Ref y) reg op few is (seen, slot, becomes, inl (bit, answer)) =
      looks (answers.NotOwner seen) seen reg answer refl few (inr (is ∙ ap Ref (sym slot)))
      (λ t made name handle. unread _ op (λ z. refl) t made seen.slot name handle) (cache_as (answers.NotOwner seen) answer).1
      (not_swap _ op (λ k r e. absurd cc)) becomes
  frees (Ref y) reg op few is (seen, slot, becomes, inr (bit, answer)) =
      looks (answers.SecondFree (Some seen)) seen reg answer refl few (inr (is ∙ ap Ref (sym slot)))
      (λ t made name handle. unread _ op (λ z. refl) t made seen.slot name handle)
      (cache_as (answers.SecondFree (Some seen)) answer).1 (not_swap _ op (λ k r e. absurd cc)) becomes
  frees (Own y) reg op few is (seen, slot, answer, becomes) =
      let row : DoneRow a.roots x (Some Free) seen old_cache new_cache =
      subst (λ o. DoneRow a.roots x o seen old_cache new_cache) (ap step_of op) (cache_as (answers.Done seen) answer) in
      let m : Mark = mark_at x.line seen (Some Free) in
      let marked : mark_of x ≡ Some m = rw (answer, op) refl in
      let (mid, given) = free_given a before rest x h parts st f s shown reg seen new_cache op answer few (is ∙ ap Own (sym slot)) becomes
      (elim row [
        | inl (returning, back) ↦ gets_back a before rest x h parts st f s shown m Free marked refl returning back none
        | inr (other, no_acts, lists) ↦ stays_listed Free seen.slot lists
      ]) in
      given_stays a before rest x h parts st f s shown mid none given

  -- ---- a write

  writes : (r : Reg) (reg value : ℕ) → x.op ≡ ops.Write reg value → reg < 64 → st.regs x.thread reg ≡ r →
      WriteRow r (st.regs x.thread) x.answer new_regs → Plays_it
  writes Empty reg value op few is (answer, becomes) =
      quiet answers.Nothing answer refl (cache_as answers.Nothing answer).1 (not_swap _ op (λ k r e. absurd cc)) becomes
  writes Freed reg value op few is (answer, becomes) =
      quiet (answers.StaleUse None) answer refl (cache_as (answers.StaleUse None) answer).1 (not_swap _ op (λ k r e. absurd cc)) becomes
  writes Cleared reg value op few is (answer, becomes) =
      quiet (answers.StaleUse None) answer refl (cache_as (answers.StaleUse None) answer).1 (not_swap _ op (λ k r e. absurd cc)) becomes
  writes (Ref y) reg value op few is (seen, slot, becomes, inl (bit, answer)) =
      looks (answers.NotOwner seen) seen reg answer refl few (inr (is ∙ ap Ref (sym slot)))
      (λ t made name handle. unread _ op (λ z. refl) t made seen.slot name handle) (cache_as (answers.NotOwner seen) answer).1
      (not_swap _ op (λ k r e. absurd cc)) becomes
  writes (Ref y) reg value op few is (seen, slot, becomes, inr (bit, answer)) =
      looks (answers.StaleUse (Some seen)) seen reg answer refl few (inr (is ∙ ap Ref (sym slot)))
      (λ t made name handle. unread _ op (λ z. refl) t made seen.slot name handle) (cache_as (answers.StaleUse (Some seen)) answer).1
      (not_swap _ op (λ k r e. absurd cc)) becomes
  writes (Own y) reg value op few is (seen, slot, becomes, inl (shared, answer)) =
      looks (answers.Shared seen) seen reg answer refl few (inl (is ∙ ap Own (sym slot)))
      (λ t made name handle. unread _ op (λ z. refl) t made seen.slot name handle) (cache_as (answers.Shared seen) answer).1
      (not_swap _ op (λ k r e. absurd cc)) becomes
  writes (Own y) reg value op few is (seen, slot, becomes, inr (alone, answer)) =
      let row : DoneRow a.roots x (Some Write) seen old_cache new_cache =
      subst (λ o. DoneRow a.roots x o seen old_cache new_cache) (ap step_of op) (cache_as (answers.Done seen) answer) in
      elim row [
        | inl (returning, back) ↦ absurd returning
        | inr (other, no_acts, lists) ↦
            write_plays a before rest x h parts st f s shown reg value seen op answer few (is ∙ ap Own (sym slot)) alone becomes lists none
      ]

  -- ---- a read

  -- a place inside the usable bytes is a content word
  inside_of : (y : SlotName) (place : ℕ) (reg : ℕ) (t : Title) → slot_in (st.regs x.thread reg) ≡ Some y → MadeIn a t → name_of t ≡ y
      → HasHandle s (x.thread + 1) t → 8 * place < usable_in a.ps y → place < content_count t
  inside_of y place reg t names made name handle inside =
      let (q, seen, usable, among_it, is, slot) =
      (holds_made a before (x ∷ rest) st.regs h parts f.registers).registers x.thread reg y names in
      let (r, found, member, made_it, at) =
      usable_made a.ps y (q, seen, usable, in_front before (x ∷ rest) a.ps q parts among_it, is, slot) in
      let long = made_long_as a h r found (usable_in a.ps y) t member made_it made (name ∙ sym at) in
      let well = shown.good.divided.well t (handle_held s (x.thread + 1) t handle) in
      let whole = well.len_aligned in
      omega arith

  -- what was found there is the slot's word
  word_there : (seen : Seen) (t : Title) → mark_of x ≡ Some (mark_at x.line seen None) → name_of t ≡ seen.slot →
      HasHandle s (x.thread + 1) t → count_word s.words t ≡ seen.found.0
  word_there seen t marked name handle =
      shown.words t (handle_held s (x.thread + 1) t handle) ∙
      (ap st.word name ∙ sym (found_word a before rest x h parts st f (mark_at x.line seen None) marked))

  value_read : (reg place value : ℕ) (seen : Seen) (y : SlotName) → x.op ≡ ops.Read reg place → x.answer ≡ answers.Value seen value
      → seen.slot ≡ y → slot_in (st.regs x.thread reg) ≡ Some y → 8 * place < usable_in a.ps y → held_of seen.found.0 ≡ 1 →
      (t : Title) → MadeIn a t → name_of t ≡ seen.slot → HasHandle s (x.thread + 1) t → HasRead s.words t (read_by x.op x.answer)
  value_read reg place value seen y op answer slot names inside bit t made name handle =
      let marked : mark_of x ≡ Some (mark_at x.line seen None) = ap (λ z. mark_of_answer x.line x.op z) answer in
      let word = word_there seen t marked name handle in
      let is : read_by x.op x.answer ≡ Some (place, value) = ap (λ o. read_by o x.answer) op ∙
      ap (λ z. read_by (ops.Read reg place) z) answer in
      let few = inside_of y place reg t names made (name ∙ slot) handle inside in
      let content = held_content (titles_in a (root_at a x.line)) (a.threads + 1) (2097152 * a.supers) (ledger_of a.partitions st) s shown
      t place (handle_held s (x.thread + 1) t handle) (ap held_of word ∙ bit) few in
      let found = found_word a before rest x h parts st f (mark_at x.line seen None) marked in
      let exact : IsContent a.ps seen.slot (number_of seen.found.0) value =
      subst (λ z. IsReadExact a.ps z) answer (h.order.contents x (among a before rest x h parts st f)) in
      let P : ℕ → Type 0 = λ w. IsContent a.ps seen.slot (number_of w) (st.content seen.slot) in
      let had : P seen.found.0 = subst P (sym found) (f.contents seen.slot (ap held_of (sym found) ∙ bit)) in
      let same = content_one a h seen.slot (number_of seen.found.0) (st.content seen.slot) value had exact in
      subst (λ o. HasRead s.words t o) (sym is) (few, content ∙ (ap st.content name ∙ same))

  dangling_read : (reg place value : ℕ) (seen : Seen) (y : SlotName) → x.op ≡ ops.Read reg place → x.answer ≡ answers.Dangling seen value
      → seen.slot ≡ y → slot_in (st.regs x.thread reg) ≡ Some y → 8 * place < usable_in a.ps y → held_of seen.found.0 ≡ 0 →
      (t : Title) → MadeIn a t → name_of t ≡ seen.slot → HasHandle s (x.thread + 1) t → HasRead s.words t (read_by x.op x.answer)
  dangling_read reg place value seen y op answer slot names inside bit t made name handle =
      let marked : mark_of x ≡ Some (mark_at x.line seen None) = ap (λ z. mark_of_answer x.line x.op z) answer in
      let word = word_there seen t marked name handle in
      let is : read_by x.op x.answer ≡ Some (place, value) = ap (λ o. read_by o x.answer) op ∙
      ap (λ z. read_by (ops.Read reg place) z) answer in
      let few = inside_of y place reg t names made (name ∙ slot) handle inside in
      let content = freed_content (titles_in a (root_at a x.line)) (a.threads + 1) (2097152 * a.supers) (ledger_of a.partitions st) s shown
      (x.thread + 1) t place handle (ap held_of word ∙ bit) few in
      let exact : value ≡ poison = subst (λ z. IsReadExact a.ps z) answer (h.order.contents x (among a before rest x h parts st f)) in
      subst (λ o. HasRead s.words t o) (sym is) (few, content ∙ sym exact)

  read_from : (reg place : ℕ) (y : SlotName) → x.op ≡ ops.Read reg place → reg < 64 → (st.regs x.thread reg ≡ Own y) ⊎
      (st.regs x.thread reg ≡ Ref y) → slot_in (st.regs x.thread reg) ≡ Some y →
      ReadFromRow y (facts_of a) (st.regs x.thread) place x.answer new_regs → Plays_it
  read_from reg place y op few names slot_is (becomes, inl (past, answer)) =
      quiet answers.OutOfRange answer refl (cache_as answers.OutOfRange answer).1 (not_swap _ op (λ k r e. absurd cc)) becomes
  read_from reg place y op few names slot_is (becomes, inr (inside, seen, value, slot, inl (bit, answer))) =
      let P : SlotName → Type 0 = λ z. (st.regs x.thread reg ≡ Own z) ⊎ (st.regs x.thread reg ≡ Ref z) in
      looks (answers.Value seen value) seen reg answer refl few (subst P (sym slot) names)
      (value_read reg place value seen y op answer slot slot_is inside bit) (cache_as (answers.Value seen value) answer).1
      (not_swap _ op (λ k r e. absurd cc)) becomes
  read_from reg place y op few names slot_is (becomes, inr (inside, seen, value, slot, inr (bit, answer))) =
      let P : SlotName → Type 0 = λ z. (st.regs x.thread reg ≡ Own z) ⊎ (st.regs x.thread reg ≡ Ref z) in
      looks (answers.Dangling seen value) seen reg answer refl few (subst P (sym slot) names)
      (dangling_read reg place value seen y op answer slot slot_is inside bit) (cache_as (answers.Dangling seen value) answer).1
      (not_swap _ op (λ k r e. absurd cc)) becomes

  reads : (r : Reg) (reg place : ℕ) → x.op ≡ ops.Read reg place → reg < 64 → st.regs x.thread reg ≡ r →
      ReadRow r (facts_of a) (st.regs x.thread) place x.answer new_regs → Plays_it
  reads Empty reg place op few is (answer, becomes) =
      quiet answers.Nothing answer refl (cache_as answers.Nothing answer).1 (not_swap _ op (λ k r e. absurd cc)) becomes
  reads Freed reg place op few is (answer, becomes) =
      quiet (answers.StaleUse None) answer refl (cache_as (answers.StaleUse None) answer).1 (not_swap _ op (λ k r e. absurd cc)) becomes
  reads Cleared reg place op few is (answer, becomes) =
      quiet (answers.StaleUse None) answer refl (cache_as (answers.StaleUse None) answer).1 (not_swap _ op (λ k r e. absurd cc)) becomes
  reads (Own y) reg place op few is row = read_from reg place y op few (inl is) (ap slot_in is) row
  reads (Ref y) reg place op few is row = read_from reg place y op few (inr is) (ap slot_in is) row

  -- ---- all ops

  by_op : (op : Op) → x.op ≡ op → IsOpWithin a.partitions op → Row (facts_of a) op (st.regs x.thread) x.answer new_regs → Plays_it
  by_op (ops.Alloc reg part size) op within row = allocs (st.regs x.thread reg) reg part size op within refl row
  by_op (ops.Copy from to) op within row = copies (st.regs x.thread from) from to op within.0 within.1 refl row
  by_op (ops.Reset reg) op within row = resets (st.regs x.thread reg) reg op within refl row
  by_op (ops.Free reg) op within row = frees (st.regs x.thread reg) reg op within refl row
  by_op (ops.Write reg value) op within row = writes (st.regs x.thread reg) reg value op within refl row
  by_op (ops.Read reg place) op within row = reads (st.regs x.thread reg) reg place op within.0 refl row
  by_op (ops.Swap cell reg) op within (entry, e, answer, at, gave, becomes) =
      swap_plays a before rest x h parts st f s shown cell reg op within.0 within.1 (ap (λ z. mark_of_answer x.line x.op z) answer)
      (cache_as (answers.Swapped entry) answer).1 none
  by_op ops.Purge op within (slots, answer, becomes) =
      let acts = (cache_as (answers.Purged slots) answer).0 0 some in
      let e : length (purge_acts (old_cache 0) 0 170) ≡ 0 = ap length (sym acts ∙ none 0) in
      let more = purge_some (old_cache 0) 0 170 in
      absurd (omega arith)

-- a record without an entry can be played
pub quiet_plays : (a : Parts) (before rest : List Played) (x : Played) → IsFiled a → 1 ≤ a.partitions → a.ps ≡ before ++ x ∷ rest →
    NoActs a.roots x.line → CanBePlayed a before x rest
quiet_plays a before rest x h some parts none s shows =
    let within = All-contains (λ (y : Played). IsOpWithin a.partitions y.op) a.ps x h.within
    (among a before rest x h parts shows.st shows.front) in
    by_op a before rest x h some parts none shows.st shows.front s shows.shown x.op refl within
    (row_here a before rest x h parts shows.st shows.front)

pub quiet_records_play : QuietRecordsArePlayed
quiet_records_play t r limits filed_run before x rest parts none =
    quiet_plays (parts_of t (told_by r)) before rest x (filed t (told_by r) limits filed_run) (limits.head.1.0) parts none
