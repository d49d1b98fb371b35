-- A content word after the records before a line: if its slot is held it has the slot's content, and if the slot was freed poison.
use Rattle.std.proofs.Common.{◌≡◌, ℕ, ◌+◌, ◌/◌, ◌<◌, true, List, [], ◌∷◌, ◌++◌, Option, Some, None, refl, sym, ◌∙◌, ap, subst, arith, inl, inr, append_assoc, append-nil}
use Rattle.std.specs.Prelude.{Contains}
use Rattle.std.specs.List.{filter_map}
use Rattle.std.proofs.lemmas.List.Elements.{Contains-push_cases}
use Rattle.pa_slot.specs.declared.word.SlotName.{SlotName}
use Rattle.pa_slot.specs.declared.word.Step.{Step}
use Rattle.pa_slot.specs.declared.word.Step.TheVariants as steps
use Rattle.pa_slot.specs.Count.{CanStep, number_of, held_of, stepped}
use Rattle.pa_slot.specs.Run.{Mark}
use Rattle.pa_slot.specs.Titles.{poison}
use Rattle.pa_slot.proofs.Runs.{same_slot_cases, same_slot_yes, same_slot_no, number_stepped}
use Rattle.pa_trace.specs.declared.script.Op.{Op}
use Rattle.pa_trace.specs.declared.script.Op.TheVariants as ops
use Rattle.pa_record.specs.declared.entry.Seen.{Seen}
use Rattle.pa_record.specs.declared.entry.Answer.{Answer}
use Rattle.pa_record.specs.declared.entry.Answer.TheVariants as answers
use Rattle.pa_lists.proofs.Members.{not_in_none, of_some}
use Rattle.pa_lists.proofs.Elements.{in_middle}
use Rattle.pa_rules.specs.declared.played.Played.{Played}
use Rattle.pa_rules.specs.Played.{mark_of, mark_of_answer, mark_at, step_of}
use Rattle.pa_rules.specs.Registers.{usable_in}
use Rattle.pa_rules.specs.Contents.{IsContent}
use Rattle.pa_timeline.specs.Timeline.{is_of_slot, slot_words, part_leaves, content_after}
use Rattle.pa_one_run.specs.Parts.{Parts}
use Rattle.pa_one_run.specs.Before.{stepped_by, word_after}
use Rattle.pa_one_run.proofs.Filed.{IsFiled, IsMadeIn}
use Rattle.pa_one_run.proofs.words.Found.{found_is, step_can, word_same, word_other, word_here}
use Rattle.pa_one_run.proofs.words.Reading.{made_mark}
use Rattle.pa_core_run.proofs.Contents.{content_left, content_made, content_written}
use Rattle.pa_ordered_runs.proofs.Steps.{steps_in, line_by_line}
use Rattle.pa_ordered_runs.proofs.Counted.{record_steps}
use Rattle.pa_ordered_runs.proofs.Leaving.{last_of, content_next, content_beside, content_here, IsQuiet, quiet_step, quiet_left, made_left, copied_left, reset_left, written_left, freed_left}

-- the content word after some records
abbrev pub content_at : Parts → SlotName → ℕ → List Played → ℕ
content_at a s place front = content_after s place 0 (line_by_line a front)

-- What is known of it: a slot that is held has its content, and one that was freed poison.
pub record IsKnown (a : Parts) (place : ℕ) (s : SlotName) (front : List Played) : Type 0 where
  pub held : held_of (word_after front s) ≡ 1 → IsContent a.ps s (number_of (word_after front s)) (content_at a s place front)
  pub freed : IsMadeIn front s → held_of (word_after front s) ≡ 0 → content_at a s place front ≡ poison

-- the place is one of the slot's content words
abbrev pub IsInside : Parts → ℕ → SlotName → Type 0
IsInside a place s = place < usable_in a.ps s / 8

-- steps that leave the allocator's bit
bit_kept : (p : Step) (w : ℕ) → CanStep p w → (p ≡ steps.Issue → ⊥) → (p ≡ steps.Free → ⊥) → held_of (stepped p w) ≡ held_of w
bit_kept steps.Issue w can issue free = absurd (issue refl)
bit_kept steps.Copy w can issue free = omega arith
bit_kept steps.Reset w (enabled, few, room) issue free = omega arith
bit_kept steps.Free w can issue free = absurd (free refl)
bit_kept steps.Write w can issue free = omega arith

module _ (a : Parts) (h : IsFiled a) (place : ℕ) (front back : List Played) (x : Played) (parts : a.ps ≡ front ++ x ∷ back) where
  among : Contains a.ps x
  among = in_middle front back a.ps x parts

  -- a slot that was made, but not by x, was made before
  made_before : (s : SlotName) → ((seen : Seen) (usable : ℕ) → x.answer ≡ answers.Made seen usable → seen.slot ≡ s → ⊥) →
      IsMadeIn (front ++ x ∷ []) s → IsMadeIn front s
  made_before s other (q, seen, usable, there, is, slot) = elim (Contains-push_cases front x q there) [
    | inl before ↦ (q, seen, usable, before, is, slot)
    | inr same ↦ absurd (other seen usable (ap (λ (z : Played). z.answer) same ∙ is) slot)
  ]

  -- a record that changes neither word nor content
  stays : (s : SlotName) → ((seen : Seen) (usable : ℕ) → x.answer ≡ answers.Made seen usable → seen.slot ≡ s → ⊥) →
      word_after (front ++ x ∷ []) s ≡ word_after front s → content_at a s place (front ++ x ∷ []) ≡ content_at a s place front →
      IsKnown a place s front → IsKnown a place s (front ++ x ∷ [])
  stays s other word content known = record {
    held = λ held.
        let P : ℕ → ℕ → Type 0 = λ w c. IsContent a.ps s (number_of w) c in
        let had = known.held (ap held_of (sym word) ∙ held) in
        subst (λ w. P w (content_at a s place (front ++ x ∷ []))) (sym word) (subst (λ c. P (word_after front s) c) (sym content) had);
    freed = λ made free. content ∙ known.freed (made_before s other made) (ap held_of (sym word) ∙ free);
  }

  -- what a record of the slot leaves
  abbrev LeavesAt : SlotName → List ℕ → Type 0
  LeavesAt s values = content_at a s place (front ++ x ∷ []) ≡ last_of (content_at a s place front) values

  leaves_at : (m : Mark) (values : List ℕ) → mark_of x ≡ Some m → filter_map (part_leaves place x) (steps_in a x) ≡ values →
      LeavesAt m.slot values
  leaves_at m values is left =
      let of : is_of_slot m.slot (mark_of x) ≡ true = ap (is_of_slot m.slot) is ∙ same_slot_yes m.slot m.slot refl in
      content_next a m.slot place front x ∙ content_here m.slot place (content_at a m.slot place front) x (steps_in a x) of
      ∙ ap (last_of (content_at a m.slot place front)) left

  -- ---- a step of the slot

  module _ (seen : Seen) (p : Step) (is : mark_of x ≡ Some (mark_at x.line seen (Some p))) where
    abbrev old : ℕ
    old = word_after front seen.slot

    abbrev new : ℕ
    new = word_after (front ++ x ∷ []) seen.slot

    found : seen.found.0 ≡ old
    found = found_is a front back x (mark_at x.line seen (Some p)) h parts is

    can : CanStep p seen.found.0
    can = step_can a front back x (mark_at x.line seen (Some p)) p h parts is refl

    stepped_to : new ≡ stepped p seen.found.0
    stepped_to = word_here front x (mark_at x.line seen (Some p)) is ∙ ap (stepped p) (sym found)

    number : number_of seen.found.0 + 1 ≡ number_of new
    number = sym (ap number_of stepped_to ∙ number_stepped p seen.found.0 can)

    content_is : (value : ℕ) → content_at a seen.slot place (front ++ x ∷ []) ≡ value →
        IsContent a.ps seen.slot (number_of seen.found.0 + 1) value →
        IsContent a.ps seen.slot (number_of new) (content_at a seen.slot place (front ++ x ∷ []))
    content_is value content had =
        let P : ℕ → ℕ → Type 0 = λ k c. IsContent a.ps seen.slot k c in
        subst (λ k. P k (content_at a seen.slot place (front ++ x ∷ []))) number
        (subst (λ c. P (number_of seen.found.0 + 1) c) (sym content) had)

    -- one that leaves the slot held, with this content
    holds : (value : ℕ) → held_of (stepped p seen.found.0) ≡ 1 → content_at a seen.slot place (front ++ x ∷ []) ≡ value →
        IsContent a.ps seen.slot (number_of seen.found.0 + 1) value → IsKnown a place seen.slot (front ++ x ∷ [])
    holds value bit content had = record {
      held = λ held. content_is value content had;
      freed = λ made free. absurd (let one = ap held_of stepped_to in omega arith);
    }

    -- one that leaves bit and content
    keeps : (p ≡ steps.Issue → ⊥) → (p ≡ steps.Free → ⊥) → ((other : Seen) (usable : ℕ) → x.answer ≡ answers.Made other usable → ⊥) →
        ((reg value : ℕ) → x.op ≡ ops.Write reg value → ⊥) → LeavesAt seen.slot [] → IsKnown a place seen.slot front →
        IsKnown a place seen.slot (front ++ x ∷ [])
    keeps issue free not_made not_written content known =
        let bit : held_of new ≡ held_of old = ap held_of stepped_to ∙ bit_kept p seen.found.0 can issue free ∙ ap held_of found in
        record {
          held = λ held.
              let had = known.held (sym bit ∙ held) in
              let had' = subst (λ w. IsContent a.ps seen.slot (number_of w) (content_at a seen.slot place front)) (sym found) had in
              content_is (content_at a seen.slot place front) content
              (content_left a h x (mark_at x.line seen (Some p)) p
              (content_at a seen.slot place front) among is refl not_made not_written had');
          freed = λ made bit_off.
              content ∙ known.freed (made_before seen.slot (λ other usable answer slot. not_made other usable answer) made)
              (sym bit ∙ bit_off);
        }

  -- ---- by the answer

  made_known : (seen : Seen) (usable : ℕ) → x.answer ≡ answers.Made seen usable → IsKnown a place seen.slot (front ++ x ∷ [])
  made_known seen usable answer =
      let is = made_mark x seen usable answer in
      let able = can seen steps.Issue is in
      holds seen steps.Issue is 0 (omega arith)
      (leaves_at (mark_at x.line seen (Some steps.Issue)) (0 ∷ []) is (made_left a place x seen usable answer))
      (content_made a h x seen usable among answer)

  abbrev Goes : SlotName → Type 0
  Goes s = IsInside a place s → IsKnown a place s front → IsKnown a place s (front ++ x ∷ [])

  done_mark : (seen : Seen) (op : Op) (p : Step) → x.op ≡ op → x.answer ≡ answers.Done seen → step_of op ≡ Some p →
      mark_of x ≡ Some (mark_at x.line seen (Some p))
  done_mark seen op p same answer step =
      ap (mark_of_answer x.line x.op) answer ∙ ap (λ o. Some (mark_at x.line seen (step_of o))) same ∙
      ap (λ o. Some (mark_at x.line seen o)) step

  not_made_by : (seen : Seen) → x.answer ≡ answers.Done seen → (other : Seen) (usable : ℕ) → x.answer ≡ answers.Made other usable → ⊥
  not_made_by seen answer other usable e = let both : answers.Done seen ≡ answers.Made other usable = sym answer ∙ e in cc

  by_op : (seen : Seen) (op : Op) (p : Step) → x.op ≡ op → x.answer ≡ answers.Done seen → step_of op ≡ Some p → Goes seen.slot
  by_op seen (ops.Alloc reg partition size) p op answer step inside known = absurd cc
  by_op seen (ops.Copy from to) p op answer step inside known =
      let is = done_mark seen (ops.Copy from to) steps.Copy op answer refl in
      keeps seen steps.Copy is (λ e. cc) (λ e. cc) (not_made_by seen answer)
      (λ reg value e. (let both : ops.Copy from to ≡ ops.Write reg value = sym op ∙ e in cc))
      (leaves_at (mark_at x.line seen (Some steps.Copy)) [] is (copied_left a place x from to seen op answer)) known
  by_op seen (ops.Reset reg) p op answer step inside known =
      let is = done_mark seen (ops.Reset reg) steps.Reset op answer refl in
      keeps seen steps.Reset is (λ e. cc) (λ e. cc) (not_made_by seen answer)
      (λ r value e. (let both : ops.Reset reg ≡ ops.Write r value = sym op ∙ e in cc))
      (leaves_at (mark_at x.line seen (Some steps.Reset)) [] is (reset_left a place x reg seen op answer)) known
  by_op seen (ops.Free reg) p op answer step inside known =
      let is = done_mark seen (ops.Free reg) steps.Free op answer refl in
      let able = can seen steps.Free is in
      let off = ap held_of (stepped_to seen steps.Free is) in
      let words : slot_words (usable_in a.ps) (mark_of x) ≡ usable_in a.ps seen.slot / 8 = ap (slot_words (usable_in a.ps)) is in
      record {
        held = λ held. absurd (omega arith);
        freed = λ made bit_off.
            leaves_at (mark_at x.line seen (Some steps.Free)) (poison ∷ []) is
            (freed_left a place x (slot_words (usable_in a.ps) (mark_of x)) reg seen (subst (λ n. place < n) (sym words) inside) op answer);
      }
  by_op seen (ops.Write reg value) p op answer step inside known =
      let is = done_mark seen (ops.Write reg value) steps.Write op answer refl in
      let able = can seen steps.Write is in
      holds seen steps.Write is value (omega arith)
      (leaves_at (mark_at x.line seen (Some steps.Write)) (value ∷ []) is (written_left a place x reg value seen op answer))
      (content_written a h x seen reg value among op answer)
  by_op seen (ops.Read reg word) p op answer step inside known = absurd cc
  by_op seen (ops.Swap cell reg) p op answer step inside known = absurd cc
  by_op seen ops.Purge p op answer step inside known = absurd cc

  quiet_goes : (m : Mark) → mark_of x ≡ Some m → IsQuiet x.answer → Goes m.slot
  quiet_goes m is quiet inside known =
      let none = quiet_step x.line x.op x.answer m quiet is in
      stays m.slot (λ seen usable answer slot. quiet.not_made seen usable answer)
      (word_here front x m is ∙ ap (λ o. stepped_by o (word_after front m.slot)) none)
      (leaves_at m [] is (quiet_left a place x quiet)) known

  by_answer : (answer : Answer) (m : Mark) → x.answer ≡ answer → mark_of x ≡ Some m → Goes m.slot
  by_answer (answers.Made seen usable) m answer is =
      let same = of_some (mark_at x.line seen (Some steps.Issue)) m (sym (made_mark x seen usable answer) ∙ is) in
      subst (λ (n : Mark). Goes n.slot) same (λ inside known. made_known seen usable answer)
  by_answer (answers.Done seen) m answer is =
      let (p, step) = record_steps a x seen h among answer in
      let same = of_some (mark_at x.line seen (Some p)) m (sym (done_mark seen x.op p refl answer step) ∙ is) in
      subst (λ (n : Mark). Goes n.slot) same (by_op seen x.op p refl answer step)
  by_answer answer m same is = quiet_goes m is (record {
    not_made = λ seen usable e. (let both : answer ≡ answers.Made seen usable = sym same ∙ e in cc);
    not_done = λ seen e. (let both : answer ≡ answers.Done seen = sym same ∙ e in cc);
  })

  by_mark : (s : SlotName) (o : Option Mark) → mark_of x ≡ o → Goes s
  by_mark s None is inside known =
      stays s (λ seen usable answer slot. (let both : None ≡ Some (mark_at x.line seen (Some steps.Issue)) = sym is ∙
      made_mark x seen usable answer in cc))
      (word_same front x s is)
      (content_next a s place front x ∙ content_beside s place (content_at a s place front) x (steps_in a x) (ap (is_of_slot s) is)) known
  by_mark s (Some m) is inside known = elim (same_slot_cases m.slot s) [
    | inl same ↦ subst Goes same (by_answer x.answer m refl is) inside known
    | inr other ↦
        stays s (λ seen usable answer slot. other
        (ap (λ (z : Mark). z.slot)
        (sym (of_some (mark_at x.line seen (Some steps.Issue)) m (sym (made_mark x seen usable answer) ∙ is))) ∙ slot))
        (word_other front x m s is other)
        (content_next a s place front x ∙
        content_beside s place (content_at a s place front) x (steps_in a x) (ap (is_of_slot s) is ∙ same_slot_no m.slot s other)) known
  ]

  pub known_next : (s : SlotName) → Goes s
  known_next s = by_mark s (mark_of x) refl

-- ---- along the records

known_start : (a : Parts) (place : ℕ) (s : SlotName) → IsKnown a place s []
known_start a place s = record {
  held = λ held. absurd (let zero : held_of 0 ≡ 0 = omega arith in omega arith);
  freed = λ (q, seen, usable, there, is, slot) bit. absurd (not_in_none q there);
}

along : (a : Parts) (place : ℕ) (s : SlotName) (front xs back : List Played) → IsFiled a → IsInside a place s →
    a.ps ≡ front ++ (xs ++ back) → IsKnown a place s front → IsKnown a place s (front ++ xs)
along a place s front [] back h inside parts known = subst (IsKnown a place s) (sym (append-nil front)) known
along a place s front (x ∷ xs) back h inside parts known =
    let next = known_next a h place front (xs ++ back) x parts s inside known in
    subst (IsKnown a place s) (append_assoc front (x ∷ []) xs)
    (along a place s (front ++ x ∷ []) xs back h inside (parts ∙ sym (append_assoc front (x ∷ []) (xs ++ back))) next)

-- the content of the slot is known before each record
pub known_before : (a : Parts) (place : ℕ) (s : SlotName) (front back : List Played) → IsFiled a → IsInside a place s →
    a.ps ≡ front ++ back → IsKnown a place s front
known_before a place s front back h inside parts = along a place s [] front back h inside parts (known_start a place s)
