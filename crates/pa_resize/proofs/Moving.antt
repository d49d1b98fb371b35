-- A move, record by record: what it leaves.
use Rattle.std.proofs.Common.{◌≡◌, ℕ, ◌+◌, ◌<◌, List, [], ◌∷◌, ◌++◌, map, Some, None, refl, sym, ap, ◌∙◌, subst, arith, ◌⊎◌, inl, inr, append_assoc}
use Rattle.pa_slot.specs.declared.word.SlotName.{SlotName}
use Rattle.pa_slot.specs.declared.word.Step.TheVariants as steps
use Rattle.pa_slot.specs.Count.{number_of, held_of, refs_of, stepped, CanStep}
use Rattle.pa_slot.specs.Run.{Mark}
use Rattle.pa_slot.proofs.Runs.{number_stepped, same_slot_cases}
use Rattle.pa_lists.proofs.Elements.{in_middle}
use Rattle.pa_trace.specs.declared.script.Line.TheVariants.{Do}
use Rattle.pa_trace.specs.declared.script.Op.{Op}
use Rattle.pa_trace.specs.declared.script.Op.TheVariants as ops
use Rattle.pa_record.specs.declared.entry.Seen.{Seen}
use Rattle.pa_record.specs.declared.entry.Answer.TheVariants.{Made, Done, Value, Shared, Swapped}
use Rattle.pa_rules.specs.declared.played.Played.{Played}
use Rattle.pa_rules.specs.Contents.{IsContent, IsReadExact}
use Rattle.pa_rules.specs.Played.{mark_at, mark_of, mark_of_answer, step_of}
use Rattle.pa_one_run.specs.Parts.{Parts}
use Rattle.pa_one_run.specs.Before.{word_after, stepped_by}
use Rattle.pa_one_run.proofs.Filed.{IsFiled}
use Rattle.pa_one_run.proofs.words.Found.{found_is, step_can, word_same, word_other, word_here}
use Rattle.pa_core_run.proofs.Contents.{content_written}
use Rattle.pa_resize.specs.Expansion.{did, spare, moving}

-- ---- the records of a move

pub line_thread : (x : Played) (thread : ℕ) (op : Op) → did x ≡ Do thread op → x.thread ≡ thread
line_thread x thread op is = cc

pub line_op : (x : Played) (thread : ℕ) (op : Op) → did x ≡ Do thread op → x.op ≡ op
line_op x thread op is = cc

pub record Four (thread reg value : ℕ) (rest : List Played) : Type 0 where
  pub w : Played
  pub f : Played
  pub e : Played
  pub g : Played
  pub all : rest ≡ w ∷ f ∷ e ∷ g ∷ []
  pub writes : did w ≡ Do thread (ops.Write spare value)
  pub frees : did f ≡ Do thread (ops.Free reg)
  pub gives : did e ≡ Do thread (ops.Swap spare spare)
  pub takes : did g ≡ Do thread (ops.Swap spare reg)

pub four : (thread reg value : ℕ) (rest : List Played) → map did rest ≡ map (Do thread) (moving reg value) → Four thread reg value rest
four thread reg value [] is = absurd cc
four thread reg value (w ∷ []) is = absurd cc
four thread reg value (w ∷ f ∷ []) is = absurd cc
four thread reg value (w ∷ f ∷ e ∷ []) is = absurd cc
four thread reg value (w ∷ f ∷ e ∷ g ∷ []) is =
    record { w = w; f = f; e = e; g = g; all = refl; writes = cc; frees = cc; gives = cc; takes = cc }
four thread reg value (w ∷ f ∷ e ∷ g ∷ k ∷ more) is = absurd cc

-- ---- words

-- a slot that was issued has no raw_ptr, and one that the allocator holds isn't issued
issued_alone : (w : ℕ) → CanStep steps.Issue w → refs_of (stepped steps.Issue w) ≡ 0
issued_alone w can = omega (arith, can.0.0, can.0.1)

module _ (a : Parts) (h : IsFiled a) where
  -- after a record that looks at a slot, or reports none, each word is as before
  pub looked_word : (before : List Played) (x : Played) (m : Mark) (s : SlotName) → mark_of x ≡ Some m → m.step ≡ None →
      word_after (before ++ x ∷ []) s ≡ word_after before s
  looked_word before x m s is look = elim (same_slot_cases m.slot s) [
    | inl e ↦ subst (λ z. word_after (before ++ x ∷ []) z ≡ word_after before z) e
        (word_here before x m is ∙ ap (λ o. stepped_by o (word_after before m.slot)) look)
    | inr ne ↦ word_other before x m s is ne
  ]

-- What six records leave that read the first word of a slot, made another one, wrote the value there, freed the first slot, and made two
-- exchanges.
pub record Move (a : Parts) (before rest : List Played) (x y w f e g : Played) (old new : SlotName) (value : ℕ) : Type 0 where
  pub parts : a.ps ≡ before ++ x ∷ y ∷ w ∷ f ∷ e ∷ g ∷ rest
  pub seen : Seen
  pub made : Seen
  pub usable : ℕ
  pub wrote : Seen
  pub freed : Seen
  pub read : ℕ
  pub reg : ℕ
  pub look_op : x.op ≡ ops.Read read 0
  pub look : x.answer ≡ Value seen value
  pub look_slot : seen.slot ≡ old
  pub look_held : held_of seen.found.0 ≡ 1
  pub look_alone : refs_of seen.found.0 ≡ 0
  pub make : y.answer ≡ Made made usable
  pub make_slot : made.slot ≡ new
  pub write_op : w.op ≡ ops.Write spare value
  pub write : (w.answer ≡ Done wrote) ⊎ (w.answer ≡ Shared wrote)
  pub write_refs : w.answer ≡ Shared wrote → 0 < refs_of wrote.found.0
  pub write_slot : wrote.slot ≡ new
  pub free_op : f.op ≡ ops.Free reg
  pub free : f.answer ≡ Done freed
  pub free_slot : freed.slot ≡ old
  pub give : (entry : ℕ) × (e.answer ≡ Swapped entry)
  pub take : (entry : ℕ) × (g.answer ≡ Swapped entry)

module _ (a : Parts) (h : IsFiled a) (before rest : List Played) (x y w f e g : Played) (old new : SlotName) (value : ℕ)
    (m : Move a before rest x y w f e g old new value) where
  abbrev pub b1 : List Played
  b1 = before ++ x ∷ []

  abbrev pub b2 : List Played
  b2 = b1 ++ y ∷ []

  abbrev pub b3 : List Played
  b3 = b2 ++ w ∷ []

  abbrev pub b4 : List Played
  b4 = b3 ++ f ∷ []

  abbrev pub b5 : List Played
  b5 = b4 ++ e ∷ []

  abbrev pub b6 : List Played
  b6 = b5 ++ g ∷ []

  p1 : a.ps ≡ b1 ++ y ∷ w ∷ f ∷ e ∷ g ∷ rest
  p1 = m.parts ∙ sym (append_assoc before (x ∷ []) (y ∷ w ∷ f ∷ e ∷ g ∷ rest))

  p2 : a.ps ≡ b2 ++ w ∷ f ∷ e ∷ g ∷ rest
  p2 = p1 ∙ sym (append_assoc b1 (y ∷ []) (w ∷ f ∷ e ∷ g ∷ rest))

  p3 : a.ps ≡ b3 ++ f ∷ e ∷ g ∷ rest
  p3 = p2 ∙ sym (append_assoc b2 (w ∷ []) (f ∷ e ∷ g ∷ rest))

  p4 : a.ps ≡ b4 ++ e ∷ g ∷ rest
  p4 = p3 ∙ sym (append_assoc b3 (f ∷ []) (e ∷ g ∷ rest))

  p5 : a.ps ≡ b5 ++ g ∷ rest
  p5 = p4 ∙ sym (append_assoc b4 (e ∷ []) (g ∷ rest))

  look_mark : mark_of x ≡ Some (mark_at x.line m.seen None)
  look_mark = ap (λ ans. mark_of_answer x.line x.op ans) m.look

  make_mark : mark_of y ≡ Some (mark_at y.line m.made (Some steps.Issue))
  make_mark = ap (λ ans. mark_of_answer y.line y.op ans) m.make

  free_mark : mark_of f ≡ Some (mark_at f.line m.freed (Some steps.Free))
  free_mark = ap (λ ans. mark_of_answer f.line f.op ans) m.free ∙ ap (λ o. Some (mark_at f.line m.freed (step_of o))) m.free_op

  found_first : m.seen.found.0 ≡ word_after before old
  found_first =
      found_is a before (y ∷ w ∷ f ∷ e ∷ g ∷ rest) x (mark_at x.line m.seen None) h m.parts look_mark ∙ ap (word_after before) m.look_slot

  -- the old slot's word stays at the look
  word_one : (s : SlotName) → word_after b1 s ≡ word_after before s
  word_one s = looked_word a h before x (mark_at x.line m.seen None) s look_mark refl

  can_issue : CanStep steps.Issue (word_after b1 new)
  can_issue =
      let mark : Mark = mark_at y.line m.made (Some steps.Issue) in
      let found = found_is a b1 (w ∷ f ∷ e ∷ g ∷ rest) y mark h p1 make_mark ∙ ap (word_after b1) m.make_slot in
      subst (CanStep steps.Issue) found (step_can a b1 (w ∷ f ∷ e ∷ g ∷ rest) y mark steps.Issue h p1 make_mark refl)

  -- the slot that was made is another one
  pub apart : new ≡ old → ⊥
  apart same =
      let held : held_of (word_after b1 new) ≡ 1 =
      ap (λ s. held_of (word_after b1 s)) same ∙ (ap held_of (word_one old ∙ sym found_first) ∙ m.look_held) in
      omega (arith, held, can_issue.0.0)

  word_two : word_after b2 new ≡ stepped steps.Issue (word_after b1 new)
  word_two = subst (λ s. word_after b2 s ≡ stepped steps.Issue (word_after b1 s)) m.make_slot
      (word_here b1 y (mark_at y.line m.made (Some steps.Issue)) make_mark)

  -- no raw_ptr points to the new slot, so it was written
  pub written : w.answer ≡ Done m.wrote
  written = elim m.write [
    | inl done ↦ done
    | inr shared ↦
        let mark : Mark = mark_at w.line m.wrote None in
        let is : mark_of w ≡ Some mark = ap (λ ans. mark_of_answer w.line w.op ans) shared in
        let found = found_is a b2 (f ∷ e ∷ g ∷ rest) w mark h p2 is ∙ ap (word_after b2) m.write_slot in
        let none : refs_of m.wrote.found.0 ≡ 0 = ap refs_of (found ∙ word_two) ∙ issued_alone (word_after b1 new) can_issue in
        absurd (omega (arith, none, m.write_refs shared))
  ]

  write_mark : mark_of w ≡ Some (mark_at w.line m.wrote (Some steps.Write))
  write_mark = ap (λ ans. mark_of_answer w.line w.op ans) written ∙ ap (λ o. Some (mark_at w.line m.wrote (step_of o))) m.write_op

  found_written : m.wrote.found.0 ≡ word_after b2 new
  found_written =
      found_is a b2 (f ∷ e ∷ g ∷ rest) w (mark_at w.line m.wrote (Some steps.Write)) h p2 write_mark ∙ ap (word_after b2) m.write_slot

  -- the old slot's word is still the one that was looked at when it is freed
  old_word : word_after b3 old ≡ m.seen.found.0
  old_word =
      word_other b2 w (mark_at w.line m.wrote (Some steps.Write)) old write_mark (λ same. apart (sym m.write_slot ∙ same))
      ∙ (word_other b1 y (mark_at y.line m.made (Some steps.Issue)) old make_mark (λ same. apart (sym m.make_slot ∙ same))
      ∙ (word_one old ∙ sym found_first))

  pub freed_alone : refs_of m.freed.found.0 ≡ 0
  freed_alone =
      let found = found_is a b3 (e ∷ g ∷ rest) f (mark_at f.line m.freed (Some steps.Free)) h p3 free_mark ∙
      ap (word_after b3) m.free_slot in
      ap refs_of (found ∙ old_word) ∙ m.look_alone

  -- the new slot's word is that of the write to the end
  end_word : word_after b6 new ≡ stepped steps.Write (word_after b2 new)
  end_word =
      let (i, gives) = m.give in
      let (j, takes) = m.take in
      word_same b5 g new (ap (λ ans. mark_of_answer g.line g.op ans) takes)
      ∙ (word_same b4 e new (ap (λ ans. mark_of_answer e.line e.op ans) gives)
      ∙ (word_other b3 f (mark_at f.line m.freed (Some steps.Free)) new free_mark (λ same. apart (sym same ∙ m.free_slot))
      ∙ subst (λ s. word_after b3 s ≡ stepped steps.Write (word_after b2 s)) m.write_slot
      (word_here b2 w (mark_at w.line m.wrote (Some steps.Write)) write_mark)))

  pub new_content : IsContent a.ps new (number_of (word_after b6 new)) value
  new_content =
      let among = in_middle b2 (f ∷ e ∷ g ∷ rest) a.ps w p2 in
      let can = subst (CanStep steps.Write) found_written
      (step_can a b2 (f ∷ e ∷ g ∷ rest) w (mark_at w.line m.wrote (Some steps.Write)) steps.Write h p2 write_mark refl) in
      let number : number_of (word_after b6 new) ≡ number_of m.wrote.found.0 + 1 =
      ap number_of end_word ∙ (number_stepped steps.Write (word_after b2 new) can ∙ ap (λ u. number_of u + 1) (sym found_written)) in
      let there = content_written a h w m.wrote spare value among m.write_op written in
      subst (λ n. IsContent a.ps new n value) (sym number)
      (subst (λ s. IsContent a.ps s (number_of m.wrote.found.0 + 1) value) m.write_slot there)

  pub old_content : IsContent a.ps old (number_of (word_after before old)) value
  old_content =
      let among = in_middle before (y ∷ w ∷ f ∷ e ∷ g ∷ rest) a.ps x m.parts in
      let read : IsContent a.ps m.seen.slot (number_of m.seen.found.0) value = subst (IsReadExact a.ps) m.look (h.order.contents x among) in
      subst (λ u. IsContent a.ps old (number_of u) value) found_first
      (subst (λ s. IsContent a.ps s (number_of m.seen.found.0) value) m.look_slot read)
