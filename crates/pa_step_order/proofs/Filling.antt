-- What the steps of the order left in a content word is what their moments left.
use Rattle.std.proofs.Common.{◌≡◌, ℕ, ◌&&◌, cond, eqb, Bool, true, false, List, [], ◌∷◌, ◌++◌, map, Option, Some, None, refl, sym, ◌∙◌, ap, subst, inl, inr, append_assoc, append-nil}
use Rattle.std.specs.Prelude.{Contains, option_map, option_and_then}
use Rattle.std.specs.List.{cons_option}
use Rattle.std.proofs.lemmas.Bool.{cases_Bool, true≢false}
use Rattle.pa_slot.specs.declared.title.Title.{Title}
use Rattle.pa_slot.specs.declared.word.SlotName.{SlotName}
use Rattle.pa_slot.specs.declared.word.Step.{Step}
use Rattle.pa_slot.specs.declared.word.Step.TheVariants as steps
use Rattle.pa_slot.specs.Run.{same_slot}
use Rattle.pa_slot.specs.Titles.{same_title, poison}
use Rattle.pa_slot.proofs.Runs.{same_slot_cases, same_slot_yes, same_slot_no, slot_parts}
use Rattle.pa_slot.proofs.Same.{title_tells, title_self}
use Rattle.pa_trace.specs.declared.script.Op.{Op}
use Rattle.pa_trace.specs.declared.script.Op.TheVariants as ops
use Rattle.pa_record.specs.declared.entry.Seen.{Seen}
use Rattle.pa_record.specs.declared.entry.Answer.{Answer}
use Rattle.pa_record.specs.declared.entry.Answer.TheVariants as answers
use Rattle.pa_region.specs.declared.view.Entry.{Entry}
use Rattle.pa_region.specs.declared.view.Entry.TheVariants.{Counted, Looked, Read, Added, Entered, Uncut}
use Rattle.pa_region.specs.History.{content_by}
use Rattle.pa_region.specs.Order.{Stamped, OneStep, Logged, Spoiled, logged_among, spoiled, left_by, content_in, AreInPlace}
use Rattle.pa_lists.proofs.Elements.{in_middle}
use Rattle.pa_lists.proofs.Members.{of_some, not_some}
use Rattle.pa_rules.specs.declared.played.Played.{Played}
use Rattle.pa_rules.specs.Played.{mark_of}
use Rattle.pa_rules.specs.Roots.{Journals}
use Rattle.pa_logs.specs.Told.{ToldRecord}
use Rattle.pa_logs.specs.Touches.{title_of, StepMade, step_in, step_by, AreTold}
use Rattle.pa_logs.proofs.StepMarks.{step_mark}
use Rattle.pa_timeline.specs.Timeline.{Part, Loading, Spoiling, Counting, Moment, is_of_slot, value_left, part_leaves, moment_leaves, changed_to, content_after}
use Rattle.pa_timeline.proofs.Places.{moment}
use Rattle.pa_step_order.specs.Segments.{look_part, entered_part, part_of}
use Rattle.pa_step_order.proofs.Looks.{look_looks, entered_is}
use Rattle.pa_step_order.proofs.Named.{Named, AreNamed}
use Rattle.pa_step_order.proofs.Moments.{moment_of}
use Rattle.pa_step_order.proofs.Laid.{stamped_of, back_at, front_at, first, spoiling, piece, laid, parted, next_named}
use Rattle.pa_step_order.proofs.Owned.{free_entry, owner, step_of_entry}
use Rattle.std.proofs.lemmas.List.Elements.{Contains-append_right}

-- ---- one moment more

abbrev pub changed_by : SlotName → ℕ → Option Moment → ℕ → ℕ
changed_by s place None c = c
changed_by s place (Some m) c = changed_to (moment_leaves s place m) c

content_more : (s : SlotName) (place c : ℕ) (ms : List Moment) (m : Moment) →
    content_after s place c (ms ++ m ∷ []) ≡ changed_to (moment_leaves s place m) (content_after s place c ms)
content_more s place c [] m = refl
content_more s place c (z ∷ ms) m = content_more s place (changed_to (moment_leaves s place z) c) ms m

content_piece : (s : SlotName) (place c : ℕ) (ms : List Moment) (o : Option Moment) →
    content_after s place c (ms ++ cons_option o []) ≡ changed_by s place o (content_after s place c ms)
content_piece s place c ms None = ap (content_after s place c) (append-nil ms)
content_piece s place c ms (Some m) = content_more s place c ms m

-- ---- entries that change nothing

-- the part changes no content
abbrev pub is_still : Part → Bool
is_still Counting = false
is_still (Spoiling word) = false
is_still part = true

still_leaves : (place : ℕ) (x : Played) (part : Part) → is_still part ≡ true → part_leaves place x part ≡ None
still_leaves place x Counting still = absurd (true≢false (sym still))
still_leaves place x (Spoiling word) still = absurd (true≢false (sym still))
still_leaves place x part still = refl

still_by : (s : SlotName) (place c : ℕ) (x : Played) (o : Option Part) → ((part : Part) → o ≡ Some part → is_still part ≡ true) →
    changed_by s place (option_map (moment x) o) c ≡ c
still_by s place c x None still = refl
still_by s place c x (Some part) still = elim (cases_Bool (is_of_slot s (mark_of x))) [
  | inl own ↦ rw own (ap (λ o. changed_to o c) (still_leaves place x part (still part refl)))
  | inr other ↦ rw other refl
]

-- ---- a counted step

value_done : (op : Op) (seen : Seen) (d : StepMade) (c : ℕ) → step_in op (answers.Done seen) ≡ Some d →
    changed_to (value_left op (answers.Done seen)) c ≡ content_by d.step d.value c
value_done (ops.Copy from to) seen d c is =
    ap (λ (z : StepMade). content_by z.step z.value c)
    (of_some (record { slot = seen.slot; step = steps.Copy; found = seen.found.0; value = 0 }) d is)
value_done (ops.Reset reg) seen d c is =
    ap (λ (z : StepMade). content_by z.step z.value c)
    (of_some (record { slot = seen.slot; step = steps.Reset; found = seen.found.0; value = 0 }) d is)
value_done (ops.Free reg) seen d c is =
    ap (λ (z : StepMade). content_by z.step z.value c)
    (of_some (record { slot = seen.slot; step = steps.Free; found = seen.found.0; value = 0 }) d is)
value_done (ops.Write reg value) seen d c is =
    ap (λ (z : StepMade). content_by z.step z.value c)
    (of_some (record { slot = seen.slot; step = steps.Write; found = seen.found.0; value = value }) d is)
value_done op seen d c is = absurd (not_some d is)

value_by_step : (op : Op) (answer : Answer) (d : StepMade) (c : ℕ) → step_in op answer ≡ Some d →
    changed_to (value_left op answer) c ≡ content_by d.step d.value c
value_by_step op (answers.Made seen usable) d c is =
    ap (λ (z : StepMade). content_by z.step z.value c)
    (of_some (record { slot = seen.slot; step = steps.Issue; found = seen.found.0; value = 0 }) d is)
value_by_step op (answers.Done seen) d c is = value_done op seen d c is
value_by_step op answer d c is = absurd (not_some d is)

title_slot : (sizes : SlotName → ℕ) (a b : SlotName) → title_of sizes a ≡ title_of sizes b → a ≡ b
title_slot sizes a b e = slot_parts a b (ap (λ (t : Title). t.start) e) (ap (λ (t : Title). t.born) e)

title_other : (t u : Title) → (t ≡ u → ⊥) → same_title t u ≡ false
title_other t u other = elim (title_tells t u) [ inl y ↦ absurd (other y.1) | inr n ↦ n.0 ]

-- which slot a record's step is of
own_slot : (s : SlotName) (x : Played) (d : StepMade) → step_by x ≡ Some d → is_of_slot s (mark_of x) ≡ same_slot d.slot s
own_slot s x d is = ap (is_of_slot s) (step_mark x.line x.op x.answer d is)

module _ (sizes : SlotName → ℕ) (ts : List ToldRecord) (told : AreTold sizes ts) (all : List Stamped) (ns : List Named)
    (are : AreNamed ts all ns) (roots : Journals) (s : SlotName) (place : ℕ) where
  counted_changes : (n : Named) (c : ℕ) (u : Title) (step : Step) (found value : ℕ) → Contains ns n → n.entry ≡ Counted u step found value →
      changed_by s place (Some (moment n.x.played Counting)) c ≡ left_by (title_of sizes s) (Counted u step found value) c
  counted_changes n c u step found value among is =
      let (d, of) = step_of_entry sizes ts told all ns are roots n u step found value among is in
      let x = n.x.played in
      elim (same_slot_cases d.slot s) [
        | inl same ↦
            let title : u ≡ title_of sizes s = of.title ∙ ap (title_of sizes) same in
            let yes : same_title u (title_of sizes s) ≡ true = ap (λ t. same_title t (title_of sizes s)) title ∙
            title_self (title_of sizes s) in
            let own : is_of_slot s (mark_of x) ≡ true = own_slot s x d of.is ∙ same_slot_yes d.slot s same in
            rw (own, yes) (value_by_step x.op x.answer d c of.is ∙ ap (λ p. content_by p d.value c) (sym of.step_is) ∙
            ap (λ v. content_by step v c) (sym of.value_is))
        | inr other ↦
            let no : same_title u (title_of sizes s) ≡ false =
            title_other u (title_of sizes s) (λ e. other (title_slot sizes d.slot s (sym of.title ∙ e))) in
            let own : is_of_slot s (mark_of x) ≡ false = own_slot s x d of.is ∙ same_slot_no d.slot s other in
            rw (own, no) refl
      ]

  entry_changes : (n : Named) (c : ℕ) (e : Entry) → Contains ns n → n.entry ≡ e →
      changed_by s place (option_map (moment n.x.played) (part_of roots n.x.played.answer e)) c ≡ left_by (title_of sizes s) e c
  entry_changes n c (Counted u step found value) among is = counted_changes n c u step found value among is
  entry_changes n c (Looked t found) among is =
      still_by s place c n.x.played (look_part n.x.played.answer) (λ part e. ap is_still (look_looks n.x.played.answer part e))
  entry_changes n c (Read t word value since owned unclean) among is =
      still_by s place c n.x.played (Some Loading) (λ part e. ap is_still (sym (of_some Loading part e)))
  entry_changes n c (Added total bytes) among is = refl
  entry_changes n c (Entered q made) among is =
      still_by s place c n.x.played (entered_part roots q made.numbers)
      (entered_is (λ p. is_still p ≡ true) refl refl (λ k act. refl) roots q made.numbers)
  entry_changes n c (Uncut t) among is = refl

  -- ---- all steps

  module _ (order : List OneStep) (agree : map stamped_of ns ≡ logged_among order) (placed : AreInPlace order)
      (closed : (t : Title) → spoiled t order ≡ 0) where
    spoils_change : (later : List OneStep) (u : Title) (word : ℕ) (o : List OneStep) (c : ℕ) → order ≡ later ++ Spoiled u word ∷ o →
        changed_by s place (piece roots ns (Spoiled u word) o)
        c ≡ (cond {A = ℕ} (same_title u (title_of sizes s) && eqb word place) poison c)
    spoils_change later u word o c cut =
        let (f, is) = owner ns order agree placed closed later u word o cut in
        let (found, value, entry) = free_entry u f.entry is.is_free in
        let back : Contains (back_at ns o) f = in_middle is.mid is.rest (back_at ns o) f is.parts in
        let whole = (parted ns order agree (later ++ Spoiled u word ∷ []) o (cut ∙ sym (append_assoc later (Spoiled u word ∷ []) o))).1 in
        let among : Contains ns f = subst (λ zs. Contains zs f) (sym whole) (Contains-append_right (front_at ns o) (back_at ns o) f back) in
        let (d, of) = step_of_entry sizes ts told all ns are roots f u steps.Free found value among entry in
        let x = f.x.played in
        ap (λ z. changed_by s place (option_map (spoiling word) z) c) is.found ∙ elim (same_slot_cases d.slot s) [
          | inl same ↦
              let title : u ≡ title_of sizes s = of.title ∙ ap (title_of sizes) same in
              let yes : same_title u (title_of sizes s) ≡ true = ap (λ t. same_title t (title_of sizes s)) title ∙
              title_self (title_of sizes s) in
              let own : is_of_slot s (mark_of x) ≡ true = own_slot s x d of.is ∙ same_slot_yes d.slot s same in
              rw (own, yes) (elim (cases_Bool (eqb word place)) [ inl here ↦ rw here refl | inr there ↦ rw there refl ])
          | inr other ↦
              let no : same_title u (title_of sizes s) ≡ false =
              title_other u (title_of sizes s) (λ e. other (title_slot sizes d.slot s (sym of.title ∙ e))) in
              let own : is_of_slot s (mark_of x) ≡ false = own_slot s x d of.is ∙ same_slot_no d.slot s other in
              rw (own, no) refl
        ]

    pub content_laid : (pre st : List OneStep) → order ≡ pre ++ st →
        content_after s place 0 (laid roots ns st) ≡ content_in (title_of sizes s) place st
    content_laid pre [] cut = refl
    content_laid pre (Logged m ∷ o) cut =
        let again = content_laid (pre ++ Logged m ∷ []) o (cut ∙ sym (append_assoc pre (Logged m ∷ []) o)) in
        let (n, next) = next_named ns order agree pre m o cut in
        let among : Contains ns n = in_middle (front_at ns o) (back_at ns (Logged m ∷ o)) ns n next.whole in
        let entry : n.entry ≡ m.entry = ap (λ (z : Stamped). z.entry) next.stamp in
        content_piece s place 0 (laid roots ns o) (piece roots ns (Logged m) o)
        ∙ ap (λ z. changed_by s place (option_and_then (moment_of roots) (first z)) (content_after s place 0 (laid roots ns o))) next.back
        ∙ entry_changes n (content_after s place 0 (laid roots ns o)) n.entry among refl
        ∙ ap (λ e. left_by (title_of sizes s) e (content_after s place 0 (laid roots ns o))) entry ∙
        ap (left_by (title_of sizes s) m.entry) again
    content_laid pre (Spoiled u word ∷ o) cut =
        let again = content_laid (pre ++ Spoiled u word ∷ []) o (cut ∙ sym (append_assoc pre (Spoiled u word ∷ []) o)) in
        content_piece s place 0 (laid roots ns o) (piece roots ns (Spoiled u word) o)
        ∙ spoils_change pre u word o (content_after s place 0 (laid roots ns o)) cut
        ∙ ap (λ c. cond {A = ℕ} (same_title u (title_of sizes s) && eqb word place) poison c) again
