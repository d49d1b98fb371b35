-- The moments of a run in the order of its logs, with poisonings among them: what of a slot's content each of them changes.
use Rattle.std.proofs.Common.{◌≡◌, ℕ, ◌+◌, ◌≤◌, cond, eqb, Bool, true, List, ◌∷◌, ◌++◌, Some, ◌⊎◌, refl, sym, ◌∙◌, ap, subst, arith, inl, inr}
use Rattle.std.specs.Prelude.{Contains}
use Rattle.std.proofs.lemmas.Bool.{cases_Bool, eqb-true}
use Rattle.pa_slot.specs.declared.word.SlotName.{SlotName}
use Rattle.pa_slot.specs.declared.word.Step.{Step}
use Rattle.pa_slot.specs.declared.word.Step.TheVariants as steps
use Rattle.pa_slot.specs.Count.{number_of}
use Rattle.pa_slot.specs.Titles.{poison}
use Rattle.pa_slot.proofs.Runs.{same_slot_eq, same_slot_yes}
use Rattle.pa_trace.specs.declared.script.Op.{Op}
use Rattle.pa_trace.specs.declared.script.Op.TheVariants as ops
use Rattle.pa_record.specs.declared.entry.Seen.{Seen}
use Rattle.pa_record.specs.declared.entry.Answer.{Answer}
use Rattle.pa_record.specs.declared.entry.Answer.TheVariants as answers
use Rattle.pa_lists.proofs.Members.{of_some, not_some}
use Rattle.pa_rules.specs.declared.played.Played.{Played}
use Rattle.pa_rules.specs.Played.{mark_of}
use Rattle.pa_logs.specs.Touches.{StepMade, step_in, step_by}
use Rattle.pa_logs.proofs.StepMarks.{mark_made, step_mark}
use Rattle.pa_timeline.specs.Timeline.{Part, Loading, Spoiling, Counting, Moment, is_of_slot, is_counted_on, counted_steps, value_left, part_leaves, moment_leaves, content_after, GivesAt}
use Rattle.pa_timeline.proofs.Kept.{count_append, count_cons}
use Rattle.pa_step_order.proofs.Stays.{FindsItsNumber}

-- the step fills a slot's content words with one value
abbrev pub Fills : Step → Type 0
Fills steps.Issue = Unit {0}
Fills steps.Copy = ⊥
Fills steps.Reset = ⊥
Fills steps.Free = ⊥
Fills steps.Write = Unit {0}

abbrev pub Settles : Step → Type 0
Settles steps.Issue = Unit {0}
Settles steps.Copy = ⊥
Settles steps.Reset = ⊥
Settles steps.Free = Unit {0}
Settles steps.Write = Unit {0}

pub fills_settles : (p : Step) → Fills p → Settles p
fills_settles steps.Issue f = tt
fills_settles steps.Copy f = absurd f
fills_settles steps.Reset f = absurd f
fills_settles steps.Free f = absurd f
fills_settles steps.Write f = tt

pub free_settles : (p : Step) → p ≡ steps.Free → Settles p
free_settles p e = subst Settles (sym e) tt

-- After these moments comes a poisoning for this record, which frees its slot: of the slot's steps that fill or free it none is
-- between the two.
pub record IsBeforeFree (ps : List Played) (us : List Moment) (x : Played) : Type 0 where
  pub d : StepMade
  pub is : step_by x ≡ Some d
  pub frees : d.step ≡ steps.Free
  pub before : counted_steps d.slot us ≤ number_of d.found
  pub next : (y : Played) (e : StepMade) → Contains ps y → step_by y ≡ Some e → e.slot ≡ d.slot → Settles e.step →
      counted_steps d.slot us ≤ number_of e.found → number_of d.found ≤ number_of e.found

-- After these moments comes a read that gave this value: it is what they left, and no step that fills the slot is between the
-- read's look and the read.
pub record IsReadAfter (ps : List Played) (us : List Moment) (seen : Seen) (place value : ℕ) : Type 0 where
  pub gave : value ≡ content_after seen.slot place 0 us
  pub looked : number_of seen.found.0 ≤ counted_steps seen.slot us
  pub steady : (y : Played) (e : StepMade) → Contains ps y → step_by y ≡ Some e → e.slot ≡ seen.slot → Fills e.step →
      number_of seen.found.0 ≤ number_of e.found → counted_steps seen.slot us ≤ number_of e.found

-- moments of these records with poisonings among them
pub record AreMarked (ps : List Played) (ms : List Moment) : Type 0 where
  pub members : (m : Moment) → Contains ms m → Contains ps m.x
  pub finds : FindsItsNumber ms
  pub spoils : (us vs : List Moment) (m : Moment) (word : ℕ) → ms ≡ us ++ m ∷ vs → m.part ≡ Spoiling word → IsBeforeFree ps us m.x
  pub reads : (us vs : List Moment) (m : Moment) (seen : Seen) (place value : ℕ) → ms ≡ us ++ m ∷ vs → m.part ≡ Loading →
      GivesAt m.x.op m.x.answer seen place value → IsReadAfter ps us seen place value

-- ---- how many counted steps

pub counts_more : (s : SlotName) (us vs : List Moment) → counted_steps s us ≤ counted_steps s (us ++ vs)
counts_more s us vs = let parted = count_append (λ (m : Moment). is_counted_on s m.x m.part) us vs in omega arith

pub counts_one : (s : SlotName) (us vs : List Moment) (m : Moment) (d : StepMade) → m.part ≡ Counting → step_by m.x ≡ Some d → d.slot ≡ s →
    counted_steps s us + 1 ≤ counted_steps s (us ++ m ∷ vs)
counts_one s us vs m d counts is slot =
    let test : Moment → Bool = λ n. is_counted_on s n.x n.part in
    let parted = count_append test us (m ∷ vs) in
    let more = count_cons test m vs in
    let marked = step_mark m.x.line m.x.op m.x.answer d is in
    let own : is_of_slot s (mark_of m.x) ≡ true = ap (is_of_slot s) marked ∙ same_slot_yes d.slot s slot in
    let here : test m ≡ true = ap (is_counted_on s m.x) counts ∙ own in
    let one : cond {A = ℕ} (test m) 1 0 ≡ 1 = ap (λ b. cond {A = ℕ} b 1 0) here in
    omega arith

-- ---- what changes content

leaves_by : (place : ℕ) (x : Played) (part : Part) (v : ℕ) → part_leaves place x part ≡ Some v →
    ((part ≡ Counting) × (value_left x.op x.answer ≡ Some v)) ⊎ ((part ≡ Spoiling place) × (v ≡ poison))
leaves_by place x Counting v is = inl (refl, is)
leaves_by place x (Spoiling word) v is = elim (cases_Bool (eqb word place)) [
  | inl here ↦ inr (ap Spoiling (eqb-true word place here), sym (of_some poison v (rw here at is)))
  | inr other ↦ absurd (not_some v (rw other at is))
]
leaves_by place x part v is = absurd (not_some v is)

-- what leaves a value is a step that fills
left_done : (op : Op) (seen : Seen) (v : ℕ) → value_left op (answers.Done seen) ≡ Some v → (d : StepMade) ×
    (step_in op (answers.Done seen) ≡ Some d) × Fills d.step
left_done (ops.Write reg value) seen v is = (record { slot = seen.slot; step = steps.Write; found = seen.found.0; value = value }, refl, tt)
left_done op seen v is = absurd (not_some v is)

fill_left : (op : Op) (answer : Answer) (v : ℕ) → value_left op answer ≡ Some v → (d : StepMade) × (step_in op answer ≡ Some d) ×
    Fills d.step
fill_left op (answers.Made seen usable) v is = (record { slot = seen.slot; step = steps.Issue; found = seen.found.0; value = 0 }, refl, tt)
fill_left op (answers.Done seen) v is = left_done op seen v is
fill_left (ops.Alloc reg partition size) answer v is = absurd (not_some v is)
fill_left (ops.Copy from to) answer v is = absurd (not_some v is)
fill_left (ops.Reset reg) answer v is = absurd (not_some v is)
fill_left (ops.Free reg) answer v is = absurd (not_some v is)
fill_left (ops.Write reg value) answer v is = absurd (not_some v is)
fill_left (ops.Read reg word) answer v is = absurd (not_some v is)
fill_left (ops.Swap cell reg) answer v is = absurd (not_some v is)
fill_left ops.Purge answer v is = absurd (not_some v is)

-- A moment that changes a content word of slot s: a step that fills it, or a poisoning before a free.
pub record IsChange (s : SlotName) (place : ℕ) (m : Moment) (v : ℕ) : Type 0 where
  pub d : StepMade
  pub is : step_by m.x ≡ Some d
  pub slot : d.slot ≡ s
  pub settles : Settles d.step
  pub how : ((m.part ≡ Counting) × Fills d.step × (value_left m.x.op m.x.answer ≡ Some v)) ⊎
      ((m.part ≡ Spoiling place) × (d.step ≡ steps.Free) × (v ≡ poison))

slot_is : (s : SlotName) (x : Played) (d : StepMade) → is_of_slot s (mark_of x) ≡ true → step_by x ≡ Some d → d.slot ≡ s
slot_is s x d own is = same_slot_eq d.slot s (sym (ap (is_of_slot s) (step_mark x.line x.op x.answer d is)) ∙ own)

module _ (ps : List Played) (ms : List Moment) (marked : AreMarked ps ms) where
  pub change_is : (s : SlotName) (place : ℕ) (us vs : List Moment) (m : Moment) (v : ℕ) → ms ≡ us ++ m ∷ vs →
      moment_leaves s place m ≡ Some v → IsChange s place m v
  change_is s place us vs m v cut leaves = elim (cases_Bool (is_of_slot s (mark_of m.x))) [
    | inr other ↦ absurd (not_some v (rw other at leaves))
    | inl own ↦ elim (leaves_by place m.x m.part v (rw own at leaves)) [
      | inl (counts, left) ↦
          let (d, is, fills) = fill_left m.x.op m.x.answer v left in
          record { d = d; is = is; slot = slot_is s m.x d own is; settles = fills_settles d.step fills; how = inl (counts, fills, left) }
      | inr (spoils, poisons) ↦
          let b = marked.spoils us vs m place cut spoils in
          record {
            d = b.d;
            is = b.is;
            slot = slot_is s m.x b.d own b.is;
            settles = free_settles b.d.step b.frees;
            how = inr (spoils, b.frees, poisons);
          }
    ]
  ]

  -- a counted step is where its number says
  pub step_place : (s : SlotName) (us vs : List Moment) (m : Moment) (d : StepMade) → ms ≡ us ++ m ∷ vs → m.part ≡ Counting →
      step_by m.x ≡ Some d → d.slot ≡ s →
      number_of d.found ≡ counted_steps s us
  step_place s us vs m d cut counts is slot =
      marked.finds us vs m (mark_made m.x.line d) cut (inr counts) (step_mark m.x.line m.x.op m.x.answer d is) ∙
      ap (λ z. counted_steps z us) slot

  -- a change isn't after its record's number
  pub change_place : (s : SlotName) (place : ℕ) (us vs : List Moment) (m : Moment) (v : ℕ) (c : IsChange s place m v) → ms ≡ us ++ m ∷ vs →
      counted_steps s us ≤ number_of c.d.found
  change_place s place us vs m v c cut = elim c.how [
    | inl (counts, fills, left) ↦ let same = step_place s us vs m c.d cut counts c.is c.slot in omega arith
    | inr (spoils, frees, poisons) ↦
        let b = marked.spoils us vs m place cut spoils in
        let one : b.d ≡ c.d = of_some b.d c.d (sym b.is ∙ c.is) in
        let before = b.before in
        let here : counted_steps b.d.slot us ≡ counted_steps s us = ap (λ (e : StepMade). counted_steps e.slot us) one ∙
        ap (λ z. counted_steps z us) c.slot in
        let number : number_of b.d.found ≡ number_of c.d.found = ap (λ (e : StepMade). number_of e.found) one in
        omega arith
  ]

  -- a step that fills or frees, and isn't before a change, has no lower number
  pub none_within : (s : SlotName) (place : ℕ) (us vs : List Moment) (m : Moment) (v : ℕ) (c : IsChange s place m v) → ms ≡ us ++ m ∷ vs →
      (y : Played) (e : StepMade) → Contains ps y → step_by y ≡ Some e → e.slot ≡ s → Settles e.step →
      counted_steps s us ≤ number_of e.found →
      number_of c.d.found ≤ number_of e.found
  none_within s place us vs m v c cut y e there made slot settles behind = elim c.how [
    | inl (counts, fills, left) ↦ let same = step_place s us vs m c.d cut counts c.is c.slot in omega arith
    | inr (spoils, frees, poisons) ↦
        let b = marked.spoils us vs m place cut spoils in
        let one : b.d ≡ c.d = of_some b.d c.d (sym b.is ∙ c.is) in
        let slot_here : b.d.slot ≡ s = ap (λ (z : StepMade). z.slot) one ∙ c.slot in
        let here : counted_steps b.d.slot us ≡ counted_steps s us = ap (λ z. counted_steps z us) slot_here in
        let number : number_of b.d.found ≡ number_of c.d.found = ap (λ (z : StepMade). number_of z.found) one in
        let up = b.next y e there made (slot ∙ sym slot_here) settles (omega arith) in
        omega arith
  ]
