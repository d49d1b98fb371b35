-- What an entry of a log segment says of its record's mark, if it is a look or a counted step among its record's steps.
use Rattle.std.proofs.Common.{◌≡◌, ℕ, eqb, cond, Bool, true, false, List, [], ◌∷◌, Option, Some, None, refl, sym, ◌∙◌, ap, subst, inl, inr}
use Rattle.std.specs.Prelude.{Contains, is_some}
use Rattle.std.proofs.lemmas.Bool.{cases_Bool}
use Rattle.pa_slot.specs.declared.title.Title.{Title}
use Rattle.pa_slot.specs.declared.word.SlotName.{SlotName}
use Rattle.pa_slot.specs.declared.word.Step.{Step}
use Rattle.pa_slot.specs.Holdings.{one}
use Rattle.pa_slot.specs.Run.{Mark, same_slot}
use Rattle.pa_slot.specs.Titles.{same_title}
use Rattle.pa_slot.proofs.Runs.{same_slot_yes, same_slot_no, slot_parts}
use Rattle.pa_slot.proofs.Same.{title_tells}
use Rattle.pa_region.specs.declared.view.Entry.{Entry}
use Rattle.pa_region.specs.declared.view.Entry.TheVariants.{Counted, Looked, Read, Added, Entered, Uncut}
use Rattle.pa_region.specs.Views.{counted_on}
use Rattle.pa_region.specs.Order.{Touches}
use Rattle.pa_trace.specs.declared.script.Op.{Op}
use Rattle.pa_record.specs.declared.entry.Seen.{Seen}
use Rattle.pa_record.specs.declared.entry.Answer.{Answer}
use Rattle.pa_record.specs.declared.entry.Answer.TheVariants as answers
use Rattle.pa_record.specs.declared.root.RootAct.{RootAct}
use Rattle.pa_record.specs.declared.root.RootEntry.{RootEntry}
use Rattle.pa_lists.proofs.Members.{not_in_none, in_cases, of_some, not_some}
use Rattle.pa_lists.proofs.Elements.{in_one}
use Rattle.pa_lists.proofs.Joined.{filter_in}
use Rattle.pa_rules.specs.declared.played.Played.{Played}
use Rattle.pa_rules.specs.Played.{mark_of, mark_of_answer, mark_at}
use Rattle.pa_rules.specs.Roots.{Journals}
use Rattle.pa_timeline.specs.Timeline.{Part, Asking, Entering, Swapping, Looking, Loading, Counting, IsTouch, is_of_slot, is_counted_on}
use Rattle.pa_logs.specs.Told.{ToldRecord}
use Rattle.pa_logs.specs.Touches.{title_of, is_touch, touches, StepMade, IsReadTold, IsToldBy, IsTold}
use Rattle.pa_logs.proofs.Marks.{tells_its_mark}
use Rattle.pa_logs.proofs.StepMarks.{mark_made, step_mark}
use Rattle.pa_step_order.specs.Segments.{look_part, entry_with, entering, entered_part, part_of}

-- ---- looks

-- the mark of a record is a look at the slot of this title that found this word
abbrev IsLookAt : (SlotName → ℕ) → Title → ℕ → Mark → Type 0
IsLookAt sizes t found m = (t ≡ title_of sizes m.slot) × (found ≡ m.found) × (is_some m.step ≡ false)

touched : (es : List Entry) (t : Title) (found : ℕ) → Contains es (Looked t found) → Contains (touches es) (Looked t found)
touched es t found among = filter_in is_touch es (Looked t found) among refl

same_look : (t u : Title) (m n : ℕ) → Looked t m ≡ Looked u n → (u ≡ t) × (n ≡ m)
same_look t u m n e = (cc, cc)

module _ (sizes : SlotName → ℕ) (line : ℕ) (m : Mark) (t : Title) (found : ℕ) where
  -- the only look of a log segment
  only_look : (seen : Seen) (es : List Entry) → touches es ≡ Looked (title_of sizes seen.slot) seen.found.0 ∷ [] →
      Contains es (Looked t found) →
      Some (mark_at line seen None) ≡ Some m → IsLookAt sizes t found m
  only_look seen es is among marked =
      let there = subst (λ xs. Contains xs (Looked t found)) is (touched es t found among) in
      let (title, word) = same_look (title_of sizes seen.slot) t seen.found.0 found
      (in_one (Looked (title_of sizes seen.slot) seen.found.0) (Looked t found) there) in
      subst (IsLookAt sizes t found) (of_some (mark_at line seen None) m marked) (title, word, refl)

  -- that of a read
  read_look : (seen : Seen) (place value : ℕ) (owned : Bool) (es : List Entry) →
      IsReadTold (title_of sizes seen.slot) place seen.found.0 value owned es →
      Contains es (Looked t found) → Some (mark_at line seen None) ≡ Some m → IsLookAt sizes t found m
  read_look seen place value owned es told among marked =
      let u = title_of sizes seen.slot in
      let r = Read u place value told.since owned told.unclean in
      elim (in_cases (Looked u seen.found.0) (Looked t found) (r ∷ told.rest) (subst (λ xs. Contains xs (Looked t found)) told.pair among)) [
        | inl e ↦
            let (title, word) = same_look u t seen.found.0 found e in
            subst (IsLookAt sizes t found) (of_some (mark_at line seen None) m marked) (title, word, refl)
        | inr rest ↦ elim (in_cases r (Looked t found) told.rest rest) [
          | inl e ↦ absurd cc
          | inr later ↦ absurd (not_in_none (Looked t found)
              (subst (λ xs. Contains xs (Looked t found)) told.none (touched told.rest t found later)))
        ]
      ]

  look_is : (op : Op) (answer : Answer) (es : List Entry) (part : Part) → IsToldBy sizes op answer es → Contains es (Looked t found) →
      look_part answer ≡ Some part →
      mark_of_answer line op answer ≡ Some m → IsLookAt sizes t found m
  look_is op (answers.Made seen usable) es part told among is marked = absurd (not_some part is)
  look_is op (answers.Done seen) es part told among is marked = absurd (not_some part is)
  look_is op (answers.Value seen value) es part (held, (reg, place, owned, reads, told)) among is marked =
      read_look seen place value owned es told among marked
  look_is op (answers.Dangling seen value) es part (held, (reg, place, owned, reads, told)) among is marked =
      read_look seen place value owned es told among marked
  look_is op (answers.SecondFree None) es part told among is marked = absurd (not_some m marked)
  look_is op (answers.SecondFree (Some seen)) es part told among is marked = only_look seen es told.0 among marked
  look_is op (answers.NotOwner seen) es part told among is marked = only_look seen es told.0 among marked
  look_is op (answers.StaleUse None) es part told among is marked = absurd (not_some m marked)
  look_is op (answers.StaleUse (Some seen)) es part told among is marked = only_look seen es told.0 among marked
  look_is op (answers.Shared seen) es part told among is marked = only_look seen es told.0 among marked
  look_is op answer es part told among is marked = absurd (not_some m marked)

-- ---- entries

-- a look's part is a look
pub look_looks : (answer : Answer) (part : Part) → look_part answer ≡ Some part → part ≡ Looking
look_looks (answers.Made seen usable) part is = absurd (not_some part is)
look_looks (answers.Done seen) part is = absurd (not_some part is)
look_looks answer part is = sym (of_some Looking part is)

-- an entry in a list asks, exchanges, or enters a journal
pub entered_is : (P : Part → Type 0) → P Asking → P Swapping → ((q : ℕ) (act : RootAct) → P (Entering q act)) →
    (roots : Journals) (q : ℕ) (numbers : List ℕ) (part : Part) → entered_part roots q numbers ≡ Some part → P part
entered_is P asks swaps enters roots q numbers part is = elim (cases_Bool (eqb q 4)) [
  | inl four ↦ subst P (of_some Asking part (rw four at is)) asks
  | inr more ↦ elim (cases_Bool (eqb q 5)) [
    | inl five ↦ subst P (of_some Swapping part (rw (more, five) at is)) swaps
    | inr other ↦ journal (entry_with numbers (roots q)) (rw (more, other) at is)
  ]
]
  where
    journal : (o : Option RootEntry) → entering q o ≡ Some part → P part
    journal None e = absurd (not_some part e)
    journal (Some r) e = subst P (of_some (Entering q r.act) part e) (enters q r.act)

no_touch : (part : Part) → (part ≡ Looking → ⊥) → (part ≡ Counting → ⊥) → IsTouch part → ⊥
no_touch part looks counts (inl is) = looks is
no_touch part looks counts (inr is) = counts is

-- the part by which an entry came into a list is no touch, neither a look nor a counted step
entered_no_touch : (roots : Journals) (q : ℕ) (numbers : List ℕ) (part : Part) → entered_part roots q numbers ≡ Some part → IsTouch part → ⊥
entered_no_touch =
    entered_is (λ p. IsTouch p → ⊥) (no_touch Asking (λ e. cc) (λ e. cc)) (no_touch Swapping (λ e. cc) (λ e. cc))
    (λ q act. no_touch (Entering q act) (λ e. cc) (λ e. cc))

loads_no_touch : (part : Part) → Some Loading ≡ Some part → IsTouch part → ⊥
loads_no_touch part is (inl looks) = let both : Loading ≡ Looking = of_some Loading part is ∙ looks in cc
loads_no_touch part is (inr counts) = let both : Loading ≡ Counting = of_some Loading part is ∙ counts in cc

abbrev pub is_counting : Part → Bool
is_counting Counting = true
is_counting part = false

-- The entry is the touch that its record's mark reports, a counted step or a look.
pub record IsTouchOf (sizes : SlotName → ℕ) (entry : Entry) (part : Part) (k : Mark) : Type 0 where
  pub found : Touches entry (title_of sizes k.slot) k.found
  pub step : is_some k.step ≡ is_counting part

same_step : (t u : Title) (p q : Step) (m n v w : ℕ) → Counted t p m v ≡ Counted u q n w → (t ≡ u) × (m ≡ n)
same_step t u p q m n v w e = (cc, cc)

module _ (sizes : SlotName → ℕ) (x : ToldRecord) (told : IsTold sizes x) where
  -- a counted step in the log segment is that of the record's mark
  step_marked : (t : Title) (step : Step) (found value : ℕ) → Contains x.stretch (Counted t step found value) →
      (d : StepMade) × (mark_of x.played ≡ Some (mark_made x.played.line d)) × (t ≡ title_of sizes d.slot) × (found ≡ d.found)
  step_marked t step found value among =
      let (d, is, same) = (tells_its_mark sizes x told).step_is t step found value among in
      let (title, word) = same_step t (title_of sizes d.slot) step d.step found d.found value d.value same in
      (d, step_mark x.played.line x.played.op x.played.answer d is, title, word)

  pub touch_of : (roots : Journals) (entry : Entry) (part : Part) (k : Mark) → Contains x.stretch entry →
      part_of roots x.played.answer entry ≡ Some part →
      IsTouch part → mark_of x.played ≡ Some k → IsTouchOf sizes entry part k
  touch_of roots (Counted t step found value) part k among is touch marked =
      let (d, made, title, word) = step_marked t step found value among in
      let one : mark_made x.played.line d ≡ k = of_some (mark_made x.played.line d) k (sym made ∙ marked) in
      let counts : Counting ≡ part = of_some Counting part is in
      let of_d : IsTouchOf sizes (Counted t step found value) Counting (mark_made x.played.line d) =
      record { found = (title, word); step = refl } in
      subst (λ q. IsTouchOf sizes (Counted t step found value) q k) counts
      (subst (λ m. IsTouchOf sizes (Counted t step found value) Counting m) one of_d)
  touch_of roots (Looked t found) part k among is touch marked =
      let (title, word, none) = look_is sizes x.played.line k t found x.played.op x.played.answer x.stretch part told among is marked in
      let looks : Looking ≡ part = sym (look_looks x.played.answer part is) in
      record { found = (title, word); step = none ∙ ap is_counting looks }
  touch_of roots (Read t place value since owned unclean) part k among is touch marked = absurd (loads_no_touch part is touch)
  touch_of roots (Added word bytes) part k among is touch marked = absurd (not_some part is)
  touch_of roots (Entered keeper made) part k among is touch marked = absurd (entered_no_touch roots keeper made.numbers part is touch)
  touch_of roots (Uncut t) part k among is touch marked = absurd (not_some part is)

  -- ---- which entries are counted steps of a slot

  abbrev pub counted_by : SlotName → Played → Option Part → Bool
  counted_by s y None = false
  counted_by s y (Some part) = is_counted_on s y part

  title_slot : (a b : SlotName) → title_of sizes a ≡ title_of sizes b → a ≡ b
  title_slot a b e = slot_parts a b (ap (λ (t : Title). t.start) e) (ap (λ (t : Title). t.born) e)

  one_slot : (a b : SlotName) → one (same_title (title_of sizes a) (title_of sizes b)) ≡ cond {A = ℕ} (same_slot a b) 1 0
  one_slot a b = elim (title_tells (title_of sizes a) (title_of sizes b)) [
    | inl y ↦ rw (y.0, same_slot_yes a b (title_slot a b y.1)) refl
    | inr n ↦ rw (n.0, same_slot_no a b (λ e. n.1 (ap (title_of sizes) e))) refl
  ]

  not_counted : (s : SlotName) (o : Option Part) → ((part : Part) → o ≡ Some part → IsTouch part → ⊥) → counted_by s x.played o ≡ false
  not_counted s None none = refl
  not_counted s (Some Counting) none = absurd (none Counting refl (inr refl))
  not_counted s (Some part) none = refl

  pub counts_as : (roots : Journals) (s : SlotName) (entry : Entry) → Contains x.stretch entry →
      counted_on (title_of sizes s) entry ≡ cond {A = ℕ} (counted_by s x.played (part_of roots x.played.answer entry)) 1 0
  counts_as roots s (Counted t step found value) among =
      let (d, made, title, word) = step_marked t step found value among in
      let mine : is_of_slot s (mark_of x.played) ≡ same_slot d.slot s = ap (is_of_slot s) made in
      ap (λ u. one (same_title u (title_of sizes s))) title ∙ one_slot d.slot s ∙ sym (ap (λ b. cond {A = ℕ} b 1 0) mine)
  counts_as roots s (Looked t found) among =
      sym (ap (λ b. cond {A = ℕ} b 1 0) (look_counts (look_part x.played.answer) (λ part is. look_looks x.played.answer part is)))
    where
      look_counts : (o : Option Part) → ((part : Part) → o ≡ Some part → part ≡ Looking) → counted_by s x.played o ≡ false
      look_counts None looks = refl
      look_counts (Some Counting) looks = absurd (let both = looks Counting refl in cc)
      look_counts (Some part) looks = refl
  counts_as roots s (Read t place value since owned unclean) among = refl
  counts_as roots s (Added word bytes) among = refl
  counts_as roots s (Entered keeper made) among =
      sym (ap (λ b. cond {A = ℕ} b 1 0)
      (not_counted s (entered_part roots keeper made.numbers) (λ part is touch. entered_no_touch roots keeper made.numbers part is touch)))
  counts_as roots s (Uncut t) among = refl
