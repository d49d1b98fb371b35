-- What the views know of words after a counted step.
use Rattle.std.proofs.Common.{◌≡◌, ℕ, ◌+◌, ◌-◌, ◌*◌, ◌/◌, ◌<◌, ◌≤◌, Bool, true, false, List, length, set, get_or, refl, sym, ◌∙◌, ap, subst, arith, ◌⊎◌, inl, inr}
use Rattle.std.specs.Prelude.{slice_index, if◌then◌else◌}
use Rattle.std.proofs.lemmas.Bool.{cases_lt, cases_eq, true≢false}
use Rattle.std.proofs.lemmas.Bool.Decides.{eqb_tells}
use Rattle.std.proofs.lemmas.List.{length-set, get_or-set_same, get_or-set_other}
use mathlib.Core.Option.{some}
use lib.ListN.{get_elem?}
use Rattle.pa_slot.specs.declared.title.Title.{Title}
use Rattle.pa_slot.specs.declared.title.OwnState.TheVariants.{Clean}
use Rattle.pa_slot.specs.declared.word.Step.{Step}
use Rattle.pa_slot.specs.declared.word.Step.TheVariants.{Issue, Copy, Reset, Free, Write}
use Rattle.pa_slot.specs.Count.{stepped, refs_of, held_of}
use Rattle.pa_slot.specs.Run.{IsFree}
use Rattle.pa_slot.specs.Titles.{Covers, IsWellFormed, IsContentOf, content_count, content_place, count_place, count_word, poison}
use Rattle.pa_slot.specs.Holdings.{Thing, RawByte, FreeTitle, OwnOf, held_in, IsTitleHeld}
use Rattle.pa_machine.specs.Events.{returned_at, total_of}
use Rattle.pa_slot.proofs.Same.{title_tells}
use Rattle.pa_slot.proofs.Arith.{stepped_is}
use Rattle.pa_machine.proofs.Amounts.{returned_cases, free_self, own_self}
use Rattle.pa_machine.proofs.Parts.{IsWordOf, word_covered}
use Rattle.pa_region.specs.declared.view.View.{View}
use Rattle.pa_region.specs.Views.{held_of_view, byte_words, shown, free_of, own_of, Knows}
use Rattle.pa_region.specs.Rule.{IsKept, Values}
use Rattle.pa_region.specs.Moves.{filled_with, is_back, CanCount, moved, after_count}
use Rattle.pa_region.proofs.Pieces.{handle_piece, lost_by, gained_by, moved_changes, held_within, frees_have, owns_have}
use Rattle.pa_region.proofs.HolderPart.{lost_here, gained_here, lost_raw, gained_raw}
use Rattle.pa_region.proofs.Bytes.{held_in_all}
use Rattle.pa_region.proofs.ValuePart.{raw_outside, place_unknown, values_step}
use Rattle.pa_region.proofs.Filled.{filled_long, filled_here, filled_beside}
use Rattle.pa_region.proofs.CountEvent.{own_known}
use Rattle.pa_region.proofs.Found.{handle_held, count_can, count_found}
use Rattle.pa_machine.proofs.Noting.{returned_owns}

-- whether a step that leaves this word gave the title back
back_cases : (left : ℕ) → (IsFree left × (is_back left ≡ true)) ⊎ ((IsFree left → ⊥) × (is_back left ≡ false))
back_cases left = elim (eqb_tells (held_of left) 0) [
  | inl h ↦ elim (eqb_tells (refs_of left) 0) [
    | inl c ↦ inl ((h.1, c.1), rw (h.0, c.0) refl)
    | inr n ↦ inr (λ f. n.1 f.1, rw (h.0, n.0) refl)
  ]
  | inr n ↦ inr (λ f. n.1 f.0, rw n.0 refl)
]

-- a counted step leaves as many words
pub moved_long : (step : Step) (t : Title) (word : ℕ) (v : View) → length (moved step t word v).words ≡ length v.words
moved_long Issue t word v = refl
moved_long Copy t word v = refl
moved_long Reset t word v = go (is_back (stepped Reset word))
  where
    go : (b : Bool) → length
        (if b then set (filled_with poison t (content_count t) v.words) (count_place t) (stepped Reset word) else v.words) ≡ length v.words
    go true = length-set (filled_with poison t (content_count t) v.words) (count_place t) (stepped Reset word) ∙
        filled_long poison t (content_count t) v.words
    go false = refl
moved_long Free t word v = go (is_back (stepped Free word))
  where
    go : (b : Bool) → length (if b then set v.words (count_place t) (stepped Free word) else v.words) ≡ length v.words
    go true = length-set v.words (count_place t) (stepped Free word)
    go false = refl
moved_long Write t word v = refl

-- a counted step leaves what is known beside the title's own words
moved_beside : (step : Step) (t : Title) (word : ℕ) (v : View) (q : ℕ) → (IsWordOf t q → ⊥) →
    slice_index (moved step t word v).words q ≡ slice_index v.words q
moved_beside Issue t word v q out = refl
moved_beside Copy t word v q out = refl
moved_beside Reset t word v q out = go (is_back (stepped Reset word))
  where
    place : q < t.start / 8 ⊎ (content_place t (content_count t) ≤ q)
    place = elim (cases_lt q (t.start / 8)) [
      | inl y ↦ inl y
      | inr n ↦ elim (cases_lt q (count_place t)) [ inl y ↦ absurd (out (n, omega arith)) | inr m ↦ inr m ]
    ]

    go : (b : Bool) → get_or
        (if b then set (filled_with poison t (content_count t) v.words) (count_place t) (stepped Reset word) else v.words) q 0 ≡ get_or
        v.words q 0
    go true =
        get_or-set_other (filled_with poison t (content_count t) v.words) (count_place t) q (stepped Reset word) 0
        (λ e. out (omega arith, omega arith))
        ∙ filled_beside poison t (content_count t) v.words q place
    go false = refl
moved_beside Free t word v q out = go (is_back (stepped Free word))
  where
    go : (b : Bool) → get_or (if b then set v.words (count_place t) (stepped Free word) else v.words) q 0 ≡ get_or v.words q 0
    go true = get_or-set_other v.words (count_place t) q (stepped Free word) 0 (λ e. out (omega arith, omega arith))
    go false = refl
moved_beside Write t word v q out = refl

-- a word of a title is its count word, or one of its content
pub word_cases : (n : ℕ) (t : Title) (q : ℕ) → IsWellFormed n t → IsWordOf t q → (q ≡ count_place t) ⊎
    ((i : ℕ) × (i < content_count t) × (q ≡ content_place t i))
word_cases n t q well within =
    let low = within.0 in let high = within.1 in
    elim (cases_eq q (count_place t)) [
      | inl y ↦ inl y
      | inr m ↦ inr (q - t.start / 8, omega arith, omega arith)
    ]

not_returned : (left : ℕ) (t : Title) → (IsFree left → ⊥) → held_in (returned_at left t) (FreeTitle t) ≡ 0
not_returned left t other = elim (returned_cases left t) [ inl y ↦ absurd (other y.0) | inr n ↦ rw n.1 refl ]

-- what the view holds of the title after the step, by what the step moves
moved_holds : (step : Step) (t : Title) (word : ℕ) (v : View) (can : CanCount step t v) (x : Thing) →
    let m = moved_changes step t word v (handle_piece step t v can.0) in
    held_of_view (after_count step t word v) x + held_in (lost_by step t m.sealed m.state) x
    ≡ held_of_view v x + held_in (gained_by step t m.sealed (stepped step word)) x
moved_holds step t word v can x = (moved_changes step t word v (handle_piece step t v can.0)).changes x

-- of another title it holds what it held
other_holds : (step : Step) (t u : Title) (word : ℕ) (v : View) (can : CanCount step t v) → (t ≡ u → ⊥) →
    (free_of (after_count step t word v) u ≡ free_of v u) × (own_of (after_count step t word v) u ≡ own_of v u)
other_holds step t u word v can ne =
    let moves = moved_changes step t word v (handle_piece step t v can.0) in
    let l = lost_here step t moves.sealed moves.state u ne in
    let g = gained_here step t moves.sealed (stepped step word) u ne in
    let f = moved_holds step t word v can (FreeTitle u) in
    let o = moved_holds step t word v can (OwnOf u) in
    let f1 = frees_have v u in let f2 = frees_have (after_count step t word v) u in
    let o1 = owns_have v u in let o2 = owns_have (after_count step t word v) u in
    let lf = l.free in let lo = l.own in let gf = g.free in let go = g.own in
    (omega arith, omega arith)

-- What holding the step's own title afterwards says. A view that holds it free got it back by the step. One that has its Own
-- had it before, or held the title free before an issue.
record IsHeldBy (step : Step) (t : Title) (word : ℕ) (v : View) : Type 0 where
  free : 0 < free_of (after_count step t word v) t → (is_back (stepped step word) ≡ true) ×
      ((step ≡ Reset) ⊎ ((step ≡ Free) × (0 < own_of v t)))
  own : 0 < own_of (after_count step t word v) t → ((step ≡ Issue) × (0 < free_of v t)) ⊎
      ((0 < own_of v t) × ((moved step t word v).words ≡ v.words))

held_by_count : (step : Step) (t : Title) (words : List ℕ) (views : List View) (i : ℕ) (v : View) → IsKept words views →
    get_elem? views i ≡ some v →
    CanCount step t v → IsHeldBy step t (count_word (byte_words words) t) v
held_by_count Issue t words views i v k at_i can =
    let word = count_word (byte_words words) t in
    let found = count_found t words views i v k at_i (handle_held Issue t v can.0) in
    let f = moved_holds Issue t word v can (FreeTitle t) in
    let f1 = frees_have v t in let f2 = frees_have (after_count Issue t word v) t in
    let once = found.frees in
    let z = free_self t in
    record { free = λ h. absurd (omega arith); own = λ h. inl (refl, can.0) }
held_by_count Copy t words views i v k at_i can =
    let word = count_word (byte_words words) t in
    let found = count_found t words views i v k at_i (handle_held Copy t v can.0) in
    let legal = count_can Copy t words views i v k at_i can in
    let some_handle = legal.0 in
    let none = found.taken (λ f. let a = f.0 in let b = f.1 in absurd (omega arith)) in
    let f = moved_holds Copy t word v can (FreeTitle t) in
    let o = moved_holds Copy t word v can (OwnOf t) in
    let f1 = frees_have v t in let f2 = frees_have (after_count Copy t word v) t in
    let o1 = owns_have v t in let o2 = owns_have (after_count Copy t word v) t in
    record { free = λ h. absurd (omega arith); own = λ h. inr (omega arith, refl) }
held_by_count Reset t words views i v k at_i can =
    let word = count_word (byte_words words) t in
    let found = count_found t words views i v k at_i (handle_held Reset t v can.0) in
    let legal = count_can Reset t words views i v k at_i can in
    let some_ref = legal.0 in
    let st = stepped_is Reset word legal in
    let st0 = st.0 in let st1 = st.1 in
    let none = found.taken (λ f. let b = f.1 in absurd (omega arith)) in
    let owns = found.owns in
    let f = moved_holds Reset t word v can (FreeTitle t) in
    let o = moved_holds Reset t word v can (OwnOf t) in
    let f1 = frees_have v t in let f2 = frees_have (after_count Reset t word v) t in
    let o1 = owns_have v t in let o2 = owns_have (after_count Reset t word v) t in
    let no_own = returned_owns (stepped Reset word) t in
    record {
      free = λ h. elim (back_cases (stepped Reset word)) [
        | inl y ↦ (y.1, inl refl)
        | inr n ↦ let z = not_returned (stepped Reset word) t n.0 in absurd (omega arith)
      ];
      own = λ h. elim (back_cases (stepped Reset word)) [
        | inl y ↦ let a = y.0.0 in absurd (omega arith)
        | inr n ↦ inr (omega arith, rw n.1 refl)
      ];
    }
held_by_count Free t words views i v k at_i can =
    let word = count_word (byte_words words) t in
    let found = count_found t words views i v k at_i (handle_held Free t v can.0) in
    let legal = count_can Free t words views i v k at_i can in
    let some_own = legal.0 in
    let none = found.taken (λ f. let a = f.0 in absurd (omega arith)) in
    let owns = found.owns in
    let f = moved_holds Free t word v can (FreeTitle t) in
    let o = moved_holds Free t word v can (OwnOf t) in
    let f1 = frees_have v t in let f2 = frees_have (after_count Free t word v) t in
    let o1 = owns_have v t in let o2 = owns_have (after_count Free t word v) t in
    let no_own = returned_owns (stepped Free word) t in
    let moves = moved_changes Free t word v (handle_piece Free t v can.0) in
    let z = own_self moves.sealed t moves.state in
    record {
      free = λ h. elim (back_cases (stepped Free word)) [
        | inl y ↦ (y.1, inr (refl, handle_piece Free t v can.0))
        | inr n ↦ let z1 = not_returned (stepped Free word) t n.0 in absurd (omega arith)
      ];
      own = λ h. absurd (omega arith);
    }
held_by_count Write t words views i v k at_i can =
    let word = count_word (byte_words words) t in
    let found = count_found t words views i v k at_i (handle_held Write t v can.0) in
    let legal = count_can Write t words views i v k at_i can in
    let some_own = legal.0.0 in
    let none = found.taken (λ f. let a = f.0 in absurd (omega arith)) in
    let f = moved_holds Write t word v can (FreeTitle t) in
    let o = moved_holds Write t word v can (OwnOf t) in
    let f1 = frees_have v t in let f2 = frees_have (after_count Write t word v) t in
    let o1 = owns_have v t in let o2 = owns_have (after_count Write t word v) t in
    let moves = moved_changes Write t word v (handle_piece Write t v can.0) in
    let z = own_self moves.sealed t moves.state in
    let z1 = own_self moves.sealed t Clean in
    record { free = λ h. absurd (omega arith); own = λ h. inr (omega arith, refl) }

-- a known word beside the title's was known before
known_before : (step : Step) (t : Title) (word : ℕ) (v : View) (can : CanCount step t v) (n q : ℕ) → IsWellFormed n t → (IsWordOf t q → ⊥) →
    Knows (after_count step t word v) q → Knows v q
known_before step t word v can n q well out (inl raw) =
    let moves = moved_changes step t word v (handle_piece step t v can.0) in
    let m = moved_holds step t word v can (RawByte (8 * q)) in
    let l = lost_raw step t moves.sealed moves.state (8 * q) in
    let g = gained_raw step t moves.sealed (stepped step word) (8 * q) in
    inl (omega arith)
known_before step t word v can n q well out (inr (inl free)) = elim (title_tells t free.0) [
  | inl y ↦
      let c : Covers t (8 * q) = subst (λ (z : Title). Covers z (8 * q)) (sym y.1) free.2 in
      let l = c.0 in let h = c.1 in let a = well.start_aligned in let b = well.len_aligned in let d = well.long in
      absurd (out (omega arith, omega arith))
  | inr m ↦ let e = (other_holds step t free.0 word v can m.1).0 in let has = free.1 in inr (inl (free.0, omega arith, free.2))
]
known_before step t word v can n q well out (inr (inr own)) = elim (title_tells t own.0) [
  | inl y ↦
      let c : IsContentOf t (8 * q) = subst (λ (z : Title). IsContentOf z (8 * q)) (sym y.1) own.2 in
      let l = c.0 in let h = c.1 in let a = well.start_aligned in let b = well.len_aligned in let d = well.long in
      absurd (out (omega arith, omega arith))
  | inr m ↦ let e = (other_holds step t own.0 word v can m.1).1 in let has = own.1 in inr (inr (own.0, omega arith, own.2))
]

-- whether a word is one of the title's
word_or : (t : Title) (q : ℕ) → IsWordOf t q ⊎ (IsWordOf t q → ⊥)
word_or t q = elim (cases_lt q (t.start / 8)) [
  | inl y ↦ inr (λ w. let z = w.0 in omega arith)
  | inr n ↦ elim (cases_lt (count_place t) q) [ inl y ↦ inr (λ w. let z = w.1 in omega arith) | inr m ↦ inl (n, m) ]
]

-- the words of the bytes after the step
abbrev after_words : Step → Title → List ℕ → List ℕ
after_words step t words = set (byte_words words) (count_place t) (stepped step (count_word (byte_words words) t))

-- what a view knows of the title that it got back
free_here : (step : Step) (t : Title) (words : List ℕ) (views : List View) (i : ℕ) (v : View) → IsKept words views →
    get_elem? views i ≡ some v →
    CanCount step t v → (q : ℕ) → IsWordOf t q → 0 < free_of (after_count step t (count_word (byte_words words) t) v) t →
    slice_index (moved step t (count_word (byte_words words) t) v).words q ≡ slice_index (after_words step t words) q
free_here Issue t words views i v k at_i can q within has =
    elim ((held_by_count Issue t words views i v k at_i can).free has).1 [ inl e ↦ absurd (cc) | inr e ↦ let z = e.0 in absurd (cc) ]
free_here Copy t words views i v k at_i can q within has =
    elim ((held_by_count Copy t words views i v k at_i can).free has).1 [ inl e ↦ absurd (cc) | inr e ↦ let z = e.0 in absurd (cc) ]
free_here Write t words views i v k at_i can q within has =
    elim ((held_by_count Write t words views i v k at_i can).free has).1 [ inl e ↦ absurd (cc) | inr e ↦ let z = e.0 in absurd (cc) ]
free_here Reset t words views i v k at_i can q within has =
    let word = count_word (byte_words words) t in
    let held = held_in_all words views i v t at_i (handle_held Reset t v can.0) in
    let well = k.holders.good.divided.well t held in
    let back = ((held_by_count Reset t words views i v k at_i can).free has).0 in
    let legal = count_can Reset t words views i v k at_i can in
    let st = stepped_is Reset word legal in
    let st0 = st.0 in let st1 = st.1 in
    let is_free : IsFree (stepped Reset word) =
    elim (back_cases (stepped Reset word)) [ inl y ↦ y.0 | inr n ↦ absurd (true≢false (sym back ∙ n.1)) ] in
    let a = is_free.0 in let b = is_free.1 in
    let poisoned = (k.holders.good.poison_kept t held).quarantine (omega arith, omega arith) in
    let long = k.values.long i v at_i in
    let filled = filled_long poison t (content_count t) v.words in
    let bytes = well.inside in let s1 = well.start_aligned in let s2 = well.len_aligned in let s3 = well.long in
    rw back (elim (word_cases (length (byte_words words)) t q well within) [
      | inl y ↦
          rw y (get_or-set_same (filled_with poison t (content_count t) v.words) (count_place t) (stepped Reset word) 0 (omega arith)
          ∙ sym (get_or-set_same (byte_words words) (count_place t) (stepped Reset word) 0 (omega arith)))
      | inr c ↦
          let below = c.1 in
          rw c.2 (get_or-set_other (filled_with poison t (content_count t) v.words) (count_place t) (content_place t c.0)
          (stepped Reset word) 0 (λ e. omega arith)
          ∙ (filled_here poison t (content_count t) v.words c.0 c.1 (omega arith)
          ∙ (sym (poisoned c.0 c.1) ∙
          sym (get_or-set_other (byte_words words) (count_place t) (content_place t c.0) (stepped Reset word) 0 (λ e. omega arith)))))
    ])
free_here Free t words views i v k at_i can q within has =
    let word = count_word (byte_words words) t in
    let held = held_in_all words views i v t at_i (handle_held Free t v can.0) in
    let well = k.holders.good.divided.well t held in
    let by_free = (held_by_count Free t words views i v k at_i can).free has in
    let back = by_free.0 in
    let long = k.values.long i v at_i in
    let bytes = well.inside in let s1 = well.start_aligned in let s2 = well.len_aligned in let s3 = well.long in
    rw back (elim (word_cases (length (byte_words words)) t q well within) [
      | inl y ↦
          rw y (get_or-set_same v.words (count_place t) (stepped Free word) 0 (omega arith)
          ∙ sym (get_or-set_same (byte_words words) (count_place t) (stepped Free word) 0 (omega arith)))
      | inr c ↦
          rw c.2 (get_or-set_other v.words (count_place t) (content_place t c.0) (stepped Free word) 0 (λ e. omega arith)
          ∙ (own_known words views i v t k at_i (handle_piece Free t v can.0) c.0 c.1
          ∙ sym (get_or-set_other (byte_words words) (count_place t) (content_place t c.0) (stepped Free word) 0 (λ e. omega arith))))
    ])

-- what a view knows of its Own
own_here : (step : Step) (t : Title) (words : List ℕ) (views : List View) (i : ℕ) (v : View) → IsKept words views →
    get_elem? views i ≡ some v →
    CanCount step t v → (q : ℕ) → IsContentOf t (8 * q) → 0 < own_of (after_count step t (count_word (byte_words words) t) v) t →
    slice_index (moved step t (count_word (byte_words words) t) v).words q ≡ slice_index (after_words step t words) q
own_here step t words views i v k at_i can q inside has =
    elim ((held_by_count step t words views i v k at_i can).own has) [
      | inl new ↦ issue_words step new.0 ∙ (k.values.known i q v at_i (inr (inl (t, new.1, (inside.0, omega arith)))) ∙ sym beside)
      | inr old ↦ ap (λ ws. slice_index ws q) old.1 ∙ (k.values.known i q v at_i (inr (inr (t, old.0, inside))) ∙ sym beside)
    ]
  where
    beside : slice_index (after_words step t words) q ≡ slice_index (byte_words words) q
    beside =
        let well = k.holders.good.divided.well t (held_in_all words views i v t at_i (handle_held step t v can.0)) in
        let s1 = well.start_aligned in let s2 = well.len_aligned in let s3 = well.long in
        let low = inside.0 in let high = inside.1 in
        get_or-set_other (byte_words words) (count_place t) q (stepped step (count_word (byte_words words) t)) 0 (λ e. omega arith)

    issue_words : (p : Step) → p ≡ Issue → slice_index (moved p t (count_word (byte_words words) t) v).words q ≡ slice_index v.words q
    issue_words Issue e = refl
    issue_words Copy e = refl
    issue_words Reset e = absurd (cc)
    issue_words Free e = absurd (cc)
    issue_words Write e = refl

-- what the views know after a counted step
pub count_values : (step : Step) (t : Title) (words : List ℕ) (views : List View) (i : ℕ) (v : View) → IsKept words views →
    get_elem? views i ≡ some v →
    CanCount step t v →
    Values (after_words step t words) (set views i (after_count step t (count_word (byte_words words) t) v))
count_values step t words views i v k at_i can =
    values_step (byte_words words) (after_words step t words) views i v
    (after_count step t (count_word (byte_words words) t) v) at_i k.values
    (length-set (byte_words words) (count_place t) (stepped step (count_word (byte_words words) t)))
    (moved_long step t (count_word (byte_words words) t) v)
    (λ j q u at_j ne knows. elim (cases_eq q (count_place t)) [
      | inl y ↦ absurd (place_unknown words views i j v u t k.holders.good at_i at_j ne (handle_held step t v can.0)
          (subst (λ (p : ℕ). Knows u p) y knows))
      | inr n ↦ get_or-set_other (byte_words words) (count_place t) q (stepped step (count_word (byte_words words) t)) 0 n
    ])
    (λ q knows. elim (word_or t q) [
      | inl within ↦ here q within knows
      | inr out ↦
          moved_beside step t (count_word (byte_words words) t) v q out
          ∙ (k.values.known i q v at_i
          (known_before step t (count_word (byte_words words) t) v can (length (byte_words words)) q well out knows)
          ∙ sym (get_or-set_other (byte_words words) (count_place t) q (stepped step (count_word (byte_words words) t)) 0
          (λ e. out (omega arith, omega arith))))
    ])
  where
    held : IsTitleHeld (total_of (shown words views)) t
    held = held_in_all words views i v t at_i (handle_held step t v can.0)

    well : IsWellFormed (length (byte_words words)) t
    well = k.holders.good.divided.well t held

    here : (q : ℕ) → IsWordOf t q → Knows (after_count step t (count_word (byte_words words) t) v) q →
        slice_index (moved step t (count_word (byte_words words) t) v).words q ≡ slice_index (after_words step t words) q
    here q within (inl raw) =
        let word = count_word (byte_words words) t in
        let moves = moved_changes step t word v (handle_piece step t v can.0) in
        let m = moved_holds step t word v can (RawByte (8 * q)) in
        let l = lost_raw step t moves.sealed moves.state (8 * q) in
        let g = gained_raw step t moves.sealed (stepped step word) (8 * q) in
        let all = held_within words views i v at_i (RawByte (8 * q)) in
        let none = raw_outside (byte_words words) (total_of (shown words views)) (8 * q) t k.holders.good held
        (word_covered (length (byte_words words)) t q well within) in
        absurd (omega arith)
    here q within (inr (inl free)) = elim (title_tells t free.0) [
      | inl y ↦ free_here step t words views i v k at_i can q within
          (subst (λ (z : Title). 0 < free_of (after_count step t (count_word (byte_words words) t) v) z) (sym y.1) free.1)
      | inr m ↦
          let e = (other_holds step t free.0 (count_word (byte_words words) t) v can m.1).0 in
          let has = free.1 in
          let f = frees_have v free.0 in
          let all = held_within words views i v at_i (FreeTitle free.0) in
          absurd (m.1 (k.holders.good.divided.apart t free.0 (8 * q) held (omega arith)
          (word_covered (length (byte_words words)) t q well within) free.2))
    ]
    here q within (inr (inr own)) = elim (title_tells t own.0) [
      | inl y ↦ own_here step t words views i v k at_i can q (subst (λ (z : Title). IsContentOf z (8 * q)) (sym y.1) own.2)
          (subst (λ (z : Title). 0 < own_of (after_count step t (count_word (byte_words words) t) v) z) (sym y.1) own.1)
      | inr m ↦
          let e = (other_holds step t own.0 (count_word (byte_words words) t) v can m.1).1 in
          let has = own.1 in
          let f = owns_have v own.0 in
          let all = held_within words views i v at_i (OwnOf own.0) in
          let high = own.2.1 in
          absurd (m.1 (k.holders.good.divided.apart t own.0 (8 * q) held (omega arith)
          (word_covered (length (byte_words words)) t q well within) (own.2.0, omega arith)))
    ]
