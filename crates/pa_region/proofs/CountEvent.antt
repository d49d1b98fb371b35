-- A counted step is an enabled event of the core that is shown, and what it makes of contents.
use Rattle.std.proofs.Common.{◌≡◌, ℕ, ◌+◌, ◌*◌, ◌<◌, ◌≤◌, Bool, false, List, [], ◌∷◌, length, set, refl, sym, ◌∙◌, subst, arith, ◌⊎◌, inl, inr}
use Rattle.std.specs.Prelude.{if◌then◌else◌}
use Rattle.std.proofs.lemmas.Bool.{cases_lt}
use mathlib.Core.Option.{some}
use lib.ListN.{get_elem?}
use Rattle.pa_slot.specs.declared.title.Title.{Title}
use Rattle.pa_slot.specs.declared.title.OwnState.{OwnState}
use Rattle.pa_slot.specs.declared.title.OwnState.TheVariants.{Clean, Dirty, Poisoned}
use Rattle.pa_slot.specs.declared.word.Step.{Step}
use Rattle.pa_slot.specs.declared.word.Step.TheVariants.{Issue, Copy, Reset, Free, Write}
use Rattle.pa_machine.specs.declared.event.Event.TheVariants.{Count as CountEvent}
use Rattle.pa_slot.specs.Count.{stepped}
use Rattle.pa_slot.specs.Titles.{same_title, Covers, IsWellFormed, IsContentOf, content_count, content_place, content_at, count_place, count_word}
use Rattle.pa_slot.specs.Holdings.{OwnPiece, one, FreeTitle, OwnOf, OwnAs, SealedOwn, RefOf}
use Rattle.pa_machine.specs.Events.{State, CanCount as CoreCan, HoldsOpen, IsSealedAs, Holds, IsEnabled, Happens, IsAfter, returned_at}
use Rattle.pa_machine.specs.Trail.{KeepsContent, noted}
use Rattle.pa_slot.proofs.Same.{title_tells}
use Rattle.pa_slot.proofs.Arith.{held_small}
use Rattle.pa_machine.proofs.Amounts.{content_unwritten}
use Rattle.pa_machine.proofs.Happening.{own_state_is}
use Rattle.pa_machine.proofs.Noting.{keeps_content}
use Rattle.pa_region.specs.declared.view.View.{View}
use Rattle.pa_region.specs.Views.{held_of_view, byte_words, shown, free_of, own_as, own_of, unsealed_as, idle_of, HasTitle}
use Rattle.pa_region.specs.History.{content_of, content_by}
use Rattle.pa_region.specs.Rule.{IsKept}
use Rattle.pa_region.specs.Moves.{is_own_of, CanCount, value_of, after_count}
use Rattle.pa_region.proofs.Adding.{first_of}
use Rattle.pa_region.proofs.Pieces.{TakesOwn, TakesSeal, first_own, sealed_or_not, unsealed_alone, handle_piece, lost_by, gained_by, moved_changes, frees_have, held_within, owns_have, owns_as_have, seals_have, refs_have, idle_owns}
use Rattle.pa_region.proofs.Bytes.{bytes_set, held_in_all, place_below}
use Rattle.pa_region.proofs.Shown.{shown_actor, shown_held, is_after}
use Rattle.pa_region.proofs.LogPart.{history_by}
use Rattle.pa_region.proofs.Found.{handle_held, count_can}

-- a content word's first byte lies in its title, and the word is one of the content
pub content_covered : (n : ℕ) (t : Title) (j : ℕ) → IsWellFormed n t → j < content_count t → Covers t (8 * content_place t j) ×
    IsContentOf t (8 * content_place t j)
content_covered n t j well below =
    let a = well.start_aligned in let b = well.len_aligned in let c = well.long in
    ((omega arith, omega arith), (omega arith, omega arith))

-- what a view knows of its free title, and of its Own
pub free_known : (words : List ℕ) (views : List View) (i : ℕ) (v : View) (t : Title) → IsKept words views → get_elem? views i ≡ some v →
    0 < free_of v t →
    (j : ℕ) → j < content_count t → content_at v.words t j ≡ content_at (byte_words words) t j
free_known words views i v t k at_i has j below =
    let f = frees_have v t in
    let held = held_in_all words views i v t at_i (omega arith) in
    k.values.known i (content_place t j) v at_i
    (inr (inl (t, has, (content_covered (length (byte_words words)) t j (k.holders.good.divided.well t held) below).0)))

pub own_known : (words : List ℕ) (views : List View) (i : ℕ) (v : View) (t : Title) → IsKept words views → get_elem? views i ≡ some v →
    0 < own_of v t →
    (j : ℕ) → j < content_count t → content_at v.words t j ≡ content_at (byte_words words) t j
own_known words views i v t k at_i has j below =
    let f = owns_have v t in
    let held = held_in_all words views i v t at_i (omega arith) in
    k.values.known i (content_place t j) v at_i
    (inr (inr (t, has, (content_covered (length (byte_words words)) t j (k.holders.good.divided.well t held) below).1)))

-- an Own in a state, as the core holds it
pub own_held : (words : List ℕ) (views : List View) (i : ℕ) (v : View) (t : Title) (a : OwnState) → get_elem? views i ≡ some v →
    0 < own_as v t a →
    Holds (shown words views) i (OwnAs t a)
own_held words views i v t a at_i has =
    let s = shown_held words views i v at_i (OwnAs t a) in
    let e = owns_as_have v t a in
    omega arith

-- an Own that is clean or dirty
pub open_state : (words : List ℕ) (views : List View) (i : ℕ) (v : View) (t : Title) → get_elem? views i ≡ some v →
    0 < own_as v t Clean + own_as v t Dirty →
    (state : OwnState) × HoldsOpen (shown words views) i t state
open_state words views i v t at_i has = elim (cases_lt 0 (own_as v t Clean)) [
  | inl y ↦ (Clean, (inl refl, own_held words views i v t Clean at_i y))
  | inr n ↦ (Dirty, (inr refl, own_held words views i v t Dirty at_i (omega arith)))
]

-- a view has at most one Own of a title
pub own_few : (words : List ℕ) (views : List View) (i : ℕ) (v : View) (t : Title) → IsKept words views → get_elem? views i ≡ some v →
    own_of v t ≤ 1
own_few words views i v t k at_i = elim (cases_lt 0 (own_of v t)) [
  | inl y ↦
      let on = owns_have v t in
      let held = held_in_all words views i v t at_i (omega arith) in
      let word = k.holders.good.counted t held in
      let owns = word.owns in
      let small = held_small (count_word (byte_words words) t) in
      let within = held_within words views i v at_i (OwnOf t) in
      omega arith
  | inr n ↦ omega arith
]

-- an Own that is sealed or not, as the core holds it
pub seal_held : (words : List ℕ) (views : List View) (i : ℕ) (v : View) (t : Title) (sealed : Bool) → get_elem? views i ≡ some v →
    held_of_view v (SealedOwn t) ≡ one sealed → IsSealedAs (shown words views) i t sealed
seal_held words views i v t sealed at_i is = shown_held words views i v at_i (SealedOwn t) ∙ is

-- the core lets the view's actor make the step
core_can : (step : Step) (t : Title) (words : List ℕ) (views : List View) (i : ℕ) (v : View) → IsKept words views →
    get_elem? views i ≡ some v →
    CanCount step t v → CoreCan step (shown words views) i t
core_can Issue t words views i v k at_i can =
    let s = shown_held words views i v at_i (FreeTitle t) in
    let f = frees_have v t in
    let has = can.0 in
    (omega arith, λ j low below. sym (free_known words views i v t k at_i can.0 j below) ∙ can.3 j low below)
core_can Copy t words views i v k at_i can =
    elim (cases_lt 0 (unsealed_as v t Clean)) [
      | inl y ↦
          let few = own_few words views i v t k at_i in
          let own = sealed_or_not v t Clean in
          let least = own.0 in
          let s = seals_have v t in
          inl (
            own_held words views i v t Clean at_i (omega arith),
            seal_held words views i v t false at_i (s ∙ unsealed_alone v t y few),
          )
      | inr n ↦
          let s = shown_held words views i v at_i (RefOf t) in
          let r = refs_have v t in
          let has = can.0 in
          inr (omega arith)
    ]
core_can Reset t words views i v k at_i can =
    let s = shown_held words views i v at_i (RefOf t) in
    let r = refs_have v t in
    let has = can.0 in
    omega arith
core_can Free t words views i v k at_i can = own_held words views i v t (Poisoned (content_count t)) at_i can.0
core_can Write t words views i v k at_i can =
    let one_value = can.3 in
    let some_own = own_idle words views i v t can.0.0 in (
      (open_state words views i v t at_i can.0.1),
      (count_can Write t words views i v k at_i can).0.1,
      (one_value.0, λ j low below. sym (own_known words views i v t k at_i some_own j below) ∙ one_value.1 j low below),
    )
  where
    own_idle : (words : List ℕ) (views : List View) (i : ℕ) (v : View) (t : Title) → 0 < idle_of v t → 0 < own_of v t
    own_idle words views i v t some_idle = let e = owns_have v t in let h = idle_owns v t some_idle in omega arith

-- the state of an Own that a view has, as the core holds it
first_state : (words : List ℕ) (views : List View) (i : ℕ) (v : View) (t : Title) → get_elem? views i ≡ some v → 0 < own_of v t →
    (state : OwnState) × Holds (shown words views) i (OwnAs t state)
first_state words views i v t at_i has =
    let first = first_of (is_own_of t) v.owns has in
    let s = shown_held words views i v at_i (OwnAs t first.0.state) in
    let h = first_own t v first.0 first.1 in
    (first.0.state, omega arith)

-- a title that a view has, as the core holds it
pub title_in_core : (words : List ℕ) (views : List View) (i : ℕ) (v : View) (t : Title) → get_elem? views i ≡ some v → HasTitle v t →
    Holds (shown words views) i (FreeTitle t) ⊎
    (((state : OwnState) × Holds (shown words views) i (OwnAs t state)) ⊎ Holds (shown words views) i (RefOf t))
title_in_core words views i v t at_i has = elim (cases_lt 0 (free_of v t)) [
  | inl y ↦ let s = shown_held words views i v at_i (FreeTitle t) in let f = frees_have v t in inl (omega arith)
  | inr n ↦ elim (cases_lt 0 (own_of v t)) [
    | inl y ↦ inr (inl (first_state words views i v t at_i y))
    | inr m ↦ let s = shown_held words views i v at_i (RefOf t) in let r = refs_have v t in inr (inr (omega arith))
  ]
]

-- the words and views after the step
abbrev pub words_at : Step → Title → List ℕ → List ℕ
words_at step t words = set words (count_place t) (stepped step (count_word (byte_words words) t))

abbrev pub views_at : Step → Title → List ℕ → List View → ℕ → View → List View
views_at step t words views i v = set views i (after_count step t (count_word (byte_words words) t) v)

-- the state in which the step takes the Own is the one that the view has it in
pub state_is : (words : List ℕ) (views : List View) (i : ℕ) (v : View) (t : Title) (a b : OwnState) → IsKept words views →
    get_elem? views i ≡ some v →
    0 < held_of_view v (OwnAs t a) → Holds (shown words views) i (OwnAs t b) → a ≡ b
state_is words views i v t a b k at_i mine holds =
    let s = shown_held words views i v at_i (OwnAs t a) in
    own_state_is (shown words views) i i t a b k.holders.good (omega arith) holds

-- the words of the bytes after it
abbrev stepped_words : Step → Title → List ℕ → List ℕ
stepped_words p t words = set (byte_words words) (count_place t) (stepped p (count_word (byte_words words) t))

-- what the event makes of words and holdings
core_happens : (step : Step) (t : Title) (words : List ℕ) (views : List View) (i : ℕ) (v : View) → IsKept words views →
    get_elem? views i ≡ some v →
    CanCount step t v → Happens (CountEvent i t step) (shown words views) (shown (words_at step t words) (views_at step t words views i v))
core_happens step t words views i v k at_i can =
    let word = count_word (byte_words words) t in
    let m = moved_changes step t word v (handle_piece step t v can.0) in
    let few = own_few words views i v t k at_i in
    let held = held_in_all words views i v t at_i (handle_held step t v can.0) in
    let at_place = bytes_set words (count_place t) (stepped step word) (place_below words views t k held) in
    let after = is_after words (words_at step t words) views i v (after_count step t word v) (lost_by step t m.sealed m.state)
    (gained_by step t m.sealed (stepped step word)) at_i (λ x. m.changes x) in
    go step refl m.sealed m.state few m.takes m.seals
    (subst (λ (ws : List ℕ). IsAfter (shown words views) i (lost_by step t m.sealed m.state)
    (gained_by step t m.sealed (stepped step word)) ws (shown (words_at step t words) (views_at step t words views i v))) at_place after)
  where
    go : (p : Step) → p ≡ step → (sealed : Bool) (a : OwnState) → own_of v t ≤ 1 → TakesOwn p t a v → TakesSeal p t sealed v →
        IsAfter (shown words views) i (lost_by p t sealed a) (gained_by p t sealed (stepped p (count_word (byte_words words) t)))
        (stepped_words p t words) (shown (words_at step t words) (views_at step t words views i v)) →
        Happens (CountEvent i t p) (shown words views) (shown (words_at step t words) (views_at step t words views i v))
    go Issue e sealed a few takes seals h = h
    go Copy e sealed a few takes seals h = h
    go Reset e sealed a few takes seals h = h
    go Free e sealed a few takes seals h =
        let can_free : CanCount Free t v = subst (λ (p : Step). CanCount p t v) (sym e) can in
        let same = state_is words views i v t a (Poisoned (content_count t)) k at_i takes
        (own_held words views i v t (Poisoned (content_count t)) at_i can_free.0) in (
          sealed,
          seal_held words views i v t sealed at_i (seals few),
          subst (λ (s : OwnState). IsAfter (shown words views) i (OwnPiece sealed t s ∷ [])
              (returned_at (stepped Free (count_word (byte_words words) t)) t) (stepped_words Free t words)
              (shown (words_at step t words) (views_at step t words views i v))) same h,
        )
    go Write e sealed a few takes seals h =
        let can_write : CanCount Write t v = subst (λ (p : Step). CanCount p t v) (sym e) can in
        let unfrozen = open_state words views i v t at_i can_write.0.1 in
        let same = state_is words views i v t a unfrozen.0 k at_i takes unfrozen.1.1 in (
          unfrozen.0,
          sealed,
          unfrozen.1,
          seal_held words views i v t sealed at_i (seals few),
          subst (λ (s : OwnState). IsAfter (shown words views) i (OwnPiece sealed t s ∷ []) (OwnPiece sealed t Clean ∷ [])
              (stepped_words Write t words) (shown (words_at step t words) (views_at step t words views i v))) same h,
        )

-- a counted step is an enabled event of the core that is shown
pub count_event : (step : Step) (t : Title) (words : List ℕ) (views : List View) (i : ℕ) (v : View) → IsKept words views →
    get_elem? views i ≡ some v →
    CanCount step t v →
    IsEnabled (CountEvent i t step) (shown words views) ×
    Happens (CountEvent i t step) (shown words views) (shown (words_at step t words) (views_at step t words views i v))
count_event step t words views i v k at_i can = (
  (shown_actor words views i v at_i, core_can step t words views i v k at_i can, count_can step t words views i v k at_i can),
  core_happens step t words views i v k at_i can,
)

-- contents that are the same are kept
pub content_same : (s : State) (last now : Title → ℕ) → KeepsContent s last → ((t : Title) → last t ≡ now t) → KeepsContent s now
content_same s last now k same = subst (λ (f : Title → ℕ). KeepsContent s f) (λ i t. same t i) k

-- the words of the bytes after a step, and that its title's first content word stays
abbrev bytes_after : Step → Title → List ℕ → List ℕ
bytes_after p t words = byte_words (words_at p t words)

abbrev FirstStays : Step → Title → List ℕ → Type 0
FirstStays p t words = content_at (bytes_after p t words) t 0 ≡ content_at (byte_words words) t 0

-- after a counted step the content of each title is that of its history
pub count_content : (step : Step) (t : Title) (words : List ℕ) (views : List View) (i : ℕ) (v : View) (k : IsKept words views) →
    get_elem? views i ≡ some v →
    CanCount step t v →
    KeepsContent (shown (words_at step t words) (views_at step t words views i v))
    (λ u. content_of (history_by step t (value_of step t v) k.history u))
count_content step t words views i v k at_i can =
    let event = count_event step t words views i v k at_i can in
    content_same (shown (words_at step t words) (views_at step t words views i v)) _ _
    (keeps_content (CountEvent i t step) (shown words views) (shown (words_at step t words) (views_at step t words views i v))
    (λ u. content_of (k.history u)) k.holders.good event.0 event.1 k.content)
    (λ u. noted_is step can u (first step can))
  where
    first : (p : Step) → CanCount p t v → FirstStays p t words
    first p may =
        let held = held_in_all words views i v t at_i (handle_held p t v may.0) in
        let well = k.holders.good.divided.well t held in
        let long = well.long in
        rw (bytes_set words (count_place t) (stepped p (count_word (byte_words words) t)) (place_below words views t k held))
        (content_unwritten (byte_words words) t (stepped p (count_word (byte_words words) t)) 0 (omega arith))

    some_content : (p : Step) → CanCount p t v → 0 < content_count t
    some_content p may =
        let held = held_in_all words views i v t at_i (handle_held p t v may.0) in
        let well = k.holders.good.divided.well t held in
        let long = well.long in
        omega arith

    other : (p : Step) (value : ℕ) (u : Title) → content_by p value (content_of (k.history u)) ≡ content_of (k.history u) →
        content_of (k.history u) ≡ content_of (history_by p t value k.history u)
    other p value u same = elim (title_tells t u) [ inl y ↦ rw y.0 (sym same) | inr n ↦ rw n.0 refl ]

    chosen : (p : Step) (value a : ℕ) (u : Title) → a ≡ content_by p value (content_of (k.history u)) →
        (if same_title t u then a else content_of (k.history u)) ≡ content_of (history_by p t value k.history u)
    chosen p value a u same = elim (title_tells t u) [ inl y ↦ rw y.0 same | inr n ↦ rw n.0 refl ]

    noted_is : (p : Step) → CanCount p t v → (u : Title) → FirstStays p t words →
        noted (CountEvent i t p) (shown (words_at p t words) (views_at p t words views i v)) (λ z. content_of (k.history z)) u ≡ content_of
        (history_by p t (value_of p t v) k.history u)
    noted_is Issue may u e =
        chosen Issue 0 (content_at (bytes_after Issue t words) t 0) u
        (e ∙ (sym (free_known words views i v t k at_i may.0 0 (some_content Issue may)) ∙ may.3 0 (omega arith) (some_content Issue may)))
    noted_is Copy may u e = other Copy 0 u refl
    noted_is Reset may u e = other Reset 0 u refl
    noted_is Free may u e = other Free 0 u refl
    noted_is Write may u e =
        let idle = may.0.0 in
        let own = idle_owns v t may.0.0 in
        let have = owns_have v t in
        chosen Write (value_of Write t v) (content_at (bytes_after Write t words) t 0) u
        (e ∙ sym (own_known words views i v t k at_i (omega arith) 0 (some_content Write may)))
