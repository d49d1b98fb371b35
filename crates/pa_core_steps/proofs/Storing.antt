-- Values that are stored to the content of a title, word after word: of an Own that no raw_ptr shares, and of a free one.
use Rattle.std.proofs.Common.{◌≡◌, ℕ, zero, suc, ◌+◌, ◌-◌, ◌*◌, ◌/◌, ◌%◌, ◌<◌, ◌≤◌, Bool, true, false, [], ◌∷◌, length, get_or, set, refl, sym, ◌∙◌, ap, subst, arith, ◌⊎◌, inl, inr}
use Rattle.std.proofs.lemmas.Bool.{cases_eq}
use Rattle.pa_slot.specs.declared.word.Step.TheVariants.{Issue, Write}
use Rattle.pa_slot.specs.declared.title.Title.{Title}
use Rattle.pa_slot.specs.declared.title.OwnState.{OwnState}
use Rattle.pa_slot.specs.declared.title.OwnState.TheVariants.{Clean, Dirty}
use Rattle.pa_machine.specs.declared.event.Event.TheVariants.{Count, Store}
use Rattle.pa_slot.specs.Count.{CanStep, stepped, refs_of}
use Rattle.pa_slot.specs.Titles.{IsWellFormed, content_count, content_place, count_place, content_at, count_word, HasContentFrom, IsContentOf}
use Rattle.pa_slot.specs.Holdings.{FreePiece, OwnPiece, FreeTitle, OwnAs}
use Rattle.pa_machine.specs.Events.{State, HasActor, Holds, HoldsOpen, IsEnabled, IsSealedAs, Happens, IsAfter, words_stepped}
use Rattle.pa_machine.specs.Trail.{IsGoodState}
use Rattle.pa_machine.proofs.Amounts.{state_here, word_written, word_unwritten, content_written, content_other}
use Rattle.pa_core_steps.specs.Turns.{IsTurn, stores, issue_event, WritesCanHappen, IssuesCanHappen}
use Rattle.pa_core_steps.proofs.Possible.{lose_own, lose_free, lose_nothing}
use Rattle.pa_core_steps.proofs.Exchanging.{nothing_of, exchanges_both}
use Rattle.pa_core_steps.proofs.Turning.{turn_then, step_of, turn_good, turn_actor, turn_seal}
use Rattle.pa_core_steps.proofs.Handling.{content_stays}
use Rattle.pa_machine.proofs.Holding.{own_title, free_title}

-- the byte of content word i, and its word
byte_of : (n : ℕ) (t : Title) (i : ℕ) → IsWellFormed n t → i < content_count t →
    ((t.start + 8 * i) % 8 ≡ 0) × ((t.start + 8 * i) / 8 ≡ content_place t i) × IsContentOf t (t.start + 8 * i)
byte_of n t i well below =
    let a = well.start_aligned in let b = well.len_aligned in let c = well.long in
    (omega arith, omega arith, (omega arith, omega arith))

-- content word i is what it was to be
abbrev IsStored : State → State → Title → ℕ → ℕ → Type 0
IsStored s after t i value = (k : ℕ) → k < content_count t → (i ≤ k) ⊎ (content_at s.words t k ≡ value) → content_at after.words t k ≡ value

-- after one word was stored
one_stored : (s after : State) (t : Title) (i value : ℕ) → IsWellFormed (length s.words) t → i < content_count t →
    after.words ≡ set s.words (content_place t i) value →
    (k : ℕ) → k < content_count t → (k ≡ i) ⊎ (content_at s.words t k ≡ value) → content_at after.words t k ≡ value
one_stored s after t i value well below words k inside why =
    ap (λ ws. get_or ws (content_place t k) 0) words ∙ elim (cases_eq k i) [
      | inl same ↦ subst (λ (j : ℕ). content_at (set s.words (content_place t i) value) t j ≡ value) (sym same)
          (content_written s.words t value i well below)
      | inr other ↦ content_other s.words t value i k other ∙ elim why [ inl same ↦ absurd (other same) | inr had ↦ had ]
    ]

-- the words after one, if the word after it is stored
next_stored : (s mid after : State) (t : Title) (i value : ℕ) →
    ((k : ℕ) → k < content_count t → (k ≡ i) ⊎ (content_at s.words t k ≡ value) → content_at mid.words t k ≡ value) →
    IsStored mid after t (i + 1) value → IsStored s after t i value
next_stored s mid after t i value first rest k inside why = elim why [
  | inl from ↦ elim (cases_eq k i) [
    | inl same ↦ rest k inside (inr (first k inside (inl same)))
    | inr other ↦ rest k inside (inl (omega arith))
  ]
  | inr had ↦ rest k inside (inr (first k inside (inr had)))
]

-- one word of an Own
own_store : (s : State) (actor : ℕ) (t : Title) (sealed : Bool) (a : OwnState) (i value : ℕ) → IsGoodState s → HasActor s actor →
    HoldsOpen s actor t a → IsSealedAs s actor t sealed →
    refs_of (count_word s.words t) ≡ 0 → i < content_count t →
    (after : State) × IsTurn s actor t (OwnPiece sealed t a ∷ []) (OwnPiece sealed t Dirty ∷ []) (count_word s.words t)
    (stores 1 i actor t value) after
    × Holds after actor (OwnAs t Dirty)
    × ((k : ℕ) → k < content_count t → (k ≡ i) ⊎ (content_at s.words t k ≡ value) → content_at after.words t k ≡ value)
own_store s actor t sealed a i value good has holds seal alone below =
    let held = own_title s actor t a holds.1 in
    let well = good.divided.well t held in
    let at_byte = byte_of (length s.words) t i well below in
    let r = step_of s actor t (OwnPiece sealed t a ∷ []) (OwnPiece sealed t Dirty ∷ []) (content_place t i) value
    (Store actor (t.start + 8 * i) value) good held (omega arith, omega arith) has
    (lose_own s actor t sealed a good holds.1 seal) (has, at_byte.0, inr (inr (t, a, (holds, at_byte.2, alone))))
    (λ after h. inr (
      t,
      a,
      sealed,
      (holds, at_byte.2, alone),
      seal,
      subst (λ (p : ℕ). IsAfter s actor (OwnPiece sealed t a ∷ []) (OwnPiece sealed t Dirty ∷ []) (set s.words p value) after)
          (sym at_byte.1) h,
    )) in
    let g = r.1.gains (OwnAs t Dirty) in
    let one = state_here sealed t Dirty in (
      r.0,
      subst (λ (w : ℕ). IsTurn s actor t (OwnPiece sealed t a ∷ []) (OwnPiece sealed t Dirty ∷ []) w (stores 1 i actor t value) r.0)
          (word_unwritten s.words t value i below) r.1.turn,
      omega arith,
      one_stored s r.0 t i value well below r.1.words,
    )

-- the holder of a clean or dirty Own can store a value to every content word from i to the last, if no raw_ptr points to the slot
own_stores : (n : ℕ) (s : State) (actor : ℕ) (t : Title) (sealed : Bool) (a : OwnState) (i value : ℕ) → IsGoodState s →
    HasActor s actor → HoldsOpen s actor t a → IsSealedAs s actor t sealed →
    refs_of (count_word s.words t) ≡ 0 → i + suc n ≡ content_count t →
    (after : State) × IsTurn s actor t (OwnPiece sealed t a ∷ []) (OwnPiece sealed t Dirty ∷ []) (count_word s.words t)
    (stores (suc n) i actor t value) after
    × Holds after actor (OwnAs t Dirty) × IsStored s after t i value
own_stores zero s actor t sealed a i value good has holds seal alone last =
    let r = own_store s actor t sealed a i value good has holds seal alone (omega arith) in
    (r.0, r.1, r.2, λ k inside why. r.3 k inside (elim why [ inl from ↦ inl (omega arith) | inr had ↦ inr had ]))
own_stores (suc n) s actor t sealed a i value good has holds seal alone last =
    let r = own_store s actor t sealed a i value good has holds seal alone (omega arith) in
    let mid = r.0 in
    let word = r.1.word_left in
    let good2 = turn_good s mid actor t _ _ _ _ good r.1 in
    let has2 = turn_actor s mid actor t _ _ _ _ has r.1 in
    let seal2 = turn_seal s mid actor t sealed a Dirty _ _ has r.1 seal in
    let q = own_stores n mid actor t sealed Dirty (i + 1) value good2 has2 (inr refl, r.2) seal2 (ap refs_of word ∙ alone) (omega arith) in
    let turn = turn_then s mid q.0 actor t (OwnPiece sealed t a ∷ []) (OwnPiece sealed t Dirty ∷ []) (OwnPiece sealed t Dirty ∷ []) _ _
    (stores 1 i actor t value) (stores (suc n) (i + 1) actor t value) good r.1 q.1 in (
      q.0,
      subst (λ (w : ℕ). IsTurn s actor t (OwnPiece sealed t a ∷ []) (OwnPiece sealed t Dirty ∷ []) w
          (stores (suc (suc n)) i actor t value) q.0) word
          turn,
      q.2,
      next_stored s mid q.0 t i value r.3 q.3,
    )

-- one word of a free title
free_store : (s : State) (actor : ℕ) (t : Title) (i value : ℕ) → IsGoodState s → HasActor s actor → Holds s actor (FreeTitle t) →
    i < content_count t →
    (after : State) × IsTurn s actor t (FreePiece t ∷ []) (FreePiece t ∷ []) (count_word s.words t) (stores 1 i actor t value) after
    × Holds after actor (FreeTitle t)
    × ((k : ℕ) → k < content_count t → (k ≡ i) ⊎ (content_at s.words t k ≡ value) → content_at after.words t k ≡ value)
free_store s actor t i value good has holds below =
    let held = free_title s actor t holds in
    let well = good.divided.well t held in
    let at_byte = byte_of (length s.words) t i well below in
    let r = step_of s actor t [] [] (content_place t i) value (Store actor (t.start + 8 * i) value) good held (omega arith, omega arith) has
    (lose_nothing s actor) (has, at_byte.0, inr (inl (t, holds, at_byte.2)))
    (λ after h. inl (inr (t, holds, at_byte.2), subst (λ (p : ℕ). IsAfter s actor [] [] (set s.words p value) after) (sym at_byte.1) h)) in
    let turn = r.1.turn in
    let kept = turn.holdings.1 actor (FreeTitle t) has in
    let none_lost = nothing_of actor actor (FreeTitle t) in (
      r.0,
      record {
        run = turn.run;
        holdings = exchanges_both s.holdings r.0.holdings actor (FreePiece t ∷ []) turn.holdings;
        word_left = turn.word_left ∙ word_unwritten s.words t value i below;
        others = turn.others;
      },
      omega arith,
      one_stored s r.0 t i value well below r.1.words,
    )

free_stores : (n : ℕ) (s : State) (actor : ℕ) (t : Title) (i value : ℕ) → IsGoodState s → HasActor s actor → Holds s actor (FreeTitle t) →
    i + suc n ≡ content_count t →
    (after : State) × IsTurn s actor t (FreePiece t ∷ []) (FreePiece t ∷ []) (count_word s.words t) (stores (suc n) i actor t value) after
    × Holds after actor (FreeTitle t) × IsStored s after t i value
free_stores zero s actor t i value good has holds last =
    let r = free_store s actor t i value good has holds (omega arith) in
    (r.0, r.1, r.2, λ k inside why. r.3 k inside (elim why [ inl from ↦ inl (omega arith) | inr had ↦ inr had ]))
free_stores (suc n) s actor t i value good has holds last =
    let r = free_store s actor t i value good has holds (omega arith) in
    let mid = r.0 in
    let word = r.1.word_left in
    let good2 = turn_good s mid actor t _ _ _ _ good r.1 in
    let has2 = turn_actor s mid actor t _ _ _ _ has r.1 in
    let q = free_stores n mid actor t (i + 1) value good2 has2 r.2 (omega arith) in
    let turn = turn_then s mid q.0 actor t (FreePiece t ∷ []) (FreePiece t ∷ []) (FreePiece t ∷ []) _ _ (stores 1 i actor t value)
    (stores (suc n) (i + 1) actor t value) good r.1 q.1 in (
      q.0,
      subst (λ (w : ℕ). IsTurn s actor t (FreePiece t ∷ []) (FreePiece t ∷ []) w (stores (suc (suc n)) i actor t value) q.0) word turn,
      q.2,
      next_stored s mid q.0 t i value r.3 q.3,
    )

-- a title has content words
some_content : (n : ℕ) (t : Title) → IsWellFormed n t → (m : ℕ) × (suc m ≡ content_count t)
some_content n t well = let c = well.long in let b = well.len_aligned in (content_count t - 1, omega arith)

pub writes_can_happen : WritesCanHappen
writes_can_happen s actor t sealed value good has own seal alone can =
    let held = own_title s actor t Clean own in
    let some = some_content (length s.words) t (good.divided.well t held) in
    let n = some.0 in
    let r = own_stores n s actor t sealed Clean 0 value good has (inl refl, own) seal alone (omega arith) in
    let mid = r.0 in
    let word = r.1.word_left in
    let good2 = turn_good s mid actor t _ _ _ _ good r.1 in
    let has2 = turn_actor s mid actor t _ _ _ _ has r.1 in
    let held2 = own_title mid actor t Dirty r.2 in
    let seal2 = turn_seal s mid actor t sealed Clean Dirty _ _ has r.1 seal in
    let can2 = subst (λ (w : ℕ). CanStep Write w) (sym word) can in
    let v = stepped Write (count_word mid.words t) in
    let all : HasContentFrom mid.words t 0 value = λ k low inside. r.3 k inside (inl low) in
    let q = step_of mid actor t (OwnPiece sealed t Dirty ∷ []) (OwnPiece sealed t Clean ∷ []) (count_place t) v (Count actor t Write)
    good2 held2 (omega arith, omega arith) has2 (lose_own mid actor t sealed Dirty good2 r.2 seal2)
    (has2, ((Dirty, (inr refl, r.2)), ap refs_of word ∙ alone, (value, all)), can2)
    (λ after h. (Dirty, sealed, (inr refl, r.2), seal2, h)) in
    let left = word_written mid.words t v (good2.divided.well t held2) in
    let P : ℕ → Type 0 = λ w. IsTurn mid actor t (OwnPiece sealed t Dirty ∷ []) (OwnPiece sealed t Clean ∷ []) (stepped Write w)
    (Count actor t Write ∷ []) q.0 in
    let step : P (count_word mid.words t) =
    subst (λ (w : ℕ). IsTurn mid actor t (OwnPiece sealed t Dirty ∷ []) (OwnPiece sealed t Clean ∷ []) w (Count actor t Write ∷ []) q.0)
    {x = count_word (set mid.words (count_place t) v) t} left q.1.turn in (
      q.0,
      record {
        mid = mid;
        between = OwnPiece sealed t Dirty ∷ [];
        prepares = subst (λ (m : ℕ). IsTurn s actor t (OwnPiece sealed t Clean ∷ []) (OwnPiece sealed t Dirty ∷ []) (count_word s.words t)
            (stores m 0 actor t value) mid) some.1 r.1;
        steps = subst P word step;
      },
      content_stays mid q.0 t v q.1.words value all,
    )

-- an issue is enabled, and happens, alike for either Own
issue_enabled : (sealed : Bool) (s : State) (actor : ℕ) (t : Title) → IsEnabled (Count actor t Issue) s →
    IsEnabled (issue_event sealed actor t) s
issue_enabled true s actor t can = can
issue_enabled false s actor t can = can

issue_happens : (sealed : Bool) (s after : State) (actor : ℕ) (t : Title) →
    IsAfter s actor (FreePiece t ∷ []) (OwnPiece sealed t Clean ∷ []) (words_stepped Issue s t) after →
    Happens (issue_event sealed actor t) s after
issue_happens true s after actor t h = h
issue_happens false s after actor t h = h

pub issues_can_happen : IssuesCanHappen
issues_can_happen s actor t sealed good has free can =
    let held = free_title s actor t free in
    let some = some_content (length s.words) t (good.divided.well t held) in
    let n = some.0 in
    let r = free_stores n s actor t 0 0 good has free (omega arith) in
    let mid = r.0 in
    let word = r.1.word_left in
    let good2 = turn_good s mid actor t _ _ _ _ good r.1 in
    let has2 = turn_actor s mid actor t _ _ _ _ has r.1 in
    let held2 = free_title mid actor t r.2 in
    let can2 = subst (λ (w : ℕ). CanStep Issue w) (sym word) can in
    let v = stepped Issue (count_word mid.words t) in
    let all : HasContentFrom mid.words t 0 0 = λ k low inside. r.3 k inside (inl low) in
    let q = step_of mid actor t (FreePiece t ∷ []) (OwnPiece sealed t Clean ∷ []) (count_place t) v (issue_event sealed actor t)
    good2 held2 (omega arith, omega arith) has2 (lose_free mid actor t r.2) (issue_enabled sealed mid actor t (has2, (r.2, all), can2))
    (λ after h. issue_happens sealed mid after actor t h) in
    let left = word_written mid.words t v (good2.divided.well t held2) in
    let P : ℕ → Type 0 = λ w. IsTurn mid actor t (FreePiece t ∷ []) (OwnPiece sealed t Clean ∷ []) (stepped Issue w)
    (issue_event sealed actor t ∷ []) q.0 in
    let step : P (count_word mid.words t) =
    subst (λ (w : ℕ). IsTurn mid actor t (FreePiece t ∷ []) (OwnPiece sealed t Clean ∷ []) w (issue_event sealed actor t ∷ []) q.0) left
    q.1.turn in (
      q.0,
      record {
        mid = mid;
        between = FreePiece t ∷ [];
        prepares = subst (λ (m : ℕ). IsTurn s actor t (FreePiece t ∷ []) (FreePiece t ∷ []) (count_word s.words t)
            (stores m 0 actor t 0) mid) some.1 r.1;
        steps = subst P word step;
      },
      content_stays mid q.0 t v q.1.words 0 all,
    )
