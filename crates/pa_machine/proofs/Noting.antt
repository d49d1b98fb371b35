-- The content of a title is the one of its last Issue or Write.
use Rattle.std.proofs.Common.{◌≡◌, ℕ, ◌+◌, ◌*◌, ◌/◌, ◌%◌, ◌<◌, ◌≤◌, Bool, true, false, cond, List, [], ◌∷◌, length, set, refl, sym, ◌∙◌, subst, arith, ◌⊎◌, inl, inr}
use Rattle.std.proofs.lemmas.Bool.{cases_lt}
use Rattle.pa_slot.specs.declared.word.Step.TheVariants.{Issue, Copy, Reset, Free, Write}
use Rattle.pa_slot.specs.declared.title.Title.{Title}
use Rattle.pa_slot.specs.declared.title.OwnState.{OwnState}
use Rattle.pa_slot.specs.declared.title.OwnState.TheVariants.{Clean, Dirty, Poisoned}
use Rattle.pa_machine.specs.declared.event.Event.{Event}
use Rattle.pa_machine.specs.declared.event.Event.TheVariants.{Count, Sealed, Store, Poison, Load, Hand, Cut, Uncut}
use Rattle.pa_slot.specs.Count.{stepped}
use Rattle.pa_slot.specs.Titles.{Covers, IsWellFormed, content_count, content_place, count_place, content_at, count_word, progress, poison, HasContentFrom, same_title}
use Rattle.pa_slot.specs.Holdings.{Piece, RawPiece, FreePiece, OwnPiece, Thing, RawByte, FreeTitle, OwnOf, OwnAs, SealedOwn, RefOf, IsTitleHeld, held_in}
use Rattle.pa_machine.specs.Events.{State, HasActor, total_of, IsEnabled, IsAfter, Happens, piece_of, words_stepped, returned_at, IsOwnWord, IsRawWord, IsFreeWord}
use Rattle.pa_machine.specs.Trail.{IsGoodState, KeepsContent, noted}
use Rattle.pa_slot.proofs.Same.{title_tells, title_self}
use Rattle.pa_machine.proofs.Totals.{IsTally, tally_of, total_exchanged}
use Rattle.pa_machine.proofs.Parts.{Changes, IsUntouched, untouched_by_write, IsChangeAt, change_untouched, change_held, IsNoneOf, free_none, raw_none, word_covered}
use Rattle.pa_machine.proofs.Amounts.{content_other, content_unwritten, state_apart, own_self, returned_cases}
use Rattle.pa_machine.proofs.Storing.{restated, one_state}
use Rattle.pa_machine.proofs.Cutting.{cut_unheld, cut_untouched, free_alone}
use Rattle.pa_machine.proofs.Keeps.{issue_change, copy_change, reset_change, free_change, restate_change, nil_change, content_index, own_of_state}
use Rattle.pa_machine.proofs.Happening.{after_changes, in_total, few_owns, own_state_is}

-- what the content sentence says of one title
pub record IsNoted (words : List ℕ) (total : Thing → ℕ) (t : Title) (value : ℕ) : Type 0 where
  pub clean : 0 < total (OwnAs t Clean) → HasContentFrom words t 0 value
  pub beyond : (j : ℕ) → 0 < total (RefOf t) → 0 < total (OwnAs t (Poisoned j)) → HasContentFrom words t j value

noted_of : (s : State) (last : Title → ℕ) (t : Title) → KeepsContent s last → IsNoted s.words (total_of s) t (last t)
noted_of s last t k = record { clean = k.clean t; beyond = k.beyond t }

-- the value that was noted for a title goes over if the title is untouched
untouched_noted : (words : List ℕ) (total : Thing → ℕ) (words_after : List ℕ) (later : Thing → ℕ) (t : Title) (value : ℕ) →
    IsNoted words total t value → IsUntouched words total words_after later t → IsNoted words_after later t value
untouched_noted words total words_after later t value k u = record {
  clean = λ h.
      let e = u.state Clean in
      let before : 0 < total (OwnAs t Clean) = omega arith in
      λ i low below. u.content i below ∙ k.clean before i low below;
  beyond = λ j r h.
      let e = u.state (Poisoned j) in
      let f = u.ref in
      let before : 0 < total (OwnAs t (Poisoned j)) = omega arith in
      let refs : 0 < total (RefOf t) = omega arith in
      λ i low below. u.content i below ∙ k.beyond j refs before i low below;
}

-- a title that has no Own says nothing
unowned_noted : (words : List ℕ) (total : Thing → ℕ) (t : Title) (value : ℕ) → IsTally total → total (OwnOf t) ≡ 0 →
    IsNoted words total t value
unowned_noted words total t value tally none = record {
  clean = λ h. let p = tally.part t Clean in absurd (omega arith);
  beyond = λ j r h. let p = tally.part t (Poisoned j) in absurd (omega arith);
}

-- the sentence of all titles, by one title and the others
all_noted : (after : State) (later : Title → ℕ) →
    ((t : Title) → 0 < total_of after (OwnOf t) → IsNoted after.words (total_of after) t (later t)) → KeepsContent after later
all_noted after later each = record {
  clean = λ t h. (each t (own_of_state (total_of after) t Clean (tally_of after.holdings) h)).clean h;
  beyond = λ t j r h. (each t (own_of_state (total_of after) t (Poisoned j) (tally_of after.holdings) h)).beyond j r h;
}

-- after a change at one title it holds of the others by what held before, and of the title by a proof of its own
change_noted : (s after : State) (last later : Title → ℕ) (t : Title) (lost gained : List Piece) (p v : ℕ) → IsGoodState s →
    KeepsContent s last →
    after.words ≡ set s.words p v → IsTitleHeld (total_of s) t → IsChangeAt s.words (total_of s) (total_of after) t lost gained p →
    ((u : Title) → (t ≡ u → ⊥) → later u ≡ last u) → IsNoted (set s.words p v) (total_of after) t (later t) → KeepsContent after later
change_noted s after last later t lost gained p v g k words held c same here =
    all_noted after later (λ u own. rw words (elim (title_tells t u) [
      | inl y ↦ subst (λ (x : Title). IsNoted (set s.words p v) (total_of after) x (later x)) y.1 here
      | inr n ↦
          let e = change_held s.words (total_of s) (total_of after) t lost gained p c u n.1 in
          rw (same u n.1) (untouched_noted s.words (total_of s) (set s.words p v) (total_of after) u (last u) (noted_of s last u k)
          (change_untouched s.words (total_of s) (total_of after) t lost gained p v g.divided held c u n.1 (omega arith)))
    ]))

-- if nothing is noted, the values stay
other_value : (t u : Title) (a b : ℕ) → (t ≡ u → ⊥) → cond (same_title t u) a b ≡ b
other_value t u a b ne = elim (title_tells t u) [ inl y ↦ absurd (ne y.1) | inr n ↦ rw n.0 refl ]

own_value : (t : Title) (a b : ℕ) → cond (same_title t t) a b ≡ a
own_value t a b = rw (title_self t) refl

-- words that are all equal have the value of the first
uniform_first : (n : ℕ) (words : List ℕ) (t : Title) (value : ℕ) → IsWellFormed n t → HasContentFrom words t 0 value →
    HasContentFrom words t 0 (content_at words t 0)
uniform_first n words t value well h =
    let long = well.long in
    let first = h 0 (omega arith) (omega arith) in
    λ i low below. h i low below ∙ sym first

-- the content words beside a written count word
beside : (words : List ℕ) (t : Title) (v j value : ℕ) → HasContentFrom words t j value →
    HasContentFrom (set words (count_place t) v) t j value
beside words t v j value h = λ i low below. content_unwritten words t v i below ∙ h i low below

-- an issue, sealed or not
issue_noted : (sealed : Bool) (s after : State) (actor : ℕ) (t : Title) (last : Title → ℕ) → IsGoodState s →
    IsEnabled (Count actor t Issue) s →
    IsAfter s actor (FreePiece t ∷ []) (OwnPiece sealed t Clean ∷ []) (words_stepped Issue s t) after → KeepsContent s last →
    KeepsContent after (noted (Count actor t Issue) after last)
issue_noted sealed s after actor t last g can h k =
    let c = after_changes s after actor _ _ _ can.0 h in
    let has = in_total s actor (FreeTitle t) can.1.0 in
    let held : IsTitleHeld (total_of s) t = omega arith in
    let alone = free_alone s.words (total_of s) t g has in
    let none = alone.2 in
    let a = c (OwnOf t) in
    let o = own_self sealed t Clean in
    let one_own : total_of after (OwnOf t) ≡ 1 = omega arith in
    let v = stepped Issue (count_word s.words t) in
    change_noted s after last (noted (Count actor t Issue) after last) t _ _ (count_place t) v g k h.words held
    (issue_change sealed s.words (total_of s) (total_of after) t c)
    (λ u ne. other_value t u _ _ ne)
    (rw (own_value t (content_at after.words t 0) (last t)) (record {
      clean = λ _. rw h.words (uniform_first (length s.words) (set s.words (count_place t) v) t 0 (g.divided.well t held)
          (beside s.words t v 0 0 can.1.1));
      beyond = λ j r x.
          let m = c (OwnAs t (Poisoned j)) in
          let n = state_apart sealed t Clean (Poisoned j) (λ q. cc) in
          let p = (tally_of s.holdings).part t (Poisoned j) in
          absurd (omega arith);
    }))

write_noted : (s after : State) (actor : ℕ) (t : Title) (last : Title → ℕ) → IsGoodState s → IsEnabled (Count actor t Write) s →
    Happens (Count actor t Write) s after → KeepsContent s last → KeepsContent after (noted (Count actor t Write) after last)
write_noted s after actor t last g can h k =
    let state = h.0 in
    let c = after_changes s after actor _ _ _ can.0 h.4 in
    let has = in_total s actor (OwnAs t state) h.2.1 in
    let owned = own_of_state (total_of s) t state (tally_of s.holdings) has in
    let held : IsTitleHeld (total_of s) t = omega arith in
    let few = few_owns s t g owned in
    let r = restated h.1 (total_of s) (total_of after) t state Clean has c in
    let own = r.own in
    let now = r.now in
    let few_after : total_of after (OwnOf t) ≤ 1 = omega arith in
    let v = stepped Write (count_word s.words t) in
    change_noted s after last (noted (Count actor t Write) after last) t _ _ (count_place t) v g k h.4.words held
    (restate_change h.1 s.words (total_of s) (total_of after) t state Clean (count_place t) c (omega arith, omega arith))
    (λ u ne. other_value t u _ _ ne)
    (rw (own_value t (content_at after.words t 0) (last t)) (record {
      clean = λ _. rw h.4.words
          (uniform_first (length s.words) (set s.words (count_place t) v) t can.1.2.0 (g.divided.well t held)
          (beside s.words t v 0 can.1.2.0 can.1.2.1));
      beyond = λ j refs x. let e = one_state (total_of after) t Clean (Poisoned j) (tally_of after.holdings) few_after now x in cc;
    }))

copy_noted : (s after : State) (actor : ℕ) (t : Title) (last : Title → ℕ) → IsGoodState s → IsEnabled (Count actor t Copy) s →
    Happens (Count actor t Copy) s after → KeepsContent s last → KeepsContent after last
copy_noted s after actor t last g can h k =
    let c = after_changes s after actor _ _ _ can.0 h in
    let held : IsTitleHeld (total_of s) t = elim can.1 [
      | inl o ↦ let p = own_of_state (total_of s) t Clean (tally_of s.holdings) (in_total s actor (OwnAs t Clean) o.0) in omega arith
      | inr r ↦ let p = in_total s actor (RefOf t) r in omega arith
    ] in
    let v = stepped Copy (count_word s.words t) in
    change_noted s after last last t _ _ (count_place t) v g k h.words held
    (copy_change s.words (total_of s) (total_of after) t c)
    (λ u ne. refl)
    (record {
      clean = λ x. let m = c (OwnAs t Clean) in beside s.words t v 0 (last t) (k.clean t (omega arith));
      beyond = λ j r x.
          let m = c (OwnAs t (Poisoned j)) in
          let before : 0 < total_of s (OwnAs t (Poisoned j)) = omega arith in
          elim can.1 [
            | inl o ↦
                let own = in_total s actor (OwnAs t Clean) o.0 in
                let few = few_owns s t g (own_of_state (total_of s) t Clean (tally_of s.holdings) own) in
                let e = one_state (total_of s) t Clean (Poisoned j) (tally_of s.holdings) few own before in
                absurd cc
            | inr ref ↦ beside s.words t v j (last t) (k.beyond t j (in_total s actor (RefOf t) ref) before)
          ];
    })

-- what is given back has no Own
pub returned_owns : (v : ℕ) (t : Title) → held_in (returned_at v t) (OwnOf t) ≡ 0
returned_owns v t = elim (returned_cases v t) [ inl y ↦ rw y.1 refl | inr n ↦ rw n.1 refl ]

pub returned_states : (v : ℕ) (t : Title) (a : OwnState) → held_in (returned_at v t) (OwnAs t a) ≡ 0
returned_states v t a = elim (returned_cases v t) [ inl y ↦ rw y.1 refl | inr n ↦ rw n.1 refl ]

reset_noted : (s after : State) (actor : ℕ) (t : Title) (last : Title → ℕ) → IsGoodState s → IsEnabled (Count actor t Reset) s →
    Happens (Count actor t Reset) s after → KeepsContent s last → KeepsContent after last
reset_noted s after actor t last g can h k =
    let v = stepped Reset (count_word s.words t) in
    let c = after_changes s after actor _ _ _ can.0 h in
    let has = in_total s actor (RefOf t) can.1 in
    let held : IsTitleHeld (total_of s) t = omega arith in
    let none : (a : OwnState) → held_in (returned_at v t) (OwnAs t a) ≡ 0 = λ a. returned_states v t a in
    change_noted s after last last t _ _ (count_place t) v g k h.words held
    (reset_change s.words (total_of s) (total_of after) t v c)
    (λ u ne. refl)
    (record {
      clean = λ x. let m = c (OwnAs t Clean) in let n = none Clean in beside s.words t v 0 (last t) (k.clean t (omega arith));
      beyond = λ j r x. let m = c (OwnAs t (Poisoned j)) in let n = none (Poisoned j) in
          beside s.words t v j (last t) (k.beyond t j has (omega arith));
    })

free_noted : (s after : State) (actor : ℕ) (t : Title) (last : Title → ℕ) → IsGoodState s → IsEnabled (Count actor t Free) s →
    Happens (Count actor t Free) s after → KeepsContent s last → KeepsContent after last
free_noted s after actor t last g can h k =
    let v = stepped Free (count_word s.words t) in
    let c = after_changes s after actor _ _ _ can.0 h.2 in
    let has = in_total s actor (OwnAs t (Poisoned (content_count t))) can.1 in
    let owned = own_of_state (total_of s) t (Poisoned (content_count t)) (tally_of s.holdings) has in
    let held : IsTitleHeld (total_of s) t = omega arith in
    let few = few_owns s t g owned in
    let a = c (OwnOf t) in
    let o = own_self h.0 t (Poisoned (content_count t)) in
    let n = returned_owns v t in
    change_noted s after last last t _ _ (count_place t) v g k h.2.words held
    (free_change h.0 s.words (total_of s) (total_of after) t v c)
    (λ u ne. refl)
    (unowned_noted (set s.words (count_place t) v) (total_of after) t (last t) (tally_of after.holdings) (omega arith))

store_own_noted : (sealed : Bool) (s after : State) (actor at_byte value : ℕ) (last : Title → ℕ) (t : Title) (state : OwnState) →
    IsGoodState s →
    HasActor s actor → at_byte % 8 ≡ 0 →
    IsOwnWord s actor at_byte t state →
    IsAfter s actor (OwnPiece sealed t state ∷ []) (OwnPiece sealed t Dirty ∷ []) (set s.words (at_byte / 8) value) after →
    KeepsContent s last → KeepsContent after last
store_own_noted sealed s after actor at_byte value last t state g has_actor aligned word h k =
    let c = after_changes s after actor _ _ _ has_actor h in
    let has = in_total s actor (OwnAs t state) word.0.1 in
    let owned = own_of_state (total_of s) t state (tally_of s.holdings) has in
    let held : IsTitleHeld (total_of s) t = omega arith in
    let few = few_owns s t g owned in
    let r = restated sealed (total_of s) (total_of after) t state Dirty has c in
    let own = r.own in
    let now = r.now in
    let few_after : total_of after (OwnOf t) ≤ 1 = omega arith in
    let i = content_index (length s.words) t at_byte (g.divided.well t held) aligned word.1 in
    let place = i.1 in let below = i.2 in
    change_noted s after last last t _ _ (at_byte / 8) value g k h.words held
    (restate_change sealed s.words (total_of s) (total_of after) t state Dirty (at_byte / 8) c (omega arith, omega arith))
    (λ u ne. refl)
    (record {
      clean = λ x. let e = one_state (total_of after) t Dirty Clean (tally_of after.holdings) few_after now x in absurd cc;
      beyond = λ j refs x. let e = one_state (total_of after) t Dirty (Poisoned j) (tally_of after.holdings) few_after now x in absurd cc;
    })

store_plain_noted : (s after : State) (actor at_byte value : ℕ) (last : Title → ℕ) → IsGoodState s → HasActor s actor → at_byte % 8 ≡ 0 →
    IsRawWord s actor at_byte ⊎ IsFreeWord s actor at_byte → IsAfter s actor [] [] (set s.words (at_byte / 8) value) after →
    KeepsContent s last → KeepsContent after last
store_plain_noted s after actor at_byte value last g has_actor aligned (inl raw) h k =
    let c = after_changes s after actor [] [] _ has_actor h in
    let e : 8 * (at_byte / 8) ≡ at_byte = omega arith in
    let is_raw = in_total s actor (RawByte at_byte) (raw at_byte (omega arith) (omega arith)) in
    all_noted after last (λ u own. rw h.words (
    let a = c (FreeTitle u) in let b = c (OwnOf u) in let d = c (RefOf u) in
    let held : IsTitleHeld (total_of s) u = omega arith in
    untouched_noted s.words (total_of s) (set s.words (at_byte / 8) value) (total_of after) u (last u) (noted_of s last u k)
    (untouched_by_write s.words (total_of s) (total_of after) u (at_byte / 8) value
    (λ within. raw_in_none s u at_byte g is_raw held
    (rw e at (word_covered (length s.words) u (at_byte / 8) (g.divided.well u held) within)))
    (omega arith) (omega arith) (omega arith) (let m = c (SealedOwn u) in omega arith) (λ q. let m = c (OwnAs u q) in omega arith))))
  where
    raw_in_none : (s : State) (u : Title) (b : ℕ) → IsGoodState s → 0 < total_of s (RawByte b) → IsTitleHeld (total_of s) u → Covers u b → ⊥
    raw_in_none s u b g raw held covers = elim (cases_lt b (8 * length s.words)) [
      | inl below ↦ elim (g.divided.bytes b below) [ inl r ↦ r.1 u held covers | inr r ↦ let z = r.0 in omega arith ]
      | inr past ↦ let z = g.divided.outside b past in omega arith
    ]
store_plain_noted s after actor at_byte value last g has_actor aligned (inr free) h k =
    let c = after_changes s after actor [] [] _ has_actor h in
    let t = free.0 in
    let has = in_total s actor (FreeTitle t) free.1 in
    let held : IsTitleHeld (total_of s) t = omega arith in
    let i = content_index (length s.words) t at_byte (g.divided.well t held) aligned free.2 in
    let place = i.1 in let below = i.2 in
    let none = (free_alone s.words (total_of s) t g has).2 in
    let a = c (OwnOf t) in
    change_noted s after last last t _ _ (at_byte / 8) value g k h.words held
    (nil_change s.words (total_of s) (total_of after) t (at_byte / 8) c (omega arith, omega arith))
    (λ u ne. refl)
    (unowned_noted (set s.words (at_byte / 8) value) (total_of after) t (last t) (tally_of after.holdings) (omega arith))

-- beyond its progress an Own has the value while there are Refs
noted_so_far : (s : State) (last : Title → ℕ) (t : Title) (state : OwnState) → IsGoodState s → KeepsContent s last →
    IsTitleHeld (total_of s) t →
    0 < total_of s (RefOf t) → 0 < total_of s (OwnAs t state) → HasContentFrom s.words t (progress state) (last t)
noted_so_far s last t Clean g k held refs has = k.clean t has
noted_so_far s last t (Poisoned j) g k held refs has = k.beyond t j refs has
noted_so_far s last t Dirty g k held refs has =
    let counts = (g.counted t held).refs in
    elim ((g.content_kept t held).shared Dirty (omega arith) has) [ inl e ↦ absurd cc | inr p ↦ let e = p.1 in absurd cc ]

poison_noted : (s after : State) (actor : ℕ) (t : Title) (last : Title → ℕ) → IsGoodState s → IsEnabled (Poison actor t) s →
    Happens (Poison actor t) s after → KeepsContent s last → KeepsContent after last
poison_noted s after actor t last g can h k =
    let state = h.0 in
    let next = Poisoned (progress state + 1) in
    let same = own_state_is s actor actor t can.1.0 state g can.1.1 h.2 in
    let room : progress state < content_count t = rw (← same) can.1.2 in
    let c = after_changes s after actor _ _ _ can.0 h.4 in
    let has = in_total s actor (OwnAs t state) h.2 in
    let owned = own_of_state (total_of s) t state (tally_of s.holdings) has in
    let held : IsTitleHeld (total_of s) t = omega arith in
    let few = few_owns s t g owned in
    let r = restated h.1 (total_of s) (total_of after) t state next has c in
    let own = r.own in
    let now = r.now in
    let ref = r.ref in
    let few_after : total_of after (OwnOf t) ≤ 1 = omega arith in
    change_noted s after last last t _ _ (content_place t (progress state)) poison g k h.4.words held
    (restate_change h.1 s.words (total_of s) (total_of after) t state next (content_place t (progress state)) c (omega arith, omega arith))
    (λ u ne. refl)
    (record {
      clean = λ x. let e = one_state (total_of after) t next Clean (tally_of after.holdings) few_after now x in absurd cc;
      beyond = λ j refs x.
          let e = one_state (total_of after) t next (Poisoned j) (tally_of after.holdings) few_after now x in
          let f : progress state + 1 ≡ j = cc in
          let values = noted_so_far s last t state g k held (omega arith) has in
          λ i low below. content_other s.words t poison (progress state) i (λ q. omega arith) ∙ values i (omega arith) below;
    })

-- nothing changes in sum, or a title comes or goes that has no Own
same_noted : (s after : State) (last : Title → ℕ) → after.words ≡ s.words → ((x : Thing) → total_of after x ≡ total_of s x) →
    KeepsContent s last → KeepsContent after last
same_noted s after last words same k = all_noted after last (λ u own. rw words (
    untouched_noted s.words (total_of s) s.words (total_of after) u (last u) (noted_of s last u k) (record {
      free = same (FreeTitle u);
      own = same (OwnOf u);
      ref = same (RefOf u);
      seal = same (SealedOwn u);
      state = λ a. same (OwnAs u a);
      word = refl;
      content = λ i below. refl;
    })))

cut_noted : (s after : State) (last : Title → ℕ) (t : Title) (lost gained : List Piece) → after.words ≡ s.words → total_of s (OwnOf t) ≡ 0 →
    Changes (total_of s) lost gained (total_of after) → held_in gained (OwnOf t) ≡ 0 →
    ((u : Title) → (t ≡ u → ⊥) → IsNoneOf lost u) → ((u : Title) → (t ≡ u → ⊥) → IsNoneOf gained u) → KeepsContent s last →
    KeepsContent after last
cut_noted s after last t lost gained words none c nothing l g k = all_noted after last (λ u own. rw words (elim (title_tells t u) [
  | inl y ↦
      let e = c (OwnOf t) in
      let own_t : 0 < total_of after (OwnOf t) = rw y.1 own in
      absurd (omega arith)
  | inr n ↦ untouched_noted s.words (total_of s) s.words (total_of after) u (last u) (noted_of s last u k)
      (cut_untouched s.words (total_of s) (total_of after) u lost gained (l u n.1) (g u n.1) c)
]))

pub keeps_content : (e : Event) (s after : State) (last : Title → ℕ) → IsGoodState s → IsEnabled e s → Happens e s after →
    KeepsContent s last → KeepsContent after (noted e after last)
keeps_content (Count actor t Issue) s after last g can h k = issue_noted false s after actor t last g can h k
keeps_content (Sealed actor t) s after last g can h k = issue_noted true s after actor t last g can h k
keeps_content (Count actor t Copy) s after last g can h k = copy_noted s after actor t last g can h k
keeps_content (Count actor t Reset) s after last g can h k = reset_noted s after actor t last g can h k
keeps_content (Count actor t Free) s after last g can h k = free_noted s after actor t last g can h k
keeps_content (Count actor t Write) s after last g can h k = write_noted s after actor t last g can h k
keeps_content (Store actor at_byte value) s after last g can (inl plain) k =
    store_plain_noted s after actor at_byte value last g can.0 can.1 plain.0 plain.1 k
keeps_content (Store actor at_byte value) s after last g can (inr own) k =
    store_own_noted own.2 s after actor at_byte value last own.0 own.1 g can.0 can.1 own.3 own.5 k
keeps_content (Poison actor t) s after last g can h k = poison_noted s after actor t last g can h k
keeps_content (Load actor at_byte) s after last g can h k = rw h k
keeps_content (Hand from to item) s after last g can h k =
    same_noted s after last h.0
    (λ x. let e = total_exchanged s.holdings after.holdings from to (piece_of h.1.0 item ∷ []) (piece_of h.1.0 item ∷ []) h.1.2 can.0
    can.1 x in
    omega arith) k
keeps_content (Cut actor t) s after last g can h k =
    cut_noted s after last t (RawPiece t.start t.len ∷ []) (FreePiece t ∷ []) h.words
    (elim (cases_lt 0 (total_of s (OwnOf t))) [
      | inl own ↦ absurd (cut_unheld s.words (total_of s) t g.divided
          (record {
            raw = λ b low high. in_total s actor (RawByte b) (can.1 b low high);
            start_aligned = can.2;
            len_aligned = can.3;
            long = can.4;
            word = can.5;
          })
          (omega arith))
      | inr none ↦ omega arith
    ])
    (after_changes s after actor _ _ _ can.0 h) refl (λ u ne. raw_none t.start t.len u) (free_none t) k
keeps_content (Uncut actor t) s after last g can h k =
    cut_noted s after last t (FreePiece t ∷ []) (RawPiece t.start t.len ∷ []) h.words
    (free_alone s.words (total_of s) t g (in_total s actor (FreeTitle t) can.1)).2
    (after_changes s after actor _ _ _ can.0 h) refl (free_none t) (λ u ne. raw_none t.start t.len u) k
