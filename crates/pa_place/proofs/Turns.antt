-- Where a span is in a list that is in the order of turns.
use Rattle.std.proofs.Common.{◌≡◌, ◌≢◌, ◌∙◌, ℕ, zero, suc, ◌+◌, ◌<◌, ◌≤◌, false, eqb, List, [], ◌∷◌, refl, sym, ap, subst, arith, inl, inr, Some}
use Rattle.std.specs.Prelude.{Contains, AllPairs, slice_get, remove}
use Rattle.std.proofs.lemmas.Bool.{cases_Bool, cases_lt, eqb-true, eq-eqb}
use Rattle.std.proofs.lemmas.Option.{slice_get_within, slice_get-get_or}
use Rattle.pa_record.specs.Spans.{Span}
use Rattle.pa_lists.proofs.Members.{of_some, not_some, first_in, later_in}
use Rattle.pa_lists.proofs.Pairs.{pairs_head, pairs_tail}
use Rattle.pa_place.specs.Listing.{IsSooner, IsInTurn, IsTurnCut, without_index}
use Rattle.pa_place.proofs.Searching.{pairs_at}
use Rattle.pa_place.proofs.Listing.{once_in_turn}
use Rattle.pa_lists.proofs.Indexed.{at_in, element_at}

-- a step of the search for a turn
pub turns_below : (ss : List Span) (turn : ℕ) (ids : List ℕ) (m i : ℕ) (v : Span) → IsInTurn ss ids → slice_get ids m ≡ Some i →
    slice_get ss i ≡ Some v → v.turn < turn →
    (k j : ℕ) (s : Span) → k < m + 1 → slice_get ids k ≡ Some j → slice_get ss j ≡ Some s → s.turn < turn
turns_below ss turn ids m i v h e f less k j s below g q = elim (cases_lt k m) [
  | inl before ↦
      let sooner = (pairs_at (IsSooner ss) ids k m j i h.order before g e) s v q f in
      omega arith
  | inr not_before ↦
      let same : k ≡ m = omega arith in
      let here : j ≡ i = of_some j i (sym g ∙ ap (slice_get ids) same ∙ e) in
      let t = ap (λ (z : Span). z.turn) (of_some s v (sym q ∙ ap (slice_get ss) here ∙ f)) in
      omega arith
]

pub turns_above : (ss : List Span) (turn : ℕ) (ids : List ℕ) (m i : ℕ) (v : Span) → IsInTurn ss ids → slice_get ids m ≡ Some i →
    slice_get ss i ≡ Some v → turn ≤ v.turn →
    (k j : ℕ) (s : Span) → m ≤ k → slice_get ids k ≡ Some j → slice_get ss j ≡ Some s → turn ≤ s.turn
turns_above ss turn ids m i v h e f more k j s above g q = elim (cases_lt m k) [
  | inl before ↦
      let sooner = (pairs_at (IsSooner ss) ids m k i j h.order before e g) v s f q in
      omega arith
  | inr not_before ↦
      let same : k ≡ m = omega arith in
      let here : j ≡ i = of_some j i (sym g ∙ ap (slice_get ids) same ∙ e) in
      let t = ap (λ (z : Span). z.turn) (of_some s v (sym q ∙ ap (slice_get ss) here ∙ f)) in
      omega arith
]

-- a span that is listed is at the cut of its turn
at_cut : (ss : List Span) (ids : List ℕ) (at k count : ℕ) (s : Span) → IsInTurn ss ids → IsTurnCut ss s.turn ids count →
    slice_get ss at ≡ Some s → slice_get ids k ≡ Some at → k ≡ count
at_cut ss ids at k count s h cut e f = elim (cases_lt k count) [
  | inl sooner ↦ let less = cut.before k at s sooner f e in omega arith
  | inr no_sooner ↦ elim (cases_lt count k) [
    | inl later ↦
        let within = slice_get_within ids k at f in
        let (i, g) = element_at ids count (omega arith) in
        let (v, q) = element_at ss i (h.within i (at_in ids count i g)) in
        let less = (pairs_at (IsSooner ss) ids count k i at h.order later g f) v s q e in
        let more = cut.after count i v (omega arith) g q in
        omega arith
    | inr no_later ↦ omega arith
  ]
]

not_same : (a b : ℕ) → a ≢ b → eqb a b ≡ false
not_same a b other = elim (cases_Bool (eqb a b)) [
  | inl hit ↦ absurd (other (eqb-true a b hit))
  | inr miss ↦ miss
]

-- if it is there the list without it is the list without that place
removed_at : (ids : List ℕ) (k i : ℕ) → AllPairs ◌≢◌ ids → slice_get ids k ≡ Some i → remove ids k ≡ without_index i ids
removed_at [] k i once e = absurd (not_some i e)
removed_at (j ∷ ids) zero i once e = rw (eq-eqb j i (of_some j i e)) refl
removed_at (j ∷ ids) (suc k) i once e =
    let other = not_same j i (pairs_head ◌≢◌ j i ids once (at_in ids k i e)) in
    rw other (ap (λ xs. j ∷ xs) (removed_at ids k i (pairs_tail ◌≢◌ j ids once) e))

pub removed_cut : (ss : List Span) (ids : List ℕ) (k i : ℕ) → IsInTurn ss ids → slice_get ids k ≡ Some i →
    remove ids k ≡ without_index i ids
removed_cut ss ids k i h e = removed_at ids k i (once_in_turn ss ids h) e

-- taking out an index that isn't in a list leaves the list as it is
absent_without : (i : ℕ) (ids : List ℕ) → (Contains ids i → ⊥) → ids ≡ without_index i ids
absent_without i [] away = refl
absent_without i (k ∷ ids) away = elim (cases_Bool (eqb k i)) [
  | inl hit ↦ absurd (away (subst (λ z. Contains (k ∷ ids) z) (eqb-true k i hit) (first_in k ids)))
  | inr miss ↦ rw miss (ap (λ xs. k ∷ xs) (absent_without i ids (λ among. away (later_in k i ids among))))
]

pub none_at_cut : (ss : List Span) (ids : List ℕ) (at count : ℕ) (s : Span) → IsInTurn ss ids → IsTurnCut ss s.turn ids count →
    slice_get ss at ≡ Some s → (slice_get ids count ≡ Some at → ⊥) →
    ids ≡ without_index at ids
none_at_cut ss ids at count s h cut e other = absent_without at ids (λ (k, below, f).
    let here : slice_get ids k ≡ Some at = slice_get-get_or ids k at below ∙ ap Some f in
    other (subst (λ n. slice_get ids n ≡ Some at) (at_cut ss ids at k count s h cut e here) here))
