-- What a store of spans has of a root's spans after one of them changed, or entered a state.
use Rattle.std.proofs.Common.{◌≡◌, ◌≢◌, ℕ, ◌⊎◌, inl, inr, Bool, true, false, ◌==◌, ◌&&◌, nat_lt, if◌then◌else◌, List, refl, sym, ◌∙◌, ap, subst}
use Rattle.std.specs.Prelude.{Contains}
use Rattle.std.proofs.lemmas.Bool.{cases_Bool, both_ways}
use Rattle.std.proofs.lemmas.Bool.Decides.{eqb_tells}
use Rattle.pa_buckets.specs.declared.spans.State.{State}
use Rattle.pa_record.specs.Spans.{Span, same_place, same_state, put}
use Rattle.pa_record.specs.Root.{in_state}
use Rattle.pa_record.proofs.Places.{place_from, place_tells, put_cases, put_keeps, put_there, put_elsewhere}
use Rattle.pa_spans.specs.declared.span.Span.{Span as SpanRecord}
use Rattle.pa_spans.specs.Lists.{SpanListParts, IsInUse, list_head, with_next, with_previous, without, in_front, in_front_of, lists_without, spans_entered}
use Rattle.pa_records.specs.Records.{record_with}
use Rattle.pa_records.specs.Stored.{alone, AreStored, IsStoredFor}

-- what the store has of a span that isn't the one which changed
elsewhere_too : (ss : List Span) (s t u : Span) → ((a b : Span) → Contains ss a → Contains ss b → a.place ≡ b.place → a ≡ b) →
    t.place ≡ s.place →
    t.born ≡ s.born → Contains ss s → Contains ss u → same_place u t ≡ false → u.place ≢ s.place
elsewhere_too ss s t u one place born among inside far same =
    let e = one u s inside among same in
    both_ways _ far (place_from u t (same ∙ sym place) (ap (λ (z : Span). z.born) e ∙ sym born))

-- the span t is in the place of s
pub put_is_stored : (spans after : ℕ → SpanRecord) (has : ℕ → Type 0) (ss : List Span) (s t : Span) → AreStored spans has ss →
    Contains ss s →
    IsStoredFor spans after s t → AreStored after has (put t ss)
put_is_stored spans after has ss s t st among new =
    let here : same_place s t ≡ true = place_from s t (sym new.place) (sym new.born) in
    let there : Contains (put t ss) t = put_there t s ss among here in
    let cases : (u : Span) → Contains (put t ss) u → (u ≡ t) ⊎
    (Contains ss u × (same_place u t ≡ false)) = λ u m. put_cases t u ss st.places m in
    let away : (u : Span) → Contains ss u → same_place u t ≡ false → u.place ≢ s.place =
    λ u inside far. elsewhere_too ss s t u st.one new.place new.born among inside far in
    record {
      had = λ u m. elim (cases u m) [
        | inl e ↦ subst (λ (z : Span). has z.place) (sym e) (subst has (sym new.place) (st.had s among))
        | inr old ↦ st.had u old.0
      ];
      numbers = λ u m. elim (cases u m) [
        | inl e ↦ subst (λ (z : Span). alone (after z.place) ≡ record_with z 0 0) (sym e)
            (subst (λ p. alone (after p) ≡ record_with t 0 0) (sym new.place) new.is)
        | inr old ↦ new.others u.place (away u old.0 old.1) ∙ st.numbers u old.0
      ];
      each = λ u h used. elim (eqb_tells u s.place) [
        | inl w ↦ (t, there, new.place ∙ sym w.1)
        | inr w ↦
            let was : IsInUse (spans u) = λ none. used (ap (λ (x : SpanRecord). x.state) (new.others u w.1) ∙ none) in
            let (x, inside, place) = st.each u h was in
            let far : same_place x t ≡ false = elim (cases_Bool (same_place x t)) [
              | inl same ↦ absurd (w.1 (sym place ∙ ((place_tells x t same).0 ∙ new.place)))
              | inr other ↦ other
            ] in
            (x, put_keeps t x ss inside far, place)
      ];
      one = λ a b m n same. elim (cases a m) [
        | inl e ↦ elim (cases b n) [
          | inl f ↦ e ∙ sym f
          | inr old ↦ absurd (away b old.0 old.1 (sym same ∙ (ap (λ (z : Span). z.place) e ∙ new.place)))
        ]
        | inr old ↦ elim (cases b n) [
          | inl f ↦ absurd (away a old.0 old.1 (same ∙ (ap (λ (z : Span). z.place) f ∙ new.place)))
          | inr too ↦ st.one a b old.0 too.0 same
        ]
      ];
      places = put_elsewhere t ss st.places;
    }

-- neighbours that change leave all else
next_changes : (at n : ℕ) (spans : ℕ → SpanRecord) (u : ℕ) → alone (with_next at n spans u) ≡ alone (spans u)
next_changes at n spans u = either (nat_lt 0 at && (u == at))
  where
    either : (b : Bool) → alone (if b then record (spans u) { next = n } else spans u) ≡ alone (spans u)
    either true = refl
    either false = refl

previous_changes : (at n : ℕ) (spans : ℕ → SpanRecord) (u : ℕ) → alone (with_previous at n spans u) ≡ alone (spans u)
previous_changes at n spans u = either (nat_lt 0 at && (u == at))
  where
    either : (b : Bool) → alone (if b then record (spans u) { previous = n } else spans u) ≡ alone (spans u)
    either true = refl
    either false = refl

without_changes : (x : SpanRecord) (spans : ℕ → SpanRecord) (u : ℕ) → alone (without x spans u) ≡ alone (spans u)
without_changes x spans u =
    previous_changes x.next x.previous (with_next x.previous x.next spans) u ∙ next_changes x.previous x.next spans u

-- the span in front is the one that entered, with its new state and turn
front_is : (at : ℕ) (x : SpanRecord) (to : State) (head turn : ℕ) (spans : ℕ → SpanRecord) →
    alone (in_front at x to head turn spans at) ≡ record (alone x) { state = to; turn = turn }
front_is at x to head turn spans =
    previous_changes head at (λ u. if u == at then in_front_of head to turn x else spans u) at
    ∙ elim (eqb_tells at at) [
      | inl w ↦ ap (λ (b : Bool). alone (if b then in_front_of head to turn x else spans at)) w.0
      | inr w ↦ absurd (w.1 refl)
    ]

front_others : (at : ℕ) (x : SpanRecord) (to : State) (head turn : ℕ) (spans : ℕ → SpanRecord) (u : ℕ) → u ≢ at →
    alone (in_front at x to head turn spans u) ≡ alone (spans u)
front_others at x to head turn spans u other =
    previous_changes head at (λ v. if v == at then in_front_of head to turn x else spans v) u
    ∙ elim (eqb_tells u at) [
      | inl w ↦ absurd (other w.1)
      | inr w ↦ ap (λ (b : Bool). alone (if b then in_front_of head to turn x else spans u)) w.0
    ]

-- a span that entered a state is stored as that span with the state and the turn
pub entered_is_stored : (l : SpanListParts) (spans after : ℕ → SpanRecord) (s : Span) (to : State) →
    alone (spans s.place) ≡ record_with s 0 0 →
    ((u : ℕ) → after u ≡ spans_entered s.place to l spans u) → IsStoredFor spans after s (in_state to l.turn s)
entered_is_stored l spans after s to is moved =
    let x = spans s.place in
    let same : x.state ≡ s.state = ap (λ (y : SpanRecord). y.state) is in
    let head = list_head (lists_without s.place x l) x.class to in
    let front = in_front s.place x to head l.turn (without x spans) in
    elim (cases_Bool (same_state s.state to)) [
      | inl stays ↦
          let kept : (u : ℕ) → after u ≡ spans u = λ u. moved u
          ∙ ap (λ (b : Bool). if b then spans u else front u) (ap (λ (a : State). same_state a to) same ∙ stays) in
          rw stays (record {
            place = refl;
            born = refl;
            is = ap alone (kept s.place) ∙ is;
            others = λ u other. ap alone (kept u);
          })
      | inr moves ↦
          let put_in : (u : ℕ) → after u ≡ front u = λ u. moved u
          ∙ ap (λ (b : Bool). if b then spans u else front u) (ap (λ (a : State). same_state a to) same ∙ moves) in
          rw moves (record {
            place = refl;
            born = refl;
            is = ap alone (put_in s.place) ∙
                (front_is s.place x to head l.turn (without x spans) ∙ ap (λ (y : SpanRecord). record y { state = to; turn = l.turn }) is);
            others = λ u other. ap alone (put_in u) ∙
                (front_others s.place x to head l.turn (without x spans) u other ∙ without_changes x spans u);
          })
    ]

-- after a span entered a state, the store has the spans of the root in which it is in that state
pub enters_stored : (l : SpanListParts) (spans after : ℕ → SpanRecord) (has : ℕ → Type 0) (ss : List Span) (s : Span) (to : State) →
    AreStored spans has ss →
    Contains ss s → ((u : ℕ) → after u ≡ spans_entered s.place to l spans u) → AreStored after has (put (in_state to l.turn s) ss)
enters_stored l spans after has ss s to st among moved =
    put_is_stored spans after has ss s (in_state to l.turn s) st among (entered_is_stored l spans after s to (st.numbers s among) moved)

-- a store with spans at the same offsets has the same spans of the root
pub stored_same : (spans : ℕ → SpanRecord) (has had : ℕ → Type 0) (ss : List Span) → ((u : ℕ) → has u → had u) → ((u : ℕ) → had u → has u) →
    AreStored spans has ss → AreStored spans had ss
stored_same spans has had ss to from st = record {
  had = λ s among. to s.place (st.had s among);
  numbers = st.numbers;
  each = λ u h used. st.each u (from u h) used;
  one = st.one;
  places = st.places;
}
