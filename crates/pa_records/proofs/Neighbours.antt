-- The neighbours that records name are the spans of the class and state with the next lesser and the next greater turn.
use Rattle.std.proofs.Common.{◌≡◌, ℕ, inl, inr, true, ◌&&◌, List, Option, Some, None, refl, sym, ◌∙◌, ap, subst, arith}
use Rattle.std.specs.Prelude.{Contains, nat_lt}
use Rattle.std.proofs.lemmas.Bool.{and_parts, and_from, eqb-true, eq-eqb, ltb-true, lt-ltb, cases_lt, both_ways}
use Rattle.pa_buckets.specs.declared.spans.State.{State}
use Rattle.pa_buckets.specs.declared.spans.State.TheVariants as state
use Rattle.pa_record.specs.Spans.{Span, latest, earliest, same_state}
use Rattle.pa_record.proofs.Choice.{latest_is, latest_none, earliest_is, earliest_none}
use Rattle.pa_record.proofs.Entering.{same_state-true, same_state-self}
use Rattle.pa_spans.specs.declared.span.Span.{Span as SpanRecord}
use Rattle.pa_spans.specs.Lists.{SpanListParts, HasList, IsNextByTurn, IsPreviousByTurn, AreInTurn, IsMember, Stand}
use Rattle.pa_spans.proofs.Leaving.{listed_or, listed_used}
use Rattle.pa_records.specs.Records.{is_beside, next_of, previous_of, start_or_zero, neighbour_in, record_with, span_record}
use Rattle.pa_records.specs.Stored.{alone, AreStored}

-- the members of a list are the spans beside one of them
record AreBeside (spans : ℕ → SpanRecord) (has : ℕ → Type 0) (ss : List Span) (s : Span) : Type 0 where
  member : (t : Span) → Contains ss t → is_beside s t ≡ true → IsMember spans has s.class s.state t.place
  found : (u : ℕ) → IsMember spans has s.class s.state u → (t : Span) × Contains ss t × (t.place ≡ u) × (is_beside s t ≡ true)
  turn : (t : Span) → Contains ss t → (spans t.place).turn ≡ t.turn

are_beside : (spans : ℕ → SpanRecord) (has : ℕ → Type 0) (ss : List Span) (s : Span) → AreStored spans has ss → HasList s.state →
    AreBeside spans has ss s
are_beside spans has ss s st listed = record {
  member = λ t among b. let (c, a) = and_parts _ _ b in record {
    is_had = st.had t among;
    class_is = ap (λ (x : SpanRecord). x.class) (st.numbers t among) ∙ eqb-true _ _ c;
    state_is = ap (λ (x : SpanRecord). x.state) (st.numbers t among) ∙ same_state-true t.state s.state a;
  };
  found = λ u m.
      let (t, among, place) = st.each u m.is_had (listed_used (spans u) s.state listed m.state_is) in
      let here : alone (spans u) ≡ record_with t 0 0 = subst (λ v. alone (spans v) ≡ record_with t 0 0) place (st.numbers t among) in
      let c : t.class ≡ s.class = sym (ap (λ (x : SpanRecord). x.class) here) ∙ m.class_is in
      let a : t.state ≡ s.state = sym (ap (λ (x : SpanRecord). x.state) here) ∙ m.state_is in
      (t, among, place, and_from _ _ (eq-eqb _ _ c) (subst (λ e. same_state t.state e ≡ true) a (same_state-self t.state)));
  turn = λ t among. ap (λ (x : SpanRecord). x.turn) (st.numbers t among);
}

next_by : (spans : ℕ → SpanRecord) (has : ℕ → Type 0) (ss : List Span) (s : Span) → AreBeside spans has ss s → Contains ss s →
    AreInTurn (IsMember spans has s.class s.state) spans → (o : Option Span) → latest (λ t. is_beside s t && nat_lt t.turn s.turn) ss ≡ o →
    (n : ℕ) →
    IsNextByTurn (IsMember spans has s.class s.state) (λ v. (spans v).turn) s.place n → n ≡ start_or_zero o
next_by spans has ss s b among is None e n (inl w) = w.0
next_by spans has ss s b among is None e n (inr w) =
    let (t, inside, place, near) = b.found n w.0 in
    let a = b.turn t inside in let c = b.turn s among in
    let same : (spans t.place).turn ≡ (spans n).turn = ap (λ v. (spans v).turn) place in
    let less = w.1 in
    absurd (both_ways _ (latest_none (λ t. is_beside s t && nat_lt t.turn s.turn) ss e t inside)
    (and_from _ _ near (lt-ltb t.turn s.turn (omega arith))))
next_by spans has ss s b among is (Some t) e n (inl w) =
    let k = latest_is (λ t. is_beside s t && nat_lt t.turn s.turn) ss t e in
    let (near, less) = and_parts _ _ k.passes in
    let a = b.turn t k.among in let c = b.turn s among in let low = ltb-true _ _ less in
    absurd (w.1 t.place (b.member t k.among near) (omega arith))
next_by spans has ss s b among is (Some t) e n (inr w) =
    let k = latest_is (λ t. is_beside s t && nat_lt t.turn s.turn) ss t e in
    let (near, less) = and_parts _ _ k.passes in
    let a = b.turn t k.among in let c = b.turn s among in let low = ltb-true _ _ less in
    let m = b.member t k.among near in
    let (x, inside, place, beside_too) = b.found n w.0 in
    let d = b.turn x inside in
    let same : (spans x.place).turn ≡ (spans n).turn = ap (λ v. (spans v).turn) place in
    let before = w.1 in
    let up = k.most x inside (and_from _ _ beside_too (lt-ltb x.turn s.turn (omega arith))) in
    elim (cases_lt (spans n).turn (spans t.place).turn) [
      | inl f ↦ absurd (w.2 t.place m f (omega arith))
      | inr f ↦ is.differ n t.place w.0 m (omega arith)
    ]

previous_by : (spans : ℕ → SpanRecord) (has : ℕ → Type 0) (ss : List Span) (s : Span) → AreBeside spans has ss s → Contains ss s →
    AreInTurn (IsMember spans has s.class s.state) spans → (o : Option Span) →
    earliest (λ t. is_beside s t && nat_lt s.turn t.turn) ss ≡ o → (n : ℕ) →
    IsPreviousByTurn (IsMember spans has s.class s.state) (λ v. (spans v).turn) s.place n → n ≡ start_or_zero o
previous_by spans has ss s b among is None e n (inl w) = w.0
previous_by spans has ss s b among is None e n (inr w) =
    let (t, inside, place, near) = b.found n w.0 in
    let a = b.turn t inside in let c = b.turn s among in
    let same : (spans t.place).turn ≡ (spans n).turn = ap (λ v. (spans v).turn) place in
    let less = w.1 in
    absurd (both_ways _ (earliest_none (λ t. is_beside s t && nat_lt s.turn t.turn) ss e t inside)
    (and_from _ _ near (lt-ltb s.turn t.turn (omega arith))))
previous_by spans has ss s b among is (Some t) e n (inl w) =
    let k = earliest_is (λ t. is_beside s t && nat_lt s.turn t.turn) ss t e in
    let (near, less) = and_parts _ _ k.passes in
    let a = b.turn t k.among in let c = b.turn s among in let low = ltb-true _ _ less in
    absurd (w.1 t.place (b.member t k.among near) (omega arith))
previous_by spans has ss s b among is (Some t) e n (inr w) =
    let k = earliest_is (λ t. is_beside s t && nat_lt s.turn t.turn) ss t e in
    let (near, less) = and_parts _ _ k.passes in
    let a = b.turn t k.among in let c = b.turn s among in let low = ltb-true _ _ less in
    let m = b.member t k.among near in
    let (x, inside, place, beside_too) = b.found n w.0 in
    let d = b.turn x inside in
    let same : (spans x.place).turn ≡ (spans n).turn = ap (λ v. (spans v).turn) place in
    let before = w.1 in
    let down = k.least x inside (and_from _ _ beside_too (lt-ltb s.turn x.turn (omega arith))) in
    elim (cases_lt (spans t.place).turn (spans n).turn) [
      | inl f ↦ absurd (w.2 t.place m f (omega arith))
      | inr f ↦ is.differ n t.place w.0 m (omega arith)
    ]

in_list : (a : State) (o : Option Span) → HasList a → neighbour_in a o ≡ start_or_zero o
in_list state.None o listed = absurd listed
in_list state.Active o listed = refl
in_list state.Empty o listed = refl
in_list state.Decommitted o listed = refl
in_list state.Full o listed = absurd listed

in_no_list : (a : State) (o : Option Span) → (HasList a → ⊥) → neighbour_in a o ≡ 0
in_no_list state.None o never = refl
in_no_list state.Active o never = absurd (never tt)
in_no_list state.Empty o never = absurd (never tt)
in_no_list state.Decommitted o never = absurd (never tt)
in_no_list state.Full o never = refl

-- a record is that of a span but for its neighbours
pub with_neighbours : (x : SpanRecord) (s : Span) → alone x ≡ record_with s 0 0 → x ≡ record_with s x.previous x.next
with_neighbours x s e = ap (λ (y : SpanRecord). record y { previous = x.previous; next = x.next }) e

-- each record is that of its span
pub stored_is_recorded : (l : SpanListParts) (spans : ℕ → SpanRecord) (has : ℕ → Type 0) (ss : List Span) → Stand l spans has →
    AreStored spans has ss →
    (s : Span) → Contains ss s → spans s.place ≡ span_record ss s
stored_is_recorded l spans has ss stand st s among =
    let x = spans s.place in
    let same : x.state ≡ s.state = ap (λ (y : SpanRecord). y.state) (st.numbers s among) in
    let both : (x.previous ≡ neighbour_in s.state (previous_of ss s)) × (x.next ≡ neighbour_in s.state (next_of ss s)) =
    elim (listed_or s.state) [
      | inl listed ↦
          let is = stand.lists s.class s.state listed in
          let b = are_beside spans has ss s st listed in
          let m = b.member s among (and_from _ _ (eq-eqb s.class s.class refl) (same_state-self s.state)) in (
            previous_by spans has ss s b among is (previous_of ss s) refl x.previous (is.previous s.place m) ∙
                sym (in_list s.state (previous_of ss s) listed),
            next_by spans has ss s b among is (next_of ss s) refl x.next (is.next s.place m) ∙ sym (in_list s.state (next_of ss s) listed),
          )
      | inr never ↦
          let two = stand.alone s.place (st.had s among) (λ h. never (subst HasList same h)) in
          (two.0 ∙ sym (in_no_list s.state (previous_of ss s) never), two.1 ∙ sym (in_no_list s.state (next_of ss s) never))
    ] in
    with_neighbours x s (st.numbers s among)
    ∙ (ap (λ n. record_with s n x.next) both.0 ∙ ap (λ n. record_with s (neighbour_in s.state (previous_of ss s)) n) both.1)
