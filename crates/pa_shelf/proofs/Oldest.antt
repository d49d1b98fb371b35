-- The first of the ring is the empty span of least turn.
use Rattle.std.proofs.Common.{◌≡◌, ℕ, ◌<◌, ◌≤◌, inl, inr, true, false, List, [], ◌∷◌, Option, Some, None, refl, sym, ◌∙◌, ap, subst, arith}
use Rattle.std.specs.Prelude.{All, Contains, AllPairs}
use Rattle.pa_lists.proofs.Members.{not_in_none, in_cases}
use Rattle.pa_lists.proofs.Pairs.{pairs_head}
use Rattle.pa_buckets.specs.declared.spans.State.TheVariants as state
use Rattle.pa_record.specs.Spans.{Span, is_in, same_state, earliest}
use Rattle.pa_record.specs.Root.{Root}
use Rattle.pa_record.specs.Sound.{IsSound}
use Rattle.pa_record.proofs.Choice.{earliest_is}
use Rattle.pa_record.proofs.Chosen.{is_earliest}
use Rattle.pa_record.proofs.Entering.{same_state-true, same_state-self}
use Rattle.pa_spans.specs.declared.span.Span.{Span as SpanRecord}
use Rattle.pa_spans.specs.Lists.{SpanListParts, IsInUse, Stand}
use Rattle.pa_records.specs.Stored.{AreStored}

empty_used : (x : SpanRecord) → x.state ≡ state.Empty → IsInUse x
empty_used x is none = let no : state.Empty ≡ state.None = sym is ∙ none in absurd (cc)

pub state_at : (spans : ℕ → SpanRecord) (has : ℕ → Type 0) (ss : List Span) (s : Span) → AreStored spans has ss → Contains ss s →
    (spans s.place).state ≡ s.state
state_at spans has ss s st among = ap (λ (x : SpanRecord). x.state) (st.numbers s among)

pub turn_at : (spans : ℕ → SpanRecord) (has : ℕ → Type 0) (ss : List Span) (s : Span) → AreStored spans has ss → Contains ss s →
    (spans s.place).turn ≡ s.turn
turn_at spans has ss s st among = ap (λ (x : SpanRecord). x.turn) (st.numbers s among)

-- an empty span is in the ring
pub in_ring : (l : SpanListParts) (spans : ℕ → SpanRecord) (has : ℕ → Type 0) (ss : List Span) (s : Span) → Stand l spans has →
    AreStored spans has ss → Contains ss s →
    is_in state.Empty s ≡ true → Contains l.ring s.place
in_ring l spans has ss s stand st among is =
    stand.empty s.place (st.had s among) (state_at spans has ss s st among ∙ same_state-true s.state state.Empty is)

pub none_empty : (l : SpanListParts) (spans : ℕ → SpanRecord) (has : ℕ → Type 0) (ss : List Span) (o : Option Span) → Stand l spans has →
    AreStored spans has ss →
    l.ring ≡ [] → earliest (is_in state.Empty) ss ≡ o → o ≡ None
none_empty l spans has ss None stand st none e = refl
none_empty l spans has ss (Some s) stand st none e =
    let k = earliest_is (is_in state.Empty) ss s e in
    absurd (not_in_none s.place (subst (λ xs. Contains xs s.place) none (in_ring l spans has ss s stand st k.among k.passes)))

-- a span is the oldest empty one, and starts there
pub record IsOldest (r : Root) (at : ℕ) (s : Span) : Type 0 where
  pub among : Contains r.spans s
  pub here : s.place ≡ at
  pub empty : s.state ≡ state.Empty
  pub is : earliest (is_in state.Empty) r.spans ≡ Some s

pub oldest : (l : SpanListParts) (spans : ℕ → SpanRecord) (has : ℕ → Type 0) (r : Root) (at : ℕ) (rest : List ℕ) → IsSound r →
    Stand l spans has →
    AreStored spans has r.spans → l.ring ≡ at ∷ rest → (s : Span) × IsOldest r at s
oldest l spans has r at rest sound stand st ring_is =
    let R : ℕ → ℕ → Type 0 = λ u v. (spans u).turn < (spans v).turn in
    let rise : AllPairs R (at ∷ rest) = subst (AllPairs R) ring_is stand.rise in
    let here = (subst (All (λ u. has u × ((spans u).state ≡ state.Empty))) ring_is stand.in_ring) 0 0 (omega arith) in
    let (s, among, place) = st.each at here.0 (empty_used (spans at) here.1) in
    let empty : s.state ≡ state.Empty = sym (state_at spans has r.spans s st among) ∙ (ap (λ u. (spans u).state) place ∙ here.1) in
    let passes : is_in state.Empty s ≡ true = subst (λ a. same_state s.state a ≡ true) empty (same_state-self s.state) in
    let turn : (spans at).turn ≡ s.turn = sym (ap (λ u. (spans u).turn) place) ∙ turn_at spans has r.spans s st among in
    let least : (t : Span) → Contains r.spans t → is_in state.Empty t ≡ true → s.turn ≤ t.turn = λ t inside is.
    let later = turn_at spans has r.spans t st inside in
    elim (in_cases at t.place rest (subst (λ xs. Contains xs t.place) ring_is (in_ring l spans has r.spans t stand st inside is))) [
      | inl e ↦ let same : s.turn ≡ t.turn = ap (λ (z : Span). z.turn) (st.one s t among inside (place ∙ e)) in omega arith
      | inr after ↦ let less = pairs_head R at t.place rest rise after in omega arith
    ] in (
      s,
      record {
        among = among;
        here = place;
        empty = empty;
        is = is_earliest (is_in state.Empty) r s sound
            (λ t inside is. subst (λ a. same_state a state.None ≡ false) (sym (same_state-true t.state state.Empty is)) refl)
            (record { among = among; passes = passes; least = least });
      },
    )
