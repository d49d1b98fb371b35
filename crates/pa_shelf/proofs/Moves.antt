-- A span that changes and enters a state: what a store has then of the root's spans, and what the records keep.
use Rattle.std.proofs.Common.{◌≡◌, ◌≢◌, ℕ, ◌+◌, ◌≤◌, inl, inr, Bool, true, false, ◌==◌, if◌then◌else◌, List, length, ◌∷◌, [], refl, sym, ◌∙◌, ap, subst}
use Rattle.std.specs.Prelude.{◌↔◌, Contains}
use Rattle.std.proofs.lemmas.Bool.{cases_Bool, both_ways}
use Rattle.std.proofs.lemmas.Bool.Decides.{eqb_tells}
use Rattle.pa_buckets.specs.declared.spans.State.{State}
use Rattle.pa_buckets.specs.declared.spans.State.TheVariants as state
use Rattle.pa_record.specs.Spans.{Span, same_place, same_state, put}
use Rattle.pa_record.specs.Root.{Root, in_state, turn_after, entered}
use Rattle.pa_record.proofs.Places.{place_from, place_sym, place_trans, put_there}
use Rattle.pa_record.proofs.Entering.{in_state_like, like_place, in_state_is}
use Rattle.pa_region.specs.declared.view.View.{View}
use Rattle.pa_spans.specs.declared.span.Span.{Span as SpanRecord}
use Rattle.pa_spans.specs.Lists.{SpanListParts, Stand, unheaded, with_head, lists_without, lists_with, lists_entered, spans_entered}
use Rattle.pa_spans.proofs.Heads.{turn_alike}
use Rattle.pa_records.specs.Words.{spans_in}
use Rattle.pa_records.specs.Records.{record_with}
use Rattle.pa_records.specs.Stored.{alone, AreStored}
use Rattle.pa_records.proofs.Storing.{put_is_stored, entered_is_stored, enters_stored}
use Rattle.pa_meta.specs.Stores.{HasSpanAt}
use Rattle.pa_shelf.specs.Moving.{IsRecordFor}
use Rattle.pa_shelf.specs.Shelves.{ShelfParts, StartsAtZero, RecordsRoot}

-- a span in the place of one that was put in a place
pub put_twice : (a b : Span) (ss : List Span) → same_place b a ≡ true → put a (put b ss) ≡ put a ss
put_twice a b [] same = refl
put_twice a b (t ∷ ts) same = elim (cases_Bool (same_place t b)) [
  | inl here ↦
      let too : same_place t a ≡ true = place_trans t b a here same in
      rw here (rw same (rw too refl))
  | inr other ↦
      let far : same_place t a ≡ false = elim (cases_Bool (same_place t a)) [
        | inl near ↦ absurd (both_ways _ other (place_trans t a b near (place_sym b a same)))
        | inr away ↦ away
      ] in
      rw other (rw far (ap (λ (us : List Span). t ∷ us) (put_twice a b ts same)))
]

pub enters_same_place : (to : State) (turn : ℕ) (t : Span) → same_place t (in_state to turn t) ≡ true
enters_same_place to turn t = place_sym (in_state to turn t) t (like_place (in_state to turn t) t (in_state_like to turn t))

pub there_is : (at : ℕ) (y x : SpanRecord) → (if at == at then x else y) ≡ x
there_is at y x = elim (eqb_tells at at) [
  | inl w ↦ ap (λ (b : Bool). if b then x else y) w.0
  | inr w ↦ absurd (w.1 refl)
]

pub elsewhere_is : (u at : ℕ) (y x : SpanRecord) → u ≢ at → (if u == at then x else y) ≡ y
elsewhere_is u at y x other = elim (eqb_tells u at) [
  | inl w ↦ absurd (other w.1)
  | inr w ↦ ap (λ (b : Bool). if b then x else y) w.0
]

-- what a store has once it is put in the place
first_stored : (spans mid : ℕ → SpanRecord) (has : ℕ → Type 0) (ss : List Span) (s t : Span) (at : ℕ) (x : SpanRecord) →
    AreStored spans has ss →
    Contains ss s → IsRecordFor at x s t → ((u : ℕ) → mid u ≡ (if u == at then x else spans u)) → AreStored mid has (put t ss)
first_stored spans mid has ss s t at x st among is_for put_in =
    put_is_stored spans mid has ss s t st among (record {
      place = is_for.place;
      born = is_for.born;
      is = subst (λ p. alone (mid p) ≡ record_with t 0 0) (sym is_for.here) (ap alone (put_in at ∙ there_is at (spans at) x) ∙ is_for.is);
      others = λ u other. ap alone (put_in u ∙ elsewhere_is u at (spans u) x (λ same. other (same ∙ sym is_for.here)));
    })

-- records that aren't in use are as before
pub change_unused : (l : SpanListParts) (spans mid after : ℕ → SpanRecord) (has : ℕ → Type 0) (ss : List Span) (s t : Span) (at : ℕ)
    (x : SpanRecord) (to : State) →
    AreStored spans has ss → Contains ss s → IsRecordFor at x s t → ((u : ℕ) → mid u ≡ (if u == at then x else spans u)) →
    ((u : ℕ) → after u ≡ spans_entered at to l mid u) → (to ≡ state.None → ⊥) → ((u : ℕ) → has u → StartsAtZero (spans u)) → (u : ℕ) →
    has u →
    StartsAtZero (after u)
change_unused l spans mid after has ss s t at x to st among is_for put_in moved used unused u h none =
    let there : Contains (put t ss) t = put_there t s ss among (place_from s t (sym is_for.place) (sym is_for.born)) in
    let at_is : t.place ≡ at = is_for.place ∙ is_for.here in
    let first = first_stored spans mid has ss s t at x st among is_for put_in in
    let e = entered_is_stored l mid after t to (first.numbers t there)
    (subst (λ p. (v : ℕ) → after v ≡ spans_entered p to l mid v) (sym at_is) moved) in
    elim (eqb_tells u at) [
      | inl w ↦
          let is : (after u).state ≡ (in_state to l.turn t).state =
          ap (λ p. (after p).state) (w.1 ∙ sym at_is) ∙ ap (λ (y : SpanRecord). y.state) e.is in
          absurd (used (sym (in_state_is to l.turn t) ∙ (sym is ∙ none)))
      | inr w ↦
          let same : alone (after u) ≡ alone (spans u) = e.others u (λ p. w.1 (p ∙ at_is)) ∙
          ap alone (put_in u ∙ elsewhere_is u at (spans u) x w.1) in
          ap (λ (y : SpanRecord). y.turn) same ∙ unused u h (sym (ap (λ (y : SpanRecord). y.state) same) ∙ none)
    ]

-- what a store has after it
pub change_stored : (l : SpanListParts) (spans mid after : ℕ → SpanRecord) (has : ℕ → Type 0) (ss : List Span) (s t : Span) (at : ℕ)
    (x : SpanRecord) (to : State) →
    AreStored spans has ss → Contains ss s → IsRecordFor at x s t → ((u : ℕ) → mid u ≡ (if u == at then x else spans u)) →
    ((u : ℕ) → after u ≡ spans_entered at to l mid u) → AreStored after has (put (in_state to l.turn t) ss)
change_stored l spans mid after has ss s t at x to st among is_for put_in moved =
    let there : Contains (put t ss) t = put_there t s ss among (place_from s t (sym is_for.place) (sym is_for.born)) in
    let at_is : t.place ≡ at = is_for.place ∙ is_for.here in
    let first : AreStored mid has (put t ss) = first_stored spans mid has ss s t at x st among is_for put_in in
    let second : AreStored after has (put (in_state to l.turn t) (put t ss)) =
    enters_stored l mid after has (put t ss) t to first there
    (subst (λ p. (u : ℕ) → after u ≡ spans_entered p to l mid u) (sym at_is) moved) in
    subst (AreStored after has) (put_twice (in_state to l.turn t) t ss (enters_same_place to l.turn t)) second

-- the turn after it
turn_left : (s : SpanRecord) (l : SpanListParts) → (unheaded s l).turn ≡ l.turn
turn_left s l = either (s.previous == 0)
  where
    either : (b : Bool) → (if b then with_head s.class s.state s.next l else l).turn ≡ l.turn
    either true = turn_alike l s.class s.state s.next
    either false = refl

turn_enters : (at : ℕ) (to : State) (l : SpanListParts) (x : SpanRecord) (t : Span) → x.state ≡ t.state →
    turn_after to l.turn t ≡ (lists_entered at to l x).turn
turn_enters at to l x t same = elim (cases_Bool (same_state t.state to)) [
  | inl stays ↦ ap (λ (b : Bool). if b then l.turn else l.turn + 1) stays
      ∙ sym (ap (λ (b : Bool). (if b then l else lists_with at x.class to (lists_without at x l)).turn)
      (ap (λ (a : State). same_state a to) same ∙ stays))
  | inr moves ↦ ap (λ (b : Bool). if b then l.turn else l.turn + 1) moves
      ∙ (sym (ap (λ n. n + 1) (turn_left x l))
      ∙ sym (ap (λ (b : Bool). (if b then l else lists_with at x.class to (lists_without at x l)).turn)
      (ap (λ (a : State). same_state a to) same ∙ moves)))
]

-- what the records keep after it
pub change_kept : (v w : View) (l : ShelfParts) (x : SpanRecord) (at : ℕ) (to : State) (r : Root) (s t : Span) → RecordsRoot v l r →
    IsRecordFor at x s t →
    ((u : ℕ) → HasSpanAt w l.supers u ↔ HasSpanAt v l.supers u) → ((u : ℕ) → HasSpanAt w l.supers u → StartsAtZero (spans_in w.words u)) →
    Stand (lists_entered at to l.lists x) (spans_in w.words) (HasSpanAt w l.supers) → length (lists_entered at to l.lists x).ring ≤ 17 →
    AreStored (spans_in w.words) (HasSpanAt w l.supers) (put (in_state to l.lists.turn t) r.spans) →
    RecordsRoot w (record l { lists = lists_entered at to l.lists x }) (entered to t r)
change_kept v w l x at to r s t k is_for same unused stand few stored = record {
  supers = k.supers;
  maps = k.maps;
  page = k.page;
  turn = ap (λ n. turn_after to n t) k.turn ∙ turn_enters at to l.lists x t (ap (λ (y : SpanRecord). y.state) is_for.is);
  apart = k.apart;
  small = k.small;
  pages = λ u payload. (same u).1 (k.pages u payload);
  unused = unused;
  stand = stand;
  few = few;
  stored = subst (λ n. AreStored (spans_in w.words) (HasSpanAt w l.supers) (put (in_state to n t) r.spans)) (sym k.turn) stored;
}
