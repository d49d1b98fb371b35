-- A span that starts on a page of which the record isn't in use: what a store has then.
use Rattle.std.proofs.Common.{◌≡◌, ℕ, inl, inr, false, ◌==◌, if◌then◌else◌, List, ◌∷◌, ◌++◌, [], sym, ◌∙◌, ap, subst}
use Rattle.std.specs.Prelude.{◌↔◌, Contains}
use Rattle.std.proofs.lemmas.Bool.{cases_Bool}
use Rattle.std.proofs.lemmas.Bool.Decides.{eqb_tells}
use Rattle.std.proofs.lemmas.List.Elements.{Contains-push_cases, Contains-append_left}
use Rattle.pa_lists.proofs.Pairs.{pairs_push}
use Rattle.pa_record.specs.Spans.{Span, same_place}
use Rattle.pa_record.specs.Root.{Root}
use Rattle.pa_record.proofs.Places.{place_tells}
use Rattle.pa_spans.specs.declared.span.Span.{Span as SpanRecord}
use Rattle.pa_region.specs.declared.view.View.{View}
use Rattle.pa_spans.specs.Lists.{StaysListed, IsOutside, Stand}
use Rattle.pa_records.specs.Words.{spans_in}
use Rattle.pa_records.specs.Records.{record_with}
use Rattle.pa_records.specs.Stored.{alone, AreStored}
use Rattle.pa_meta.specs.Stores.{HasSpanAt}
use Rattle.pa_shelf.specs.Adding.{record_of_class, IsAddedAs}
use Rattle.pa_shelf.specs.Shelves.{ShelfParts, StartsAtZero, RecordsRoot}
use Rattle.pa_shelf.proofs.Moves.{there_is, elsewhere_is}

-- a record of the class can stand in the place of a record that isn't in use
pub can_stand : (x y : SpanRecord) (class : ℕ) → y ≡ record_of_class class → IsOutside x → StartsAtZero x → StaysListed x y
can_stand x y class is outside zero = subst (StaysListed x) (sym is)
    (record { class = inr outside.0; state = sym outside.0; turn = sym (zero outside.0); previous = sym outside.1; next = sym outside.2 })

pub added_unused : (spans after : ℕ → SpanRecord) (has : ℕ → Type 0) (at class : ℕ) (x : SpanRecord) → x ≡ record_of_class class →
    ((u : ℕ) → after u ≡ (if u == at then x else spans u)) → ((u : ℕ) → has u → StartsAtZero (spans u)) → (u : ℕ) → has u →
    StartsAtZero (after u)
added_unused spans after has at class x x_is put_in unused u h none = elim (eqb_tells u at) [
  | inl w ↦ ap (λ (y : SpanRecord). y.turn) (put_in u ∙ (ap (λ b. if b then x else spans u) w.0 ∙ x_is))
  | inr w ↦
      let same : after u ≡ spans u = put_in u ∙ elsewhere_is u at (spans u) x w.1 in
      ap (λ (y : SpanRecord). y.turn) same ∙ unused u h (sym (ap (λ (y : SpanRecord). y.state) same) ∙ none)
]

pub added_stored : (spans after : ℕ → SpanRecord) (has : ℕ → Type 0) (ss : List Span) (t : Span) (at class : ℕ) (x : SpanRecord) →
    AreStored spans has ss →
    has at → IsAddedAs at class ss t → x ≡ record_of_class class → ((u : ℕ) → after u ≡ (if u == at then x else spans u)) →
    AreStored after has (ss ++ t ∷ [])
added_stored spans after has ss t at class x st here added x_is put_in =
    let new : alone (after t.place) ≡ record_with t 0 0 =
    ap (λ p. alone (after p)) added.here ∙ (ap alone (put_in at ∙ (there_is at (spans at) x ∙ x_is)) ∙ sym added.is) in
    let old : (u : Span) → Contains ss u → after u.place ≡ spans u.place = λ u among. put_in u.place ∙
    elsewhere_is u.place at (spans u.place) x (added.alone u among) in
    record {
      had = λ u m. elim (Contains-push_cases ss t u m) [
        | inl among ↦ st.had u among
        | inr e ↦ subst (λ (z : Span). has z.place) e (subst has (sym added.here) here)
      ];
      numbers = λ u m. elim (Contains-push_cases ss t u m) [
        | inl among ↦ ap alone (old u among) ∙ st.numbers u among
        | inr e ↦ subst (λ (z : Span). alone (after z.place) ≡ record_with z 0 0) e new
      ];
      each = λ u h used. elim (eqb_tells u at) [
        | inl w ↦ absurd (used (ap (λ (y : SpanRecord). y.state) (put_in u ∙ (ap (λ b. if b then x else spans u) w.0 ∙ x_is))))
        | inr w ↦
            let same : after u ≡ spans u = put_in u ∙ elsewhere_is u at (spans u) x w.1 in
            let (s, among, place) = st.each u h (λ none. used (ap (λ (y : SpanRecord). y.state) same ∙ none)) in
            (s, Contains-append_left ss (t ∷ []) s among, place)
      ];
      one = λ a b m n same. elim (Contains-push_cases ss t a m) [
        | inl among ↦ elim (Contains-push_cases ss t b n) [
          | inl too ↦ st.one a b among too same
          | inr e ↦ absurd (added.alone a among (same ∙ (sym (ap (λ (z : Span). z.place) e) ∙ added.here)))
        ]
        | inr e ↦ elim (Contains-push_cases ss t b n) [
          | inl too ↦ absurd (added.alone b too (sym same ∙ (sym (ap (λ (z : Span). z.place) e) ∙ added.here)))
          | inr f ↦ sym e ∙ f
        ]
      ];
      places = pairs_push (λ a b. same_place a b ≡ false) ss t st.places (λ u among. elim (cases_Bool (same_place u t)) [
        | inl same ↦ absurd (added.alone u among ((place_tells u t same).0 ∙ added.here))
        | inr away ↦ away
      ]);
    }

-- what the records keep with it
pub added_kept : (v w : View) (l : ShelfParts) (r : Root) (t : Span) → RecordsRoot v l r →
    ((u : ℕ) → HasSpanAt w l.supers u ↔ HasSpanAt v l.supers u) →
    ((u : ℕ) → HasSpanAt w l.supers u → StartsAtZero (spans_in w.words u)) → Stand l.lists (spans_in w.words) (HasSpanAt w l.supers) →
    AreStored (spans_in w.words) (HasSpanAt w l.supers) (r.spans ++ t ∷ []) → RecordsRoot w l (record r { spans = r.spans ++ t ∷ [] })
added_kept v w l r t k same unused stand stored = record {
  supers = k.supers;
  maps = k.maps;
  page = k.page;
  turn = k.turn;
  apart = k.apart;
  small = k.small;
  pages = λ u payload. (same u).1 (k.pages u payload);
  unused = unused;
  stand = stand;
  few = k.few;
  stored = stored;
}
