-- A super page joins the root, with records of no span: what is shown then.
use Rattle.std.proofs.Common.{◌≡◌, ◌≢◌, ◌⊎◌, ℕ, ◌+◌, ◌<◌, ◌≤◌, inl, inr, List, [], ◌∷◌, ◌++◌, refl, sym, ◌∙◌, ap, subst, arith}
use Rattle.std.specs.Prelude.{Contains}
use Rattle.std.proofs.lemmas.Bool.{cases_lt}
use Rattle.std.proofs.lemmas.List.Elements.{Contains-push_cases, Contains-push}
use Rattle.pa_lists.proofs.Elements.{in_front, in_one}
use Rattle.pa_lists.proofs.Members.{first_in}
use Rattle.pa_lists.proofs.Pairs.{pairs_push}
use Rattle.pa_layout.specs.Limits.{region_supers}
use Rattle.pa_layout.specs.Pages.{super_page_at, page_at, page_place}
use Rattle.pa_record.specs.declared.taken.SuperPage.{SuperPage}
use Rattle.pa_record.specs.Root.{Root, opened}
use Rattle.pa_record.specs.Sound.{IsSound}
use Rattle.pa_record.proofs.SpanSteps.{size_some}
use Rattle.pa_region.specs.declared.view.View.{View}
use Rattle.pa_region.specs.Aware.{IsAware}
use Rattle.pa_spans.specs.declared.span.Span.{Span as SpanRecord}
use Rattle.pa_spans.specs.Lists.{IsOutside}
use Rattle.pa_spans.proofs.Staying.{stays, same_listed}
use Rattle.pa_records.specs.Words.{record_word, IsRecordAt, unused_span, spans_in, with_record}
use Rattle.pa_records.specs.Records.{titles_free}
use Rattle.pa_records.specs.Stored.{alone}
use Rattle.pa_records.proofs.Words.{span_is, four_kept, same_record}
use Rattle.pa_meta.specs.Meta.{HasRawRecord, after_record}
use Rattle.pa_meta.specs.Stores.{IsPayloadOf, HasSpanAt, Rerecorded, rerecorded_on}
use Rattle.pa_meta.proofs.Spans.{rerecorded}
use Rattle.pa_shelf.specs.Opening.{HasRawRecords, AreBlankBelow, IsNewNumber, with_super}
use Rattle.pa_shelf.specs.Shelves.{ShelfParts, KeepsRecords, StartsAtZero, RecordsRoot, ShowsRoot, chain_of}
use Rattle.pa_shelf.proofs.Chained.{chain_stays}
use Rattle.pa_shelf.proofs.Staying.{has_kept, spans_kept}

-- bytes of records stay raw
pub raw_stays : (supers : List SuperPage) (v w : View) (place : ℕ) → Rerecorded supers v w → HasRawRecord v place → HasRawRecord w place
raw_stays supers v w place wrote raw = subst (λ (x : View). HasRawRecord x place) (sym wrote.rest) raw

-- one more page has the record of no span
pub more_blank : (words : List ℕ) (number page : ℕ) → AreBlankBelow words number page →
    IsRecordAt (with_record words (record_word (page_place number page)) unused_span) (record_word (page_place number page)) unused_span →
    AreBlankBelow (with_record words (record_word (page_place number page)) unused_span) number (page + 1)
more_blank words number page blank reads p first below = elim (cases_lt p page) [
  | inl less ↦
      same_record words (with_record words (record_word (page_place number page)) unused_span)
      (record_word (page_place number p)) unused_span
      (four_kept words unused_span (page_place number p) (page_place number page) (omega arith) (omega arith) (λ e. omega arith))
      (blank p first less)
  | inr not ↦
      let e : page ≡ p = omega arith in
      subst (λ k. IsRecordAt (with_record words (record_word (page_place number page)) unused_span)
      (record_word (page_place number k)) unused_span) e reads
]

-- a step of the loop that clears keeps what the loop keeps
pub clear_step : (at : SuperPage) (page place : ℕ) (x : SpanRecord) (v u w : View) → 1 ≤ page → page ≤ 126 →
    place ≡ page_place at.number page → x ≡ unused_span →
    w ≡ after_record place x u → IsRecordAt w.words (record_word place) x → Rerecorded (at ∷ []) v u →
    AreBlankBelow u.words at.number page →
    Rerecorded (at ∷ []) v w × AreBlankBelow w.words at.number (page + 1)
clear_step at page place x v u w first last is none written reads wrote blank =
    let here = page_place at.number page in
    let written' : w ≡ after_record here unused_span u = written ∙
    (ap (λ p. after_record p x u) is ∙ ap (λ y. after_record here y u) none) in
    let reads' : IsRecordAt (after_record here unused_span u).words (record_word here) unused_span =
    subst (λ (z : View). IsRecordAt z.words (record_word here) unused_span) written'
    (subst (λ y. IsRecordAt w.words (record_word here) y) none (subst (λ p. IsRecordAt w.words (record_word p) x) is reads)) in
    let payload : IsPayloadOf (at ∷ []) here = record {
      aligned = omega arith;
      super = (at, first_in at [], omega arith);
      page = (omega arith, omega arith);
    } in
    subst (λ (z : View). Rerecorded (at ∷ []) v z × AreBlankBelow z.words at.number (page + 1)) (sym written') (
      rerecorded_on (at ∷ []) (at ∷ []) v u (after_record here unused_span u) refl wrote (rerecorded u (at ∷ []) here unused_span payload),
      more_blank u.words at.number page blank reads',
    )

-- a payload page of a super page, by its number
pub page_of_one : (at : SuperPage) (u : ℕ) → IsPayloadOf (at ∷ []) u → (u ≡ page_place at.number (page_at u)) ×
    (super_page_at u ≡ at.number)
page_of_one at u payload =
    let (other, among, is) = payload.super in
    let e : at.number ≡ other.number = ap (λ (z : SuperPage). z.number) (in_one at other among) in
    let aligned = payload.aligned in
    (omega arith, omega arith)

pub raw_of_one : (v : View) (at : SuperPage) → HasRawRecords v at.number → (u : ℕ) → IsPayloadOf (at ∷ []) u → HasRawRecord v u
raw_of_one v at raw u payload =
    subst (HasRawRecord v) (sym (page_of_one at u payload).0) (raw (page_at u) payload.page.0 payload.page.1)

-- records of two super pages are apart
apart_supers : (u place q : ℕ) → record_word u ≤ q → q < record_word u + 4 → record_word place ≤ q → q < record_word place + 4 →
    super_page_at u ≡ super_page_at place
apart_supers u place q low high from to = omega arith

-- the records of the other super pages stay
pub others_keep : (v w : View) (supers : List SuperPage) (at : SuperPage) → IsNewNumber at.number supers → Rerecorded (at ∷ []) v w →
    KeepsRecords supers v w
others_keep v w supers at new wrote = record {
  words = λ u q payload low high. wrote.others q (λ place of_one from to.
      let (other, among, is) = payload.super in
      new other among (is ∙ (apart_supers u place q low high from to ∙ (page_of_one at place of_one).1)));
  raw = λ u payload raw. raw_stays (at ∷ []) v w u wrote raw;
}

-- a payload page is of the new super page or of another one
more_payload : (supers : List SuperPage) (at : SuperPage) (u : ℕ) → IsPayloadOf supers u → IsPayloadOf (supers ++ at ∷ []) u
more_payload supers at u payload =
    let (other, among, is) = payload.super in
    record {
      aligned = payload.aligned;
      super = (other, in_front supers (at ∷ []) (supers ++ at ∷ []) other refl among, is);
      page = payload.page;
    }

payload_cases : (supers : List SuperPage) (at : SuperPage) (u : ℕ) → IsPayloadOf (supers ++ at ∷ []) u → IsPayloadOf supers u ⊎
    IsPayloadOf (at ∷ []) u
payload_cases supers at u payload =
    let (other, among, is) = payload.super in
    elim (Contains-push_cases supers at other among) [
      | inl old ↦ inl (record { aligned = payload.aligned; super = (other, old, is); page = payload.page })
      | inr e ↦ inr (record {
        aligned = payload.aligned;
        super = (other, subst (Contains (at ∷ [])) e (Contains-push [] at), is);
        page = payload.page;
      })
    ]

-- what the records keep then
pub opened_kept : (v w : View) (l : ShelfParts) (r : Root) (at : SuperPage) → RecordsRoot v l r → at.number < region_supers →
    IsNewNumber at.number l.supers →
    Rerecorded (at ∷ []) v w → HasRawRecords v at.number → AreBlankBelow w.words at.number 127 →
    RecordsRoot w (with_super at l) (opened at.number at.born r)
opened_kept v w l r at k low new wrote raw blank =
    let more = l.supers ++ at ∷ [] in
    let keeps = others_keep v w l.supers at new wrote in
    let same : (u : ℕ) → HasSpanAt v l.supers u → spans_in w.words u ≡ spans_in v.words u = λ u h. spans_kept l.supers v w u keeps h in
    let old : (u : ℕ) → HasSpanAt v l.supers u → HasSpanAt w more u = λ u h. record {
      payload = more_payload l.supers at u h.payload;
      raw = (has_kept l.supers v w u keeps h).raw;
      span = (has_kept l.supers v w u keeps h).span;
      recorded = (has_kept l.supers v w u keeps h).recorded;
    } in
    let none : (u : ℕ) → IsPayloadOf (at ∷ []) u → IsRecordAt w.words (record_word u) unused_span = λ u payload. let last =
    payload.page.1 in
    subst (λ p. IsRecordAt w.words (record_word p) unused_span) (sym (page_of_one at u payload).0)
    (blank (page_at u) payload.page.0 (omega arith)) in
    let added : (u : ℕ) → IsPayloadOf more u → IsPayloadOf (at ∷ []) u → HasSpanAt w more u = λ u payload of_one. record {
      payload = payload;
      raw = raw_stays (at ∷ []) v w u wrote (raw_of_one v at raw u of_one);
      span = unused_span;
      recorded = none u of_one;
    } in
    let out : (u : ℕ) → IsPayloadOf (at ∷ []) u → IsOutside (spans_in w.words u) = λ u payload.
    subst IsOutside (sym (span_is w.words u unused_span payload.aligned (none u payload))) (refl, refl, refl) in
    record {
      supers = ap (λ (zs : List SuperPage). zs ++ at ∷ []) k.supers;
      maps = k.maps;
      page = refl;
      turn = k.turn;
      apart = pairs_push (λ (a b : SuperPage). a.number ≢ b.number) l.supers at k.apart new;
      small = λ a member. elim (Contains-push_cases l.supers at a member) [
        | inl before ↦ k.small a before
        | inr e ↦ subst (λ (z : SuperPage). z.number < 2048) e (omega arith)
      ];
      pages = λ u payload. elim (payload_cases l.supers at u payload) [
        | inl before ↦ old u (k.pages u before)
        | inr of_one ↦ added u payload of_one
      ];
      unused = λ u h. elim (payload_cases l.supers at u h.payload) [
        | inl before ↦ let was = k.pages u before in subst StartsAtZero (sym (same u was)) (k.unused u was)
        | inr of_one ↦ λ is. ap (λ (x : SpanRecord). x.turn) (span_is w.words u unused_span h.payload.aligned (none u of_one))
      ];
      stand = stays l.lists (spans_in v.words) (spans_in w.words) (HasSpanAt v l.supers) (HasSpanAt w more) k.stand (record {
        on = λ u h. (old u h, same_listed (spans_in v.words u) (spans_in w.words u) (same u h));
        back = λ u h. elim (payload_cases l.supers at u h.payload) [
          | inl before ↦ let was = k.pages u before in inl (was, same_listed (spans_in v.words u) (spans_in w.words u) (same u was))
          | inr of_one ↦ inr (out u of_one)
        ];
        none = λ h. let first = h.payload.page.0 in omega arith;
      });
      few = k.few;
      stored = record {
        had = λ s among. old s.place (k.stored.had s among);
        numbers = λ s among. ap alone (same s.place (k.stored.had s among)) ∙ k.stored.numbers s among;
        each = λ u h used. elim (payload_cases l.supers at u h.payload) [
          | inl before ↦ let was = k.pages u before in
              k.stored.each u was (λ none. used (ap (λ (x : SpanRecord). x.state) (same u was) ∙ none))
          | inr of_one ↦ absurd (used (out u of_one).0)
        ];
        one = k.stored.one;
        places = k.stored.places;
      };
    }

-- the root is shown with the super page
pub opened_shown : (v w : View) (l : ShelfParts) (r : Root) (at : SuperPage) → IsAware v → IsSound r → ShowsRoot v l r →
    at.number < region_supers →
    IsNewNumber at.number l.supers →
    Rerecorded (at ∷ []) v w → HasRawRecords v at.number → AreBlankBelow w.words at.number 127 →
    ShowsRoot w (with_super at l) (opened at.number at.born r)
opened_shown v w l r at aware sound shown low new wrote raw blank = record {
  kept = opened_kept v w l r at shown.kept low new wrote raw blank;
  chains = λ s among. chain_stays v w (at ∷ []) (chain_of s) (titles_free s) aware wrote (raw_of_one v at raw)
      (size_some s.class (sound.spans s among).counted.class) (shown.chains s among);
}
