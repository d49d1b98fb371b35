-- The sums over the records of the payload pages are those over the root's spans.
use Rattle.std.proofs.Common.{◌≡◌, ◌≢◌, ◌⊎◌, ℕ, ◌+◌, ◌-◌, ◌*◌, ◌%◌, ◌<◌, ◌≤◌, inl, inr, Bool, true, false, if◌then◌else◌, List, map, flat_map, [], ◌∷◌, refl, sym, ◌∙◌, ap, subst, arith}
use Rattle.std.specs.Prelude.{AllPairs, Contains, sum_by}
use Rattle.std.proofs.lemmas.Bool.{cases_Bool, both_ways}
use Rattle.std.proofs.lemmas.List.Sums.{sum_by-cons, sum_by-append}
use Rattle.pa_lists.specs.Numbers.{numbers}
use Rattle.pa_lists.proofs.Different.{numbers_in, numbers_has, numbers_once}
use Rattle.pa_lists.proofs.Joined.{map_cases, map_in, flat_cases, flat_in, pairs_map, pairs_flat}
use Rattle.pa_layout.specs.Pages.{super_page_at, page_at, page_place}
use Rattle.pa_buckets.specs.declared.spans.State.{State}
use Rattle.pa_buckets.specs.declared.spans.State.TheVariants as state
use Rattle.pa_buckets.specs.Table.{slot_of, pages_of}
use Rattle.pa_buckets.proofs.Facts.{IsRow-of}
use Rattle.pa_record.specs.declared.taken.SuperPage.{SuperPage}
use Rattle.pa_record.specs.Spans.{Span, is_in, same_place, same_state}
use Rattle.pa_record.specs.Census.{kept_of, count_in}
use Rattle.pa_record.specs.Laws.{IsUsed}
use Rattle.pa_record.specs.Root.{Root}
use Rattle.pa_record.specs.Sound.{IsSound}
use Rattle.pa_record.proofs.Entering.{same_state-true}
use Rattle.pa_record.proofs.Places.{place_self}
use Rattle.pa_region.specs.declared.view.View.{View}
use Rattle.pa_region.proofs.Adding.{sum_map, sum_same}
use Rattle.pa_spans.specs.declared.span.Span.{Span as SpanRecord}
use Rattle.pa_spans.specs.Lists.{IsInUse}
use Rattle.pa_records.specs.Words.{spans_in}
use Rattle.pa_records.specs.Records.{record_with}
use Rattle.pa_records.specs.Stored.{alone}
use Rattle.pa_meta.specs.Stores.{IsPayloadOf, HasSpanAt}
use Rattle.pa_shelf.specs.Counting.{IsSmall, HasPagesOf, kept_in, slot_bytes_in, one_if, if_used, sum_of_pages, sum_of_supers, no_sums, AreAdded}
use Rattle.pa_shelf.specs.declared.counts.Sums.{Sums}
use Rattle.pa_shelf.specs.Shelves.{ShelfParts, RecordsRoot}
use Rattle.pa_shelf.proofs.Finding.{none_behind}
use Rattle.pa_shelf.proofs.Oldest.{state_at}
use Rattle.pa_shelf.proofs.Sums.{sums_placed}

-- a record is in use, or nothing is counted of it
pub used_or_none : (f : SpanRecord → ℕ) (x : SpanRecord) → (IsInUse x × (if_used f x ≡ f x)) ⊎ ((x.state ≡ state.None) × (if_used f x ≡ 0))
used_or_none f x = elim (cases_Bool (same_state x.state state.None)) [
  | inl none ↦ inr (same_state-true x.state state.None none, ap (λ (b : Bool). if b then 0 else f x) none)
  | inr some ↦ inl (
    (λ is. both_ways _ some (subst (λ a. same_state a state.None ≡ true) (sym is) refl)),
    ap (λ (b : Bool). if b then 0 else f x) some,
  )
]

-- the first bytes of the payload pages
abbrev places_in : SuperPage → List ℕ
places_in at = map (page_place at.number) (numbers 1 126)

abbrev places_of : List SuperPage → List ℕ
places_of supers = flat_map places_in supers

-- a payload page is one of them
at_place : (u : ℕ) → u % 16384 ≡ 0 → u ≡ page_place (super_page_at u) (page_at u)
at_place u aligned = omega arith

place_among : (supers : List SuperPage) (u : ℕ) → IsPayloadOf supers u → Contains (places_of supers) u
place_among supers u payload =
    let (at, among, is) = payload.super in
    let first = payload.page.0 in let last = payload.page.1 in
    let e : page_place at.number (page_at u) ≡ u = ap (λ n. page_place n (page_at u)) is ∙ sym (at_place u payload.aligned) in
    flat_in places_in supers at u among
    (subst (Contains (places_in at)) e
    (map_in (page_place at.number) (numbers 1 126) (page_at u) (numbers_has 1 126 (page_at u) first (omega arith))))

pub payload_at : (supers : List SuperPage) (at : SuperPage) (page : ℕ) → Contains supers at → 1 ≤ page → page ≤ 126 →
    IsPayloadOf supers (page_place at.number page)
payload_at supers at page among first last =
    record { aligned = omega arith; super = (at, among, omega arith); page = (omega arith, omega arith) }

among_place : (supers : List SuperPage) (u : ℕ) → Contains (places_of supers) u → IsPayloadOf supers u
among_place supers u inside =
    let (at, among, there) = flat_cases places_in supers u inside in
    let (page, numbered, is) = map_cases (page_place at.number) (numbers 1 126) u there in
    let (first, last) = numbers_in 1 126 page numbered in
    subst (IsPayloadOf supers) is (payload_at supers at page among first (omega arith))

-- no two of them are one
pages_differ : (a b p q : ℕ) → p < 127 → q < 127 → page_place a p ≡ page_place b q → (a ≡ b) × (p ≡ q)
pages_differ a b p q first second same = (omega arith, omega arith)

places_once : (supers : List SuperPage) → AllPairs (λ (a b : SuperPage). a.number ≢ b.number) supers → AllPairs ◌≢◌ (places_of supers)
places_once supers apart = pairs_flat (λ (a b : SuperPage). a.number ≢ b.number) ◌≢◌ places_in supers apart
    (λ at among. pairs_map ◌≢◌ ◌≢◌ (page_place at.number) (numbers 1 126) (λ p q a b differ same.
    let (first, last) = numbers_in 1 126 p a in let (low, high) = numbers_in 1 126 q b in
    differ (pages_differ at.number at.number p q (omega arith) (omega arith) same).1) (numbers_once 1 126))
    (λ a b u v first second differ m n same.
    let (p, numbered, is) = map_cases (page_place a.number) (numbers 1 126) u m in
    let (q, counted, there) = map_cases (page_place b.number) (numbers 1 126) v n in
    let (low, high) = numbers_in 1 126 p numbered in let (least, most) = numbers_in 1 126 q counted in
    differ (pages_differ a.number b.number p q (omega arith) (omega arith) (is ∙ (same ∙ sym there))).0)

-- a sum over them
sum_flat : {A : Type 0} (h : ℕ → ℕ) (f : A → List ℕ) (xs : List A) → sum_by h (flat_map f xs) ≡ sum_by (λ x. sum_by h (f x)) xs
sum_flat h f [] = refl
sum_flat h f (x ∷ xs) =
    let rest = sum_flat h f xs in
    let a = sum_by-append h (f x) (flat_map f xs) in
    let b = sum_by-cons (λ y. sum_by h (f y)) x xs in
    omega arith

sum_over : (f : SpanRecord → ℕ) (words : List ℕ) (supers : List SuperPage) →
    sum_by (λ u. if_used f (spans_in words u)) (places_of supers) ≡ sum_of_supers f words supers
sum_over f words supers =
    sum_flat (λ u. if_used f (spans_in words u)) places_in supers
    ∙ sum_same (λ (at : SuperPage). sum_by (λ u. if_used f (spans_in words u)) (places_in at))
    (λ (at : SuperPage). sum_of_pages f words at.number 126) supers
    (λ at. sum_map (λ u. if_used f (spans_in words u)) (page_place at.number) (numbers 1 126))

-- What is counted of the records is what is counted of the spans.
abbrev pub CountsAlike : (SpanRecord → ℕ) → (Span → ℕ) → Type 0
CountsAlike f g = (x : SpanRecord) (s : Span) → alone x ≡ record_with s 0 0 → f x ≡ g s

pub sums_are : (v : View) (l : ShelfParts) (r : Root) (f : SpanRecord → ℕ) (g : Span → ℕ) → RecordsRoot v l r → IsUsed r → CountsAlike f g →
    sum_of_supers f v.words l.supers ≡ sum_by g r.spans
sums_are v l r f g k used alike =
    let spans = spans_in v.words in
    let place : Span → ℕ = λ s. s.place in
    sym (sum_over f v.words l.supers) ∙ sums_placed place g (λ u. if_used f (spans u)) (places_of l.supers) r.spans (record {
      once = places_once l.supers k.apart;
      apart = pairs_map (λ s t. same_place s t ≡ false) ◌≢◌ place r.spans
          (λ s t a b apart same. both_ways _ apart (subst (λ (z : Span). same_place s z ≡ true) (k.stored.one s t a b same) (place_self s)))
          k.stored.places;
      here = λ s among. (
        place_among l.supers s.place (k.stored.had s among).payload,
        elim (used_or_none f (spans s.place)) [
          | inl some ↦ some.1 ∙ alike (spans s.place) s (k.stored.numbers s among)
          | inr none ↦ absurd (both_ways _ (used s among)
              (subst (λ a. same_state a state.None ≡ true)
              (sym (sym (state_at spans (HasSpanAt v l.supers) r.spans s k.stored among) ∙ none.0)) refl))
        ],
      );
      each = λ u inside. elim (used_or_none f (spans u)) [
        | inl some ↦ inr (k.stored.each u (k.pages u (among_place l.supers u inside)) some.0)
        | inr none ↦ inl none.1
      ];
    })

pub kept_alike : CountsAlike kept_in kept_of
kept_alike x s e = ap (λ (y : SpanRecord). y.made - y.allocated) e

pub bytes_alike : CountsAlike slot_bytes_in (λ s. slot_of s.class * kept_of s)
bytes_alike x s e = ap (λ (y : SpanRecord). slot_of y.class * (y.made - y.allocated)) e

pub pages_alike : CountsAlike (λ x. x.committed) (λ s. s.committed)
pages_alike x s e = ap (λ (y : SpanRecord). y.committed) e

pub one_alike : (a : State) → CountsAlike (one_if a) (λ s. if is_in a s then 1 else 0)
one_alike a x s e = ap (λ (y : SpanRecord). if same_state y.state a then 1 else 0) e

-- a super page's records
pub pages_had : (v : View) (l : ShelfParts) (r : Root) (at : SuperPage) → IsSound r → RecordsRoot v l r → Contains l.supers at →
    HasPagesOf v at.number
pages_had v l r at sound k inside =
    let spans = spans_in v.words in
    let had : (page : ℕ) → 1 ≤ page → page ≤ 126 → HasSpanAt v l.supers (page_place at.number page) = λ page first last.
    k.pages (page_place at.number page) (payload_at l.supers at page inside first last) in
    let class_is : (s : Span) → Contains r.spans s → (spans s.place).class ≡ s.class =
    λ s among. ap (λ (x : SpanRecord). x.class) (k.stored.numbers s among) in
    record {
      raw = λ page first last. (had page first last).raw;
      readable = λ page first last. let h = had page first last in (h.span, h.recorded);
      counted = λ page first last used.
          let (s, among, here) = k.stored.each (page_place at.number page) (had page first last) used in
          let e = k.stored.numbers s among in
          let out : (spans s.place).allocated ≡ s.allocated = ap (λ (x : SpanRecord). x.allocated) e in
          let made : (spans s.place).made ≡ s.made = ap (λ (x : SpanRecord). x.made) e in
          let held : (spans s.place).committed ≡ s.committed = ap (λ (x : SpanRecord). x.committed) e in
          let c = (sound.spans s among).counted in let listed = c.listed in let more = c.made in let most = c.most in
          let pages = c.committed in
          let row = IsRow-of s.class c.class in let slots = row.few_slots in let used = row.used in let few = row.few_pages in
          subst (λ u. IsSmall (spans u)) here (omega arith, omega arith, omega arith);
      ends = λ page first last used.
          let (s, among, here) = k.stored.each (page_place at.number page) (had page first last) used in
          let (a, other, p) = sound.placed s among in
          let end = p.last in let place = p.place in
          let e = (pages_differ at.number a.number page other (omega arith)
          (page_less other (pages_of s.class) s.class (sound.spans s among).counted.class refl end)
          (sym here ∙ place)).1 in
          subst (λ u. page + pages_of (spans u).class ≤ 127) here
          (subst (λ k. page + pages_of k ≤ 127) (sym (class_is s among)) (omega arith));
      behind = λ page other first last used low high too.
          let (s, among, here) = k.stored.each (page_place at.number page) (had page first last) used in
          let (a, spot, p) = sound.placed s among in
          let end = p.last in
          let long : other < page + pages_of s.class = subst (λ k. other < page + pages_of k) (class_is s among)
          (subst (λ u. other < page + pages_of (spans u).class) (sym here) high) in
          let e = (pages_differ at.number a.number page spot (omega arith)
          (page_less spot (pages_of s.class) s.class (sound.spans s among).counted.class refl end)
          (sym here ∙ p.place)).1 in
          let (t, there, starts) = k.stored.each (page_place at.number other) (had other (omega arith) (omega arith)) too in
          none_behind v l r s t sound k among there (omega arith) (omega arith);
    }
  where
    page_less : (page n class : ℕ) → class < 170 → n ≡ pages_of class → page + n ≤ 127 → page < 127
    page_less page n class real is last = let some = (IsRow-of class real).some_pages in omega arith

-- the sums are the numbers of the root's census
pub record AreCensus (r : Root) (a : Sums) : Type 0 where
  pub slots : a.slots ≡ sum_by kept_of r.spans
  pub bytes : a.bytes ≡ sum_by (λ (s : Span). slot_of s.class * kept_of s) r.spans
  pub pages : a.pages ≡ sum_by (λ (s : Span). s.committed) r.spans
  pub full : a.full ≡ count_in state.Full r
  pub active : a.active ≡ count_in state.Active r
  pub empty : a.empty ≡ count_in state.Empty r
  pub decommitted : a.decommitted ≡ count_in state.Decommitted r

pub census_added : (v : View) (l : ShelfParts) (r : Root) (a : Sums) → RecordsRoot v l r → IsUsed r →
    AreAdded (λ f. sum_of_supers f v.words l.supers) no_sums a → AreCensus r a
census_added v l r a k used added =
    let one : (e : State) → sum_of_supers (one_if e) v.words l.supers ≡ count_in e r = λ e.
    sums_are v l r (one_if e) (λ s. if is_in e s then 1 else 0) k used (one_alike e) in
    let none : (n m : ℕ) → n ≡ 0 + m → n ≡ m = λ n m e. omega arith in
    record {
      slots = none a.slots _ added.slots ∙ sums_are v l r kept_in kept_of k used kept_alike;
      bytes = none a.bytes _ added.bytes ∙ sums_are v l r slot_bytes_in (λ s. slot_of s.class * kept_of s) k used bytes_alike;
      pages = none a.pages _ added.pages ∙ sums_are v l r (λ x. x.committed) (λ s. s.committed) k used pages_alike;
      full = none a.full _ added.full ∙ one state.Full;
      active = none a.active _ added.active ∙ one state.Active;
      empty = none a.empty _ added.empty ∙ one state.Empty;
      decommitted = none a.decommitted _ added.decommitted ∙ one state.Decommitted;
    }
