-- Sums that are added up step by step.
use Rattle.std.proofs.Common.{◌≡◌, ℕ, suc, ◌+◌, ◌-◌, ◌*◌, ◌%◌, ◌<◌, ◌≤◌, inl, inr, Bool, true, false, if◌then◌else◌, List, [], length, take, refl, sym, ◌∙◌, ap, subst, arith}
use Rattle.std.specs.Prelude.{sum_by, slice_index_or}
use Rattle.std.proofs.Math.Nat.{mul-le-mul_right}
use Rattle.std.proofs.Math.Seq.{take-suc}
use Rattle.std.proofs.lemmas.Bool.{cases_Bool, both_ways}
use Rattle.std.proofs.lemmas.List.Sums.{sum_by-cons, sum_by-append, sum_by_push}
use Rattle.pa_lists.specs.Numbers.{numbers}
use Rattle.pa_lists.proofs.Different.{numbers_in}
use Rattle.pa_lists.proofs.Tests.{one_more}
use Rattle.pa_layout.specs.Pages.{page_place}
use Rattle.pa_buckets.specs.declared.spans.State.{State}
use Rattle.pa_buckets.specs.declared.spans.State.TheVariants as state
use Rattle.pa_buckets.specs.Table.{pages_of}
use Rattle.pa_buckets.proofs.Facts.{IsRow-of}
use Rattle.pa_record.specs.declared.taken.SuperPage.{SuperPage}
use Rattle.pa_record.specs.Spans.{same_state}
use Rattle.pa_record.proofs.Entering.{same_state-true}
use Rattle.pa_region.specs.declared.view.View.{View}
use Rattle.pa_spans.specs.declared.span.Span.{Span as SpanRecord}
use Rattle.pa_spans.specs.Lists.{IsInUse}
use Rattle.pa_records.specs.Words.{record_word, IsRecordAt, spans_in}
use Rattle.pa_records.proofs.Words.{span_is}
use Rattle.pa_shelf.specs.declared.counts.Sums.{Sums}
use Rattle.pa_shelf.specs.Counting.{HasPagesOf, sum_of_page, sum_of_pages, sum_of_supers, kept_in, slot_bytes_in, one_if, AreAdded, AreSumsOf}
use Rattle.pa_shelf.proofs.Counting.{used_or_none}
use Rattle.pa_shelf.proofs.Sums.{sum_none, numbers_parts}

-- totals that come after others, and equal ones
pub added_on : (t u w : (SpanRecord → ℕ) → ℕ) (a b c : Sums) → AreAdded t a b → AreAdded u b c → ((f : SpanRecord → ℕ) → w f ≡ t f + u f) →
    AreAdded w a c
added_on t u w a b c first second sum = record {
  slots = let d = first.slots in let e = second.slots in let s = sum kept_in in omega arith;
  bytes = let d = first.bytes in let e = second.bytes in let s = sum slot_bytes_in in omega arith;
  pages = let d = first.pages in let e = second.pages in let s = sum (λ x. x.committed) in omega arith;
  full = let d = first.full in let e = second.full in let s = sum (one_if state.Full) in omega arith;
  active = let d = first.active in let e = second.active in let s = sum (one_if state.Active) in omega arith;
  empty = let d = first.empty in let e = second.empty in let s = sum (one_if state.Empty) in omega arith;
  decommitted = let d = first.decommitted in let e = second.decommitted in let s = sum (one_if state.Decommitted) in omega arith;
}

pub added_same : (t w : (SpanRecord → ℕ) → ℕ) (a b : Sums) → AreAdded t a b → ((f : SpanRecord → ℕ) → w f ≡ t f) → AreAdded w a b
added_same t w a b first same = record {
  slots = let d = first.slots in let s = same kept_in in omega arith;
  bytes = let d = first.bytes in let s = same slot_bytes_in in omega arith;
  pages = let d = first.pages in let s = same (λ x. x.committed) in omega arith;
  full = let d = first.full in let s = same (one_if state.Full) in omega arith;
  active = let d = first.active in let s = same (one_if state.Active) in omega arith;
  empty = let d = first.empty in let s = same (one_if state.Empty) in omega arith;
  decommitted = let d = first.decommitted in let s = same (one_if state.Decommitted) in omega arith;
}

pub none_added : (t : (SpanRecord → ℕ) → ℕ) (a : Sums) → ((f : SpanRecord → ℕ) → t f ≡ 0) → AreAdded t a a
none_added t a none = record {
  slots = let s = none kept_in in omega arith;
  bytes = let s = none slot_bytes_in in omega arith;
  pages = let s = none (λ x. x.committed) in omega arith;
  full = let s = none (one_if state.Full) in omega arith;
  active = let s = none (one_if state.Active) in omega arith;
  empty = let s = none (one_if state.Empty) in omega arith;
  decommitted = let s = none (one_if state.Decommitted) in omega arith;
}

-- sums over more records
pub sums_more : (n m : ℕ) (a : Sums) → n ≤ m → AreSumsOf n a → AreSumsOf m a
sums_more n m a less are = record {
  slots = let d = are.slots in omega arith;
  bytes = let d = are.bytes in omega arith;
  pages = let d = are.pages in omega arith;
  full = let d = are.full in omega arith;
  active = let d = are.active in omega arith;
  empty = let d = are.empty in omega arith;
  decommitted = let d = are.decommitted in omega arith;
}

-- the sum over the pages up to the next one that is looked at
pages_more : (f : SpanRecord → ℕ) (words : List ℕ) (number page n : ℕ) → 1 ≤ page →
    sum_of_pages f words number (page + n - 1) ≡ sum_of_pages f words number (page - 1) + sum_by (sum_of_page f words number)
    (numbers page n)
pages_more f words number page n some =
    let g = sum_of_page f words number in
    let before : page + n - 1 ≡ (page - 1) + n = omega arith in
    let next : 1 + (page - 1) ≡ page = omega arith in
    ap (λ k. sum_by g (numbers 1 k)) before
    ∙ (ap (sum_by g) (numbers_parts 1 (page - 1) n)
    ∙ (sum_by-append g (numbers 1 (page - 1)) (numbers (1 + (page - 1)) n)
    ∙ ap (λ k. sum_by g (numbers 1 (page - 1)) + sum_by g (numbers k n)) next))

-- a page at which no span starts adds nothing
pub past_none : (words : List ℕ) (number page : ℕ) (a b : Sums) → 1 ≤ page → (spans_in words (page_place number page)).state ≡ state.None →
    AreAdded (λ f. sum_of_pages f words number (page - 1)) a b → AreAdded (λ f. sum_of_pages f words number (page + 1 - 1)) a b
past_none words number page a b some is first =
    added_same (λ f. sum_of_pages f words number (page - 1)) (λ f. sum_of_pages f words number (page + 1 - 1)) a b first (λ f.
    let g = sum_of_page f words number in
    let none : g page ≡ 0 = elim (used_or_none f (spans_in words (page_place number page))) [
      | inl used ↦ absurd (used.0 is)
      | inr unused ↦ unused.1
    ] in
    let more = pages_more f words number page 1 some in
    let one = sum_by-cons g page [] in
    omega arith)

-- the span that starts at a page adds its own numbers, and its other pages nothing
pub past_span : (v : View) (number page : ℕ) (a b c : Sums) → HasPagesOf v number → 1 ≤ page → page ≤ 126 →
    IsInUse (spans_in v.words (page_place number page)) → 1 ≤ pages_of (spans_in v.words (page_place number page)).class →
    AreAdded (λ f. sum_of_pages f v.words number (page - 1)) a b → AreAdded (λ f. f (spans_in v.words (page_place number page))) b c →
    AreAdded (λ f. sum_of_pages f v.words number (page + pages_of (spans_in v.words (page_place number page)).class - 1)) a c
past_span v number page a b c had some last used long first second =
    let x = spans_in v.words (page_place number page) in
    let n = pages_of x.class in
    added_on (λ f. sum_of_pages f v.words number (page - 1)) (λ f. f x)
    (λ f. sum_of_pages f v.words number (page + n - 1)) a b c first second (λ f.
    let g = sum_of_page f v.words number in
    let here : g page ≡ f x = elim (used_or_none f x) [
      | inl is ↦ is.1
      | inr unused ↦ absurd (used unused.0)
    ] in
    let rest : sum_by g (numbers (page + 1) (n - 1)) ≡ 0 = sum_none g (numbers (page + 1) (n - 1)) (λ q inside.
    let (low, high) = numbers_in (page + 1) (n - 1) q inside in
    elim (used_or_none f (spans_in v.words (page_place number q))) [
      | inl too ↦ absurd (had.behind page q some last used (omega arith) (omega arith) too.0)
      | inr unused ↦ unused.1
    ]) in
    let more = pages_more f v.words number page n some in
    let split : n ≡ suc (n - 1) = omega arith in
    let parts : sum_by g (numbers page n) ≡ g page + sum_by g (numbers (page + 1) (n - 1)) =
    ap (λ k. sum_by g (numbers page k)) split ∙ sum_by-cons g page (numbers (page + 1) (n - 1)) in
    omega arith)

-- the bytes of one span's slots
pub bytes_low : (size kept : ℕ) → size ≤ 983040 → kept ≤ 1024 → size * kept ≤ 1006632960
bytes_low size kept small few = let most = mul-le-mul_right kept small in omega arith

pub one_low : (a : State) (x : SpanRecord) → one_if a x ≤ 1
one_low a x = elim (cases_Bool (same_state x.state a)) [
  | inl hit ↦ let e : one_if a x ≡ 1 = ap (λ (b : Bool). if b then 1 else 0) hit in omega arith
  | inr miss ↦ let e : one_if a x ≡ 0 = ap (λ (b : Bool). if b then 1 else 0) miss in omega arith
]

-- what a page's record is read as
pub record_at : (v w : View) (number page place : ℕ) → HasPagesOf v number → w ≡ v → place ≡ page_place number page → 1 ≤ page →
    page ≤ 126 →
    (x : SpanRecord) × IsRecordAt w.words (record_word place) x
record_at v w number page place had same is first last =
    let (x, recorded) = had.readable page first last in (
      x,
      subst (λ (z : View). IsRecordAt z.words (record_word place) x) (sym same)
          (subst (λ p. IsRecordAt v.words (record_word p) x) (sym is) recorded),
    )

pub read_at : (v w : View) (number page place : ℕ) (y : SpanRecord) → HasPagesOf v number → w ≡ v → place ≡ page_place number page →
    1 ≤ page → page ≤ 126 →
    ((x : SpanRecord) → IsRecordAt w.words (record_word place) x → y ≡ x) → y ≡ spans_in v.words (page_place number page)
read_at v w number page place y had same is first last read =
    let (x, recorded) = had.readable page first last in
    let aligned : page_place number page % 16384 ≡ 0 = omega arith in
    read x (subst (λ (z : View). IsRecordAt z.words (record_word place) x) (sym same)
    (subst (λ p. IsRecordAt v.words (record_word p) x) (sym is) recorded))
    ∙ sym (span_is v.words (page_place number page) x aligned recorded)

pub none_at : (v w : View) (number page place : ℕ) (test : Bool) → HasPagesOf v number → w ≡ v → place ≡ page_place number page → 1 ≤ page →
    page ≤ 126 →
    ((x : SpanRecord) → IsRecordAt w.words (record_word place) x → test ≡ same_state x.state state.None) →
    test ≡ same_state (spans_in v.words (page_place number page)).state state.None
none_at v w number page place test had same is first last read =
    let (x, recorded) = had.readable page first last in
    let aligned : page_place number page % 16384 ≡ 0 = omega arith in
    read x (subst (λ (z : View). IsRecordAt z.words (record_word place) x) (sym same)
    (subst (λ p. IsRecordAt v.words (record_word p) x) (sym is) recorded))
    ∙ ap (λ (z : SpanRecord). same_state z.state state.None) (sym (span_is v.words (page_place number page) x aligned recorded))

-- a state that is one, or none
pub is_none : (a : State) (test : Bool) → test ≡ same_state a state.None → test ≡ true → a ≡ state.None
is_none a test is hit = same_state-true a state.None (sym is ∙ hit)

pub is_some : (x : SpanRecord) (test : Bool) → test ≡ same_state x.state state.None → test ≡ false → IsInUse x
is_some x test is miss none = both_ways _ (sym is ∙ miss) (subst (λ e. same_state e state.None ≡ true) (sym none) refl)

-- what a step over a span leaves
pub record IsPast (v : View) (number page n : ℕ) (y : SpanRecord) (a c : Sums) : Type 0 where
  pub some : 1 ≤ n
  pub ends : page + n ≤ 127
  pub added : AreAdded (λ f. sum_of_pages f v.words number (page + n - 1)) a c

pub span_pages : (v : View) (number page n : ℕ) (y : SpanRecord) → HasPagesOf v number → 1 ≤ page → page ≤ 126 →
    y ≡ spans_in v.words (page_place number page) →
    IsInUse (spans_in v.words (page_place number page)) → n ≡ pages_of y.class → page + n ≤ 127
span_pages v number page n y had first last is used long =
    let end = had.ends page first last used in
    let e : n ≡ pages_of (spans_in v.words (page_place number page)).class = long ∙ ap (λ (z : SpanRecord). pages_of z.class) is in
    omega arith

pub step_span : (v : View) (number page n : ℕ) (y : SpanRecord) (a b c : Sums) → HasPagesOf v number → 1 ≤ page → page ≤ 126 →
    y ≡ spans_in v.words (page_place number page) → IsInUse (spans_in v.words (page_place number page)) → y.class < 170 →
    n ≡ pages_of y.class →
    AreAdded (λ f. sum_of_pages f v.words number (page - 1)) a b → AreAdded (λ f. f y) b c → IsPast v number page n y a c
step_span v number page n y a b c had first last is used real long before more =
    let x = spans_in v.words (page_place number page) in
    let some = (IsRow-of y.class real).some_pages in
    let e : pages_of x.class ≡ n = sym (long ∙ ap (λ (z : SpanRecord). pages_of z.class) is) in
    record {
      some = omega arith;
      ends = span_pages v number page n y had first last is used long;
      added = subst (λ k. AreAdded (λ f. sum_of_pages f v.words number (page + k - 1)) a c) e
          (past_span v number page a b c had first last used (omega arith) before
          (added_same (λ f. f y) (λ f. f x) b c more (λ f. ap f (sym is))));
    }

-- with one more super page
pub supers_more : (f : SpanRecord → ℕ) (words : List ℕ) (supers : List SuperPage) (i : ℕ) (d : SuperPage) → i < length supers →
    sum_of_supers f words (take (i + 1) supers) ≡ sum_of_supers f words (take i supers) + sum_of_pages f words
    (slice_index_or supers i d).number 126
supers_more f words supers i d inside =
    let g : SuperPage → ℕ = λ at. sum_of_pages f words at.number 126 in
    ap (λ k. sum_by g (take k supers)) (one_more i)
    ∙ (ap (sum_by g) (take-suc supers i d inside) ∙ sum_by_push g (take i supers) (slice_index_or supers i d))
