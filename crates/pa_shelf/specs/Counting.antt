-- What a root has, added up over the records of its payload pages.
use Rattle.std.specs.Prelude.{◌≡◌, ℕ, ◌+◌, ◌-◌, ◌*◌, ◌^◌, ◌<◌, ◌≤◌, if◌then◌else◌, List, sum_by}
use Rattle.pa_lists.specs.Numbers.{numbers}
use Rattle.pa_layout.specs.Pages.{page_place}
use Rattle.pa_buckets.specs.declared.spans.State.{State}
use Rattle.pa_buckets.specs.declared.spans.State.TheVariants as state
use Rattle.pa_buckets.specs.Table.{slot_of, pages_of}
use Rattle.pa_record.specs.declared.taken.SuperPage.{SuperPage}
use Rattle.pa_record.specs.Spans.{same_state}
use Rattle.pa_region.specs.declared.view.View.{View}
use Rattle.pa_spans.specs.declared.span.Span.{Span as SpanRecord}
use Rattle.pa_spans.specs.Lists.{IsInUse}
use Rattle.pa_records.specs.Words.{record_word, IsRecordAt, spans_in}
use Rattle.pa_shelf.specs.Opening.{HasRawRecords}
use Rattle.pa_shelf.specs.declared.counts.Sums.{Sums}

-- a record's numbers are those of a span
abbrev pub IsSmall : SpanRecord → Type 0
IsSmall x = (x.allocated ≤ x.made) × (x.made ≤ 1024) × (x.committed ≤ 240)

-- The payload pages of a super page have records. After a page that is in use, up to the end of its span, no page is in use.
pub record HasPagesOf (v : View) (number : ℕ) : Type 0 where
  pub raw : HasRawRecords v number
  pub readable : (page : ℕ) → 1 ≤ page → page ≤ 126 →
      (x : SpanRecord) × IsRecordAt v.words (record_word (page_place number page)) x
  pub counted : (page : ℕ) → 1 ≤ page → page ≤ 126 → IsInUse (spans_in v.words (page_place number page)) →
      IsSmall (spans_in v.words (page_place number page))
  pub ends : (page : ℕ) → 1 ≤ page → page ≤ 126 → IsInUse (spans_in v.words (page_place number page)) →
      page + pages_of (spans_in v.words (page_place number page)).class ≤ 127
  pub behind : (page other : ℕ) → 1 ≤ page → page ≤ 126 → IsInUse (spans_in v.words (page_place number page)) →
      page < other → other < page + pages_of (spans_in v.words (page_place number page)).class →
      IsInUse (spans_in v.words (page_place number other)) → ⊥

-- how many slots of a record were made and aren't out
abbrev pub kept_in : SpanRecord → ℕ
kept_in x = x.made - x.allocated

-- the bytes of the slots that were made and aren't out
abbrev pub slot_bytes_in : SpanRecord → ℕ
slot_bytes_in x = slot_of x.class * kept_in x

-- 1 if the record's span is in the state, else 0
abbrev pub one_if : State → SpanRecord → ℕ
one_if a x = if same_state x.state a then 1 else 0

-- nothing is counted of a record that isn't in use
abbrev pub if_used : (SpanRecord → ℕ) → SpanRecord → ℕ
if_used f x = if same_state x.state state.None then 0 else f x

-- an amount of the record of one payload page of a super page, and 0 if it isn't in use
abbrev pub sum_of_page : (SpanRecord → ℕ) → List ℕ → ℕ → ℕ → ℕ
sum_of_page f words number page = if_used f (spans_in words (page_place number page))

-- an amount summed over the records in use of a super page's first `count` payload pages
abbrev pub sum_of_pages : (SpanRecord → ℕ) → List ℕ → ℕ → ℕ → ℕ
sum_of_pages f words number count = sum_by (sum_of_page f words number) (numbers 1 count)

-- an amount summed over the records in use of all 126 payload pages of each of these super pages
abbrev pub sum_of_supers : (SpanRecord → ℕ) → List ℕ → List SuperPage → ℕ
sum_of_supers f words supers = sum_by (λ (at : SuperPage). sum_of_pages f words at.number 126) supers

-- nothing was added up yet
abbrev pub no_sums : Sums
no_sums = record { slots = 0; bytes = 0; pages = 0; full = 0; active = 0; empty = 0; decommitted = 0 }

-- the totals of each of the numbers came to these sums
pub record AreAdded (total : (SpanRecord → ℕ) → ℕ) (before after : Sums) : Type 0 where
  pub slots : after.slots ≡ before.slots + total kept_in
  pub bytes : after.bytes ≡ before.bytes + total slot_bytes_in
  pub pages : after.pages ≡ before.pages + total (λ x. x.committed)
  pub full : after.full ≡ before.full + total (one_if state.Full)
  pub active : after.active ≡ before.active + total (one_if state.Active)
  pub empty : after.empty ≡ before.empty + total (one_if state.Empty)
  pub decommitted : after.decommitted ≡ before.decommitted + total (one_if state.Decommitted)

-- sums over n records are no greater
pub record AreSumsOf (n : ℕ) (sums : Sums) : Type 0 where
  pub slots : sums.slots ≤ 2 ^ 32 * n
  pub bytes : sums.bytes ≤ 2 ^ 48 * n
  pub pages : sums.pages ≤ 2 ^ 16 * n
  pub full : sums.full ≤ n
  pub active : sums.active ≤ n
  pub empty : sums.empty ≤ n
  pub decommitted : sums.decommitted ≤ n
