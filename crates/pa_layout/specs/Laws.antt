-- The laws of the layout.
use Rattle.std.specs.Prelude.{◌≡◌, ◌↔◌, ℕ, ◌+◌, ◌%◌, ◌<◌, ◌≤◌, Contains}
use Rattle.pa_layout.specs.declared.bytes.Kind.TheVariants.{Metadata, Payload}
use Rattle.pa_layout.specs.SuperPage.{Interval, intervals, LiesIn, IsOfKind}
use Rattle.pa_layout.specs.Pages.{super_page_at, page_at, page_place, record_place}

-- i is the one interval in which the byte x lies
pub record IsTheInterval (x : ℕ) (i : Interval) : Type 0 where
  pub among : Contains intervals i
  pub lies : LiesIn x i
  pub only : (j : Interval) → Contains intervals j → LiesIn x j → j ≡ i

-- each byte of a super page lies in one interval, and in no other
abbrev pub EachByteHasOneKind : Type 0
EachByteHasOneKind = (x : ℕ) → x < 2097152 → (i : Interval) × IsTheInterval x i

-- the byte k of a partition page is payload if the page is neither the first nor the last
abbrev pub PayloadIsWholePages : Type 0
PayloadIsWholePages =
    (super page k : ℕ) → page < 128 → k < 16384 →
    IsOfKind ((page_place super page + k) % 2097152) Payload ↔ ((1 ≤ page) × (page ≤ 126))

-- the byte x is one of the 16,384 bytes of the page, which is a page of a super page
pub record IsInPage (x super page : ℕ) : Type 0 where
  pub is_page : page < 128
  pub from : page_place super page ≤ x
  pub to : x < page_place super page + 16384

-- each byte lies in the page that `page_of` returns, and in no other
abbrev pub PagesLieApart : Type 0
PagesLieApart =
    (x super page : ℕ) → IsInPage x super page ↔ ((super ≡ super_page_at x) × (page ≡ page_at x))

-- the byte x is one of the 32 bytes of the page's record
pub record IsInRecord (x super page : ℕ) : Type 0 where
  pub is_page : page < 128
  pub from : record_place super page ≤ x
  pub to : x < record_place super page + 32

-- x is a byte of the super page's metadata
abbrev pub IsMetadataOf : ℕ → ℕ → Type 0
IsMetadataOf super x = (super_page_at x ≡ super) × IsOfKind (x % 2097152) Metadata

-- a record lies in the metadata of its super page, and no byte is in the records of two pages
pub record RecordsLieApart : Type 0 where
  pub metadata : (x super page : ℕ) → IsInRecord x super page → IsMetadataOf super x
  pub apart : (x super page other page' : ℕ) → IsInRecord x super page → IsInRecord x other page' →
      (super ≡ other) × (page ≡ page')
