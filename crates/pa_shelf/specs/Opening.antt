-- A super page that joins a root, with records of no span.
use Rattle.std.specs.Prelude.{◌≢◌, ℕ, ◌<◌, ◌≤◌, List, [], ◌∷◌, ◌++◌, Contains}
use Rattle.pa_layout.specs.Pages.{page_place}
use Rattle.pa_record.specs.declared.taken.SuperPage.{SuperPage}
use Rattle.pa_region.specs.declared.view.View.{View}
use Rattle.pa_records.specs.Words.{record_word, IsRecordAt, unused_span}
use Rattle.pa_meta.specs.Meta.{HasRawRecord}
use Rattle.pa_shelf.specs.Shelves.{ShelfParts}

-- the view holds the record of each payload page of the super page as raw
abbrev pub HasRawRecords : View → ℕ → Type 0
HasRawRecords v number = (page : ℕ) → 1 ≤ page → page ≤ 126 → HasRawRecord v (page_place number page)

-- the words have the record of no span for each of its payload pages below this one
abbrev pub AreBlankBelow : List ℕ → ℕ → ℕ → Type 0
AreBlankBelow words number below =
    (page : ℕ) → 1 ≤ page → page < below → IsRecordAt words (record_word (page_place number page)) unused_span

-- none of these super pages has the number
abbrev pub IsNewNumber : ℕ → List SuperPage → Type 0
IsNewNumber number supers = (at : SuperPage) → Contains supers at → at.number ≢ number

-- the root's parts with a super page more, which is the current one now
abbrev pub with_super : SuperPage → ShelfParts → ShelfParts
with_super at l = record l { supers = l.supers ++ at ∷ []; page = 1 }
