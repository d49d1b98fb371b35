-- Which pages have a span's record as a seat sees it, and what writes of records leave of a view.
use Rattle.std.specs.Prelude.{◌≡◌, ℕ, ◌+◌, ◌%◌, ◌<◌, ◌≤◌, List, length, Contains, slice_index, refl}
use Rattle.std.proofs.Common.{◌∙◌, ap, subst}
use Rattle.pa_layout.specs.Pages.{super_page_at, page_at}
use Rattle.pa_region.specs.declared.view.View.{View}
use Rattle.pa_record.specs.declared.taken.SuperPage.{SuperPage}
use Rattle.pa_spans.specs.declared.span.Span.{Span}
use Rattle.pa_records.specs.Words.{record_word, IsRecordAt}
use Rattle.pa_meta.specs.Meta.{HasRawRecord}

-- a payload page of one of these super pages starts at the offset
pub record IsPayloadOf (supers : List SuperPage) (place : ℕ) : Type 0 where
  pub aligned : place % 16384 ≡ 0
  pub super : (at : SuperPage) × Contains supers at × (at.number ≡ super_page_at place)
  pub page : (1 ≤ page_at place) × (page_at place ≤ 126)

-- the view holds the record of that page as raw, and its words are the record of a span
pub record HasSpanAt (v : View) (supers : List SuperPage) (place : ℕ) : Type 0 where
  pub payload : IsPayloadOf supers place
  pub raw : HasRawRecord v place
  pub span : Span
  pub recorded : IsRecordAt v.words (record_word place) span

-- A seat wrote records of these super pages: nothing else of its view is another, and no other word.
pub record Rerecorded (supers : List SuperPage) (v w : View) : Type 0 where
  pub rest : w ≡ record v { words = w.words; since = record v.since { stored = w.since.stored } }
  pub long : length w.words ≡ length v.words
  pub others : (q : ℕ) → ((place : ℕ) → IsPayloadOf supers place → record_word place ≤ q → q < record_word place + 4 → ⊥) →
      slice_index w.words q ≡ slice_index v.words q

-- if it wrote none, or wrote some and then others, it wrote records
pub rerecorded_none : (supers : List SuperPage) (v : View) → Rerecorded supers v v
rerecorded_none supers v = record { rest = refl; long = refl; others = λ q none. refl }

pub rerecorded_on : (supers more : List SuperPage) (u v w : View) → more ≡ supers → Rerecorded supers u v →
    Rerecorded more v w → Rerecorded supers u w
rerecorded_on supers more u v w same first second = record {
  rest = second.rest ∙ ap (λ (x : View). record x { words = w.words; since = record x.since { stored = w.since.stored } }) first.rest;
  long = second.long ∙ first.long;
  others = λ q none. second.others q
      (λ place payload. none place (subst (λ (pages : List SuperPage). IsPayloadOf pages place) same payload)) ∙ first.others q none;
}
