-- A span before it has a place, and what a take leaves of one.
use Rattle.std.specs.Prelude.{◌≡◌, ℕ, ◌+◌, ◌<◌, ◌≤◌, ◌^◌, List, [], ◌∷◌, All, slice_index_or, Vec, vec_len}
use Rattle.std.specs.declared.alloc.Global.{Global}
use Rattle.pa_slot.specs.declared.title.Title.{Title}
use Rattle.pa_buckets.specs.declared.spans.State.TheVariants as state
use Rattle.pa_buckets.specs.Limits.{class_count}
use Rattle.pa_record.specs.Spans.{Span, bytes_of, title_at, with_free, without_front}

-- a span of the class that has no place yet, nothing of which is committed
abbrev pub blank_span : ℕ → Span
blank_span class =
    record {
      place = 0;
      born = 0;
      class = class;
      state = state.None;
      turn = 0;
      allocated = 0;
      provisioned = 0;
      committed = 0;
      made = 0;
      free = [];
    }

-- there is a list for each class, in which all are blank spans of it
pub record AreBlank (lists : Vec (Vec Span Global) Global) : Type 0 where
  pub classes : vec_len lists ≡ class_count
  pub blank : (class : ℕ) (d : Vec Span Global) → class < class_count →
      All (λ s. s ≡ blank_span class) (slice_index_or lists.items class d).items

-- the span at this place, in the super page that this entry of the pool took
abbrev pub stands_at : ℕ → ℕ → Span → Span
stands_at place born s = record s { place = place; born = born }

-- the span ends at the byte 2^32 or below it
abbrev pub IsLow : Span → Type 0
IsLow s = s.place + bytes_of s ≤ 2 ^ 32

-- The front of the span's list was taken, after the span was provisioned if the list was empty.
pub record IsServed (s next : Span) (served : Title) : Type 0 where
  pub number : ℕ
  pub rest : List ℕ
  pub front : (with_free s).free ≡ number ∷ rest
  pub after : next ≡ without_front rest (with_free s)
  pub title : served ≡ title_at (with_free s) number
