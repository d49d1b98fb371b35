-- Which slots a take makes for the first time.
use Rattle.std.specs.Prelude.{◌≡◌, ℕ, zero, suc, ◌+◌, ◌-◌, ◌*◌, ◌^◌, ◌<◌, ◌≤◌, ◌↔◌, ◌⊎◌, ◌++◌, nat_lt, if◌then◌else◌, List, [], ◌∷◌, Option, Some, None, Contains, AllPairs}
use Rattle.pa_slot.specs.declared.title.Title.{Title}
use Rattle.pa_buckets.specs.Table.{slot_of}
use Rattle.pa_record.specs.Spans.{Span, title_at, with_free}
use Rattle.pa_record.specs.Root.{Root, Found, Took, span_for, one_take}
use Rattle.pa_record.specs.Sound.{IsMade}
use Rattle.pa_place.specs.declared.placed.Made.{Made}

-- the slot of a batch with this number, from 0: as long as the first, and right after the one before it
abbrev pub title_in : Made → ℕ → Title
title_in b k = record { start = b.first.start + b.first.len * k; len = b.first.len; born = b.first.born }

-- the title is a slot of the batch
abbrev pub IsInBatch : Made → Title → Type 0
IsInBatch b t = (k : ℕ) × (k < b.count) × (t ≡ title_in b k)

-- the title is a slot of one of the batches
abbrev pub IsInBatches : List Made → Title → Type 0
IsInBatches bs t = (b : Made) × Contains bs b × IsInBatch b t

-- a batch has 1 to 1,024 slots of the class, which lie in the region
pub record IsBatch (class : ℕ) (b : Made) : Type 0 where
  pub some : 1 ≤ b.count
  pub most : b.count ≤ 1024
  pub len : b.first.len ≡ slot_of class
  pub inside : b.first.start + b.first.len * b.count ≤ 2 ^ 32

-- The slots of the batches are just those that are made in the root after and weren't in the root before, and no slot is in
-- two batches.
pub record AreMadeNow (class : ℕ) (r after : Root) (bs : List Made) : Type 0 where
  pub batches : (b : Made) → Contains bs b → IsBatch class b
  pub made : (t : Title) → IsMade after t ↔ (IsMade r t ⊎ IsInBatches bs t)
  pub new : (t : Title) → IsInBatches bs t → IsMade r t → ⊥
  pub once : AllPairs (λ b c. (t : Title) → IsInBatch b t → IsInBatch c t → ⊥) bs

-- the batch that a span has made beyond its first `before` slots, if it made more
abbrev pub made_from : ℕ → Span → List Made
made_from before s = if nat_lt before s.made then record { first = title_at s before; count = s.made - before } ∷ [] else []

-- the batch that one take makes of the span that it found, if it makes one
abbrev pub cut_in : Option Found → List Made
cut_in None = []
cut_in (Some f) = made_from f.span.made (with_free f.span)

-- the batches of a take and of those after it, or none if the take gave no slot
abbrev pub and_cut : Took → List Made → (Root → List Made) → List Made
and_cut t first further = elim t.title as (λ o. List Made) [ None ↦ [] | Some title ↦ first ++ further t.root ]

-- the batches of at most `want` takes of the class, one after another, until one finds no slot
abbrev pub takes_cut : ℕ → ℕ → Root → List Made
takes_cut class zero r = []
takes_cut class (suc want) r = and_cut (one_take class r) (cut_in (span_for class r)) (takes_cut class want)
