-- Slots that are taken from a span.
use Rattle.std.specs.Prelude.{◌≡◌, ℕ, ◌+◌, ◌*◌, ◌/◌, ◌<◌, ◌≤◌, ◌==◌, max, min, if◌then◌else◌, List, [], map, Option, Some, None, Contains}
use Rattle.pa_lists.specs.Numbers.{numbers}
use Rattle.pa_slot.specs.declared.title.Title.{Title}
use Rattle.pa_slot.specs.declared.word.SlotName.{SlotName}
use Rattle.pa_buckets.specs.declared.spans.State.{State}
use Rattle.pa_buckets.specs.declared.spans.State.TheVariants as state
use Rattle.pa_buckets.specs.Limits.{class_count}
use Rattle.pa_buckets.specs.Table.{slot_of, slots_of}
use Rattle.pa_record.specs.Spans.{Span, title_at, with_free, more_slots}
use Rattle.pa_record.specs.Root.{Root, Took, taken_from, span_for, one_take}
use Rattle.pa_record.specs.Sound.{IsSound}
use Rattle.pa_region.specs.declared.view.View.{View}
use Rattle.pa_region.specs.Views.{free_of}
use Rattle.pa_spans.specs.declared.span.Span.{Span as SpanRecord}
use Rattle.pa_spans.specs.Lists.{StaysListed}
use Rattle.pa_records.specs.Words.{spans_in}
use Rattle.pa_records.specs.Records.{record_with, titles_free}
use Rattle.pa_records.specs.Stored.{alone}
use Rattle.pa_link.specs.Chains.{IsChain}
use Rattle.pa_shelf.specs.Adding.{found_start, found_root}
use Rattle.pa_shelf.specs.Shelves.{ShelfParts, ShowsRoot, chain_of}

-- the first of two, or the second if there is no first one
abbrev pub first_some : Option ℕ → Option ℕ → Option ℕ
first_some None o = o
first_some (Some n) o = Some n

-- where the span starts, if there is one
abbrev pub start_of : Option Span → Option ℕ
start_of None = None
start_of (Some s) = Some s.place

-- where the slot starts, 0 if there is none
abbrev pub name_start : Option SlotName → ℕ
name_start None = 0
name_start (Some s) = s.start

-- the title of the first slot of a span
abbrev pub first_title : Span → Title
first_title s = record { start = s.place; len = slot_of s.class; born = s.born }

-- the slot with number n among those side by side from the first one on, which has number 0
abbrev pub slot_beside : Title → ℕ → Title
slot_beside first n = record { start = first.start + first.len * n; len = first.len; born = first.born }

-- `count` slots side by side with the first one, from number `from` on
abbrev pub slots_beside : Title → ℕ → ℕ → List Title
slots_beside first from count = map (slot_beside first) (numbers from count)

-- The record of a span once the front of its list was taken. Its list begins at `head` then.
abbrev pub without_front_of : ℕ → SpanRecord → SpanRecord
without_front_of head x = record x { allocated = x.allocated + 1; head = head }

-- the state of a span of this class with this many slots out, once one was taken
abbrev pub state_out : ℕ → ℕ → State
state_out class allocated = if allocated == slots_of class then state.Full else state.Active

-- How many pages of a span with this record are committed once more of its slots were provisioned: as many as one slot more needs,
-- and at least one more than before.
abbrev pub pages_more : SpanRecord → ℕ
pages_more x = max (x.committed + 1) ((slot_of x.class * (x.provisioned + 1) + 4095) / 4096)

-- how many slots of a span with this record are provisioned then: as many as fit into its committed pages of 4096 bytes,
-- and no more than the class has
abbrev pub slots_more : SpanRecord → ℕ
slots_more x = min (4096 * pages_more x / slot_of x.class) (slots_of x.class)

-- the record of a span that starts at `at`, with more slots and pages:
-- its list begins at the first slot that wasn't provisioned before
abbrev pub with_more : ℕ → SpanRecord → SpanRecord
with_more at x = record x {
  provisioned = slots_more x;
  committed = pages_more x;
  made = max x.made (slots_more x);
  head = at + slot_of x.class * x.provisioned;
}

-- A slot can be taken from the span s of a sound root that is shown, which starts at the offset: not all of its slots are out.
pub record HasSlotAt (v : View) (l : ShelfParts) (at : ℕ) (r : Root) (s : Span) : Type 0 where
  pub sound : IsSound r
  pub shown : ShowsRoot v l r
  pub among : Contains r.spans s
  pub here : s.place ≡ at
  pub less : s.allocated < slots_of s.class

-- A slot can be taken from the span s of a sound root that is shown.
-- x is the record that the words have of s, and t is the first slot of s.
pub record HasSlotOf (v : View) (l : ShelfParts) (x : SpanRecord) (t : Title) (r : Root) (s : Span) : Type 0 where
  pub at : HasSlotAt v l t.start r s
  pub read : x ≡ spans_in v.words t.start
  pub first : t ≡ first_title s

-- if the span's list is empty, the view has the slots free that are provisioned next
abbrev pub HoldsMore : View → Span → Type 0
HoldsMore v s = s.free ≡ [] → (n : ℕ) → s.provisioned ≤ n → n < more_slots s → 0 < free_of v (title_at s n)

-- A slot can be taken from the span s, which starts at the offset, and the seat holds what is provisioned then.
pub record IsTakeAt (v : View) (l : ShelfParts) (at : ℕ) (r : Root) (s : Span) : Type 0 where
  pub slot : HasSlotAt v l at r s
  pub held : HoldsMore v s

-- A slot can be taken from s, whose record is x and whose first slot is t, and the seat holds what is provisioned then.
pub record IsTakeOf (v : View) (l : ShelfParts) (x : SpanRecord) (t : Title) (r : Root) (s : Span) : Type 0 where
  pub slot : HasSlotOf v l x t r s
  pub held : HoldsMore v s

-- The list of the span s isn't empty now. The view has the chain of it, and x is the record of the span with that list. The record in
-- the words is still the one that it was.
pub record IsReadyAt (v : View) (l : ShelfParts) (x : SpanRecord) (t : Title) (r : Root) (s : Span) : Type 0 where
  pub sound : IsSound r
  pub shown : ShowsRoot v l r
  pub among : Contains r.spans s
  pub less : s.allocated < slots_of s.class
  pub first : t ≡ first_title s
  pub listed : StaysListed (spans_in v.words t.start) x
  pub is : alone x ≡ record_with (with_free s) 0 0
  pub chain : IsChain v (chain_of (with_free s)) (titles_free (with_free s))

-- the root after a take from the span, and the slot that was taken
abbrev pub take_of : Span → Root → Took
take_of s r = taken_from (Some (record { span = s; root = r })) r

-- One take in parts: from the span that was found, or is new, a slot can be taken, and that is the root's one take. If none was
-- found, the root has no slot to give.
pub record TakesAreInParts : Type 0 where
  pub found : (v : View) (l : ShelfParts) (class at : ℕ) (r : Root) → IsSound r → class < class_count →
      found_start (span_for class r) ≡ Some at →
      ShowsRoot v l (found_root (span_for class r) r) →
      (s : Span) × HasSlotAt v l at (found_root (span_for class r) r) s × (take_of s (found_root (span_for class r) r) ≡ one_take class r)
  pub none : (class : ℕ) (r : Root) → found_start (span_for class r) ≡ None → one_take class r ≡ record { root = r; title = None }
