-- The slot spans of a root: how one gives a slot, takes one back and is decommitted.
use Rattle.std.specs.Prelude.{ℕ, ◌+◌, ◌-◌, ◌*◌, ◌/◌, min, max, Bool, true, false, ◌==◌, ◌&&◌, nat_lt, nat_le, if◌then◌else◌, List, [], ◌∷◌, Option, Some, None}
use Rattle.pa_slot.specs.declared.title.Title.{Title}
use Rattle.pa_slot.specs.declared.word.SlotName.{SlotName}
use Rattle.pa_buckets.specs.declared.spans.State.{State}
use Rattle.pa_buckets.specs.declared.spans.State.TheVariants as state
use Rattle.pa_buckets.specs.Table.{slot_of, pages_of, slots_of}
use Rattle.pa_lists.specs.Numbers.{numbers}

-- A span: the byte at which it starts, the entry of the pool that took its super page, its class and state, the turn
-- with which it entered the state, how many of its slots are out of the root, how many are provisioned and how many
-- were ever made, its committed system pages, and the numbers of its free slots, front first. Its slots are numbered
-- from 0 in address order.
pub record Span : Type 0 where
  pub place : ℕ
  pub born : ℕ
  pub class : ℕ
  pub state : State
  pub turn : ℕ
  pub allocated : ℕ
  pub provisioned : ℕ
  pub committed : ℕ
  pub made : ℕ
  pub free : List ℕ

-- the bytes of the span's partition pages
abbrev pub bytes_of : Span → ℕ
bytes_of s = 16384 * pages_of s.class

-- the span's slot with this number
abbrev pub title_at : Span → ℕ → Title
title_at s number = record { start = s.place + slot_of s.class * number; len = slot_of s.class; born = s.born }

-- the name of a title: where it starts, and the entry of the pool that it belongs to
abbrev pub name_of : Title → SlotName
name_of t = record { start = t.start; born = t.born }

-- the test whether the slot with this name lies in the span
abbrev pub holds : SlotName → Span → Bool
holds name s = (s.born == name.born) && (nat_le s.place name.start && nat_lt name.start (s.place + bytes_of s))

-- the number that the slot with this name has in the span
abbrev pub number_in : Span → SlotName → ℕ
number_in s name = (name.start - s.place) / slot_of s.class

-- how many pages are committed after a provisioning: one more, or as many as one slot more needs
abbrev pub more_pages : Span → ℕ
more_pages s = max (s.committed + 1) ((slot_of s.class * (s.provisioned + 1) + 4095) / 4096)

-- how many slots are provisioned after a provisioning: those that fit into its pages, and at most the class's
abbrev pub more_slots : Span → ℕ
more_slots s = min (4096 * more_pages s / slot_of s.class) (slots_of s.class)

-- the span after a provisioning that its empty list asked for: the list has the new slots in address order
abbrev pub provisioned_more : Span → Span
provisioned_more s =
    record s {
      committed = more_pages s;
      provisioned = more_slots s;
      made = max s.made (more_slots s);
      free = numbers s.provisioned (more_slots s - s.provisioned);
    }

-- the span as it is, if this list has a slot, and else provisioned
abbrev pub with_list : List ℕ → Span → Span
with_list [] s = provisioned_more s
with_list (n ∷ rest) s = s

-- the span ready for a take: provisioned if its own list is empty
abbrev pub with_free : Span → Span
with_free s = with_list s.free s

-- the span after the front of its list was taken
abbrev pub without_front : List ℕ → Span → Span
without_front rest s = record s { free = rest; allocated = s.allocated + 1 }

-- the span after a slot came back to the front of its list
abbrev pub with_front : ℕ → Span → Span
with_front number s = record s { free = number ∷ s.free; allocated = s.allocated - 1 }

-- the span after its list was emptied and its pages went back to the system
abbrev pub without_pages : Span → Span
without_pages s = record s { free = []; provisioned = 0; committed = 0 }

-- the state after a take: full if all slots of the class's span are out, and else active
abbrev pub state_in_use : Span → State
state_in_use s = if s.allocated == slots_of s.class then state.Full else state.Active

-- the state after a return: empty if no slot is out, and else active
abbrev pub state_back : Span → State
state_back s = if s.allocated == 0 then state.Empty else state.Active

-- the test whether two states are one
abbrev pub same_state : State → State → Bool
same_state state.None state.None = true
same_state state.Active state.Active = true
same_state state.Empty state.Empty = true
same_state state.Decommitted state.Decommitted = true
same_state state.Full state.Full = true
same_state a b = false

-- the test whether the span is in this state
abbrev pub is_in : State → Span → Bool
is_in a s = same_state s.state a

-- the test whether the span is of this class and in this state
abbrev pub is_of : ℕ → State → Span → Bool
is_of class a s = (s.class == class) && is_in a s

-- of two spans the one with the greater turn, and the first one if there is no second
abbrev pub later : Span → Option Span → Span
later s None = s
later s (Some t) = if nat_lt s.turn t.turn then t else s

-- of two spans the one with the lesser turn, and the first one if there is no second
abbrev pub earlier : Span → Option Span → Span
earlier s None = s
earlier s (Some t) = if nat_lt t.turn s.turn then t else s

-- of the spans that pass a test the one with the greatest turn, or none if none passes
abbrev pub latest : (Span → Bool) → List Span → Option Span
latest test [] = None
latest test (s ∷ ss) = if test s then Some (later s (latest test ss)) else latest test ss

-- of the spans that pass a test the one with the least turn, or none if none passes
abbrev pub earliest : (Span → Bool) → List Span → Option Span
earliest test [] = None
earliest test (s ∷ ss) = if test s then Some (earlier s (earliest test ss)) else earliest test ss

-- the first span if there is one, and else the second
abbrev pub or_else : Option Span → Option Span → Option Span
or_else None o = o
or_else (Some s) o = Some s

-- the span from which a slot of the class is taken: of the active ones the one that became so last, else of the empty ones,
-- else of the decommitted ones
abbrev pub listed : ℕ → List Span → Option Span
listed class ss =
    or_else (latest (is_of class state.Active) ss)
    (or_else (latest (is_of class state.Empty) ss) (latest (is_of class state.Decommitted) ss))

-- the test whether two spans are in one place
abbrev pub same_place : Span → Span → Bool
same_place s t = (s.place == t.place) && (s.born == t.born)

-- the list in which s replaces the span that is in its place
abbrev pub put : Span → List Span → List Span
put s [] = []
put s (t ∷ ts) = if same_place t s then s ∷ ts else t ∷ put s ts
