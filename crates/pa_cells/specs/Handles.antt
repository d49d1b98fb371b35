-- Handles that are handed from one thread to another: what the note of one holds, and how its slot was made.
use Rattle.std.specs.Prelude.{◌≡◌, ℕ, nat_le, ◌+◌, ◌<◌, Bool, not, ◌&&◌, if◌then◌else◌, List, [], ◌∷◌, Option, Some, None, Contains}
use Rattle.atomic_table.specs.Seated.{TableId}
use Rattle.pa_slot.specs.declared.title.Title.{Title}
use Rattle.pa_machine.specs.declared.event.Item.{Item}
use Rattle.pa_machine.specs.declared.event.Item.TheVariants as item
use Rattle.pa_slot.specs.Titles.{same_title}
use Rattle.pa_slot.specs.Holdings.{one}
use Rattle.pa_buckets.specs.Limits.{class_count}
use Rattle.pa_buckets.specs.Table.{slot_of}
use Rattle.pa_record.specs.declared.numbered.Numbered.{Numbered}
use Rattle.pa_record.specs.declared.root.RootEntry.{RootEntry}
use Rattle.pa_record.specs.declared.root.RootAct.{RootAct}
use Rattle.pa_record.specs.declared.root.RootAct.TheVariants.{Fill, Map}
use Rattle.pa_record.specs.declared.history.Held.{Held}
use Rattle.pa_record.specs.declared.history.Held.TheVariants as held
use Rattle.pa_record.specs.Numbers.{root_numbers}
use Rattle.pa_record.specs.Spans.{name_of}
use Rattle.pa_record.specs.Root.{names}
use Rattle.pa_trace.specs.Limits.{most_partitions}
use Rattle.pa_region.specs.declared.view.Made.{Made}
use Rattle.pa_region.specs.declared.view.View.{View}
use Rattle.pa_region.specs.Views.{free_of, own_of, sealed_of, ref_of, stake_of}
use Rattle.pa_region.specs.Waiting.{unclean_of}
use Rattle.pa_region.specs.Lists.{list_of, IsBeginning}
use Rattle.pa_region.specs.Hands.{HoldsGiven, is_clean_of, first_sealed, left_after, given_after, united}
use Rattle.pa_region.specs.Aware.{IsAware}
use Rattle.pa_region.specs.Lending.{CanLend}
use Rattle.pa_region.specs.Marks.{parcel_of}
use Rattle.pa_region.specs.Shares.{Share}
use Rattle.pa_cells.specs.declared.handle.Handle.{Handle}

-- a handle on its way: which it is, whether it is the Own, and the note that holds it
pub record ParkedHandle : Type 0 where
  pub handle : Handle
  pub own : Bool
  pub note : Share

-- the handle's slot is in a plain partition, if this is the first one
abbrev pub is_plain : ℕ → Handle → Bool
is_plain plain_from h = nat_le plain_from h.partition

-- The act gave the slot of this title out. With a class, it is one slot of a fill of that class, which has the title's length as slot
-- size. Without one, it is a direct map of that length.
abbrev pub HandsOut : Option ℕ → Title → RootAct → Type 0
HandsOut (Some class) t act =
    (pool : Option ℕ) × (slots : List Numbered) × (act ≡ Fill class pool slots) × Contains (names slots) (name_of t)
    × (t.len ≡ slot_of class) × (class < class_count)
HandsOut None t act = (pool : ℕ) × (act ≡ Map pool (name_of t) t.len)

-- A view has seen how the handle's slot was made: the list of its partition's keeper has the entry that gave it out.
pub record HasSeenMade (h : Handle) (v : View) : Type 0 where
  pub partition : h.partition < most_partitions
  pub entry : (m : Made) × (e : RootEntry) × Contains (list_of h.partition v) m × (m.numbers ≡ root_numbers e)
      × HandsOut h.class h.title e.act

-- The note of a handle on its way holds the title's Own, which is clean, or one Ref of it, and no other handle, no free title and no
-- stake. It has seen how the slot was made.
pub record IsParked (p : ParkedHandle) : Type 0 where
  pub owns : (t : Title) → own_of p.note.view t ≡ one (p.own && same_title p.handle.title t)
  pub refs : (t : Title) → ref_of p.note.view t ≡ one (not p.own && same_title p.handle.title t)
  pub frees : (t : Title) → free_of p.note.view t ≡ 0
  pub clean : unclean_of p.note.view ≡ 0
  pub stakes : (k : ℕ) → stake_of p.note.view k ≡ 0
  pub made : HasSeenMade p.handle p.note.view

-- an Own on its way is sealed exactly if its slot is in a plain partition
abbrev pub IsSealedFrom : ℕ → ParkedHandle → Type 0
IsSealedFrom plain_from p =
    (t : Title) → sealed_of p.note.view t ≡ one ((p.own && same_title p.handle.title t) && is_plain plain_from p.handle)

-- what a cell or a register has, as histories name it
abbrev pub held_as : Option ParkedHandle → Held
held_as None = held.Nothing
held_as (Some p) = if p.own then held.Own (name_of p.handle.title) else held.Ref (name_of p.handle.title)

-- what is handed over for a handle: the Own, or a Ref
abbrev pub handle_item : Bool → Title → Item
handle_item own t = if own then item.Own t else item.Ref t

-- a handle on its way that a seat with the view v handed over so
abbrev pub handed : Handle → Bool → TableId → ℕ → View → ParkedHandle
handed h own region budget v = record {
  handle = h;
  own = own;
  note = record { region = region; view = given_after (parcel_of (handle_item own h.title ∷ []) budget []) v };
}

-- A note that was handed this one handle, by a seat that had seen how its slot was made, is that of a handle on its way. Its Own is
-- sealed if the one that the seat gave was.
pub record HandedCanWait : Type 0 where
  pub waits : (h : Handle) (own : Bool) (region : TableId) (budget : ℕ) (v : View) → HasSeenMade h v →
      IsParked (handed h own region budget v)
  pub sealed : (h : Handle) (own : Bool) (region : TableId) (budget : ℕ) (v : View) (t : Title) →
      sealed_of (handed h own region budget v).note.view t
      ≡ one ((own && same_title h.title t) && first_sealed (is_clean_of h.title) v.owns)

-- What a seat with the view v has left after it handed this one handle over: the handle less, which is a sealed Own less if the one
-- that it gave was sealed, as many free titles as before, the same stakes, and it can lend its stake again.
pub record LacksHandle (own : Bool) (t : Title) (v left : View) : Type 0 where
  pub owns : (u : Title) → own_of left u + one (own && same_title t u) ≡ own_of v u
  pub sealed : (u : Title) → sealed_of left u + one ((own && same_title t u) && first_sealed (is_clean_of t) v.owns) ≡ sealed_of v u
  pub refs : (u : Title) → ref_of left u + one (not own && same_title t u) ≡ ref_of v u
  pub frees : (u : Title) → free_of left u ≡ free_of v u
  pub stakes : left.stakes ≡ v.stakes
  pub lends : CanLend v → CanLend left

-- a seat that holds a handle has this left after it handed it over, with any number of counted steps besides
abbrev pub GiversLackHandles : Type 0
GiversLackHandles =
    (own : Bool) (t : Title) (budget : ℕ) (v : View) → HoldsGiven (handle_item own t) v →
    LacksHandle own t v (left_after (parcel_of (handle_item own t ∷ []) budget []) v)

-- What a seat with the view v has after it took the note in: the handle besides, sealed if it is so in the note, and as many free
-- titles and stakes as before. It can lend its stake again if it could, and has seen how the slot was made.
pub record TakesHandle (p : ParkedHandle) (v after : View) : Type 0 where
  pub owns : (t : Title) → own_of after t ≡ own_of v t + one (p.own && same_title p.handle.title t)
  pub sealed : (t : Title) → sealed_of after t ≡ sealed_of v t + sealed_of p.note.view t
  pub refs : (t : Title) → ref_of after t ≡ ref_of v t + one (not p.own && same_title p.handle.title t)
  pub frees : (t : Title) → free_of after t ≡ free_of v t
  pub stakes : (k : ℕ) → stake_of after k ≡ stake_of v k
  pub lends : CanLend v → CanLend after
  pub made : HasSeenMade p.handle after

-- a seat that takes in the note of a handle on its way has this after it, if the view of both is as a seat's must be
abbrev pub TakersHaveHandles : Type 0
TakersHaveHandles =
    (p : ParkedHandle) (v : View) → IsParked p → IsAware (united v p.note.view) → TakesHandle p v (united v p.note.view)

-- a view that has seen more of the list has seen how the slot was made
abbrev pub SlotsStaySeen : Type 0
SlotsStaySeen =
    (h : Handle) (v w : View) → HasSeenMade h v → IsBeginning (list_of h.partition v) (list_of h.partition w) → HasSeenMade h w
