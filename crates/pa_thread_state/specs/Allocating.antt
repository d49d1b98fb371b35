-- The parts of an allocation: a title comes off a list, in a fill or as a direct map, and is issued to a register.
use Rattle.std.specs.Prelude.{◌≡◌, ℕ, ◌-◌, ◌<◌, ◌≤◌, List, [], ◌∷◌, length, Option, Some, None, Contains, All, AllPairs, ◌≢◌, Bool, true, false, slice_set}
use Rattle.pa_slot.specs.declared.title.Title.{Title}
use Rattle.pa_slot.specs.declared.word.Step.TheVariants.{Issue}
use Rattle.pa_slot.specs.Count.{number_of}
use Rattle.pa_buckets.specs.Bands.{fill_of, limit_of}
use Rattle.pa_buckets.specs.Table.{slot_of}
use Rattle.pa_record.specs.declared.entry.Answer.{Answer}
use Rattle.pa_record.specs.declared.entry.Answer.TheVariants as answers
use Rattle.pa_record.specs.declared.entry.Seen.{Seen}
use Rattle.pa_record.specs.Spans.{name_of}
use Rattle.pa_trace.specs.Limits.{most_partitions}
use Rattle.pa_region.specs.declared.view.View.{View}
use Rattle.pa_region.specs.Views.{free_of, seen_of}
use Rattle.pa_region.specs.Moves.{CanCount, IsFound, after_count, after_sealed}
use Rattle.pa_region.specs.Hands.{united}
use Rattle.pa_region.specs.Aware.{IsAware}
use Rattle.pa_region.specs.Shares.{Share}
use Rattle.pa_link.specs.Chains.{Relinked}
use Rattle.pa_quarantine.specs.Filling.{zeroed}
use Rattle.pa_root.specs.declared.fault.FillFault.{FillFault}
use Rattle.pa_root.specs.declared.fault.FillFault.TheVariants.{Full, OutOfMemory}
use Rattle.pa_root.specs.Handing.{HasOnly, FillGives, MapGives, IsFullFor}
use Rattle.pa_cells.specs.declared.handle.Handle.{Handle}
use Rattle.pa_cells.specs.Handles.{HasSeenMade, is_plain}
use Rattle.pa_rules.specs.Sizes.{HasClass}
use Rattle.pa_cache.specs.Caches.{CacheList}
use Rattle.pa_rules.specs.declared.register.Register.TheVariants.{Own}
use Rattle.pa_rules.specs.Lists.{cache_place}
use Rattle.pa_op_specs.specs.Stocks.{StockValue, WorkerLists, titles_in, listed_slot}

-- the caches with this one for a partition and a class
abbrev pub with_list_at : ℕ → ℕ → CacheList → WorkerLists → WorkerLists
with_list_at p class list caches = record caches { lists = slice_set caches.lists (cache_place caches.version p class) list }

-- the caches when the list of a partition and a class has these titles
abbrev pub with_listed : ℕ → ℕ → List Title → WorkerLists → WorkerLists
with_listed p class titles caches = with_list_at p class (record { class = class; titles = titles }) caches

-- These titles became the list of a partition and a class, and links were stored for them.
pub record BecomesList (p class : ℕ) (titles : List Title) (before after : StockValue) : Type 0 where
  pub after_is : after ≡ record before { view = after.view; caches = with_listed p class titles before.caches }
  pub relinked : Relinked before.view after.view

-- The front left the list of a partition and a class.
pub record TakesFront (p class : ℕ) (t : Title) (before after : StockValue) : Type 0 where
  pub real : HasClass before.caches.version class
  pub rest : List Title
  pub was : titles_in before.caches p class ≡ t ∷ rest
  pub long : t.len ≡ slot_of class
  pub after_is : after ≡ record before { caches = with_listed p class rest before.caches }

-- The front left the list of a partition and a class, or that list is empty and nothing was done.
abbrev pub Pops : ℕ → ℕ → Option Title → (before after : StockValue) → Type 0
Pops p class None before after = (after ≡ before) × (titles_in before.caches p class ≡ [])
Pops p class (Some t) before after = TakesFront p class t before after

-- the view after an issue of the title that found this word, whose Own is sealed if the slot is plain
abbrev pub after_issue : Bool → Title → ℕ → View → View
after_issue true t word v = after_sealed t word v
after_issue false t word v = after_count Issue t word v

-- A free title was issued to a register, its content zeroed before, as the seat could do. The answer says what the step found,
-- and how many bytes are usable. The Own of a slot in a plain partition is sealed.
pub record Issues (h : Handle) (reg : ℕ) (answer : Answer) (before after : StockValue) : Type 0 where
  pub seen : Seen
  pub answer_is : answer ≡ answers.Made seen (h.title.len - 8)
  pub long : 16 ≤ h.title.len
  pub slot : seen.slot ≡ name_of h.title
  pub after_is :
      after ≡ record before {
        view = after_issue (is_plain before.plain_from h) h.title seen.found.0 (zeroed h.title before.view);
        registers = slice_set before.registers reg (Own h);
      }
  pub able : CanCount Issue h.title (zeroed h.title before.view)
  pub found : IsFound h.title seen.found.0 (zeroed h.title before.view)
  pub number : number_of seen.found.0 ≡ seen_of before.view h.title

-- Titles came in a note, which had them free and nothing else.
pub record Receives (note : View) (before after : StockValue) : Type 0 where
  pub only : (titles : List Title) × HasOnly titles note
  pub aware : IsAware note
  pub long : length before.view.words ≡ length note.words
  pub after_is : after ≡ record before { view = united before.view note }

-- Titles that can be loaded into an empty list: each is free and on no list, and its slot was seen made for that list.
pub record CanLoad (p class : ℕ) (titles : List Title) (s : StockValue) : Type 0 where
  pub partition : p < most_partitions
  pub empty : titles_in s.caches p class ≡ []
  pub sized : All (λ (t : Title). t.len ≡ slot_of class) titles
  pub differ : AllPairs ◌≢◌ titles
  pub few : length titles ≤ limit_of class
  pub batch : length titles ≤ 8
  pub free : (t : Title) → Contains titles t → 0 < free_of s.view t
  pub new : (q other : ℕ) (t : Title) → Contains (titles_in s.caches q other) t → Contains titles t → ⊥
  pub made : (t : Title) → Contains titles t → HasSeenMade (listed_slot p class t) s.view

-- If the list was empty, a fill brought titles: the first is for the allocation, and the others are the list then.
pub record FillsList (line p class : ℕ) (t : Title) (before after : StockValue) : Type 0 where
  pub asked : View
  pub note : View
  pub rest : List Title
  pub gives : FillGives before.thread p line class (fill_of class) before.view asked note (t ∷ rest)
  pub awares : IsAware asked × IsAware note × IsAware (united asked note)
  pub long : length asked.words ≡ length note.words
  pub real : HasClass before.caches.version class
  pub empty : titles_in before.caches p class ≡ []
  pub loaded : BecomesList p class rest (record before { view = united asked note }) after

-- A direct map of this many bytes came.
pub record MapsTitle (line p len : ℕ) (t : Title) (before after : StockValue) : Type 0 where
  pub asked : View
  pub note : View
  pub gives : MapGives before.thread p line len before.view asked note t
  pub awares : IsAware asked × IsAware note
  pub long : length asked.words ≡ length note.words
  pub after_is : after ≡ record before { view = united asked note }

-- What a root that gives nothing says to a seat. Entry j of its journal says that there's no room,
-- or it ran out of memory, and nothing changed.
abbrev pub GivesNone : (r line p count : ℕ) → Option ℕ → (before after : Share) → FillFault → Type 0
GivesNone r line p count class before after (Full j) = IsFullFor j r p line count class before.view after.view
GivesNone r line p count class before after OutOfMemory = after ≡ before

-- What a root that gives nothing leaves of a thread state. Entry j of its journal says that there's no room, and nothing but the view
-- is another, or it ran out of memory, and nothing changed.
abbrev pub FindsNone : (line p count : ℕ) → Option ℕ → (before after : StockValue) → FillFault → Type 0
FindsNone line p count class before after (Full j) =
    IsFullFor j before.thread p line count class before.view after.view × (after ≡ record before { view = after.view })
FindsNone line p count class before after OutOfMemory = after ≡ before
