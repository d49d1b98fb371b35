-- What keeps a root sound: seeing more, and entries that make and move no slot.
use Rattle.std.specs.Prelude.{◌≡◌, ℕ, ◌+◌, ◌*◌, ◌<◌, ◌≤◌, ◌↔◌, List, [], ◌∷◌, ◌++◌, length, map, Contains}
use Rattle.pa_slot.specs.declared.title.Title.{Title}
use Rattle.pa_slot.specs.declared.word.SlotName.{SlotName}
use Rattle.pa_slot.specs.Titles.{IsWellFormed}
use Rattle.pa_trace.specs.Limits.{most_partitions}
use Rattle.pa_region.specs.declared.view.Made.{Made}
use Rattle.pa_region.specs.declared.view.View.{View}
use Rattle.pa_region.specs.Views.{free_of, own_of, ref_of}
use Rattle.pa_region.specs.Lists.{list_of, IsBeginning}
use Rattle.pa_region.specs.Lending.{HostsKeeper, Keeps}
use Rattle.pa_region.specs.Aware.{IsAware}
use Rattle.pa_record.specs.declared.pool.PoolEntry.{PoolEntry}
use Rattle.pa_record.specs.declared.root.RootEntry.{RootEntry}
use Rattle.pa_record.specs.Numbers.{root_numbers, pool_numbers}
use Rattle.pa_record.specs.Root.{Root, new_root, root_next, root_replayed, RootActFits, IsJournal, asked_by, IsOut, purged}
use Rattle.pa_record.specs.Sound.{IsSound, IsMade, AsksFrom, HasBatch, least_after_all}
use Rattle.pa_rules.specs.Holders.{moves_by}
use Rattle.pa_shelf.specs.Moving.{Rewritten}
use Rattle.pa_root.specs.Reading.{pool_entry_read, pools_read, pools_seen}
use Rattle.pa_root.specs.Keeping.{RootState, IsRootSound}

-- An entry of the pool is what its numbers say. So a seat has seen the pool's entries if its list is that of the pool.
pub record PoolsAreRead : Type 0 where
  pub entry : (e : PoolEntry) → pool_entry_read (pool_numbers e) ≡ e
  pub list : (list : List Made) (pools : List PoolEntry) → map (λ (m : Made). m.numbers) list ≡ map pool_numbers pools →
      pools_read list ≡ pools

-- a root with nothing, and with a seat that has keeper p, an empty list, no title and nothing that is used
pub record IsFirstView (p : ℕ) (v : View) : Type 0 where
  pub partition : p < most_partitions
  pub hosts : HostsKeeper p v
  pub empty : list_of p v ≡ []
  pub frees : (t : Title) → free_of v t ≡ 0
  pub handles : (t : Title) → own_of v t + ref_of v t ≡ 0
  pub budget : v.budget ≡ 0

-- the state of a new root: its seat has this view, and its journal is empty
abbrev pub first_state : View → RootState
first_state v = record { view = v; journal = []; root = new_root }

-- the state of a new root is sound
abbrev pub FirstIsSound : Type 0
FirstIsSound = (p : ℕ) (v : View) → IsFirstView p v → IsRootSound p (first_state v)

-- a root with another view of its seat
abbrev pub with_view : View → RootState → RootState
with_view x s = record { view = x; journal = s.journal; root = s.root }

-- A root stays sound while its seat sees more: of titles, and of all lists but its own.
abbrev pub SeeingMoreKeeps : Type 0
SeeingMoreKeeps =
    (p : ℕ) (s : RootState) (x : View) → IsRootSound p s → IsAware s.view → IsAware x → Keeps s.view x → list_of p x ≡ list_of p s.view →
    IsRootSound p (with_view x s)

-- A root stays sound if only words of its seat's view change: records and links.
abbrev pub RewritingKeeps : Type 0
RewritingKeeps = (p : ℕ) (s : RootState) (x : View) → IsRootSound p s → Rewritten s.view x → IsRootSound p (with_view x s)

-- A slot that was made is of whole words, two at least.
abbrev pub MadeIsWhole : Type 0
MadeIsWhole = (r : Root) (t : Title) → IsSound r → IsMade r t → IsWellFormed (t.start + t.len) t

-- the root after an entry: its seat has another view, the journal has the entry, and the root is the next one
abbrev pub after_entry : View → RootEntry → RootState → RootState
after_entry x e s = record { view = x; journal = s.journal ++ e ∷ []; root = root_next (pools_seen x) e.act s.root }

-- the list of keeper p has the additional entry, in numbers
abbrev pub HasEntryMore : ℕ → RootEntry → View → View → Type 0
HasEntryMore p e v x = (m : Made) × (list_of p x ≡ list_of p v ++ m ∷ []) × (m.numbers ≡ root_numbers e)

-- the entry fits the root, and the entry of the pool that it names, if any, comes after those that the journal names
pub record FitsNext (e : RootEntry) (s : RootState) (x : View) : Type 0 where
  pub act : RootActFits (pools_seen x) e.act s.root
  pub asks : AsksFrom (least_after_all 0 s.journal) (asked_by e.act)

-- nothing was made and nothing moved: the same slots were made and are out, and the super pages and direct maps are the same
pub record HasSameSlots (r after : Root) : Type 0 where
  pub made : (t : Title) → IsMade after t ↔ IsMade r t
  pub out : (name : SlotName) → IsOut after name ↔ IsOut r name
  pub supers : after.supers ≡ r.supers
  pub maps : after.maps ≡ r.maps

-- A root stays sound with an entry that moves no slot and leaves the root the same slots: a Full, and a purge.
abbrev pub IdleEntriesKeep : Type 0
IdleEntriesKeep =
    (p : ℕ) (s : RootState) (x : View) (e : RootEntry) → IsRootSound p s → IsAware s.view → IsAware x → Keeps s.view x →
    HasEntryMore p e s.view x → FitsNext e s x → moves_by e.line e.act ≡ [] → HasSameSlots s.root (root_next (pools_seen x) e.act s.root) →
    IsRootSound p (after_entry x e s)

-- a purge leaves the same slots
abbrev pub PurgesKeepSlots : Type 0
PurgesKeepSlots = (r : Root) → IsSound r → HasSameSlots r (purged r)

-- What a seat has seen of the root's list, the journal has at that place: its numbers determine an entry.
abbrev pub SeenIsInJournal : Type 0
SeenIsInJournal =
    (p : ℕ) (s : RootState) (list : List Made) (e : RootEntry) → IsRootSound p s → IsBeginning list (list_of p s.view) →
    Contains (map (λ (m : Made). m.numbers) list) (root_numbers e) → Contains s.journal e

-- If the list that the root's seat has seen of the pool's keeper is a beginning of the pool's list, the journal is one of a root with
-- all entries of the pool. It replays to the same root.
abbrev pub JournalsFitPool : Type 0
JournalsFitPool =
    (p : ℕ) (s : RootState) (list : List Made) (pools : List PoolEntry) → IsRootSound p s → IsBeginning (list_of 4 s.view) list →
    map (λ (m : Made). m.numbers) list ≡ map pool_numbers pools →
    IsJournal pools s.journal × (s.root ≡ root_replayed pools s.journal new_root)

-- each entry of a journal has a batch of at most 16
abbrev pub HaveBatches : List RootEntry → Type 0
HaveBatches journal = (e : RootEntry) → Contains journal e → HasBatch e.act

-- The turns of a root are few: at most 32 for each entry of its journal.
abbrev pub TurnsAreFew : Type 0
TurnsAreFew = (p : ℕ) (s : RootState) → IsRootSound p s → HaveBatches s.journal → s.root.turn ≤ 32 * length s.journal
