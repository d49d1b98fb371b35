-- What is known of a journal's slots, and who holds a slot after all journals.
use Rattle.std.specs.Prelude.{◌≡◌, ℕ, ◌<◌, List, [], Option, Some, None, length, slice_get, slice_index_or, take}
use Rattle.pa_audit_records.specs.ByKeys.{value_at}
use Rattle.pa_slot.specs.declared.word.SlotName.{SlotName}
use Rattle.pa_slot.specs.Count.{number_of}
use Rattle.pa_slot.specs.Run.{Mark}
use Rattle.pa_record.specs.declared.entry.Seen.{Seen}
use Rattle.pa_record.specs.declared.numbered.Numbered.{Numbered}
use Rattle.pa_record.specs.declared.entry.Answer.TheVariants.{Made}
use Rattle.pa_record.specs.declared.root.RootEntry.{RootEntry}
use Rattle.pa_rules.specs.declared.played.Played.{Played}
use Rattle.pa_rules.specs.declared.verdict.Place.{Place}
use Rattle.pa_rules.specs.declared.verdict.Place.TheVariants as places
use Rattle.pa_rules.specs.RecordDemands.{IsAbove}
use Rattle.pa_rules.specs.Roots.{Journals, journal_at}
use Rattle.pa_rules.specs.Holders.{Holder, InRoot, WithThread, IsHeld, IsOfSlot, moves_at, moves_by}
use Rattle.pa_rules.specs.HeapDemands.{HoldersDemand}
use Rattle.pa_audit_holders.specs.declared.owners.Owner.{Owner}
use Rattle.pa_audit_holders.specs.declared.owners.Owner.TheVariants.{Nobody, Root, Thread}
use Rattle.pa_audit_holders.specs.declared.tables.Table.{Table}
use Rattle.pa_audit_holders.specs.Owners.{AllFit, HasOwners, TellsOwner}
use Rattle.pa_legal.specs.Numbers.{all_moves}
use Rattle.pa_audit_holders.specs.Gone.{HasGone, IsUnmapped, NamesNoneGone}

-- Each slot that the entry names has the holder that it needs, after the moves of the entries before it in its journal, and none of these
-- took one of its slots away for good.
pub record EntryMovesFit (ps : List Played) (before : List RootEntry) (e : RootEntry) : Type 0 where
  pub moves : AllFit ps (all_moves before) (moves_by e.line e.act)
  pub there : NamesNoneGone before e

-- entry j of the journal, if there is one, moves slots that have the holders that it needs after the entries before it
abbrev pub EntryMovesFitAt : List Played → List RootEntry → ℕ → Type 0
EntryMovesFitAt ps journal j = (e : RootEntry) → slice_get journal j ≡ Some e → EntryMovesFit ps (take j journal) e

-- the table has the owners of the slots that a journal moves, and the direct maps that it took away
pub record KnowsJournal (ps : List Played) (journal : List RootEntry) (t : Table) : Type 0 where
  pub owners : HasOwners ps (all_moves journal) (value_at t.owners)
  pub gone : HasGone journal (value_at t.gone)

-- each journal has its table, with the owners of the slots that it moves and the direct maps that it took away
pub record HaveTables (ps : List Played) (roots : List (List RootEntry)) (tables : List Table) : Type 0 where
  pub many : length tables ≡ length roots
  pub each : (p : ℕ) (d : Table) → p < length tables → KnowsJournal ps (journal_at roots p) (slice_index_or tables p d)

-- the slot's holder at the number after all entries that name it there, and nobody if it has none
abbrev pub TellsHeld : List Played → Journals → SlotName → ℕ → Owner → Type 0
TellsHeld ps roots s k Nobody = (last : Holder) → IsHeld ps roots s k last → ⊥
TellsHeld ps roots s k Root = IsHeld ps roots s k InRoot
TellsHeld ps roots s k (Thread t) = IsHeld ps roots s k (WithThread t)

-- just one of the first n journals has moves of the slot at the number, and this is the owner after them
pub record FoundIn (ps : List Played) (roots : Journals) (s : SlotName) (k n : ℕ) (o : Owner) : Type 0 where
  pub partition : ℕ
  pub below : partition < n
  pub some : moves_at (roots partition) s k ≡ [] → ⊥
  pub others : (q : ℕ) → q < n → (q ≡ partition → ⊥) → moves_at (roots q) s k ≡ []
  pub owner : TellsOwner ps (moves_at (roots partition) s k) s k o

-- the slot's owner at the number by the one of the first n journals that moves it there, and nothing if none does
abbrev pub FoundSoFar : List Played → Journals → SlotName → ℕ → ℕ → Option Owner → Type 0
FoundSoFar ps roots s k n None = (q : ℕ) → q < n → moves_at (roots q) s k ≡ []
FoundSoFar ps roots s k n (Some o) = FoundIn ps roots s k n o

-- the first owner if there is one, else the second
abbrev pub either_of : Option Owner → Option Owner → Option Owner
either_of (Some o) b = Some o
either_of None b = b

-- a slot that the record made is its thread's
abbrev pub IsIssued : List Played → Journals → Played → Type 0
IsIssued ps roots x =
    (seen : Seen) (usable : ℕ) → x.answer ≡ Made seen usable → IsHeld ps roots seen.slot (number_of seen.found.0) (WithThread x.thread)

-- the slot of a mark, with the number that was found there
abbrev pub slot_by : Mark → Numbered
slot_by m = record { slot = m.slot; number = number_of m.found }

-- the record found no number at which its slot was gone for good
abbrev pub StaysThere : Journals → Played → Type 0
StaysThere roots x = (p n k : ℕ) (s : SlotName) → IsUnmapped (roots p) s n → IsOfSlot x s k → k < n

-- Each entry of the first n journals meets what is required of it, or this is the first that doesn't.
abbrev pub EntriesSoFar : List Played → Journals → ℕ → Option (ℕ × ℕ) → Type 0
EntriesSoFar ps roots n None = (p j : ℕ) → p < n → HoldersDemand ps roots (places.Root p j)
EntriesSoFar ps roots n (Some (p, j)) =
    (HoldersDemand ps roots (places.Root p j) → ⊥) × ((q i : ℕ) → IsAbove q i p j → HoldersDemand ps roots (places.Root q i))

-- the first entry that doesn't fit, once the next partition's journal has this first one
abbrev pub first_in : Option (ℕ × ℕ) → ℕ → Option ℕ → Option (ℕ × ℕ)
first_in (Some place) partition at = Some place
first_in None partition None = None
first_in None partition (Some at) = Some (partition, at)

-- the place of an entry, by its partition and its index in the journal
abbrev pub entry_place : Option (ℕ × ℕ) → Option Place
entry_place None = None
entry_place (Some (p, j)) = Some (places.Root p j)

-- Nothing is found if each record and each entry of the journals meets what is required of it,
-- and else the first place in the text that doesn't.
abbrev pub TellsHolders : List Played → Journals → Option Place → Type 0
TellsHolders ps roots None = (place : Place) → HoldersDemand ps roots place
TellsHolders ps roots (Some (places.Record i)) =
    (HoldersDemand ps roots (places.Record i) → ⊥) × ((j : ℕ) → j < i → HoldersDemand ps roots (places.Record j))
TellsHolders ps roots (Some (places.Root p j)) =
    (HoldersDemand ps roots (places.Root p j) → ⊥) × ((i : ℕ) → HoldersDemand ps roots (places.Record i))
    × ((q i : ℕ) → IsAbove q i p j → HoldersDemand ps roots (places.Root q i))
TellsHolders ps roots (Some (places.Pool j)) = ⊥
TellsHolders ps roots (Some (places.Cell k j)) = ⊥
TellsHolders ps roots (Some (places.Report i)) = ⊥
