-- What the clauses of the heap require of each place. A place of which a clause requires nothing meets it.
use Rattle.std.specs.Prelude.{◌≡◌, ℕ, ◌+◌, ◌<◌, ◌==◌, nat_lt, if◌then◌else◌, List, [], ◌∷◌, ◌++◌, map, take, filter, Some, slice_get}
use Rattle.pa_slot.specs.Count.{number_of}
use Rattle.pa_trace.specs.declared.script.Op.TheVariants as ops
use Rattle.pa_record.specs.declared.entry.Seen.{Seen}
use Rattle.pa_record.specs.declared.entry.Answer.TheVariants as answers
use Rattle.pa_record.specs.declared.numbered.Numbered.{Numbered}
use Rattle.pa_record.specs.declared.pool.PoolEntry.{PoolEntry}
use Rattle.pa_record.specs.declared.report.ReportLine.{ReportLine}
use Rattle.pa_record.specs.declared.root.RootEntry.{RootEntry}
use Rattle.pa_record.specs.declared.root.RootAct.TheVariants.{Unmap}
use Rattle.pa_record.specs.Pool.{PoolActFits, new_pool, pool_replayed}
use Rattle.pa_record.specs.Root.{new_root, root_replayed, RootActFits, asked_by}
use Rattle.pa_rules.specs.declared.played.Played.{Played}
use Rattle.pa_rules.specs.declared.verdict.Place.{Place}
use Rattle.pa_rules.specs.declared.verdict.Place.TheVariants as places
use Rattle.pa_rules.specs.RecordDemands.{IsRecord, ComesInOrder}
use Rattle.pa_rules.specs.Roots.{Journals, IsEntry, Names, MakesEntry, IsFull, AreAllTitles}
use Rattle.pa_rules.specs.Order.{IsOfLine}
use Rattle.pa_rules.specs.Holders.{Holder, WithThread, Move, moves_by, is_move_of, moves_at, IsFirstHolder, HolderAfter, needed_by, IsHeld, IsOfSlot, NamesSlot}
use Rattle.pa_rules.specs.Caches.{Cache, Caches, CacheRow, CachesTo, no_caches}
use Rattle.pa_rules.specs.Report.{IsReportLine, phases_of}

-- entry j of the pool is e
abbrev pub IsPoolEntry : List PoolEntry → ℕ → PoolEntry → Type 0
IsPoolEntry pools j e = slice_get pools j ≡ Some e

-- An entry of the pool fits the pool after those before it. Exactly one entry of the journals names it: one of its
-- partition and line. And no entry before it should come after it.
pub record PoolEntryFits (supers : ℕ) (ps : List Played) (pools : List PoolEntry) (roots : Journals) (j : ℕ) (e : PoolEntry) : Type 0 where
  pub fits : PoolActFits pools e.partition e.act (pool_replayed (take j pools) (new_pool supers))
  pub named : (i : ℕ) × (f : RootEntry) × IsEntry roots e.partition i f × (asked_by f.act ≡ Some j) × (f.line ≡ e.line)
  pub once : (p q i k : ℕ) → Names roots p i j → Names roots q k j → (p ≡ q) × (i ≡ k)
  pub order : ComesInOrder ps (map (λ (f : PoolEntry). f.line) pools) j

-- pool: each entry of the pool fits at its place
abbrev pub PoolDemand : ℕ → List Played → List PoolEntry → Journals → Place → Type 0
PoolDemand supers ps pools roots (places.Pool j) = (e : PoolEntry) → IsPoolEntry pools j e → PoolEntryFits supers ps pools roots j e
PoolDemand supers ps pools roots place = Unit {0}

-- An entry of a journal is of a partition of the trace and fits the root after those before it; it names a later entry of
-- the pool than they do, its line's op makes it, and none of them should come after it.
pub record EntryFits (partitions : ℕ) (ps : List Played) (pools : List PoolEntry) (roots : Journals) (p j : ℕ)
    (e : RootEntry) : Type 0 where
  pub partition : p < partitions
  pub fits : RootActFits pools e.act (root_replayed pools (take j (roots p)) new_root)
  pub rises : (i a b : ℕ) (f : RootEntry) → IsEntry roots p i f → i < j → asked_by f.act ≡ Some a → asked_by e.act ≡ Some b → a < b
  pub line : (x : Played) × IsOfLine ps e.line x × MakesEntry pools p e.act x
  pub order : ComesInOrder ps (map (λ (f : RootEntry). f.line) (roots p)) j

-- roots: a record that is full names a Full of its line; each entry of a journal fits
abbrev pub RootsDemand : ℕ → List Played → List PoolEntry → Journals → Place → Type 0
RootsDemand partitions ps pools roots (places.Record i) =
    (x : Played) (j reg p size : ℕ) → IsRecord ps i x → x.answer ≡ answers.Full j → x.op ≡ ops.Alloc reg p size
    → (e : RootEntry) × IsEntry roots p j e × (e.line ≡ x.line) × IsFull e.act
RootsDemand partitions ps pools roots (places.Root p j) = (e : RootEntry) → IsEntry roots p j e → EntryFits partitions ps pools roots p j e
RootsDemand partitions ps pools roots place = Unit {0}

-- the journals of the partitions below p, and this many entries of partition p's
abbrev pub up_to : ℕ → ℕ → Journals → Journals
up_to p n roots q = if nat_lt q p then roots q else (if q == p then take n (roots q) else [])

-- titles: the journals up to this line have titles that lie apart
abbrev pub TitlesDemand : List PoolEntry → Journals → Place → Type 0
TitlesDemand pools roots (places.Root p j) = AreAllTitles pools (up_to p (j + 1) roots)
TitlesDemand pools roots place = Unit {0}

-- Each slot that an entry names is free at its number and has the holder that the entry needs, after the entries before
-- it and the slots before it in its own, whether or not those fit; and no entry before it took the slot away for good.
pub record MovesOfEntryFit (ps : List Played) (roots : Journals) (p j : ℕ) (e : RootEntry) : Type 0 where
  pub holders : (before after : List Move) (m : Move) → moves_by e.line e.act ≡ before ++ m ∷ after
      → (h : Holder) × (x : Played) × IsFirstHolder ps m.slot m.number h × IsOfLine ps m.line x
      × HolderAfter ps h (moves_at (take j (roots p)) m.slot m.number ++ filter (is_move_of m.slot m.number) before) (needed_by m.way x)
  pub gone : (i asked : ℕ) (slot : Numbered) (f : RootEntry) → IsEntry roots p i f → f.act ≡ Unmap asked slot → i < j
      → NamesSlot e slot.slot → ⊥

-- a slot that the record made is its thread's, and the record found no number at which an entry took its slot away for good
pub record RecordHolds (ps : List Played) (roots : Journals) (x : Played) : Type 0 where
  pub issues : (seen : Seen) (usable : ℕ) → x.answer ≡ answers.Made seen usable
      → IsHeld ps roots seen.slot (number_of seen.found.0) (WithThread x.thread)
  pub gone : (p i asked n : ℕ) (slot : Numbered) (e : RootEntry) → IsEntry roots p i e → e.act ≡ Unmap asked slot
      → IsOfSlot x slot.slot n → n < slot.number

-- holders: a record holds the slot that it made and found none that had gone for good; the moves of each entry fit
abbrev pub HoldersDemand : List Played → Journals → Place → Type 0
HoldersDemand ps roots (places.Record i) = (x : Played) → IsRecord ps i x → RecordHolds ps roots x
HoldersDemand ps roots (places.Root p j) = (e : RootEntry) → IsEntry roots p j e → MovesOfEntryFit ps roots p j e
HoldersDemand ps roots place = Unit {0}

-- caches: the records before it lead to lists from which its own row follows
abbrev pub CachesDemand : ℕ → Journals → List Played → Place → Type 0
CachesDemand partitions roots ps (places.Record i) =
    (x : Played) → IsRecord ps i x
    → (all : Caches) × (next : Cache) × CachesTo partitions roots no_caches (take i ps) all
    × CacheRow partitions roots x x.answer (all x.thread) next
CachesDemand partitions roots ps place = Unit {0}

-- report: the line is the one that is due, by its phase and partition, and right; a missing line isn't right
abbrev pub ReportDemand : ℕ → ℕ → ℕ → List Played → List PoolEntry → Journals → List ReportLine → Place → Type 0
ReportDemand phases partitions threads ps pools roots report (places.Report i) =
    (slice_get (map (λ (l : ReportLine). (l.phase, l.partition)) report) i ≡ slice_get (phases_of partitions 1 phases) i)
    × ((l : ReportLine) → slice_get report i ≡ Some l → IsReportLine partitions threads ps pools roots l)
ReportDemand phases partitions threads ps pools roots report place = Unit {0}
