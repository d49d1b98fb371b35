-- The journals of the roots and the pool's entries, beside the records of the run.
use Rattle.std.specs.Prelude.{◌≡◌, ℕ, ◌+◌, ◌≤◌, ◌⊎◌, max, List, [], Option, Some, None, Contains, slice_get, slice_index_or}
use Rattle.pa_slot.specs.declared.title.Title.{Title}
use Rattle.pa_buckets.specs.Classes.{IsClassIn}
use Rattle.pa_direct.specs.Shapes.{shape_of}
use Rattle.pa_trace.specs.declared.script.Op.{Op}
use Rattle.pa_trace.specs.declared.script.Op.TheVariants as ops
use Rattle.pa_record.specs.declared.entry.Answer.TheVariants as answers
use Rattle.pa_record.specs.declared.pool.PoolEntry.{PoolEntry}
use Rattle.pa_record.specs.declared.root.RootEntry.{RootEntry}
use Rattle.pa_record.specs.declared.root.RootAct.{RootAct}
use Rattle.pa_record.specs.declared.root.RootAct.TheVariants.{Fill, Map, Full, Give, Unmap, Purge}
use Rattle.pa_record.specs.Pool.{IsPool, FoundNone}
use Rattle.pa_record.specs.Root.{IsJournal, asked_by}
use Rattle.pa_record.specs.Sound.{IsMadeBy, AreTitles}
use Rattle.pa_rules.specs.declared.played.Played.{Played}
use Rattle.pa_rules.specs.Sizes.{IsMapSize}
use Rattle.pa_rules.specs.Order.{IsOfLine, StandInOrder}

-- the journals, by their partitions
abbrev pub Journals : Type 0
Journals = ℕ → List RootEntry

-- e is entry j of the journal of partition p
abbrev pub IsEntry : Journals → ℕ → ℕ → RootEntry → Type 0
IsEntry roots p j e = slice_get (roots p) j ≡ Some e

-- the record's op is an allocation from partition p, and by its rules the size gets a slot of this class
abbrev pub AsksForClass : Played → ℕ → ℕ → Type 0
AsksForClass x p class = (reg size : ℕ) × (x.op ≡ ops.Alloc reg p size) × IsClassIn x.rules.version (max size 1 + 8) class

-- the record's op is an allocation of this size from partition p, and by its rules the size gets a direct map
abbrev pub AsksForMap : Played → ℕ → ℕ → Type 0
AsksForMap x p size = (reg : ℕ) × (x.op ≡ ops.Alloc reg p size) × IsMapSize x.rules.version size

-- the op is a free or a reset, the ops that may give a slot back
abbrev pub IsFreeing : Op → Type 0
IsFreeing op = ((reg : ℕ) × (op ≡ ops.Free reg)) ⊎ ((reg : ℕ) × (op ≡ ops.Reset reg))

-- if a class is named, the record asks for a slot of it, and else for a direct map for whose super pages the pool's entry
-- `asked` found no room
abbrev pub MakesFull : List PoolEntry → ℕ → Option ℕ → ℕ → Played → Type 0
MakesFull pools p None asked x = (size : ℕ) × AsksForMap x p size × FoundNone pools asked (shape_of size).supers
MakesFull pools p (Some class) asked x = AsksForClass x p class

-- The record's op makes this entry of partition p's journal. An allocation fills from its class, maps the shape of its size or
-- finds no room for them. A free or a reset gives back. A purge gives back and purges.
abbrev pub MakesEntry : List PoolEntry → ℕ → RootAct → Played → Type 0
MakesEntry pools p (Fill class asked slots) x = AsksForClass x p class
MakesEntry pools p (Map asked slot len) x = (size : ℕ) × AsksForMap x p size × (len ≡ (shape_of size).slot)
MakesEntry pools p (Full class asked) x = MakesFull pools p class asked x
MakesEntry pools p (Give slots) x = IsFreeing x.op ⊎ (x.op ≡ ops.Purge)
MakesEntry pools p (Unmap asked slot) x = IsFreeing x.op
MakesEntry pools p Purge x = x.op ≡ ops.Purge

-- the act is a Full
abbrev pub IsFull : RootAct → Type 0
IsFull act = (class : Option ℕ) × (asked : ℕ) × (act ≡ Full class asked)

-- The journals are those of the records.
--   one: all records are played by the same rules
--   journals: each is one of a root, replayed with the pool's entries
--   lines: each entry's line is a record that makes it
--   order: the entries of a journal are in the order of their records
--   none_past: there are none past the trace's
--   refusals: a record with the answer Full names a Full of its line
pub record AreRoots (partitions : ℕ) (ps : List Played) (pools : List PoolEntry) (roots : Journals) : Type 0 where
  pub one : (x y : Played) → Contains ps x → Contains ps y → x.rules ≡ y.rules
  pub journals : (p : ℕ) → IsJournal pools (roots p)
  pub lines : (p j : ℕ) (e : RootEntry) → IsEntry roots p j e → (x : Played) × IsOfLine ps e.line x × MakesEntry pools p e.act x
  pub order : (p : ℕ) → StandInOrder (λ e. e.line) ps (roots p)
  pub none_past : (p : ℕ) → partitions ≤ p → roots p ≡ []
  pub refusals : (x : Played) (j reg p size : ℕ) → Contains ps x → x.answer ≡ answers.Full j → x.op ≡ ops.Alloc reg p size
      → (e : RootEntry) × IsEntry roots p j e × (e.line ≡ x.line) × IsFull e.act

-- entry i of partition p's journal names entry j of the pool
abbrev pub Names : Journals → ℕ → ℕ → ℕ → Type 0
Names roots p i j = (e : RootEntry) × IsEntry roots p i e × (asked_by e.act ≡ Some j)

-- The pool's entries are those of the records.
--   fits: each take and give fits the pool after those before it
--   named: each entry is named by a journal entry, which is of its partition and line; once: and by no other. A journal
--     entry that names one which isn't there is checked by the journals and not here
--   order: they are in the order of their records
pub record IsPoolOf (supers : ℕ) (ps : List Played) (pools : List PoolEntry) (roots : Journals) : Type 0 where
  pub fits : IsPool supers pools
  pub named : (j : ℕ) (e : PoolEntry) → slice_get pools j ≡ Some e
      → (i : ℕ) × (f : RootEntry) × IsEntry roots e.partition i f × (asked_by f.act ≡ Some j) × (f.line ≡ e.line)
  pub once : (j p q i k : ℕ) (e : PoolEntry) → slice_get pools j ≡ Some e → Names roots p i j → Names roots q k j → (p ≡ q) × (i ≡ k)
  pub order : StandInOrder (λ e. e.line) ps pools

-- The titles that the journals make, slots that were cut and direct maps: those of one entry of the pool are equal or don't
-- overlap, each lies in payload or is a direct map, and an entry of the pool belongs to one partition.
pub record AreAllTitles (pools : List PoolEntry) (roots : Journals) : Type 0 where
  pub titles : (p : ℕ) → AreTitles pools (IsMadeBy pools (roots p))
  pub owned : (p q : ℕ) (t u : Title) → IsMadeBy pools (roots p) t → IsMadeBy pools (roots q) u → t.born ≡ u.born → p ≡ q

-- the journals of a run, by their partitions
abbrev pub journal_at : List (List RootEntry) → Journals
journal_at roots p = slice_index_or roots p []
