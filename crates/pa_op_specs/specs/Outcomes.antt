-- What a run became, and what of it a seat has seen on the way.
use Rattle.std.specs.Prelude.{◌≡◌, ℕ, nat_le, ◌-◌, ◌<◌, ◌≤◌, List, [], ◌∷◌, ◌++◌, map, length, Option, Some, Contains, slice_get}
use Rattle.pa_slot.specs.declared.title.Title.{Title}
use Rattle.pa_slot.specs.declared.word.SlotName.{SlotName}
use Rattle.pa_record.specs.declared.history.CellEntry.{CellEntry}
use Rattle.pa_record.specs.declared.pool.PoolEntry.{PoolEntry}
use Rattle.pa_record.specs.declared.root.RootAct.{RootAct}
use Rattle.pa_record.specs.declared.root.RootAct.TheVariants.{Fill, Map, Full, Give, Unmap, Purge}
use Rattle.pa_record.specs.declared.root.RootEntry.{RootEntry}
use Rattle.pa_record.specs.Numbers.{root_numbers, pool_numbers}
use Rattle.pa_record.specs.Spans.{name_of}
use Rattle.pa_trace.specs.Limits.{most_partitions}
use Rattle.pa_trace.specs.declared.script.Rules.{Rules}
use Rattle.pa_region.specs.declared.view.Made.{Made}
use Rattle.pa_region.specs.declared.view.View.{View}
use Rattle.pa_region.specs.Lists.{list_of, entered_in}
use Rattle.pa_rules.specs.Caches.{acts_of}
use Rattle.pa_rules.specs.Registers.{Facts}
use Rattle.pa_rules.specs.Roots.{Journals}
use Rattle.pa_rules.specs.Sizes.{HasClass, usable_of}
use Rattle.pa_logs.specs.Told.{ToldRecord}
use Rattle.pa_cells.specs.Cells.{Exchange, exchange_numbers, made_with_cell}
use Rattle.pa_cells.specs.Handles.{HandsOut}

-- What a run became: by which rules it is played, how many partitions it has, their journals, the pool's entries, the history of each
-- cell, and the length and the partition of each slot.
pub record Outcome : Type 0 where
  pub rules : Rules
  pub partitions : ℕ
  pub roots : Journals
  pub pools : List PoolEntry
  pub cells : ℕ → List CellEntry
  pub sizes : SlotName → ℕ
  pub homes : SlotName → ℕ

-- what the transitions of registers need to know of it, by its rules: all bytes of a slot but its count word are usable, and a slot
-- is plain where its partition is
abbrev pub row_facts : Outcome → Facts
row_facts o = record {
  usable_of = usable_of o.rules.version;
  usable_at = λ s. o.sizes s - 8;
  plain_at = λ s. nat_le o.rules.plain_from (o.homes s);
  cells = o.cells;
}

-- if the act is a fill, its class is one of the version's
abbrev pub FillsFrom : ℕ → RootAct → Type 0
FillsFrom version (Fill class asked slots) = HasClass version class
FillsFrom version (Map asked slot len) = Unit {0}
FillsFrom version (Full class asked) = Unit {0}
FillsFrom version (Give slots) = Unit {0}
FillsFrom version (Unmap asked slot) = Unit {0}
FillsFrom version Purge = Unit {0}

-- The outcome is one of a run. No partition past its own has a journal, and journals fill from the classes of its version alone. A slot
-- has the length with which a journal hands it out, and that journal's partition.
pub record IsOutcome (o : Outcome) : Type 0 where
  pub few : o.partitions ≤ most_partitions
  pub past : (p : ℕ) → o.partitions ≤ p → o.roots p ≡ []
  pub fills : (p : ℕ) (e : RootEntry) → Contains (o.roots p) e → FillsFrom o.rules.version e.act
  pub lengths : (p : ℕ) (e : RootEntry) (class : Option ℕ) (t : Title) → Contains (o.roots p) e → HandsOut class t e.act →
      o.sizes (name_of t) ≡ t.len
  pub homes : (p : ℕ) (e : RootEntry) (class : Option ℕ) (t : Title) → Contains (o.roots p) e → HandsOut class t e.act →
      o.homes (name_of t) ≡ p

-- What a view has seen is in it: an entry of a journal or of the pool's list at its place, and an exchange in its cell's
-- history after those of the cell before it.
pub record IsSeenOf (o : Outcome) (v : View) : Type 0 where
  pub roots : (p : ℕ) (older rest : List Made) (m : Made) (e : RootEntry) → p < most_partitions → list_of p v ≡ older ++ m ∷ rest →
      m.numbers ≡ root_numbers e → slice_get (o.roots p) (length older) ≡ Some e
  pub pools : (older rest : List Made) (m : Made) (e : PoolEntry) → list_of 4 v ≡ older ++ m ∷ rest → m.numbers ≡ pool_numbers e →
      slice_get o.pools (length older) ≡ Some e
  pub exchanges : (older rest : List Made) (m : Made) (e : Exchange) → list_of 5 v ≡ older ++ m ∷ rest →
      m.numbers ≡ exchange_numbers e → slice_get (o.cells e.cell) (length (made_with_cell e.cell older)) ≡ Some e.entry

-- the acts of the record's line in each journal are those that it entered
abbrev pub ActsAreOf : Outcome → ToldRecord → Type 0
ActsAreOf o x =
    (p : ℕ) (entries : List RootEntry) → p < most_partitions →
    map (λ (m : Made). m.numbers) (entered_in p x.stretch) ≡ map root_numbers entries →
    acts_of o.roots x.played.line p ≡ map (λ (e : RootEntry). e.act) entries

-- A run of this many partitions became this, in which the record was made, by the run's rules, by a seat that had this view then.
pub record FitsRun (o : Outcome) (partitions : ℕ) (v : View) (x : ToldRecord) : Type 0 where
  pub many : o.partitions ≡ partitions
  pub rules : x.played.rules ≡ o.rules
  pub run : IsOutcome o
  pub seen : IsSeenOf o v
  pub acts : ActsAreOf o x
