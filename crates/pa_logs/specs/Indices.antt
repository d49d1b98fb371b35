-- Indices in answers and in journals: an entry's index is the length of its list before it,
-- and each entry of the pool is named once.
use Rattle.std.specs.Prelude.{◌≡◌, ◌≢◌, ℕ, ◌<◌, ◌≤◌, ◌⊎◌, List, [], ◌∷◌, ◌++◌, Bool, true, false, map, filter, length, Option, Some, None, Contains, slice_get}
use Rattle.pa_record.specs.declared.entry.Answer.TheVariants.{Swapped}
use Rattle.pa_record.specs.declared.history.CellEntry.{CellEntry}
use Rattle.pa_record.specs.declared.root.RootEntry.{RootEntry}
use Rattle.pa_record.specs.declared.pool.PoolEntry.{PoolEntry}
use Rattle.pa_record.specs.Numbers.{root_numbers, pool_numbers}
use Rattle.pa_record.specs.Root.{asked_by}
use Rattle.pa_trace.specs.Limits.{most_partitions}
use Rattle.pa_region.specs.declared.view.Made.{Made}
use Rattle.pa_region.specs.Lists.{entered_in}
use Rattle.pa_rules.specs.Cells.{IsExchange}
use Rattle.pa_rules.specs.Roots.{Journals, IsEntry, IsFull, Names}
use Rattle.pa_logs.specs.Told.{ToldRecord}
use Rattle.pa_logs.specs.Listed.{line_of, IsListOf, AreRising, IsJournalOf, IsPoolList}
use Rattle.pa_logs.specs.Swaps.{SwapMade, is_of_cell, AreSwaps}

-- The entry m is in the list with this many before it. The call that made it ensures this: the list that its seat has
-- seen then ends with the entry, its answer is how many are before it, and that list is a beginning of what the list became.
pub record StandsAt (list : List Made) (m : Made) (index : ℕ) : Type 0 where
  pub older : List Made
  pub rest : List Made
  pub begins : list ≡ (older ++ m ∷ []) ++ rest
  pub index_is : length older ≡ index

-- A record that is full names its entry in the list of its partition by the index.
pub record IsFullAt (list : List Made) (x : ToldRecord) (index : ℕ) : Type 0 where
  pub made : Made
  pub entry : RootEntry
  pub stands : StandsAt list made index
  pub says : made.numbers ≡ root_numbers entry
  pub line : entry.line ≡ x.played.line
  pub full : IsFull entry.act

-- An exchange with cell k. The exchanges that its seat has seen then end with its own, and are a beginning of all. Its answer is how
-- many of them before it are of that cell.
pub record IsSwapAt (swaps : List SwapMade) (x : ToldRecord) (k : ℕ) : Type 0 where
  pub older : List SwapMade
  pub rest : List SwapMade
  pub swap : SwapMade
  pub begins : swaps ≡ (older ++ swap ∷ []) ++ rest
  pub cell : swap.cell ≡ k
  pub line : line_of swap.made ≡ x.played.line
  pub answer : x.played.answer ≡ Swapped (length (filter (is_of_cell k) older))

-- what a record entered, as its log segment says in numbers: in each journal these entries, and in the pool's list these
pub record Enters (x : ToldRecord) : Type 0 where
  pub roots : ℕ → List RootEntry
  pub pools : List PoolEntry
  pub roots_are : (p : ℕ) → p < most_partitions → map (λ (m : Made). m.numbers) (entered_in p x.stretch) ≡ map root_numbers (roots p)
  pub pools_are : map (λ (m : Made). m.numbers) (entered_in 4 x.stretch) ≡ map pool_numbers pools

-- the entry names one of the pool
abbrev pub is_asked : Option ℕ → Bool
is_asked None = false
is_asked (Some j) = true

-- the journal's entry names one of the pool
abbrev pub asks : RootEntry → Bool
asks e = is_asked (asked_by e.act)

-- a record asked the pool for nothing: it entered nothing there, and no journal entry of it names one
pub record AskedNone (x : ToldRecord) (it : Enters x) : Type 0 where
  pub pools : it.pools ≡ []
  pub roots : (p : ℕ) → filter asks (it.roots p) ≡ []

-- The record asked the pool once: it made one entry of the pool, and one of its journal entries names one. That is in the journal of
-- the partition for which the pool was asked, and names the pool's entry by its index.
pub record AskedOnce (list : List Made) (x : ToldRecord) (it : Enters x) : Type 0 where
  pub made : Made
  pub pool : PoolEntry
  pub entry : RootEntry
  pub index : ℕ
  pub made_is : entered_in 4 x.stretch ≡ made ∷ []
  pub pools : it.pools ≡ pool ∷ []
  pub small : pool.partition < most_partitions
  pub asked : filter asks (it.roots pool.partition) ≡ entry ∷ []
  pub others : (p : ℕ) → p ≢ pool.partition → filter asks (it.roots p) ≡ []
  pub names : asked_by entry.act ≡ Some index
  pub stands : StandsAt list made index

-- each record asked the pool at most once
abbrev pub AreAsked : List Made → List ToldRecord → Type 0
AreAsked list ts = (x : ToldRecord) → Contains ts x → (it : Enters x) × (AskedNone x it ⊎ AskedOnce list x it)

-- The lists of the roots and of the pool: each is that of the records, and in numbers the journal of its partition, or the pool's
-- entries. No partition has a number above 3.
pub record AreLists (lists : ℕ → List Made) (pools : List PoolEntry) (roots : Journals) (ts : List ToldRecord) : Type 0 where
  pub is : (q : ℕ) → q < 5 → IsListOf q (lists q) ts
  pub rising : AreRising ts
  pub journals : (p : ℕ) → p < most_partitions → IsJournalOf (lists p) (roots p)
  pub past : (p : ℕ) → most_partitions ≤ p → roots p ≡ []
  pub pool : IsPoolList (lists 4) pools

-- Indices are those of a legal run.
--   swapped: an exchange's answer is where it is in its cell's history
--   full: a record that is full names a Full of its line
--   named: each entry of the pool is named by a journal entry, which is of its partition and line
--   once: it is named by no other
pub record IndicesFollow : Type 0 where
  pub swapped : (list : List Made) (cells : ℕ → List CellEntry) (swaps : List SwapMade) (x : ToldRecord) (k : ℕ) →
      AreSwaps list cells swaps → IsSwapAt swaps x k →
      (j : ℕ) × (e : CellEntry) × (x.played.answer ≡ Swapped j) × IsExchange cells k j e × (e.line ≡ x.played.line)
  pub full : (p j : ℕ) (list : List Made) (roots : Journals) (x : ToldRecord) → IsJournalOf list (roots p) → IsFullAt list x j →
      (e : RootEntry) × IsEntry roots p j e × (e.line ≡ x.played.line) × IsFull e.act
  pub named : (lists : ℕ → List Made) (pools : List PoolEntry) (roots : Journals) (ts : List ToldRecord) (j : ℕ) (e : PoolEntry) →
      AreLists lists pools roots ts → AreAsked (lists 4) ts → slice_get pools j ≡ Some e →
      (i : ℕ) × (f : RootEntry) × IsEntry roots e.partition i f × (asked_by f.act ≡ Some j) × (f.line ≡ e.line)
  pub once : (lists : ℕ → List Made) (pools : List PoolEntry) (roots : Journals) (ts : List ToldRecord) (j p q i k : ℕ) (e : PoolEntry) →
      AreLists lists pools roots ts → AreAsked (lists 4) ts → slice_get pools j ≡ Some e → Names roots p i j → Names roots q k j →
      (p ≡ q) × (i ≡ k)
