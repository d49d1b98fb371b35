-- The clauses of the pool and of the roots, and what is required of the closing seat, put together from what each layer says.
use Rattle.std.specs.Prelude.{◌≡◌, ℕ, ◌<◌, ◌≤◌, List, [], Contains}
use Rattle.pa_slot.specs.declared.word.SlotName.{SlotName}
use Rattle.pa_trace.specs.declared.script.Op.TheVariants.{Alloc}
use Rattle.pa_rules.specs.declared.played.Played.{Played}
use Rattle.pa_record.specs.declared.entry.Answer.TheVariants.{Full}
use Rattle.pa_record.specs.declared.pool.PoolEntry.{PoolEntry}
use Rattle.pa_record.specs.declared.root.RootEntry.{RootEntry}
use Rattle.pa_record.specs.Numbers.{root_numbers}
use Rattle.pa_record.specs.Pool.{IsPool}
use Rattle.pa_record.specs.Root.{IsJournal}
use Rattle.pa_trace.specs.Limits.{most_partitions}
use Rattle.pa_region.specs.declared.view.Made.{Made}
use Rattle.pa_region.specs.declared.view.View.{View}
use Rattle.pa_region.specs.Lists.{entered_in}
use Rattle.pa_region.specs.Waiting.{unclean_of}
use Rattle.pa_rules.specs.Roots.{Journals, MakesEntry, AreRoots, IsPoolOf}
use Rattle.pa_rules.specs.Told.{Told}
use Rattle.pa_logs.specs.Told.{ToldRecord, played_in, AreLogs}
use Rattle.pa_logs.specs.Listed.{HasCuts}
use Rattle.pa_logs.specs.Indices.{IsFullAt, AreAsked, AreLists}
use Rattle.pa_logs.specs.Lengths.{lengths_by}
use Rattle.pa_logs.specs.Standing.{OnlyUnmapsUncut, HasFree}
use Rattle.pa_logs.specs.Ending.{IsClosing}

-- What the pool's type keeps, and its calls and the runner say.
--   lists, asked: the lists are the journals and the pool's entries, and each record asked at most once
--   fits: each take and give fits the pool after those before it
--   cuts: at each phase's end the list was a beginning, and that of the records so far
pub record PoolSays (supers : ℕ) (lists : ℕ → List Made) (pools : List PoolEntry) (roots : Journals) (ts : List ToldRecord) : Type 0 where
  pub lists_are : AreLists lists pools roots ts
  pub asked : AreAsked (lists 4) ts
  pub fits : IsPool supers pools
  pub cuts : HasCuts 4 (lists 4) ts

-- What the roots' types keep, and their calls and the runner say.
--   one: all records are played by the same rules
--   journals: each journal is one of a root, replayed with the pool's entries
--   makes: what a record entered in a journal is an entry that its op makes
--   none_past: a partition past the trace's has no journal
--   refused: a record that is full names its entry by the index
pub record RootsSay (partitions : ℕ) (lists : ℕ → List Made) (pools : List PoolEntry) (roots : Journals)
    (ts : List ToldRecord) : Type 0 where
  pub one : (x y : Played) → Contains (played_in ts) x → Contains (played_in ts) y → x.rules ≡ y.rules
  pub lists_are : AreLists lists pools roots ts
  pub journals : (p : ℕ) → IsJournal pools (roots p)
  pub makes : (x : ToldRecord) (p : ℕ) (m : Made) (e : RootEntry) → p < most_partitions → Contains ts x →
      Contains (entered_in p x.stretch) m →
      m.numbers ≡ root_numbers e → MakesEntry pools p e.act x.played
  pub cuts : (p : ℕ) → p < most_partitions → HasCuts p (lists p) ts
  pub none_past : (p : ℕ) → partitions ≤ p → roots p ≡ []
  pub refused : (x : ToldRecord) (j reg p size : ℕ) → Contains ts x → x.played.answer ≡ Full j → x.played.op ≡ Alloc reg p size →
      (p < most_partitions) × IsFullAt (lists p) x j

-- What the closing seat must satisfy, from the journals, the logs and what it has.
pub record SeatSays (supers partitions : ℕ) (sizes : SlotName → ℕ) (lists : ℕ → List Made) (r : Told) (ts : List ToldRecord)
    (v : View) : Type 0 where
  pub lists_are : AreLists lists r.pools r.roots ts
  pub journals : AreRoots partitions (played_in ts) r.pools r.roots
  pub pool : IsPoolOf supers (played_in ts) r.pools r.roots
  pub logs : AreLogs v ts
  pub lengths : (s : SlotName) → sizes s ≡ lengths_by partitions r.pools r.roots s
  pub unmaps : OnlyUnmapsUncut ts
  pub has : HasFree sizes r.pools r.roots v
  pub clean : unclean_of v ≡ 0

-- If the layers say what they must, the clauses hold, and the closing seat is as required.
pub record LayersFollow : Type 0 where
  pub pool : (supers : ℕ) (lists : ℕ → List Made) (pools : List PoolEntry) (roots : Journals) (ts : List ToldRecord) →
      PoolSays supers lists pools roots ts → IsPoolOf supers (played_in ts) pools roots
  pub roots : (partitions : ℕ) (lists : ℕ → List Made) (pools : List PoolEntry) (roots : Journals) (ts : List ToldRecord) →
      RootsSay partitions lists pools roots ts → AreRoots partitions (played_in ts) pools roots
  pub closing : (supers partitions : ℕ) (sizes : SlotName → ℕ) (lists : ℕ → List Made) (r : Told) (ts : List ToldRecord)
      (v : View) → SeatSays supers partitions sizes lists r ts v → IsClosing sizes r v
