-- The lists of the keepers, and what the records entered in them.
use Rattle.std.specs.Prelude.{◌≡◌, ℕ, ◌<◌, List, [], ◌∷◌, ◌++◌, ◌==◌, Bool, map, filter, Some, Contains, AllPairs, slice_get}
use Rattle.pa_region.specs.declared.view.Made.{Made}
use Rattle.pa_region.specs.Lists.{made_with, entered_in}
use Rattle.pa_record.specs.declared.root.RootEntry.{RootEntry}
use Rattle.pa_record.specs.declared.pool.PoolEntry.{PoolEntry}
use Rattle.pa_record.specs.Numbers.{root_numbers, pool_numbers}
use Rattle.pa_rules.specs.Order.{StandsBefore}
use Rattle.pa_rules.specs.Roots.{Journals}
use Rattle.pa_rules.specs.Caches.{acts_of}
use Rattle.pa_logs.specs.Told.{ToldRecord, log_of, told_until}

-- the first of an entry's numbers, 0 if it has none
abbrev pub first_of : List ℕ → ℕ
first_of [] = 0
first_of (n ∷ ns) = n

-- the line of an entry of a list: its first number, 0 if it has none
abbrev pub line_of : Made → ℕ
line_of m = first_of m.numbers

-- the entry is of this line
abbrev pub is_on : ℕ → Made → Bool
is_on line m = line_of m == line

-- a list's entries that are of a line, in order
abbrev pub entries_on : ℕ → List Made → List Made
entries_on line list = filter (is_on line) list

-- Keeper q's list is that of these records. What each stake made there is, in order, what the log of its thread entered, and a record
-- entered only what is of its line.
pub record IsListOf (q : ℕ) (list : List Made) (ts : List ToldRecord) : Type 0 where
  pub made : (k : ℕ) → made_with k list ≡ entered_in q (log_of k ts)
  pub lines : (x : ToldRecord) (m : Made) → Contains ts x → Contains (entered_in q x.stretch) m → line_of m ≡ x.played.line

-- the records are in the order of their lines
abbrev pub AreRising : List ToldRecord → Type 0
AreRising ts = AllPairs (λ (x y : ToldRecord). x.played.line < y.played.line) ts

-- Each entry of a list that is one of records is of one of them,
-- and the entries on a record's line are those that it entered, in order.
pub record LinesHaveTheirs : Type 0 where
  pub each : (q : ℕ) (list : List Made) (ts : List ToldRecord) (m : Made) → IsListOf q list ts → Contains list m →
      (x : ToldRecord) × Contains ts x × (x.played.thread ≡ m.stake) × Contains (entered_in q x.stretch) m
  pub theirs : (q : ℕ) (list : List Made) (ts : List ToldRecord) (x : ToldRecord) → IsListOf q list ts → AreRising ts → Contains ts x →
      entries_on x.played.line list ≡ entered_in q x.stretch

-- at the end of each phase the list was a beginning of what it became, and that of the records so far
abbrev pub HasCuts : ℕ → List Made → List ToldRecord → Type 0
HasCuts q list ts =
    (x : ToldRecord) → Contains ts x →
    (older rest : List Made) × (list ≡ older ++ rest) × IsListOf q older (told_until x.played.phase ts)

-- In a list of records the entries of a thread are in the order of its lines, and those of a phase before those of a later one.
abbrev pub EntriesInOrder : Type 0
EntriesInOrder =
    (q : ℕ) (list : List Made) (ts : List ToldRecord) (x y : ToldRecord) (i j : ℕ) (m n : Made) → IsListOf q list ts → HasCuts q list ts →
    AreRising ts → Contains ts x → Contains ts y → slice_get list i ≡ Some m → slice_get list j ≡ Some n →
    line_of m ≡ x.played.line → line_of n ≡ y.played.line → StandsBefore x.played y.played → i < j

-- the list of keeper p, in numbers, is the journal of partition p
abbrev pub IsJournalOf : List Made → List RootEntry → Type 0
IsJournalOf list journal = map (λ (m : Made). m.numbers) list ≡ map root_numbers journal

-- the list of keeper 4, in numbers, is the pool's
abbrev pub IsPoolList : List Made → List PoolEntry → Type 0
IsPoolList list pools = map (λ (m : Made). m.numbers) list ≡ map pool_numbers pools

-- The entries of journals and of the pool are in the order of their threads' lines and of the phases.
pub record OrdersFollow : Type 0 where
  pub journal : (p : ℕ) (list : List Made) (journal : List RootEntry) (ts : List ToldRecord) (x y : ToldRecord) (i j : ℕ)
      (e f : RootEntry) → IsListOf p list ts → HasCuts p list ts → AreRising ts → IsJournalOf list journal → Contains ts x → Contains ts y →
      slice_get journal i ≡ Some e → slice_get journal j ≡ Some f → x.played.line ≡ e.line → y.played.line ≡ f.line →
      StandsBefore x.played y.played → i < j
  pub pool : (list : List Made) (pools : List PoolEntry) (ts : List ToldRecord) (x y : ToldRecord) (i j : ℕ) (e f : PoolEntry) →
      IsListOf 4 list ts → HasCuts 4 list ts → AreRising ts → IsPoolList list pools → Contains ts x → Contains ts y →
      slice_get pools i ≡ Some e → slice_get pools j ≡ Some f → x.played.line ≡ e.line → y.played.line ≡ f.line →
      StandsBefore x.played y.played → i < j

-- The acts of a record's line are those that it entered.
abbrev pub ActsAreTheirs : Type 0
ActsAreTheirs =
    (p : ℕ) (list : List Made) (roots : Journals) (ts : List ToldRecord) (x : ToldRecord) (entries : List RootEntry) →
    IsListOf p list ts → IsJournalOf list (roots p) → AreRising ts → Contains ts x →
    map (λ (m : Made). m.numbers) (entered_in p x.stretch) ≡ map root_numbers entries →
    acts_of roots x.played.line p ≡ map (λ (e : RootEntry). e.act) entries
