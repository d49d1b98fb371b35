-- The entries of a line, by their indices in the journals.
use Rattle.std.specs.Prelude.{◌≡◌, ℕ, ◌<◌, ◌==◌, List, [], map, filter, length, All, slice_index_or}
use Rattle.pa_record.specs.declared.root.RootEntry.{RootEntry}
use Rattle.pa_record.specs.declared.root.RootAct.{RootAct}
use Rattle.pa_record.specs.declared.root.RootAct.TheVariants.{Purge}
use Rattle.pa_rules.specs.Roots.{Journals, journal_at}
use Rattle.pa_rules.specs.Caches.{acts_of}

-- the entry that stands in for one past the end of a journal: a purge on line 0
abbrev pub no_entry : RootEntry
no_entry = record { line = 0; act = Purge }

-- what the entry at this index of the journal did
abbrev pub did_at : List RootEntry → ℕ → RootAct
did_at journal j = (slice_index_or journal j no_entry).act

-- what the entries of a line in one journal did, in order
abbrev pub acts_on : List RootEntry → ℕ → List RootAct
acts_on journal line = map (λ (e : RootEntry). e.act) (filter (λ (e : RootEntry). e.line == line) journal)

-- the entries at these indices of the journal did this
pub record ArePlacesOf (journal : List RootEntry) (places : List ℕ) (acts : List RootAct) : Type 0 where
  pub among : All (λ j. j < length journal) places
  pub did : map (did_at journal) places ≡ acts

-- for each line below a number, the indices of its entries in the journal, and none past the end of the table
abbrev pub AreOnLines : List RootEntry → ℕ → List (List ℕ) → Type 0
AreOnLines journal count table = (l : ℕ) → l < count → ArePlacesOf journal (slice_index_or table l []) (acts_on journal l)

-- for each journal, the tables have the indices of its entries on each line below a number
pub record HaveLines (roots : List (List RootEntry)) (count : ℕ) (tables : List (List (List ℕ))) : Type 0 where
  pub many : length tables ≡ length roots
  pub each : (p : ℕ) → p < length roots → AreOnLines (journal_at roots p) count (slice_index_or tables p [])

-- the tables have the indices of this line's entries in each journal
pub record KnowsLine (roots : List (List RootEntry)) (tables : List (List (List ℕ))) (line : ℕ) : Type 0 where
  pub many : length tables ≡ length roots
  pub each : (p : ℕ) → p < length roots
      → ArePlacesOf (journal_at roots p) (slice_index_or (slice_index_or tables p []) line []) (acts_of (journal_at roots) line p)

-- no other journal than this partition's has entries of the line
abbrev pub NoneBut : Journals → ℕ → ℕ → Type 0
NoneBut roots line p = (q : ℕ) → (q ≡ p → ⊥) → acts_of roots line q ≡ []
