-- The cells that the threads share, and what was exchanged with them.
use Rattle.std.specs.Prelude.{◌≡◌, ℕ, List, [], ◌∷◌, Some, Contains, slice_get, slice_index_or}
use Rattle.pa_trace.specs.declared.script.Op.TheVariants.{Swap}
use Rattle.pa_record.specs.declared.entry.Answer.TheVariants.{Swapped}
use Rattle.pa_record.specs.declared.history.CellEntry.{CellEntry}
use Rattle.pa_record.specs.declared.history.Held.{Held}
use Rattle.pa_record.specs.declared.history.Held.TheVariants.{Nothing}
use Rattle.pa_rules.specs.declared.played.Played.{Played}
use Rattle.pa_rules.specs.Order.{IsOfLine, StandInOrder}

-- each exchange found what the one before it gave, the first one what the cell held
abbrev pub IsChain : Held → List CellEntry → Type 0
IsChain held [] = Unit {0}
IsChain held (e ∷ es) = (e.found ≡ held) × IsChain e.gave es

-- the exchanges of each cell, by the cell's number; a history that isn't there is empty
abbrev pub history_at : List (List CellEntry) → ℕ → List CellEntry
history_at cells k = slice_index_or cells k []

-- e is exchange j of cell k
abbrev pub IsExchange : (ℕ → List CellEntry) → ℕ → ℕ → CellEntry → Type 0
IsExchange cells k j e = slice_get (cells k) j ≡ Some e

-- The cells' histories are those of the records.
--   chain: a cell's first exchange finds nothing, and each later one finds what the one before gave
--   lines: each exchange's line is an exchange of this cell
--   different: no two exchanges have the same line
--   answers: each exchange's record names it, and it has the record's line
--   order: the exchanges of a cell are in the order of their records
pub record AreCells (cells : ℕ → List CellEntry) (ps : List Played) : Type 0 where
  pub chain : (k : ℕ) → IsChain Nothing (cells k)
  pub lines : (k j : ℕ) (e : CellEntry) → IsExchange cells k j e → (p : Played) × (reg : ℕ) × IsOfLine ps e.line p × (p.op ≡ Swap k reg)
  pub different : (k l i j : ℕ) (e f : CellEntry) → IsExchange cells k i e → IsExchange cells l j f → e.line ≡ f.line → (k ≡ l) × (i ≡ j)
  pub answers : (p : Played) (k reg : ℕ) → Contains ps p → p.op ≡ Swap k reg
      → (j : ℕ) × (e : CellEntry) × (p.answer ≡ Swapped j) × IsExchange cells k j e × (e.line ≡ p.line)
  pub order : (k : ℕ) → StandInOrder (λ e. e.line) ps (cells k)
