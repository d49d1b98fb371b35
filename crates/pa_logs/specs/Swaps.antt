-- The exchanges in the list of the cells' keeper, and their order.
use Rattle.std.specs.Prelude.{◌≡◌, ℕ, ◌<◌, ◌≤◌, ◌+◌, List, [], ◌∷◌, ◌==◌, Bool, map, filter, length, if◌then◌else◌, Contains}
use Rattle.pa_slot.specs.declared.title.Title.{Title}
use Rattle.pa_region.specs.declared.view.Made.{Made}
use Rattle.pa_region.specs.Views.{seen_among}
use Rattle.pa_region.specs.Lists.{entered_in, Rises}
use Rattle.pa_trace.specs.declared.script.Op.TheVariants.{Swap}
use Rattle.pa_record.specs.declared.entry.Answer.TheVariants.{Swapped}
use Rattle.pa_record.specs.declared.history.CellEntry.{CellEntry}
use Rattle.pa_record.specs.declared.history.Held.TheVariants.{Nothing}
use Rattle.pa_rules.specs.declared.played.Played.{Played}
use Rattle.pa_rules.specs.Cells.{IsChain, IsExchange, AreCells}
use Rattle.pa_rules.specs.Order.{StandsBefore}
use Rattle.pa_rules.specs.Seen.{HandsTo}
use Rattle.pa_logs.specs.Told.{ToldRecord, played_in}
use Rattle.pa_logs.specs.Listed.{line_of, IsListOf, AreRising, HasCuts}
use Rattle.pa_logs.specs.Viewed.{IsExchanged}

-- one exchange: its entry in the list, its cell, and its entry in the cell's history
pub record SwapMade : Type 0 where
  pub made : Made
  pub cell : ℕ
  pub entry : CellEntry

-- the exchange is one with cell k
abbrev pub is_of_cell : ℕ → SwapMade → Bool
is_of_cell k e = e.cell == k

-- the exchanges are those of the list, in order, and the history of each cell is those with it
pub record AreSwaps (list : List Made) (cells : ℕ → List CellEntry) (swaps : List SwapMade) : Type 0 where
  pub list_is : list ≡ map (λ (e : SwapMade). e.made) swaps
  pub lines : (e : SwapMade) → Contains swaps e → line_of e.made ≡ e.entry.line
  pub cells_are : (k : ℕ) → cells k ≡ map (λ (e : SwapMade). e.entry) (filter (is_of_cell k) swaps)

-- where the first entry of a line is in a list
abbrev pub place_of : List Made → ℕ → ℕ
place_of [] line = 0
place_of (m ∷ ms) line = if line_of m == line then 0 else 1 + place_of ms line

-- What is known of the cells' list.
--   is, cuts, rising: it is that of these records, at each phase's end and at the end, which are in the order of their lines
--   swaps_are: its entries are the exchanges
--   one_each, has: a record entered at most one, and an exchange did
--   rises, gives: what makers had seen rises along it, and it is what an exchange hands on
pub record AreSwapped (list : List Made) (cells : ℕ → List CellEntry) (swaps : List SwapMade) (ts : List ToldRecord) : Type 0 where
  pub is : IsListOf 5 list ts
  pub cuts : HasCuts 5 list ts
  pub rising : AreRising ts
  pub swaps_are : AreSwaps list cells swaps
  pub one_each : (x : ToldRecord) → Contains ts x → length (entered_in 5 x.stretch) ≤ 1
  pub has : (x : ToldRecord) → Contains ts x → IsExchanged x.played → (m : Made) × Contains list m × (line_of m ≡ x.played.line)
  pub rises : Rises list
  pub gives : (x : ToldRecord) (m : Made) (t : Title) → Contains ts x → Contains (entered_in 5 x.stretch) m →
      x.gives t ≡ seen_among t m.seen

-- Exchanges have one order, in which what was seen rises.
pub record SwapsFollow : Type 0 where
  pub handed : (list : List Made) (cells : ℕ → List CellEntry) (swaps : List SwapMade) (ts : List ToldRecord) (x y : Played) →
      AreSwapped list cells swaps ts → HandsTo cells x y → place_of list x.line < place_of list y.line
  pub threads : (list : List Made) (cells : ℕ → List CellEntry) (swaps : List SwapMade) (ts : List ToldRecord) (x y : Played) →
      AreSwapped list cells swaps ts → Contains (played_in ts) x → Contains (played_in ts) y → IsExchanged x → IsExchanged y →
      x.thread ≡ y.thread → x.line < y.line → place_of list x.line < place_of list y.line
  pub hands : (list : List Made) (cells : ℕ → List CellEntry) (swaps : List SwapMade) (ts : List ToldRecord) (x y : ToldRecord)
      (t : Title) → AreSwapped list cells swaps ts → Contains ts x → Contains ts y → HandsTo cells x.played y.played → x.gives t ≤ y.gives t
  pub order : (list : List Made) (cells : ℕ → List CellEntry) (swaps : List SwapMade) (ts : List ToldRecord) (k i j : ℕ) (e f : CellEntry)
      (x y : ToldRecord) → AreSwapped list cells swaps ts → IsExchange cells k i e → IsExchange cells k j f → Contains ts x →
      Contains ts y → x.played.line ≡ e.line → y.played.line ≡ f.line → StandsBefore x.played y.played → i < j

-- What the cells' type and their calls say besides.
--   chain: in each cell an exchange finds what the one before gave
--   made: an exchange is a record's, which names its cell
--   answers: a record's answer is where its exchange is in the cell's history
pub record AreAnswered (cells : ℕ → List CellEntry) (swaps : List SwapMade) (ts : List ToldRecord) : Type 0 where
  pub chain : (k : ℕ) → IsChain Nothing (cells k)
  pub made : (s : SwapMade) → Contains swaps s →
      (x : ToldRecord) × (reg : ℕ) × Contains ts x × (x.played.line ≡ s.entry.line) × (x.played.op ≡ Swap s.cell reg)
  pub answers : (x : ToldRecord) (k reg : ℕ) → Contains ts x → x.played.op ≡ Swap k reg →
      (j : ℕ) × (e : CellEntry) × (x.played.answer ≡ Swapped j) × IsExchange cells k j e × (e.line ≡ x.played.line)

-- The cells are those of a legal run.
abbrev pub CellsFollow : Type 0
CellsFollow =
    (list : List Made) (cells : ℕ → List CellEntry) (swaps : List SwapMade) (ts : List ToldRecord) → AreSwapped list cells swaps ts →
    AreAnswered cells swaps ts → AreCells cells (played_in ts)
