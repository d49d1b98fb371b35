-- The order of the lines: a run in which each line was played after the lines before it.
use Rattle.std.specs.Prelude.{◌≡◌, ℕ, ◌&&◌, Bool, nat_lt, List, map, count_by, is_some, Contains}
use Rattle.std.specs.List.Sorted.{IsStrictlyIncreasing, IsNonDecreasingBy}
use Rattle.pa_slot.specs.declared.word.SlotName.{SlotName}
use Rattle.pa_slot.specs.Count.{number_of}
use Rattle.pa_slot.specs.Run.{Mark, same_slot}
use Rattle.pa_record.specs.declared.history.CellEntry.{CellEntry}
use Rattle.pa_record.specs.declared.pool.PoolEntry.{PoolEntry}
use Rattle.pa_record.specs.declared.root.RootEntry.{RootEntry}
use Rattle.pa_rules.specs.declared.played.Played.{Played}
use Rattle.pa_rules.specs.Played.{marks_of}
use Rattle.pa_rules.specs.Contents.{AreExactContents}
use Rattle.pa_rules.specs.Roots.{Journals}

-- m is a step of slot s on a line before this one; a look is none
abbrev pub is_step_before : SlotName → ℕ → Mark → Bool
is_step_before s line m = same_slot m.slot s && (nat_lt m.line line && is_some m.step)

-- how many steps of slot s are on the lines before this one
abbrev pub steps_before : SlotName → ℕ → List Mark → ℕ
steps_before s line ms = count_by (is_step_before s line) ms

-- each number found is how many steps of the slot are on the lines before
abbrev pub AreNumbersInFileOrder : List Mark → Type 0
AreNumbersInFileOrder ms = (m : Mark) → Contains ms m → number_of m.found ≡ steps_before m.slot m.line ms

-- every cell's exchanges are in the order of their lines
abbrev pub AreCellsInFileOrder : (ℕ → List CellEntry) → Type 0
AreCellsInFileOrder cells = (k : ℕ) → IsStrictlyIncreasing (map (λ e. e.line) (cells k))

-- All is in the order of the lines: the entries of the journals and the pool, the exchanges and the numbers found; and
-- each read returned the content, or poison if the slot was freed.
pub record IsInFileOrder (ps : List Played) (pools : List PoolEntry) (roots : Journals) (cells : ℕ → List CellEntry) : Type 0 where
  pub journals : (p : ℕ) → IsNonDecreasingBy (λ (e : RootEntry). e.line) (roots p)
  pub pool : IsNonDecreasingBy (λ (e : PoolEntry). e.line) pools
  pub exchanges : AreCellsInFileOrder cells
  pub numbers : AreNumbersInFileOrder (marks_of ps)
  pub contents : AreExactContents ps
