use Rattle.std.proofs.Common.{◌≡◌, ℕ, ◌<◌, false, ◌&&◌, length, take}
use Rattle.std.specs.Prelude.{slice_index_or}
use Rattle.pa_region.specs.Marks.{marked_stake}
use Rattle.pa_region.proofs.marks.marked.Given as goal

abbrev pub invariant-loop-mark : goal.invariant-loop-mark
invariant-loop-mark l = (length l.has ≡ 16) ×
    ((j : ℕ) → j < 16 → slice_index_or l.has j false ≡
    (slice_index_or l.stakes j false && marked_stake (take l.mark-index l.marks) j))
