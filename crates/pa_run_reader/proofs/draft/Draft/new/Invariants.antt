use Rattle.std.proofs.Common.{◌≡◌, [], length}
use Rattle.std.specs.List.{All}
use Rattle.pa_run_reader.proofs.draft.Draft.new.Given as goal

-- that many journals and histories are empty
abbrev pub invariant-loop : goal.invariant-loop
invariant-loop l = (length l.roots.items ≡ l.counter) × All (λ journal. journal ≡ []) l.roots.items

abbrev pub invariant-loop-2 : goal.invariant-loop-2
invariant-loop-2 l = (length l.cells.items ≡ l.counter) × All (λ history. history ≡ []) l.cells.items
