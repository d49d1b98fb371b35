use Rattle.std.proofs.Common.{◌≡◌, ◌++◌, take}
use Rattle.std.specs.List.{flat_map}
use Rattle.pa_record.specs.Text.{entry_text}
use Rattle.pa_record.proofs.whole.push_entries.Given as goal

-- what was reported so far comes after what was there
abbrev pub invariant-loop-entry : goal.invariant-loop-entry
invariant-loop-entry l = l.out ≡ l.fn.out ++ flat_map entry_text (take l.entry-index l.entries)
