use Rattle.std.proofs.Common.{◌≡◌, ◌++◌, codes, take}
use Rattle.std.specs.List.{flat_map}
use Rattle.std.specs.Io.{StartsWith}
use Rattle.pa_record.specs.Text.{numbered_text}
use Rattle.pa_record.proofs.root_lines.push_slots.Given as goal

-- what was reported so far comes after what was there
abbrev pub invariant-loop-slot : goal.invariant-loop-slot
invariant-loop-slot l = record {
  whole : l.out ≡ l.fn.out ++ flat_map (λ n. codes " " ++ numbered_text n) (take l.slot-index l.slots);
  kept : StartsWith l.out l.fn.out;
}
