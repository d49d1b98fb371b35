use Rattle.std.proofs.Common.{◌≡◌, ◌*◌, ◌≤◌, map, take}
use Rattle.pa_player.specs.Changes.{bytes_at}
use Rattle.pa_player.specs.Playing.{numbered_at}
use Rattle.pa_player.specs.Tables.{slot_at}
use Rattle.pa_player.proofs.returns.list_given.Given as goal

-- the titles and the slots of the first places, and their bytes
abbrev pub invariant-loop-place : goal.invariant-loop-place
invariant-loop-place l = record {
  titles : l.titles.items ≡ map (λ i. (slot_at l.table i).title) (take l.place-index l.places);
  slots : l.slots ≡ map (numbered_at l.table) (take l.place-index l.places);
  bytes : l.bytes ≡ bytes_at l.table (take l.place-index l.places);
  few : l.bytes ≤ 4294967296 * l.place-index;
}
