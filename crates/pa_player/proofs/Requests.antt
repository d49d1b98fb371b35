-- An allocation into a register that has no handle, as the code answers it.
use Rattle.std.proofs.Common.{ℕ, ◌+◌, ◌≤◌, max, refl, inl, inr}
use Rattle.pa_buckets.specs.Classes.{IsClassIn}
use Rattle.pa_direct.specs.Shapes.{shape_of}
use Rattle.pa_rules.specs.Sizes.{IsMapSize}
use Rattle.pa_trace.specs.declared.script.Op.TheVariants as ops
use Rattle.pa_record.specs.declared.entry.Answer.{Answer}
use Rattle.pa_record.specs.declared.entry.Answer.TheVariants as answers
use Rattle.pa_player.specs.Player.{Player}
use Rattle.pa_player.specs.Tables.{HasNone}
use Rattle.pa_player.specs.Playing.{list_place, register_at}
use Rattle.pa_player.specs.Changes.{AllocatesSlot, AllocatesMap}
use Rattle.pa_player.specs.Plays.{Plays}
use Rattle.pa_player.proofs.Fronts.{front_plays}
use Rattle.pa_player.proofs.Fills.{fill_plays}
use Rattle.pa_player.proofs.Mapped.{map_plays}
use Rattle.pa_player.proofs.Refusing.{full_plays, full_map_plays}
use Rattle.pa_player.proofs.Branches.{plays_as}

-- a slot of the class: the front of its list, which may be filled first, or no room
pub slot_request_plays : (p r : Player) (thread reg q size class : ℕ) (answer : Answer) → HasNone (register_at p thread reg) →
    size ≤ 33521656 → IsClassIn p.version (max size 1 + 8) class
    → AllocatesSlot thread reg q (list_place p.version p.partitions thread q class) class p r answer →
    Plays p thread (ops.Alloc reg q size) r answer
slot_request_plays p r thread reg q size class answer none fits of (inl front) =
    front_plays p r thread reg q size class answer none of front
slot_request_plays p r thread reg q size class answer none fits of (inr (inl filled)) =
    fill_plays p r thread reg q size class answer none of filled
slot_request_plays p r thread reg q size class answer none fits of (inr (inr refused)) =
    plays_as p thread (ops.Alloc reg q size) r r (answers.Full refused.entry) answer refl refused.says
    (full_plays p r thread reg q size class refused.entry none fits of (of.from, of.real) refused.empty refused.unfilled)

-- a direct map, or no room
pub map_request_plays : (p r : Player) (thread reg q size : ℕ) (answer : Answer) → HasNone (register_at p thread reg) →
    IsMapSize p.version size
    → AllocatesMap thread reg q (shape_of size).slot (shape_of size).supers p r answer → Plays p thread (ops.Alloc reg q size) r answer
map_request_plays p r thread reg q size answer none direct (inl made) = map_plays p r thread reg q size answer none direct made
map_request_plays p r thread reg q size answer none direct (inr (entry, refused, says)) =
    plays_as p thread (ops.Alloc reg q size) r r (answers.Full entry) answer refl says
    (full_map_plays p r thread reg q size entry none direct refused)
