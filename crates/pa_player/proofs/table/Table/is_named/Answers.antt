use Rattle.std.specs.Prelude.{nat_eq, List}
use Rattle.std.specs.HashMap.{get}
use Rattle.std.proofs.Common.{subst}
use Rattle.pa_player.specs.declared.table.Slot.{Slot}
use Rattle.pa_player.specs.Tables.{AreNamed}
use Rattle.pa_player.proofs.Homes.{homed_names}
use Rattle.pa_player.proofs.table.Table.is_named.Goals as goal

pub returns : goal.returns
returns c =
    let P : List Slot → Type 0 = λ slots. AreNamed slots in
    record { named = subst P c.self.view_is (homed_names c.self.inside.slots.items (get nat_eq c.self.inside.homes) c.self.invariant) }
