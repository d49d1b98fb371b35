use Rattle.std.proofs.Common.{◌∙◌, sym}
use Rattle.pa_place.proofs.Removing.{is_named, removed_first, none_removed_first, without_map_is}
use Rattle.pa_place.proofs.store.remove_map.Goals as goal

pub returns-in-Some : goal.returns-in-Some
returns-in-Some c =
    rw c.remove.ensures.items
    (removed_first (is_named c.args.name) c.in-Some.at c.args.maps.now.items (rw c.deref.ensures.value at (sym c.in-Some.ensures))
    ∙ without_map_is c.args.name c.args.maps.now.items)

pub returns-in_default : goal.returns-in_default
returns-in_default c =
    none_removed_first (is_named c.args.name) c.args.maps.now.items (rw c.deref.ensures.value at (sym c.in_default.ensures))
    ∙ without_map_is c.args.name c.args.maps.now.items
