use Rattle.std.proofs.Common.{◌≡◌, ◌∙◌, List, sym, subst, ap}
use Rattle.pa_slot.specs.declared.title.Title.{Title}
use Rattle.pa_record.specs.Root.{unmapped, without_map}
use Rattle.pa_shelf.specs.contracts.shelf.Shelf
use Rattle.pa_shelf.specs.Shelves.{ShelfParts, ShowsRoot}
use Rattle.pa_shelf.proofs.Mapping.{removed_named, none_named, unmapped_shown}
use Rattle.pa_shelf.proofs.shelf.Shelf.unmap.Goals as goal

pub returns-in-Some-clause-parts : goal.returns-in-Some-clause-parts
returns-in-Some-clause-parts c =
    let l = Shelf.the_view c.self.inside in
    let items = c.remove.ensures.items ∙
    removed_named c.args.name c.in-Some.at l.maps (rw c.deref.ensures.value at (sym c.in-Some.ensures)) in
    ap (λ (zs : List Title). record l { maps = zs }) items
    ∙ ap (λ (p : ShelfParts). record p { maps = without_map c.args.name p.maps }) c.self.view_is

pub returns-in-Some-clause-shown : goal.returns-in-Some-clause-shown
returns-in-Some-clause-shown c v r shown =
    subst (λ (p : ShelfParts). ShowsRoot v p (unmapped c.args.name r)) (sym (returns-in-Some-clause-parts c))
    (unmapped_shown v c.args.self.now r c.args.name shown)

pub returns-in_default-clause-parts : goal.returns-in_default-clause-parts
returns-in_default-clause-parts c =
    let l = Shelf.the_view c.self.inside in let now = c.args.self.now in
    let here = none_named c.args.name l.maps (rw c.deref.ensures.value at (sym c.in_default.ensures)) in
    let same = subst (λ (p : ShelfParts). p.maps ≡ without_map c.args.name p.maps) c.self.view_is here in
    ap (λ (zs : List Title). record now { maps = zs }) same

pub returns-in_default-clause-shown : goal.returns-in_default-clause-shown
returns-in_default-clause-shown c v r shown =
    subst (λ (p : ShelfParts). ShowsRoot v p (unmapped c.args.name r)) (sym (returns-in_default-clause-parts c))
    (unmapped_shown v c.args.self.now r c.args.name shown)
