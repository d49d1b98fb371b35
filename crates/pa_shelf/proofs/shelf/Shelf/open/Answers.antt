use Rattle.std.proofs.Common.{List, sym, subst}
use Rattle.pa_record.specs.declared.taken.SuperPage.{SuperPage}
use Rattle.pa_record.specs.Root.{opened}
use Rattle.pa_shelf.specs.contracts.shelf.Shelf
use Rattle.pa_shelf.specs.Opening.{IsNewNumber}
use Rattle.pa_shelf.specs.Shelves.{ShelfParts, ShowsRoot}
use Rattle.pa_shelf.proofs.Opening.{opened_shown}
use Rattle.pa_shelf.proofs.shelf.Shelf.open.Goals as goal

pub returns-clause-shown : goal.returns-clause-shown
returns-clause-shown c r sound shown =
    let at : SuperPage = record { number = c.args.number; born = c.args.born } in
    let v = c.args.own.now.view in let w = c.clear.new.own.view in
    let l = Shelf.the_view c.self.inside in
    let before = subst (λ (p : ShelfParts). ShowsRoot v p r) (sym c.self.view_is) shown in
    let new = subst (λ (p : ShelfParts). IsNewNumber at.number p.supers) (sym c.self.view_is) c.requires.new in
    let done = opened_shown v w l r at c.aware.ensures.aware sound before c.requires.number new c.clear.ensures.view c.requires.raw
    c.clear.ensures.blank in
    subst (λ (zs : List SuperPage). ShowsRoot w (record l { supers = zs; page = 1 }) (opened at.number at.born r))
    (sym c.push_reserved.ensures.items) done
