use Rattle.std.proofs.Common.{◌≡◌, ℕ, List, Option, None, IfSome, length, sym, ◌∙◌, ap, subst, arith}
use Rattle.std.proofs.lemmas.List.{get_or_default}
use Rattle.pa_region.specs.Lists.{list_of}
use Rattle.pa_cells.specs.Handles.{ParkedHandle, held_as}
use Rattle.pa_cells.specs.Cells.{CellsHeld, AreOf, IsOf, made_with_cell, cell_holds}
use Rattle.pa_cells.proofs.Histories.{each_set, cells_more, same_count}
use Rattle.pa_cells.proofs.cells.Cells.exchange.Goals as goal

pub invariant_of-self-2 : goal.invariant_of-self-2
invariant_of-self-2 g c =
    let kept = c.self.invariant.2 in
    let noted = c.enter_with.ensures.noted in
    let small = c.requires.cell in
    let index = c.in-Some.ensures.index in
    let room = c.in-Some.ensures.room in (
      c.enter_with.ensures.regions.1 ∙ c.self.invariant.0,
      subst (AreOf g.N.Name.region g.N.Name.plain_from) (sym c.replace-found.ensures.after)
          (λ k. each_set (λ (o : Option ParkedHandle). IfSome o (IsOf g.N.Name.region g.N.Name.plain_from)) c.self.inside.parked.items
          c.args.cell k c.args.given None (let n = kept.held in omega arith)
          c.requires.given (c.self.invariant.1 k)),
      cells_more _ c.enter_with.new.host.view c.append.new.histories.items c.replace-found.new.parked.items c.args.line c.args.cell
          c.args.given c.held_name.result c.held_name-2.result noted.0
          c.requires.cell kept (omega arith) c.enter_with.ensures.again.1 noted.1.list
          (noted.1.says ∙ (c.as_slice.ensures.value ∙ c.exchange_numbers-numbers.ensures)) c.held_name.ensures
          (c.held_name-2.ensures ∙ ap held_as (c.index.ensures
          ∙ get_or_default c.self.inside.parked.items c.args.cell c.index.result.now None (let n = kept.held in omega arith)))
          c.in-Some.ensures.pushed c.replace-found.ensures.after,
    )

pub returns-clause-place : goal.returns-clause-place
returns-clause-place g c =
    let are = c.self.invariant.2.exchanged in
    c.in-Some.ensures.index
    ∙ (ap length (are.1.cells c.args.cell)
    ∙ (sym (same_count c.args.cell (list_of 5 c.self.inside.seat.view) are.0 are.1.numbers) ∙
    ap (λ (v : CellsHeld). length (made_with_cell c.args.cell (list_of 5 v.view))) c.self.view_is))
