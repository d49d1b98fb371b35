use Rattle.std.proofs.Common.{◌≡◌, ◌<◌, ℕ, List, [], Option, None, IfSome, replicate, sym, ◌∙◌, ap, subst}
use Rattle.pa_record.specs.declared.history.CellEntry.{CellEntry}
use Rattle.pa_region.specs.Views.{stake_of}
use Rattle.pa_region.specs.Lists.{keeper_of, list_of}
use Rattle.pa_region.specs.Shares.{Share}
use Rattle.pa_region.specs.Lending.{HostsKeeper}
use Rattle.pa_cells.specs.Handles.{ParkedHandle}
use Rattle.pa_cells.specs.Cells.{AreOf, IsOf, IsCells}
use Rattle.pa_cells.proofs.Starting.{always, starts}
use Rattle.pa_cells.proofs.cells.Cells.new.Goals as goal

pub invariant_of-result : goal.invariant_of-result
invariant_of-result g c =
    let v = c.seat.result.view in
    let same = c.seat.ensures.same in
    let hosts : HostsKeeper 5 v = (
      (
        subst (λ (s : Share). (k : ℕ) → stake_of s.view k ≡ 0) (sym same) c.requires.stakes,
        c.seat.ensures.clean,
      ),
      subst (λ (s : Share). 0 < keeper_of s.view 5) (sym same) c.requires.keeper,
    ) in
    let empty : list_of 5 v ≡ [] = ap (λ (s : Share). list_of 5 s.view) same ∙ c.requires.empty in (
      ap (λ (s : Share). s.region) same ∙ c.requires.region,
      subst (AreOf g.N.Name.region g.N.Name.plain_from) (sym c.in_ok-parked.ensures)
          (λ k. subst (λ (o : Option ParkedHandle). IfSome o (IsOf g.N.Name.region g.N.Name.plain_from)) (sym (always 64 k None)) tt),
      subst (λ (hs : List (List CellEntry)). IsCells (record { view = v; histories = hs; parked = c.in_ok-parked.parked.items }))
          (sym c.in_ok-histories.ensures)
          (subst (λ (ps : List (Option ParkedHandle)). IsCells (record { view = v; histories = replicate 64 []; parked = ps }))
          (sym c.in_ok-parked.ensures) (starts v hosts empty)),
    )
