use Rattle.std.proofs.Common.{List, sym, subst}
use Rattle.std.specs.Prelude.{Contains}
use Rattle.std.proofs.lemmas.List.Elements.{Contains-append_left}
use Rattle.pa_region.specs.declared.view.Made.{Made}
use Rattle.pa_region.specs.Lists.{list_of}
use Rattle.pa_cells.proofs.laws.slots_stay_seen.Goals as goal

pub returns : goal.returns
returns c h v w made begins =
    let e = made.entry in
    record {
      partition = made.partition;
      entry = (
        e.0,
        e.1,
        subst (λ (list : List Made). Contains list e.0) (sym begins.1)
            (Contains-append_left (list_of h.partition v) begins.0 e.0 e.2),
        e.3,
        e.4,
      );
    }
