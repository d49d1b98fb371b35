use Rattle.std.proofs.Common.{List, length, sym, ap, subst, arith}
use Rattle.pa_region.specs.declared.view.View.{View}
use Rattle.pa_totals.specs.declared.owed.Owed.{Owed}
use Rattle.pa_op_specs.specs.Counts.{IsOwedBySteps}
use Rattle.pa_op_specs.specs.Workers.{IsCovered}
use Rattle.pa_op_specs.proofs.Counting.{counts_none_by, owed_none_by}
use Rattle.pa_op_specs.proofs.Stakes.{covered_by_rule}
use Rattle.pa_heap.proofs.worker.Worker.open.Goals as goal

pub invariant_of-result : goal.invariant_of-result
invariant_of-result g c =
    let steps = length c.in_ok-records.records.items in
    let budget = ap (λ (v : View). v.budget) c.in_ok-stock.ensures.view in (
      record {
        room = omega (arith, c.in_ok-records.ensures.capacity);
        counts = counts_none_by steps;
        owed = subst (λ (os : List Owed). IsOwedBySteps steps os) (sym c.owed_none.ensures) (owed_none_by steps);
      },
      omega (arith, c.requires.budget, budget),
      subst (λ (os : List Owed). IsCovered os c.in_ok-stock.stock) (sym c.owed_none.ensures)
          (covered_by_rule c.in_ok-stock.stock c.kept.ensures.stock.stake c.kept.ensures.aware),
    )
