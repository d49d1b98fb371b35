use Rattle.std.proofs.Common.{sym, ◌∙◌}
use Rattle.std.proofs.lemmas.List.{length-map}
use Rattle.pa_region.specs.Start.{first_view}
use Rattle.pa_cache.specs.Chained.{list_in}
use Rattle.pa_thread_state.specs.Lists.{WorkerCaches}
use Rattle.pa_thread_state.proofs.Summing.{none_summed}
use Rattle.pa_thread_state.proofs.lists.Lists.new.Goals as goal

-- empty caches are summed by no slots
pub invariant_of-result : goal.invariant_of-result
invariant_of-result c =
    let cs : WorkerCaches = record { version = c.args.version; parts = c.in_ok-no_lists.field-0.items } in
    let lists = c.in_ok-no_lists.ensures.lists in
    none_summed cs c.no_sums.result lists (sym (length-map cs.parts (list_in (first_view 0 0))) ∙
    (lists (first_view 0 0)).count_is) c.no_sums.ensures
