use Rattle.std.specs.Prelude.{All, map}
use Rattle.pa_region.specs.declared.view.View.{View}
use Rattle.pa_cache.specs.Chained.{HoldsList, list_in}
use Rattle.pa_op_specs.specs.Stocks.{AreNoLists}
use Rattle.pa_thread_state.proofs.lists.no_lists.Given as goal

abbrev pub invariant-loop-place : goal.invariant-loop-place
invariant-loop-place l = record {
  lists : (w : View) → AreNoLists l.version l.place (map (list_in w) l.caches.items);
  holds : (w : View) → All (HoldsList w) l.caches.items;
}
