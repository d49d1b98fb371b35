-- A run of threads with lists is closed by a seat that has free what is on them.
use Rattle.std.proofs.Common.{◌≡◌, ℕ, ◌<◌, List}
use Rattle.pa_slot.specs.declared.title.Title.{Title}
use Rattle.pa_region.specs.declared.view.View.{View}
use Rattle.pa_region.specs.Ends.{IsEnd}
use Rattle.pa_region.specs.Views.{free_of}
use Rattle.pa_region.specs.Waiting.{unclean_of}
use Rattle.pa_trace.specs.declared.script.Trace.{Trace}
use Rattle.pa_record.specs.Laws.{IsNameOut}
use Rattle.pa_record.specs.Root.{new_root, root_replayed}
use Rattle.pa_record.specs.Sound.{IsMade}
use Rattle.pa_record.specs.Spans.{name_of}
use Rattle.pa_rules.specs.Legal.{phases_in}
use Rattle.pa_rules.specs.Told.{Told}
use Rattle.pa_logs.specs.Told.{ToldRecord}
use Rattle.pa_logs.specs.Said.{sizes_in, LayersSay, ListsSay, CloseSays}
use Rattle.pa_logs.specs.Standing.{OnlyUnmapsUncut, ListedIsFree}
use Rattle.pa_logs.proofs.Said.{layers_tell_all}
use Rattle.pa_examples.specs.told.AllSaid.{IsClosed}

pub closed_by : (t : Trace) (r : Told) (v : View) (ts : List ToldRecord) (words : List ℕ) (says : LayersSay t r v ts)
    (lists : ListsSay t r ts) → ListedIsFree t.threads t.partitions (sizes_in t r) (lists.lists (phases_in t.lines)) v →
    OnlyUnmapsUncut ts → ((p : ℕ) (u : Title) → IsMade (root_replayed r.pools (r.roots p) new_root) u →
    (IsNameOut (root_replayed r.pools (r.roots p) new_root) (name_of u) → ⊥) → 0 < free_of v u) → unclean_of v ≡ 0 → IsEnd words v →
    IsClosed t r v ts words
closed_by t r v ts words says lists listed unmaps rooted clean end =
    let closes : CloseSays t r v ts =
    record { unmaps = unmaps; rooted = rooted; waits = layers_tell_all.waits t r v ts says lists listed; clean = clean } in
    record {
      says = says;
      lists = lists;
      listed = listed;
      closes = closes;
      end = end;
      held = layers_tell_all.held words t r v ts says (layers_tell_all.flows t r v ts says lists) closes end;
    }
