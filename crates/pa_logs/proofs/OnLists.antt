-- What is said of the threads' lists gives the caches of a legal run, how slots flow, and that a slot which waits is free in the closing
-- seat.
use Rattle.std.proofs.Common.{◌≡◌, ℕ, ◌≤◌, leb, List, subst, arith}
use Rattle.std.specs.Prelude.{Contains}
use Rattle.std.proofs.lemmas.Bool.{le-leb}
use Rattle.pa_region.specs.declared.view.View.{View}
use Rattle.pa_trace.specs.declared.script.Trace.{Trace}
use Rattle.pa_record.specs.declared.report.ReportLine.{ReportLine}
use Rattle.pa_lists.proofs.Joined.{map_cases, map_in}
use Rattle.pa_rules.specs.declared.played.Played.{Played}
use Rattle.pa_rules.specs.Caches.{Caches, CachesTo, AreCaches, no_caches}
use Rattle.pa_rules.specs.Legal.{phases_in}
use Rattle.pa_rules.specs.Report.{until}
use Rattle.pa_rules.specs.Told.{Told}
use Rattle.pa_legal.specs.Flows.{SlotsFlow}
use Rattle.pa_legal.proofs.flow.Flowing.{caches_flow}
use Rattle.pa_logs.specs.Told.{ToldRecord, played_in}
use Rattle.pa_logs.specs.Reported.{AreListed}
use Rattle.pa_logs.specs.Standing.{OutIsFree, ListedIsFree}
use Rattle.pa_logs.specs.Said.{sizes_in, LayersSay, ListsSay}
use Rattle.pa_logs.proofs.Due.{place_is}
use Rattle.pa_logs.proofs.Filters.{filter_all}
use Rattle.pa_logs.proofs.Keeping.{listed_wait}
use Rattle.pa_logs.proofs.Reporting.{leads}
use Rattle.pa_logs.proofs.Saying.{rising, within, knows, pool, roots, slots}

module _ (t : Trace) (r : Told) (v : View) (ts : List ToldRecord) (says : LayersSay t r v ts) (lists : ListsSay t r ts) where
  abbrev ps : List Played
  ps = played_in ts

  until_last : until (phases_in t.lines) ps ≡ ps
  until_last = filter_all (λ (x : Played). leb x.phase (phases_in t.lines)) ps (λ x among.
      let (y, there, is) = map_cases (λ (z : ToldRecord). z.played) ts x among in
      let high = (within t r v ts says y there).high in
      le-leb x.phase (phases_in t.lines) (subst (λ (z : Played). z.phase ≤ phases_in t.lines) is high))

  caches_to : CachesTo t.partitions r.roots no_caches ps (lists.lists (phases_in t.lines))
  caches_to =
      let last = phases_in t.lines in
      let (after, to, same) = leads t.partitions r.roots no_caches (until last ps) (lists.lists last)
      (λ k. lists.caches last k (omega arith) (omega arith)) in
      subst (λ (c : Caches). CachesTo t.partitions r.roots no_caches ps c) (λ n k. same k n)
      (subst (λ xs. CachesTo t.partitions r.roots no_caches xs after) until_last to)

  pub caches : AreCaches t.partitions r.roots ps
  caches = (lists.lists (phases_in t.lines), caches_to)

  pub flow : SlotsFlow t.partitions r.roots ps
  flow = caches_flow t.partitions ps r.pools r.roots says.roots.journals caches

  -- what a line of the report counts as cached
  pub listed : (l : ReportLine) → Contains r.report l → AreListed t.partitions t.threads r.roots (until l.phase ps) l.partition l.cached
  listed l among =
      let at : ℕ × ℕ = (l.phase, l.partition) in
      let is = place_is t.partitions 1 (phases_in t.lines) at
      (subst (λ ns. Contains ns at) says.runner.places (map_in (λ (z : ReportLine). (z.phase, z.partition)) r.report l among)) in
      let counted = lists.cached l among in
      let high = is.high in
      record {
        all = lists.lists l.phase;
        each = λ k. lists.caches l.phase k is.low (omega arith);
        slots = counted.0;
        bytes = counted.1;
      }

  pub waits : ListedIsFree t.threads t.partitions (sizes_in t r) (lists.lists (phases_in t.lines)) v →
      OutIsFree (sizes_in t r) r.pools r.roots v
  waits free = listed_wait t.region t.partitions t.threads (sizes_in t r) r.pools r.roots ts (lists.lists (phases_in t.lines)) v (record {
    journals = roots t r v ts says;
    pool = pool t r v ts says;
    rising = rising t r v ts says;
    few = λ x among. (within t r v ts says x among).thread;
    slots = slots t r v ts says;
    told = says.heap.told;
    logs = (knows t r v ts says).logs;
    caches = caches_to;
    listed = free;
  })
