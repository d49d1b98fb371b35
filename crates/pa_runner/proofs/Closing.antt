-- A heap was closed in which threads played beside each other: the run that is made of what it left is legal, has a timeline, and the
-- words have its lists.
use Rattle.std.proofs.Common.{◌≡◌, ℕ, ◌/◌, ◌<◌, ◌≤◌, leb, List, [], ◌∷◌, map, refl, sym, ◌∙◌, ap, subst, arith, inl, inr}
use Rattle.std.specs.Prelude.{Contains}
use mathlib.Core.Path.{fun_ext}
use Rattle.std.proofs.lemmas.Bool.{cases_lt, le-leb, le-ltb, lt-ltb}
use Rattle.std.proofs.lemmas.List.Elements.{All-get_or, All-map}
use Rattle.pa_lists.proofs.Elements.{all_from_members}
use Rattle.pa_lists.proofs.Joined.{map_cases}
use Rattle.pa_slot.specs.declared.title.Title.{Title}
use Rattle.pa_slot.specs.Links.{AreLinked, first_word}
use Rattle.pa_slot.proofs.Links.{links_stay}
use Rattle.pa_record.specs.declared.numbered.Numbered.{Numbered}
use Rattle.pa_record.specs.declared.report.ReportLine.{ReportLine}
use Rattle.pa_record.specs.declared.run.Run.{Run}
use Rattle.pa_record.specs.Spans.{name_of}
use Rattle.pa_region.specs.declared.view.View.{View}
use Rattle.pa_region.specs.Views.{free_of}
use Rattle.pa_trace.specs.declared.script.Trace.{Trace}
use Rattle.pa_trace.specs.Limits.{IsWithinLimits}
use Rattle.pa_rules.specs.declared.played.Played.{Played}
use Rattle.pa_rules.specs.Caches.{Cache, Caches, CachesTo, no_caches}
use Rattle.pa_rules.specs.Report.{until}
use Rattle.pa_rules.specs.Told.{Told, told_by, records_of}
use Rattle.pa_rules.specs.Legal.{phases_in, IsLegalTold}
use Rattle.pa_rules.specs.Held.{IsHeldIn}
use Rattle.pa_legal.specs.Flows.{SlotsFlow}
use Rattle.pa_timeline.specs.Timeline.{HasTimeline}
use Rattle.pa_logs.specs.Told.{ToldRecord, played_in}
use Rattle.pa_logs.specs.Touches.{title_of}
use Rattle.pa_logs.specs.Said.{sizes_in, LayersSay, ListsSay}
use Rattle.pa_logs.specs.Standing.{ListedIsFree}
use Rattle.pa_logs.proofs.Filters.{filter_all}
use Rattle.pa_logs.proofs.Reporting.{leads}
use Rattle.pa_logs.proofs.Said.{layers_tell_all}
use Rattle.pa_cells.specs.Cells.{Exchange}
use Rattle.pa_cells.specs.Handles.{SlotsStaySeen}
use Rattle.pa_root.specs.Handing.{at_number_seen}
use Rattle.pa_link.specs.Chains.{slot_names}
use Rattle.pa_heap.specs.Closing.{LeavesWorker}
use Rattle.pa_heap.proofs.TakingIn.{first_known}
use Rattle.pa_op_specs.specs.Stocks.{titles_in, listed_in, listed_slot}
use Rattle.pa_op_specs.specs.Workers.{WorkerValue}
use Rattle.pa_op_specs.proofs.Seeing.{slot_in_run}
use Rattle.pa_execution.specs.Turns.{Beside}
use Rattle.pa_execution.specs.Courses.{Course}
use Rattle.pa_execution.specs.Merged.{told_in, lists_at, outcome_of}
use Rattle.pa_execution.specs.Telling.{IsWholeRun}
use Rattle.pa_execution.specs.Lines.{IsLineCached}
use Rattle.pa_execution.proofs.Fitting.{is_outcome, seen_of_it}
use Rattle.pa_execution.proofs.Grouping.{within}
use Rattle.pa_execution.proofs.Listing.{courses_tell_lists, lists_told}
use Rattle.pa_execution.proofs.Timing.{courses_tell_timeline}
use Rattle.pa_runner.specs.Gone.{IsMadeOf}
use Rattle.pa_runner.specs.Phases.{no_worker, worker_in}
use Rattle.pa_runner.specs.Whole.{HasPlayed, IsHeldRun}
use Rattle.pa_runner.proofs.Gone.{exchanges, is_whole, lines_said, all_say, holds, has_spans, is_long, is_printable}
use Rattle.pa_runner.proofs.Printing.{acts_named}

-- the names of titles at their numbers
names_numbered : (v : View) (ts : List Title) → map (λ (m : Numbered). m.slot) (map (at_number_seen v) ts) ≡ slot_names ts
names_numbered v [] = refl
names_numbered v (u ∷ ts) = ap (λ ss. name_of u ∷ ss) (names_numbered v ts)

module _ (t : Trace) (workers : List WorkerValue) (seat : View) (report : List ReportLine) (limits : IsWithinLimits t)
    (went : HasPlayed t workers seat report) (run : Run) (words : List ℕ) (made : IsMadeOf t workers seat report run words) where
  abbrev c : Course
  c = went.gone.course

  abbrev told : Told
  told = told_by run

  abbrev ts : List ToldRecord
  ts = told_in t c

  abbrev last : View
  last = made.closed.last

  abbrev phases : ℕ
  phases = phases_in t.lines

  abbrev xs : List Exchange
  xs = exchanges Beside t workers seat report limits went.gone run words made

  whole : IsWholeRun t told c last xs
  whole = is_whole Beside t workers seat report limits went.gone run words made

  line_cached : (l : ReportLine) → Contains run.report.items l → IsLineCached t c l
  line_cached l member = went.cached l (subst (λ (ls : List ReportLine). Contains ls l) made.report_is member)

  says : LayersSay t told last ts
  says = all_say Beside t workers seat report limits went.gone run words made

  lists_all : ListsSay t told ts
  lists_all = courses_tell_lists t told c last xs whole line_cached

  lists_say : (n : ℕ) → lists_all.lists n ≡ lists_at t c n
  unfolding lists_all
  lists_say n = lists_told t told c last xs whole line_cached n

  flows : SlotsFlow t.partitions told.roots (played_in ts)
  flows = layers_tell_all.flows t told last ts says lists_all

  is_legal : IsLegalTold t told
  is_legal = layers_tell_all.legal t told last ts says lists_all

  has_timeline : HasTimeline t told
  has_timeline = courses_tell_timeline t told c last xs whole (lines_said Beside t workers seat report limits went.gone run words made)
      flows made.closed.clean

  -- ---- the lists

  -- what a worker had on its lists when it handed its stake over it had there at the end of the last phase
  same_lists : (k : ℕ) → k < t.threads → (worker_in workers k).stock.caches ≡ (c.ends phases k).stock.caches
  same_lists k few =
      ap (λ (w : WorkerValue). w.stock.caches) (went.gone.told.told k few) ∙
      ap (λ (w : WorkerValue). w.stock.caches) (sym (went.gone.ended.ends k few))

  -- the lists at the end are those to which the records lead
  lists_lead : CachesTo t.partitions told.roots no_caches (records_of t told) (lists_at t c phases)
  lists_lead =
      let ps = played_in ts in
      let now : until phases ps ≡ ps = filter_all (λ (x : Played). leb x.phase phases) ps (λ x among.
      let (y, there, is) = map_cases (λ (z : ToldRecord). z.played) ts x among in
      le-leb x.phase phases (subst (λ (z : Played). z.phase ≤ phases) is (within Beside t c limits went.gone.ended.course y there).high)) in
      let (after, to, same) =
      leads t.partitions told.roots no_caches (until phases ps) (lists_all.lists phases)
      (λ k. lists_all.caches phases k (omega arith) (omega arith)) in
      subst (λ (z : Caches). CachesTo t.partitions told.roots no_caches (records_of t told) z) (fun_ext same ∙ lists_say phases)
      (subst (λ ps. CachesTo t.partitions told.roots no_caches ps after) (now ∙ says.runner.records) to)

  -- each is linked in the words of the closed region
  lists_linked : (k p class : ℕ) → AreLinked words (map (λ (m : Numbered). m.slot) (lists_at t c phases k p class))
  lists_linked k p class = elim (cases_lt k t.threads) [
    | inl few ↦
        (let last_worker = c.ends phases k in
        let w = worker_in workers k in
        let count = went.gone.same_count in
        let leaves : LeavesWorker last w =
        All-get_or (LeavesWorker last) workers k no_worker (omega arith) made.closed.workers in
        let ts = titles_in w.stock.caches p class in
        let region = made.left.region in
        let here : AreLinked region (slot_names ts) = links_stay w.stock.view.words region (slot_names ts)
        (All-map (λ s. first_word region s ≡ first_word w.stock.view.words s) name_of ts
        (all_from_members (λ u. first_word region (name_of u) ≡ first_word w.stock.view.words (name_of u)) ts (λ u among.
        let well = leaves.stock.lists.well p class u among in
        let (here, same) =
        leaves.within.known (u.start / 8) (first_known well.0 w.stock.view u well.1 (leaves.stock.lists.free p class u among)) in
        sym (made.closed.ends.values (u.start / 8) here) ∙ same)))
        (leaves.links p class) in
        let has : lists_at t c phases k ≡ listed_in last_worker.stock = rw (lt-ltb k t.threads few) refl in
        subst (λ (z : Cache). AreLinked words (map (λ (m : Numbered). m.slot) (z p class))) (sym has)
        (subst (λ ss. AreLinked words ss) (sym (names_numbered last_worker.stock.view (titles_in last_worker.stock.caches p class)))
        (subst (λ cs. AreLinked words (slot_names (titles_in cs p class))) (same_lists k few)
        (subst (λ ws. AreLinked ws (slot_names ts)) (sym made.words_are) here))))
    | inr past ↦
        (let none : lists_at t c phases k ≡ no_caches k = rw (le-ltb k t.threads past) refl in
        subst (λ (z : Cache). AreLinked words (map (λ (m : Numbered). m.slot) (z p class))) (sym none) tt)
  ]

  -- ---- what the closing seat has free

  listed_free : SlotsStaySeen → (k p class : ℕ) (m : Numbered) → k < t.threads → p < t.partitions → class < 170 →
      Contains (lists_at t c phases k p class) m → 0 < free_of last (title_of (sizes_in t told) m.slot)
  listed_free stay k p class m few real low among =
      let last_worker = c.ends phases k in
      let has : lists_at t c phases k ≡ listed_in last_worker.stock = rw (lt-ltb k t.threads few) refl in
      let there : Contains (listed_in last_worker.stock p class) m = subst (λ (z : Cache). Contains (z p class) m) has among in
      let (u, listed, is) = map_cases (at_number_seen last_worker.stock.view) (titles_in last_worker.stock.caches p class) m there in
      let w = worker_in workers k in
      let count = went.gone.same_count in
      let leaves : LeavesWorker last w = All-get_or (LeavesWorker last) workers k no_worker (omega arith) made.closed.workers in
      let mine : Contains (titles_in w.stock.caches p class) u =
      subst (λ cs. Contains (titles_in cs p class) u) (sym (same_lists k few)) listed in
      let free = leaves.stock.lists.free p class u mine in
      let more = leaves.within.frees u in
      let seen = stay (listed_slot p class u) w.stock.view last (leaves.stock.lists.made p class u mine) (leaves.within.lists p) in
      let slot = slot_in_run (outcome_of t told) last (listed_slot p class u)
      (is_outcome Beside t told c last xs whole) (seen_of_it Beside t told c last xs whole) seen in
      let named : name_of u ≡ m.slot = ap (λ (z : Numbered). z.slot) is in
      let title : title_of (sizes_in t told) m.slot ≡ u = ap (title_of (sizes_in t told)) (sym named) ∙ slot.title in
      subst (λ (z : Title). 0 < free_of last z) (sym title) (omega arith)

  is_held : SlotsStaySeen → IsHeldIn t told words
  is_held stay = holds Beside t workers seat report limits went.gone run words made flows
      (layers_tell_all.waits t told last ts says lists_all
      (subst (λ (all : Caches). ListedIsFree t.threads t.partitions (sizes_in t told) all last)
      (sym (lists_say phases)) (listed_free stay)))

  -- ---- all of it

  pub is_run : SlotsStaySeen → IsHeldRun t run words
  is_run stay = record {
    legal = is_legal;
    ordered = has_timeline;
    held = is_held stay;
    lists = record { all = lists_at t c phases; are = lists_lead; linked = lists_linked };
    spans = has_spans Beside t workers seat report limits went.gone run words made;
    long = is_long Beside t workers seat report limits went.gone run words made;
    printable = is_printable Beside t workers seat report limits went.gone run words made is_legal.roots
        (acts_named t.partitions told.roots (records_of t told) is_legal.caches);
  }
