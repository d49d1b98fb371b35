-- The end of the run: what was reported is the trace's run in the order of its lines.
use Rattle.std.proofs.Common.{◌≡◌, ℕ, ◌+◌, List, [], length, get_or, sym, ap, ◌∙◌, subst, arith, inl, inr}
use Rattle.std.specs.Prelude.{All, Contains}
use Rattle.std.specs.List.{AllByRecursion}
use Rattle.std.proofs.lemmas.List.Elements.{All-weaker, All-from_get_or, recursion_from_All, Contains-append_left, Contains-get_or}
use Rattle.pa_slot.specs.declared.word.SlotName.{SlotName}
use Rattle.pa_slot.specs.Run.{IsLive, IsQuarantined}
use Rattle.pa_trace.specs.declared.script.Trace.{Trace}
use Rattle.pa_trace.specs.declared.script.Line.{Line}
use Rattle.pa_trace.specs.Rules.{rules_of}
use Rattle.pa_trace.specs.declared.script.Rules.{Rules}
use Rattle.pa_rules.specs.Sizes.{usable_of}
use Rattle.pa_rules.specs.Contents.{AreContents}
use Rattle.pa_rules.specs.Registers.{AreRegisters}
use Rattle.pa_record.specs.declared.census.Census.{Census}
use Rattle.pa_record.specs.declared.entry.Entry.{Entry}
use Rattle.pa_record.specs.declared.history.CellEntry.{CellEntry}
use Rattle.pa_record.specs.declared.pool.PoolEntry.{PoolEntry}
use Rattle.pa_record.specs.declared.report.ReportLine.{ReportLine}
use Rattle.pa_record.specs.declared.root.RootEntry.{RootEntry}
use Rattle.pa_record.specs.declared.run.Run.{Run}
use Rattle.pa_record.specs.RunText.{NamesSlots, IsPrintable}
use Rattle.pa_rules.specs.declared.played.Played.{Played}
use Rattle.pa_rules.specs.Played.{AreDue, marks_of, played, AreLines}
use Rattle.pa_rules.specs.Roots.{Journals, AreRoots, IsPoolOf, journal_at}
use Rattle.pa_rules.specs.Caches.{Caches, AreCaches}
use Rattle.pa_rules.specs.Report.{HasSize, IsTally, HasCensus, IsReportLine, IsReport, phases_of}
use Rattle.pa_rules.specs.Told.{Told, told_by, records_of}
use Rattle.pa_rules.specs.Legal.{phases_in, IsLegalTold, IsFileTold, IsFileRun}
use Rattle.pa_rules.specs.FileOrder.{IsInFileOrder}
use Rattle.pa_rules.proofs.Numbering.{rising_differ}
use Rattle.pa_rules.proofs.Recorded.{records_are_lines}
use Rattle.pa_legal.specs.Known.{IsKnown}
use Rattle.pa_legal.specs.Tallies.{AreHomes, IsTallied}
use Rattle.pa_legal.proofs.flow.Flowing.{caches_flow}
use Rattle.pa_legal.proofs.Whole.{clauses_follow, legal_follows}
use Rattle.pa_legal.proofs.tallies.Adding.{tallies_follow}
use Rattle.pa_heap_effects.specs.Deeds.{IsPlacedTo}
use Rattle.pa_heap_effects.specs.Onward.{IsPhaseEnd}
use Rattle.pa_heap_effects.proofs.Filing.{placed_are_roots}
use Rattle.pa_heap_effects.proofs.Onwards.{phase_ends}
use Rattle.pa_slot_effects.specs.Laws.{IsToldRight}
use Rattle.pa_slot_effects.proofs.Ending.{ends_right}
use Rattle.pa_player.specs.Player.{Player}
use Rattle.pa_player.specs.Playing.{shown, journals, caches, IsToldLine, IsPlaying, rules_at}
use Rattle.pa_player.specs.Told.{Lists, IsToldRun}
use Rattle.pa_player.specs.Changes.{phase_ended}
use Rattle.pa_player.proofs.Reporting.{told_then, places_then}

-- ---- a line of the report

-- a slot has its size also in journals with entries more
pub size_on : (roots more : Journals) (q : ℕ) (s : SlotName) (len : ℕ) → ((e : RootEntry) → Contains (roots q) e → Contains (more q) e) →
    HasSize roots q s len → HasSize more q s len
size_on roots more q s len on (inl (class, of, is)) =
    let (e, asked, slots, among, act, member) = of in
    inl (class, (e, asked, slots, on e among, act, member), is)
size_on roots more q s len on (inr (e, asked, among, act)) = inr (e, asked, on e among, act)

module _ (region partitions threads n phase : ℕ) (ps : List Played) (pools : List PoolEntry) (roots : Journals) (all : Caches)
    (l : ReportLine)
    (placed : IsPlacedTo partitions n ps pools roots all) (run : AreRoots partitions ps pools roots) (pool : IsPoolOf region ps pools roots)
    (t : IsToldLine partitions threads n phase ps pools roots l) where
  at_end : IsPhaseEnd partitions l.phase t.early ps t.entries pools t.before roots t.all
  at_end = phase_ends partitions t.line n l.phase t.early ps t.entries pools t.before roots t.all all t.placed placed t.goes_on t.within
      t.later

  tallied : IsTallied region partitions ps t.early pools roots
  tallied = record { journals = run; pool = pool; lines = rising_differ t.early t.placed.rising; slots = t.slots }

  homes : AreHomes roots t.home t.size (marks_of t.early)
  homes m among =
      size_on t.before roots (t.home m.slot) m.slot (t.size m.slot)
      (λ e member. subst (λ es. Contains es e) (sym (t.goes_on.grown (t.home m.slot)))
      (Contains-append_left (t.before (t.home m.slot)) (t.goes_on.journals (t.home m.slot)) e member))
      (t.homes m among)

  line_right : IsReportLine partitions threads ps pools roots l
  line_right = record {
    live = subst (λ xs. IsTally IsLive roots xs l.partition l.live) (sym at_end.records)
        (tallies_follow.live region partitions l.partition ps t.early pools roots t.home t.size l.live tallied homes t.live);
    quarantined = subst (λ xs. IsTally IsQuarantined roots xs l.partition l.quarantined) (sym at_end.records)
        (tallies_follow.quarantined region partitions l.partition ps t.early pools roots t.home t.size l.quarantined tallied homes
        t.quarantined);
    cached = at_end.cached threads l.partition l.cached t.many t.bytes;
    root = subst (λ (c : Census). HasCensus ps pools roots l.phase l.partition c) (sym t.census) (at_end.census l.partition);
  }

-- ---- what is reported

-- the lists as a run has them
abbrev pub lists_of : Lists → Told
lists_of t = record {
  entries = t.entries;
  roots = journal_at t.journals;
  pools = t.pools;
  cells = λ k. get_or t.histories k [];
  report = t.report;
}

pub told_same : (t : Lists) (r : Run) → IsToldRun t r → told_by r ≡ lists_of t
told_same t r is =
    let a : List Entry → Told = λ x. record (told_by r) { entries = x } in
    let b : List (List RootEntry) → Told = λ x. record (told_by r) { entries = t.entries; roots = journal_at x } in
    let c : List PoolEntry → Told = λ x. record (told_by r) { entries = t.entries; roots = journal_at t.journals; pools = x } in
    let d : List (List CellEntry) →
    Told = λ x. record {
      entries = t.entries;
      roots = journal_at t.journals;
      pools = t.pools;
      cells = λ k. get_or x k [];
      report = r.report.items;
    } in
    let e : List ReportLine → Told = λ x. record (lists_of t) { report = x } in
    ap a is.entries ∙ ap b is.roots ∙ ap c is.pool ∙ ap d is.cells ∙ ap e is.report

module _ (t : Trace) (p : Player) (same_rules : rules_at p ≡ rules_of t) (h : IsPlaying t.region t.partitions t.threads t.lines p) where
  right : IsToldRight t.lines h.ps (shown p)
  right = ends_right t.threads t.lines h.ps (shown p) h.told

  run_of : AreRoots t.partitions h.ps p.told.pools (journals p) × IsPoolOf t.region h.ps p.told.pools (journals p)
  run_of = placed_are_roots t.region t.partitions (length t.lines + 2) (rules_at p) t.lines h.ps p.told.pools (journals p)
      (caches p) h.told.lines h.placed h.pooled

  report_right : All (IsReportLine t.partitions t.threads h.ps p.told.pools (journals p)) (phase_ended p).told.report
  report_right =
      let P : ReportLine → Type 0 = IsToldLine t.partitions t.threads (length t.lines + 2) (p.phase + 1) h.ps p.told.pools (journals p) in
      let Q : ReportLine → Type 0 = IsReportLine t.partitions t.threads h.ps p.told.pools (journals p) in
      let on : (l : ReportLine) → P l → Q l = λ l told.
      line_right t.region t.partitions t.threads (length t.lines + 2) (p.phase + 1) h.ps p.told.pools (journals p)
      (caches p) l h.placed run_of.0 run_of.1 told in
      All-weaker P Q on (phase_ended p).told.report (told_then t.region t.partitions t.threads t.lines p h)

  report : IsReport (phases_in t.lines) t.partitions t.threads h.ps p.told.pools (journals p) (phase_ended p).told.report
  report = record {
    places = places_then t.region t.partitions t.threads t.lines p h ∙ ap (phases_of t.partitions 1) h.phase;
    right = report_right;
  }

  are_caches : AreCaches t.partitions (journals p) h.ps
  are_caches = (caches p, h.placed.caches)

  known : IsKnown t (lists_of (phase_ended p).told) h.ps
  known = record {
    lines = subst (λ (k : Rules). AreDue k t.lines p.told.entries) same_rules (subst (AreDue (rules_at p) t.lines) h.entries right.due);
    cells = right.cells;
    registers = subst (λ (k : Rules). AreRegisters (usable_of k.version) (shown p).cells h.ps) same_rules right.registers;
    slots = right.slots;
    contents = subst (λ (k : Rules). AreContents (usable_of k.version) (shown p).cells h.ps) same_rules right.contents;
    pool = run_of.1;
    roots = run_of.0;
    flows = caches_flow t.partitions h.ps p.told.pools (journals p) run_of.0.journals are_caches;
    seen = right.seen;
    numbers = h.placed.numbers;
    unmaps = h.placed.unmaps;
    used = right.used;
  }

  in_order : IsInFileOrder h.ps p.told.pools (journals p) (shown p).cells
  in_order = record {
    journals = h.placed.sorted;
    pool = h.pooled.sorted;
    exchanges = right.exchanges;
    numbers = right.numbers;
    contents = right.exact;
  }

  same_records : records_of t (lists_of (phase_ended p).told) ≡ h.ps
  same_records = ap (played (rules_of t) t.lines) (sym h.entries) ∙ records_are_lines.same (rules_of t) t.lines h.ps
      (subst (λ (k : Rules). AreLines k t.lines h.ps) same_rules h.told.lines)

  legal : IsLegalTold t (lists_of (phase_ended p).told)
  legal =
      let r = lists_of (phase_ended p).told in
      legal_follows t r (clauses_follow t r (subst (λ xs. IsKnown t r xs) (sym same_records) known))
      (subst (λ xs. AreCaches t.partitions (journals p) xs) (sym same_records) are_caches)
      (subst (λ xs. IsReport (phases_in t.lines) t.partitions t.threads xs p.told.pools (journals p) (phase_ended p).told.report)
      (sym same_records) report)

  file_told : IsFileTold t (lists_of (phase_ended p).told)
  file_told = (
    legal,
    subst (λ xs. IsInFileOrder xs p.told.pools (journals p) (shown p).cells) (sym same_records) in_order,
  )

-- after the last phase the run is the trace's
pub ends_filed : (t : Trace) (p : Player) (r : Run) → rules_at p ≡ rules_of t → IsPlaying t.region t.partitions t.threads t.lines p →
    IsToldRun (phase_ended p).told r → IsFileRun t r
ends_filed t p r same_rules h is = subst (IsFileTold t) (sym (told_same (phase_ended p).told r is)) (file_told t p same_rules h)

-- journals can be printed if each of their entries names slots
journals_print : (journals : List (List RootEntry)) → ((q : ℕ) (e : RootEntry) → Contains (get_or journals q []) e → NamesSlots e.act)
    → AllByRecursion (AllByRecursion (λ (e : RootEntry). NamesSlots e.act)) journals
journals_print journals h =
    let N : RootEntry → Type 0 = λ e. NamesSlots e.act in
    let each : (q : ℕ) → AllByRecursion N (get_or journals q []) = λ q.
    recursion_from_All N (get_or journals q [])
    (λ k d lt. h q (get_or (get_or journals q []) k d) (Contains-get_or (get_or journals q []) k d lt)) in
    recursion_from_All (AllByRecursion N) journals (All-from_get_or (AllByRecursion N) journals [] (λ q lt. each q))

pub ends_printed : (region partitions threads : ℕ) (ls : List Line) (p : Player) (r : Run) → IsPlaying region partitions threads ls p →
    IsToldRun (phase_ended p).told r
    → IsPrintable r
ends_printed region partitions threads ls p r h is = record {
  roots = omega (arith, ap length is.roots, h.shaped.journals, h.shaped.four);
  cells = omega (arith, ap length is.cells, h.shaped.histories);
  slots = subst (AllByRecursion (AllByRecursion (λ (e : RootEntry). NamesSlots e.act))) (sym is.roots)
      (journals_print p.told.journals h.printable);
}
