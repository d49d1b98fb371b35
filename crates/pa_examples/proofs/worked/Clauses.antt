-- A run with written lists is legal if each clause holds of the lists, and in the order of the lines if it has
-- one thread.
use Rattle.std.proofs.Common.{◌≡◌, List, sym, ◌∙◌, ap, subst}
use Rattle.std.specs.Prelude.{map}
use Rattle.pa_slot.specs.Run.{Slots}
use Rattle.pa_trace.specs.declared.script.Trace.{Trace}
use Rattle.pa_trace.specs.Limits.{IsWithinLimits}
use Rattle.pa_trace.specs.Rules.{rules_of}
use Rattle.pa_record.specs.declared.history.CellEntry.{CellEntry}
use Rattle.pa_record.specs.declared.pool.PoolEntry.{PoolEntry}
use Rattle.pa_record.specs.declared.root.RootEntry.{RootEntry}
use Rattle.pa_record.specs.declared.report.ReportLine.{ReportLine}
use Rattle.pa_record.specs.declared.run.Run.{Run}
use Rattle.pa_rules.specs.declared.played.Played.{Played}
use Rattle.pa_rules.specs.Played.{AreLines, AreDue, entry_of, played, marks_of}
use Rattle.pa_rules.specs.Told.{told_by, records_of}
use Rattle.pa_rules.specs.Cells.{AreCells, history_at}
use Rattle.pa_rules.specs.Registers.{AreRegisters}
use Rattle.pa_rules.specs.Contents.{AreContents}
use Rattle.pa_rules.specs.Roots.{IsPoolOf, AreRoots, AreAllTitles, journal_at}
use Rattle.pa_rules.specs.Holders.{AreHolders}
use Rattle.pa_rules.specs.Caches.{AreCaches}
use Rattle.pa_rules.specs.Seen.{IsSeenInOrder}
use Rattle.pa_rules.specs.Report.{IsReport}
use Rattle.pa_rules.specs.Sizes.{usable_of}
use Rattle.pa_rules.specs.Legal.{phases_in, IsLegalBy, IsLegal, IsFileRun}
use Rattle.pa_rules.proofs.Recorded.{records_are_lines}
use Rattle.pa_examples.specs.Worked.{IsRunOf}
use Rattle.pa_one_run.proofs.OneThread.{one_thread}

pub record IsWritten (t : Trace) (ps : List Played) (journals : List (List RootEntry)) (pools : List PoolEntry)
    (exchanged : List (List CellEntry)) (heaps : List ReportLine) : Type 0 where
  pub lines : AreLines (rules_of t) t.lines ps
  pub cells : AreCells (history_at exchanged) ps
  pub registers : AreRegisters (usable_of t.version) (history_at exchanged) ps
  pub slots : Slots (marks_of ps)
  pub contents : AreContents (usable_of t.version) (history_at exchanged) ps
  pub pool : IsPoolOf t.region ps pools (journal_at journals)
  pub roots : AreRoots t.partitions ps pools (journal_at journals)
  pub titles : AreAllTitles pools (journal_at journals)
  pub holders : AreHolders ps (journal_at journals)
  pub caches : AreCaches t.partitions (journal_at journals) ps
  pub seen : IsSeenInOrder (history_at exchanged) ps
  pub report : IsReport (phases_in t.lines) t.partitions t.threads ps pools (journal_at journals) heaps

-- the clauses hold of a run with these lists
own_lists : (t : Trace) (r : Run) (ps : List Played) → map entry_of ps ≡ r.entries.items →
    IsWritten t ps r.roots.items r.pool.items r.cells.items r.report.items → IsLegal t r
own_lists t r ps told w =
    let same : records_of t (told_by r) ≡ ps = ap (played (rules_of t) t.lines) (sym told) ∙
    records_are_lines.same (rules_of t) t.lines ps w.lines in
    subst (IsLegalBy t (told_by r)) (sym same)
    (record {
      lines = subst (AreDue (rules_of t) t.lines) told (records_are_lines.due (rules_of t) t.lines ps w.lines);
      cells = w.cells;
      registers = w.registers;
      slots = w.slots;
      contents = w.contents;
      pool = w.pool;
      roots = w.roots;
      titles = w.titles;
      holders = w.holders;
      caches = w.caches;
      seen = w.seen;
      report = w.report;
    })

pub written_is_legal : (t : Trace) (r : Run) (ps : List Played) (journals : List (List RootEntry)) (pools : List PoolEntry)
    (exchanged : List (List CellEntry)) (heaps : List ReportLine) →
    IsRunOf r (map entry_of ps) journals pools exchanged heaps → IsWritten t ps journals pools exchanged heaps → IsLegal t r
written_is_legal t r ps journals pools exchanged heaps is w =
    own_lists t r ps (sym is.entries)
    (subst (λ hs. IsWritten t ps r.roots.items r.pool.items r.cells.items hs) (sym is.report)
    (subst (λ cs. IsWritten t ps r.roots.items r.pool.items cs heaps) (sym is.cells)
    (subst (λ xs. IsWritten t ps r.roots.items xs exchanged heaps) (sym is.pool)
    (subst (λ js. IsWritten t ps js pools exchanged heaps) (sym is.roots) w))))

-- a run of one thread
pub written_is_filed : (t : Trace) (r : Run) (ps : List Played) (journals : List (List RootEntry)) (pools : List PoolEntry)
    (exchanged : List (List CellEntry)) (heaps : List ReportLine) →
    IsWithinLimits t → t.threads ≡ 1 → IsRunOf r (map entry_of ps) journals pools exchanged heaps →
    IsWritten t ps journals pools exchanged heaps → IsFileRun t r
written_is_filed t r ps journals pools exchanged heaps limits one is w =
    let legal = written_is_legal t r ps journals pools exchanged heaps is w in
    (legal, one_thread t (told_by r) limits one legal)
