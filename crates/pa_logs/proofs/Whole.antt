-- A run has its clauses, and is legal, if all this is known of it.
use Rattle.std.proofs.Common.{ℕ, List, sym, ◌∙◌, ap, subst, inr}
use Rattle.std.specs.Prelude.{Contains}
use Rattle.pa_slot.specs.declared.word.SlotName.{SlotName}
use Rattle.pa_trace.specs.Rules.{rules_of}
use Rattle.pa_record.specs.declared.history.CellEntry.{CellEntry}
use Rattle.pa_lists.proofs.Joined.{map_cases}
use Rattle.pa_region.specs.declared.view.View.{View}
use Rattle.pa_trace.specs.declared.script.Trace.{Trace}
use Rattle.pa_rules.specs.declared.played.Played.{Played}
use Rattle.pa_rules.specs.Played.{AreLines, mark_of}
use Rattle.pa_rules.specs.Seen.{Standing, IsSeenInOrder}
use Rattle.pa_rules.specs.Flow.{IsInPhases}
use Rattle.pa_rules.specs.Caches.{AreCaches}
use Rattle.pa_rules.specs.Legal.{phases_in}
use Rattle.pa_rules.specs.Report.{IsReport}
use Rattle.pa_rules.specs.Told.{Told}
use Rattle.pa_rules.proofs.Numbering.{lines_differ}
use Rattle.pa_rules.proofs.Recorded.{records_are_lines}
use Rattle.pa_legal.specs.Known.{FindsInUse, IsKnown}
use Rattle.pa_legal.proofs.Whole.{clauses_follow, legal_follows}
use Rattle.pa_logs.specs.Told.{ToldRecord, played_in}
use Rattle.pa_logs.specs.Touches.{title_of, AreTold}
use Rattle.pa_logs.specs.Reads.{IsReadOff}
use Rattle.pa_logs.specs.Viewed.{IsOrdered}
use Rattle.pa_logs.specs.Whole.{IsPlayedOut, ClausesAreTold, LegalIsTold}
use Rattle.pa_logs.proofs.Histories.{histories_follow}
use Rattle.pa_logs.proofs.Lined.{phases_rise}
use Rattle.pa_logs.proofs.Marks.{tells_its_mark}
use Rattle.pa_logs.proofs.Readers.{contents_follow}
use Rattle.pa_logs.proofs.Slots.{slots_follow}
use Rattle.pa_logs.proofs.Viewing.{seen_follows}

-- looks find words in use
pub looks_in_use : (sizes : SlotName → ℕ) (ts : List ToldRecord) → AreTold sizes ts → (x : Played) → Contains (played_in ts) x →
    FindsInUse x
looks_in_use sizes ts told x among m is none =
    let (y, there, e) = map_cases (λ (z : ToldRecord). z.played) ts x among in
    ((tells_its_mark sizes y (told y there)).has_look m (ap mark_of e ∙ is) none).1

-- what was seen keeps the phases in order
pub in_phases : (cells : ℕ → List CellEntry) (ps : List Played) → IsSeenInOrder cells ps → IsInPhases ps
in_phases cells ps seen x y m n first second late is other same = seen.rising x y m n first second (Standing (inr late)) is other same

module _ (sizes : SlotName → ℕ) (place : ℕ → ℕ) (t : Trace) (r : Told) (v : View) (ts : List ToldRecord)
    (out : IsPlayedOut sizes place t r v ts) where
  are_lines : AreLines (rules_of t) t.lines (played_in ts)
  are_lines = subst (λ ps. AreLines (rules_of t) t.lines ps) (sym out.records)
      (records_are_lines.lines (rules_of t) t.lines r.entries out.due)

  ordered : IsOrdered r.cells place (played_in ts)
  ordered = record {
    cells_are = out.cells;
    lines = lines_differ (rules_of t) t.lines (played_in ts) are_lines;
    phases = phases_rise (rules_of t) t.lines (played_in ts) are_lines;
    handed = out.handed;
    threads = out.threads;
  }

  seen : IsSeenInOrder r.cells (played_in ts)
  seen = seen_follows sizes r.cells place ts out.told ordered out.viewed

  read_off : IsReadOff sizes v ts
  read_off = record { told = out.told; last = out.last; ends = out.ends; phases = in_phases r.cells (played_in ts) seen }

  known : IsKnown t r (played_in ts)
  known = record {
    lines = out.due;
    cells = out.cells;
    registers = out.registers;
    slots = slots_follow (played_in ts) (λ s. out.last.all.history (title_of sizes s))
        (histories_follow sizes v ts out.last.all.history out.last.logs out.told out.last.all.chain);
    contents = contents_follow t.version sizes r.cells v ts read_off out.readers;
    pool = out.pool;
    roots = out.roots;
    flows = out.flows;
    seen = seen;
    numbers = out.numbers;
    unmaps = out.unmaps;
    used = looks_in_use sizes ts out.told;
  }

pub clauses_are_told : ClausesAreTold
clauses_are_told sizes place t r v ts out =
    clauses_follow t r (subst (λ ps. IsKnown t r ps) out.records (known sizes place t r v ts out))

pub legal_is_told : LegalIsTold
legal_is_told sizes place t r v ts out caches report =
    legal_follows t r (clauses_are_told sizes place t r v ts out)
    (subst (λ ps. AreCaches t.partitions r.roots ps) out.records caches)
    (subst (λ ps. IsReport (phases_in t.lines) t.partitions t.threads ps r.pools r.roots r.report) out.records report)
