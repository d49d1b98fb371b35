-- All turns of a trace were played, in whatever manner, and its heap was closed: what it left is the whole run of their execution.
use Rattle.std.proofs.Common.{◌≡◌, ℕ, ◌*◌, ◌<◌, ◌≤◌, List, [], ◌∷◌, length, map, filter, get_or, refl, sym, ◌∙◌, ap, subst, arith, inl, inr}
use Rattle.std.specs.Prelude.{Contains, All, ◌==◌}
use Rattle.std.specs.List.{AllByRecursion}
use Rattle.std.proofs.lemmas.Bool.{cases_Bool}
use Rattle.std.proofs.lemmas.List.{get_or_past}
use Rattle.std.proofs.lemmas.List.Elements.{All-from_get_or}
use mathlib.Core.Path.{fun_ext}
use Rattle.pa_lists.proofs.Joined.{map_in}
use Rattle.pa_slot.specs.declared.title.Title.{Title}
use Rattle.pa_trace.specs.declared.script.Line.{Line}
use Rattle.pa_trace.specs.declared.script.Trace.{Trace}
use Rattle.pa_trace.specs.Limits.{IsLineWithin, IsWithinLimits}
use Rattle.pa_trace.specs.Rules.{rules_of}
use Rattle.pa_record.specs.declared.entry.Entry.{Entry}
use Rattle.pa_record.specs.declared.history.CellEntry.{CellEntry}
use Rattle.pa_record.specs.declared.report.ReportLine.{ReportLine}
use Rattle.pa_record.specs.declared.root.RootEntry.{RootEntry}
use Rattle.pa_record.specs.declared.run.Run.{Run}
use Rattle.pa_record.specs.Laws.{IsNameOut}
use Rattle.pa_record.specs.Root.{new_root, root_replayed}
use Rattle.pa_record.specs.RunText.{IsPrintable, journal_of, history_of}
use Rattle.pa_record.specs.Sound.{IsMade}
use Rattle.pa_record.specs.Spans.{name_of}
use Rattle.pa_region.specs.declared.view.View.{View}
use Rattle.pa_region.specs.Views.{HasEveryStake, free_of}
use Rattle.pa_region.specs.Lists.{list_of}
use Rattle.pa_region.specs.Takes.{log_of}
use Rattle.pa_rules.specs.Played.{entry_of}
use Rattle.pa_rules.specs.Told.{Told, told_by, records_of}
use Rattle.pa_rules.specs.Roots.{AreRoots}
use Rattle.pa_rules.specs.Legal.{phases_in}
use Rattle.pa_rules.specs.Held.{IsHeldIn}
use Rattle.pa_rules.proofs.Recorded.{records_are_lines}
use Rattle.pa_rules.proofs.SameTold.{same_lists}
use Rattle.pa_legal.specs.Flows.{SlotsFlow}
use Rattle.pa_logs.specs.Told.{ToldRecord, played_in, is_of_thread}
use Rattle.pa_logs.specs.Said.{sizes_in, IsLineSaid, LayersSay}
use Rattle.pa_logs.specs.Standing.{OutIsFree}
use Rattle.pa_logs.proofs.Due.{place_is}
use Rattle.pa_logs.proofs.Said.{layers_tell_all}
use Rattle.pa_cells.specs.Cells.{Exchange}
use Rattle.pa_heap.specs.declared.left.Left.{Left}
use Rattle.pa_heap.specs.Closing.{HasTold, IsClosedBy, journal_left, history_left}
use Rattle.pa_op_specs.specs.Workers.{WorkerValue}
use Rattle.pa_execution.specs.Turns.{Manner, turns_in, last_turn}
use Rattle.pa_execution.specs.Courses.{Course, HasSeenAll}
use Rattle.pa_execution.specs.Merged.{told_by_turns, phase_seats}
use Rattle.pa_execution.specs.Telling.{IsWholeRunBy}
use Rattle.pa_execution.specs.Lines.{IsLineBy}
use Rattle.pa_execution.proofs.Chaining.{sees_last}
use Rattle.pa_execution.proofs.Grouping.{are_lines, all_until, last_low, last_high}
use Rattle.pa_execution.proofs.Keepers.{courses_tell_all}
use Rattle.pa_execution.proofs.Lining.{courses_tell_lines}
use Rattle.pa_execution.proofs.Recording.{workers_have_theirs}
use Rattle.pa_execution.proofs.Turning.{some_turn, all_turns_go}
use Rattle.pa_runner.specs.Gone.{HasGone, IsMadeOf}
use Rattle.pa_runner.specs.Merging.{is_entry_of, IsMergeOf}
use Rattle.pa_runner.specs.Phases.{no_worker, worker_in}
use Rattle.pa_runner.specs.Recorded.{HasSpanRecords}
use Rattle.pa_runner.proofs.Printing.{ActsName, journals_named}

-- the records of an execution
abbrev pub entries_of : Manner → Trace → Course → List Entry
entries_of way t c = map entry_of (played_in (told_by_turns way t c))

-- the output of a run, from its execution, from what the close left, and from its report
abbrev told_of : Manner → Trace → Course → Left → List ReportLine → Told
told_of way t c left report =
    record { entries = entries_of way t c; roots = journal_left left; pools = left.pool.items; cells = history_left left; report = report }

-- the entries of a thread's records are those of its number
thread_entries : (k : ℕ) (xs : List ToldRecord) →
    map entry_of (played_in (filter (is_of_thread k) xs)) ≡ filter (is_entry_of k) (map entry_of (played_in xs))
thread_entries k [] = refl
thread_entries k (x ∷ xs) = elim (cases_Bool (x.played.thread == k)) [
  | inl y ↦ rw y (ap (λ es. entry_of x.played ∷ es) (thread_entries k xs))
  | inr n ↦ rw n (thread_entries k xs)
]

module _ (way : Manner) (t : Trace) (workers : List WorkerValue) (seat : View) (report : List ReportLine) (limits : IsWithinLimits t)
    (went : HasGone way t workers seat report) where
  -- ---- the records, before the close

  are_merged : IsMergeOf t.lines workers (entries_of way t went.course)
  are_merged =
      let c = went.course in
      let course = went.ended.course in
      let n = phases_in t.lines in
      let ts = told_by_turns way t c in
      let count = went.same_count in
      let theirs = workers_have_theirs way t c limits course in
      record {
        rules = rules_of t;
        due = records_are_lines.due (rules_of t) t.lines (played_in ts) (are_lines way t c limits course);
        theirs = λ k below.
            let few : k < t.threads = omega arith in
            let told : (worker_in workers k).records ≡ (worker_in went.ends k).records =
            ap (λ (w : WorkerValue). w.records) (went.told.told k few) in
            let ended : (c.ends (turns_in way t) k).records ≡ (worker_in went.ends k).records =
            ap (λ (w : WorkerValue). w.records) (went.ended.ends k few) in
            let last : (c.ends (last_turn way t n) k).records ≡ (c.ends (turns_in way t) k).records =
            ap (λ m. (c.ends m k).records) (all_turns_go way t).whole in
            told ∙ (sym ended ∙ (sym last ∙ (theirs.records n k (omega arith) (omega arith) few
            ∙ (ap (λ (xs : List ToldRecord). map entry_of (played_in (filter (is_of_thread k) xs))) (all_until way t c limits course) ∙
            thread_entries k ts))));
      }

  -- as the slices of both are
  pub are_merged_in : (ls : List Line) (ws : List WorkerValue) → ls ≡ t.lines → ws ≡ workers →
      IsMergeOf ls ws (entries_of way t went.course)
  are_merged_in ls ws lines all =
      subst (λ (zs : List Line). IsMergeOf zs ws (entries_of way t went.course)) (sym lines)
      (subst (λ (zs : List WorkerValue). IsMergeOf t.lines zs (entries_of way t went.course)) (sym all) are_merged)

  -- their lines are within the limits, for as many threads as there are workers
  pub lines_within : (ls : List Line) (ws : List WorkerValue) → ls ≡ t.lines → ws ≡ workers →
      AllByRecursion (IsLineWithin t.partitions (length ws)) ls
  lines_within ls ws lines all =
      subst (λ n. AllByRecursion (IsLineWithin t.partitions n) ls) (sym (ap length all ∙ went.same_count))
      (subst (λ (zs : List Line). AllByRecursion (IsLineWithin t.partitions t.threads) zs) (sym lines) limits.lines)

  -- ---- what the close asks for

  pub seat_has : HasEveryStake seat
  seat_has = subst HasEveryStake went.ended.seat (went.ended.course.tells (turns_in way t) (some_turn way t) (omega arith)).every

  pub have_told : All HasTold workers
  have_told = All-from_get_or HasTold workers no_worker (λ k low. let count = went.same_count in went.told.none k (omega arith))

  -- ---- the run that is made of what was left

  module _ (run : Run) (words : List ℕ) (made : IsMadeOf t workers seat report run words) where
    abbrev left : Left
    left = made.left

    abbrev closed : IsClosedBy (262144 * t.region) workers seat left
    closed = made.closed

    abbrev pub exchanges : List Exchange
    exchanges = closed.lists.exchanges.0

    journals : (p : ℕ) → journal_of run p ≡ journal_left left p
    journals p = ap (λ (js : List (List RootEntry)). get_or js p []) made.roots

    histories : (k : ℕ) → history_of run k ≡ history_left left k
    histories k = ap (λ (hs : List (List CellEntry)). get_or hs k []) made.cells

    same : told_by run ≡ told_of way t went.course left report
    same = same_lists (told_by run) (told_of way t went.course left report)
        (made.entries (entries_of way t went.course) are_merged) (fun_ext journals) made.pool (fun_ext histories) made.report_is

    whole_told : IsWholeRunBy way t (told_of way t went.course left report) went.course closed.last exchanges
    whole_told = record {
      course = went.ended.course;
      closes = record {
        aware = closed.aware;
        every = closed.every;
        logs = λ k. closed.logs k ∙ ap (log_of k) (sym went.ended.seat);
        sees = subst (λ s. HasSeenAll s closed.last) (sym went.ended.seat)
            (record { lists = closed.within.lists; seen = closed.within.seen });
      };
      left = record {
        limits = limits;
        entries = refl;
        pool = closed.lists.pool;
        fits = closed.lists.fits t.region refl;
        lists = closed.lists.lists;
        journals = closed.lists.journals;
        past = λ p far. get_or_past left.roots p [] (let f = made.count in omega arith);
        numbers = closed.lists.numbers;
        exchanges = closed.lists.exchanges.1.numbers;
        cells = closed.lists.exchanges.1.cells;
        chain = closed.lists.chain;
        places = went.places;
      };
    }

    pub is_whole : IsWholeRunBy way t (told_by run) went.course closed.last exchanges
    is_whole = subst (λ (r : Told). IsWholeRunBy way t r went.course closed.last exchanges) (sym same) whole_told

    -- ---- the lines of the report

    pub line_by : (l : ReportLine) → Contains run.report.items l → IsLineBy way t went.course closed.last l
    line_by l member =
        let among : Contains report l = subst (λ (ls : List ReportLine). Contains ls l) made.report_is member in
        let place : ℕ × ℕ = (l.phase, l.partition) in
        let at = place_is t.partitions 1 (phases_in t.lines) place
        (subst (λ ns. Contains ns place) went.places (map_in (λ (z : ReportLine). (z.phase, z.partition)) report l among)) in
        let low : 1 ≤ l.phase = at.low in
        let high = at.high in
        let inside : l.phase ≤ phases_in t.lines = omega arith in
        let c = went.course in
        let course = went.ended.course in
        let is = went.right l among in
        let seen = sees_last way t c limits course closed.last is_whole.closes (last_turn way t l.phase)
        (last_low way t c limits course l.phase low inside) (last_high way t c limits course l.phase low inside) in
        record {
          live = is.live;
          quarantined = is.quarantined;
          root = is.root (list_of 4 closed.last) left.pool.items (seen.lists 4) closed.lists.pool;
        }

    pub lines_said : (l : ReportLine) → Contains run.report.items l →
        IsLineSaid t (told_by run) closed.last (told_by_turns way t went.course) (phase_seats way t went.course l.phase) l
    lines_said l among = courses_tell_lines way t (told_by run) went.course closed.last exchanges is_whole l among (line_by l among)

    pub all_say : LayersSay t (told_by run) closed.last (told_by_turns way t went.course)
    all_say = courses_tell_all way t (told_by run) went.course closed.last exchanges is_whole lines_said

    -- ---- what the words have

    -- if slots flow and the closing seat has free what waits, the words hold the run
    pub holds : SlotsFlow t.partitions (told_by run).roots (played_in (told_by_turns way t went.course)) →
        OutIsFree (sizes_in t (told_by run)) (told_by run).pools (told_by run).roots closed.last → IsHeldIn t (told_by run) words
    holds flows waits =
        subst (IsHeldIn t (told_by run)) (sym made.words_are)
        (layers_tell_all.held left.region t (told_by run) closed.last (told_by_turns way t went.course) all_say flows (record {
          unmaps = (workers_have_theirs way t went.course limits went.ended.course).unmaps;
          rooted = subst
              (λ (r : Told). (p : ℕ) (u : Title) → IsMade (root_replayed r.pools (r.roots p) new_root) u →
              (IsNameOut (root_replayed r.pools (r.roots p) new_root) (name_of u) → ⊥) → 0 < free_of closed.last u)
              (sym same) closed.rooted;
          waits = waits;
          clean = closed.clean;
        }) closed.ends)

    pub has_spans : HasSpanRecords (told_by run) words
    has_spans = subst (HasSpanRecords (told_by run)) (sym made.words_are)
        (subst (λ (r : Told). HasSpanRecords r left.region) (sym same) closed.spans)

    pub is_long : length words ≡ 262144 * t.region
    is_long = ap length made.words_are ∙ closed.long

    -- if the journals are of its records, each of which names slots, the run can be printed
    pub is_printable : AreRoots t.partitions (records_of t (told_by run)) (told_by run).pools (told_by run).roots →
        ActsName t.partitions (told_by run).roots (records_of t (told_by run)) → IsPrintable run
    is_printable roots named = record {
      roots = (let a = ap (λ (js : List (List RootEntry)). length js) made.roots in let b = made.count in omega arith);
      cells = (let a = ap (λ (hs : List (List CellEntry)). length hs) made.cells in let b = closed.lists.count in omega arith);
      slots = journals_named t.partitions (records_of t (told_by run)) (told_by run).pools (told_by run).roots run.roots.items roots named
          (λ p. refl);
    }
