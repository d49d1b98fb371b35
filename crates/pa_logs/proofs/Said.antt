-- What all layers say gives all that is known of a run that was played out, and how slots flow. So it has its clauses, the closed region
-- holds it, and it is legal if its threads have lists.
use Rattle.std.proofs.Common.{◌≡◌, ℕ, ◌<◌, ◌≤◌, List, filter, length, refl, subst, arith, sym, inl, inr}
use Rattle.std.specs.Prelude.{Contains}
use Rattle.pa_slot.specs.declared.word.SlotName.{SlotName}
use Rattle.pa_trace.specs.Rules.{rules_of}
use Rattle.pa_region.specs.declared.view.View.{View}
use Rattle.pa_region.specs.Lists.{list_of}
use Rattle.pa_region.specs.Ends.{IsEnd}
use Rattle.pa_trace.specs.declared.script.Trace.{Trace}
use Rattle.pa_record.specs.declared.report.ReportLine.{ReportLine}
use Rattle.pa_lists.proofs.Joined.{map_cases, map_in, filter_cases}
use Rattle.pa_rules.specs.declared.played.Played.{Played}
use Rattle.pa_rules.specs.Played.{marks_of}
use Rattle.pa_rules.specs.Held.{IsHeldIn}
use Rattle.pa_rules.specs.Legal.{phases_in, IsLegalTold}
use Rattle.pa_rules.specs.Registers.{AreRegisters, no_regs}
use Rattle.pa_rules.specs.Seen.{IsSeenInOrder}
use Rattle.pa_rules.specs.Sizes.{usable_of}
use Rattle.pa_rules.specs.Told.{Told, records_of}
use Rattle.pa_rules.proofs.Numbering.{lines_differ}
use Rattle.pa_rules.proofs.Ruling.{told_rules}
use Rattle.pa_legal.specs.Flows.{SlotsFlow, UnmapsNext}
use Rattle.pa_legal.specs.Known.{HasClauses}
use Rattle.pa_legal.specs.Tallies.{AreHomes}
use Rattle.pa_logs.specs.Told.{ToldRecord, played_in, is_of_thread}
use Rattle.pa_logs.specs.Touches.{title_of}
use Rattle.pa_logs.specs.Homes.{HaveSlots}
use Rattle.pa_logs.specs.Reads.{HaveReaders}
use Rattle.pa_logs.specs.Viewed.{IsOrdered}
use Rattle.pa_logs.specs.Swaps.{place_of}
use Rattle.pa_logs.specs.Reported.{AreReported, IsLineTold, IsLineShared}
use Rattle.pa_logs.specs.Whole.{IsPlayedOut}
use Rattle.pa_logs.specs.Said.{sizes_in, homes_in, plains_in, HasToldRows, LayersSay, ListsSay, CloseSays, LayersTellAll}
use Rattle.pa_logs.proofs.Celling.{cells_follow}
use Rattle.pa_logs.proofs.Closing.{closes_holding}
use Rattle.pa_logs.proofs.Due.{place_is}
use Rattle.pa_logs.proofs.Homing.{homes_follow}
use Rattle.pa_logs.proofs.Layering.{layers_follow}
use Rattle.pa_logs.proofs.Lined.{phases_rise}
use Rattle.pa_logs.proofs.OnLists.{caches, flow, listed, waits}
use Rattle.pa_logs.proofs.Reporting.{report_follows}
use Rattle.pa_logs.proofs.Saying.{are_lines, within, knows, have_ends, cut_at, are_lists, swapped, answered, viewed, pool, roots, history, steps, slots}
use Rattle.pa_logs.proofs.Swapping.{swaps_follow}
use Rattle.pa_logs.proofs.Through.{by_records, IsSlotOf, AgreesAt, rows_same, merged, have_readers}
use Rattle.pa_logs.proofs.Usable.{usable_follows}
use Rattle.pa_logs.proofs.Viewing.{seen_follows}
use Rattle.pa_logs.proofs.Whole.{looks_in_use, in_phases, clauses_are_told, legal_is_told}

module _ (t : Trace) (r : Told) (v : View) (ts : List ToldRecord) (says : LayersSay t r v ts)
    (flows : SlotsFlow t.partitions r.roots (played_in ts)) where
  abbrev sizes : SlotName → ℕ
  sizes = sizes_in t r

  abbrev ps : List Played
  ps = played_in ts

  -- ---- slots and registers

  -- what a seat had seen was stepped on
  stepped_on : (x : ToldRecord) (s : SlotName) → Contains ts x → IsSlotOf sizes x s → 0 < length (history t r v ts says s)
  stepped_on x s among (inl some) =
      let u = title_of sizes s in
      let chain = ((knows t r v ts says).all.chain u).all in
      let grown = says.heap.seen.grows x u among in
      let heard = says.runner.heard x u among in
      let logged = says.runner.has.aware.all_seen says.runner.has.every u in
      omega arith
  stepped_on x s among (inr (d, step, slot)) =
      let below = ((steps t r v ts says s).stand x.played d (map_in (λ (z : ToldRecord). z.played) ts x among) step slot).below in
      omega arith

  have_slots : HaveSlots t.region t.partitions ps r.pools r.roots
  have_slots = record {
    journals = roots t r v ts says;
    pool = pool t r v ts says;
    made = flows.made;
    slots = slots t r v ts says;
    used = looks_in_use sizes ts says.heap.told;
  }

  agrees : (x : ToldRecord) (s : SlotName) → Contains ts x → IsSlotOf sizes x s → AgreesAt (plains_in t r) sizes ps s
  agrees x s among of =
      let long = stepped_on x s among of in
      let usable = usable_follows sizes ts s (history t r v ts says s) says.heap.told (steps t r v ts says s) long in
      let ruled = subst (λ xs. (y : Played) → Contains xs y → y.rules ≡ rules_of t) (sym says.runner.records) (told_rules t r) in (
        omega arith,
        homes_follow.plain t.region t.partitions (rules_of t) ps r.pools r.roots s (history t r v ts says s) have_slots ruled
            (steps t r v ts says s) long,
      )

  rows : (k : ℕ) → HasToldRows sizes (by_records t.version ps r.cells) (no_regs k) (filter (is_of_thread k) ts)
  rows k = rows_same t.version (plains_in t r) sizes ps r.cells (no_regs k) (filter (is_of_thread k) ts)
      (λ x s among of. agrees x s (filter_cases (is_of_thread k) ts x among).0 of) (says.heap.rows k)

  registers : AreRegisters (usable_of t.version) r.cells ps
  registers = merged sizes (by_records t.version ps r.cells) no_regs ts rows

  readers : HaveReaders t.version sizes r.cells ts
  readers = have_readers t.version sizes r.cells ts says.heap.told rows

  -- ---- what was seen

  abbrev place : ℕ → ℕ
  place = place_of (list_of 5 v)

  ordered : IsOrdered r.cells place ps
  ordered = record {
    cells_are = cells_follow (list_of 5 v) r.cells says.swaps ts (swapped t r v ts says) (answered t r v ts says);
    lines = lines_differ (rules_of t) t.lines ps (are_lines t r v ts says);
    phases = phases_rise (rules_of t) t.lines ps (are_lines t r v ts says);
    handed = λ x y hands. swaps_follow.handed (list_of 5 v) r.cells says.swaps ts x y (swapped t r v ts says) hands;
    threads = λ x y first second one other thread less. swaps_follow.threads (list_of 5 v) r.cells says.swaps ts x y
        (swapped t r v ts says) first second one other thread less;
  }

  seen : IsSeenInOrder r.cells ps
  seen = seen_follows sizes r.cells place ts says.heap.told ordered (viewed t r v ts says)

  -- ---- the report

  homes : AreHomes r.roots (homes_in t r) sizes (marks_of ps)
  homes = homes_follow.homes t.region t.partitions ps r.pools r.roots have_slots

  reported : AreReported t.region t.partitions t.threads (homes_in t r) sizes (λ q. list_of q v) r.pools r.roots ts
  reported = record {
    lists_are = are_lists t r v ts says;
    journals = roots t r v ts says;
    pool = pool t r v ts says;
    slots = slots t r v ts says;
    phases = in_phases r.cells ps seen;
    homes = homes;
    few = λ x among. (within t r v ts says x among).thread;
  }

  line_told : (l : ReportLine) → Contains r.report l → IsLineTold t.threads (homes_in t r) sizes (λ q. list_of q v) ts l
  line_told l among =
      let at : ℕ × ℕ = (l.phase, l.partition) in
      let is = place_is t.partitions 1 (phases_in t.lines) at
      (subst (λ ns. Contains ns at) says.runner.places (map_in (λ (z : ReportLine). (z.phase, z.partition)) r.report l among)) in
      let low : 1 ≤ l.phase = is.low in
      let high = is.high in
      let within_all : l.phase ≤ phases_in t.lines = omega arith in
      let below : l.partition < t.partitions = is.partition in
      let most = says.runner.limits.head.1.1 in
      let small : l.partition < 4 = omega arith in
      let said = says.report l among in
      let (rest, begins) = (says.runner.ends l.phase low within_all).begins l.partition (omega arith) in
      record {
        partition = small;
        live = said.live;
        quarantined = said.quarantined;
        root = record {
          cut = record {
            older = list_of l.partition (says.seats l.phase);
            rest = rest;
            begins = begins;
            is = cut_at t r v ts says l.partition l.phase (omega arith) low within_all;
          };
          journal = said.root.journal;
          journal_is = said.root.journal_is;
          seen = said.root.seen;
          unseen = said.root.begins.0;
          begins = said.root.begins.1;
          pool = said.root.pool;
          pool_is = said.root.pool_is;
          replays = said.root.replays;
          taken = said.root.taken;
        };
      }

  lines : (l : ReportLine) → Contains r.report l → IsLineShared ps r.pools r.roots l
  lines l among = report_follows.line t.region t.partitions t.threads (homes_in t r) sizes (λ q. list_of q v) r.pools r.roots ts l
      reported (line_told l among)

  -- ---- all of it

  played_out : IsPlayedOut sizes place t r v ts
  played_out = record {
    due = says.runner.due;
    records = says.runner.records;
    told = says.heap.told;
    last = knows t r v ts says;
    ends = have_ends t r v ts says;
    readers = readers;
    viewed = viewed t r v ts says;
    handed = ordered.handed;
    threads = ordered.threads;
    cells = ordered.cells_are;
    registers = registers;
    pool = pool t r v ts says;
    roots = roots t r v ts says;
    flows = flows;
    numbers = says.roots.numbers;
    unmaps = λ x among.
        let (y, there, is) = map_cases (λ (z : ToldRecord). z.played) ts x among in
        subst (λ (z : Played). UnmapsNext r.roots z) is (says.roots.unmaps y there);
  }

  clauses : HasClauses t r (records_of t r)
  clauses = clauses_are_told sizes place t r v ts played_out

  held : (words : List ℕ) → CloseSays t r v ts → IsEnd words v → IsHeldIn t r words
  held words closes end =
      let logs = (knows t r v ts says).logs in
      closes_holding.held sizes words t r v ts says.runner.records says.heap.told logs end
      (layers_follow.closing t.region t.partitions sizes (λ q. list_of q v) r ts v (record {
        lists_are = are_lists t r v ts says;
        journals = roots t r v ts says;
        pool = pool t r v ts says;
        logs = logs;
        lengths = λ s. refl;
        unmaps = closes.unmaps;
        has = record { journals = says.roots.journals; rooted = closes.rooted; waits = closes.waits };
        clean = closes.clean;
      }))

-- a run whose threads have lists is legal
legal : (t : Trace) (r : Told) (v : View) (ts : List ToldRecord) → LayersSay t r v ts → ListsSay t r ts → IsLegalTold t r
legal t r v ts says lists =
    let flows = flow t r v ts says lists in
    legal_is_told (sizes_in t r) (place t r v ts says flows) t r v ts (played_out t r v ts says flows) (caches t r v ts says lists)
    (report_follows.report (phases_in t.lines) t.partitions t.threads (played_in ts) r.pools r.roots r.report says.runner.places
    (lines t r v ts says flows) (listed t r v ts says lists))

pub layers_tell_all : LayersTellAll
layers_tell_all = record {
  flows = flow;
  played = played_out;
  clauses = clauses;
  lines = lines;
  legal = legal;
  waits = λ t r v ts says lists free. waits t r v ts says lists free;
  held = λ words t r v ts says flows closes end. held t r v ts says flows words closes end;
}
