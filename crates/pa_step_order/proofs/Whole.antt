-- From what all layers say, and the order of each record's steps in its log segment: the run has a timeline.
use Rattle.std.proofs.Common.{◌≡◌, ℕ, ◌+◌, ◌<◌, ◌≤◌, List, [], ◌∷◌, map, Some, refl, sym, ◌∙◌, ap, subst, arith, inl, inr}
use Rattle.std.specs.Prelude.{Contains}
use Rattle.std.specs.List.{filter_map}
use Rattle.std.specs.List.{AllByRecursion as Each}
use Rattle.std.proofs.lemmas.Bool.{cases_lt, ne_eqb}
use Rattle.pa_trace.specs.Rules.{rules_of}
use Rattle.pa_region.specs.declared.view.Stake.{Stake}
use Rattle.pa_region.specs.declared.view.View.{View}
use Rattle.pa_region.specs.Lists.{list_of, entered_in}
use Rattle.pa_region.specs.Order.{Stamped, by_stake, logged_among, spoiled, HasOneOrder}
use Rattle.pa_region.specs.History.{Done}
use Rattle.pa_region.specs.Waiting.{unclean_of}
use Rattle.pa_region.proofs.LendBack.{none_poisoned}
use Rattle.pa_slot.specs.declared.title.Title.{Title}
use Rattle.pa_slot.specs.declared.word.SlotName.{SlotName}
use Rattle.pa_trace.specs.declared.script.Trace.{Trace}
use Rattle.pa_rules.specs.Told.{Told}
use Rattle.pa_rules.specs.declared.played.Played.{Played}
use Rattle.pa_rules.specs.Registers.{usable_in}
use Rattle.pa_rules.specs.Sizes.{usable_of}
use Rattle.pa_timeline.specs.Timeline.{Moment, outline_parts, IsStepOrder, IsTimeline}
use Rattle.pa_timeline.proofs.Outlined.{stays}
use Rattle.pa_logs.specs.Told.{ToldRecord, played_in, log_of}
use Rattle.pa_legal.specs.Flows.{SlotsFlow}
use Rattle.pa_legal.specs.Known.{HasClauses}
use Rattle.pa_logs.specs.Said.{sizes_in, LayersSay}
use Rattle.pa_logs.specs.Listed.{AreRising}
use Rattle.pa_logs.specs.Steps.{AreSteps}
use Rattle.pa_logs.specs.Touches.{title_of, StepMade, step_by}
use Rattle.pa_logs.proofs.Histories.{histories_follow}
use Rattle.pa_logs.proofs.Usable.{usable_follows}
use Rattle.pa_logs.proofs.Lined.{phases_rise}
use Rattle.pa_logs.proofs.Places.{each_at, stake_at}
use Rattle.pa_logs.proofs.Said.{layers_tell_all}
use Rattle.pa_logs.proofs.Saying.{are_lines, rising, knows, list_is, are_lists, answered}
use Rattle.pa_logs.proofs.Whole.{in_phases}
use Rattle.pa_logs.proofs.Seating.{none_logged}
use Rattle.pa_step_order.specs.Segments.{AreInTheirOrder}
use Rattle.pa_step_order.specs.Laws.{TimelineFollows}
use Rattle.pa_step_order.proofs.Named.{Named, AreNamed, named_log, names_are}
use Rattle.pa_step_order.proofs.Moments.{moments_in, phase_at, by_phases, one_played, whole, only, in_order}
use Rattle.pa_step_order.proofs.Sorting.{sorted}
use Rattle.pa_step_order.proofs.Marked.{AreMarked}
use Rattle.pa_step_order.proofs.Again.{issued_again}
use Rattle.pa_step_order.proofs.Timed.{timeline}
use Rattle.pa_step_order.proofs.Ordered.{OrderedRun}
use Rattle.pa_step_order.proofs.Laid.{stamped_of, stamps_agree, laid, laid_stays}
use Rattle.pa_step_order.proofs.Belonging.{front_all, members, finds, spoils}
use Rattle.pa_step_order.proofs.Calming.{reads}
use Rattle.pa_step_order.proofs.Lining.{lines}
use Rattle.pa_step_order.proofs.Completing.{whole as whole_due}
use Rattle.pa_step_order.proofs.Found.{found}
use Rattle.pa_step_order.proofs.Entered.{enters, list_named, kept_journal, past_journal, journals_made, pool_asked}
use Rattle.pa_step_order.proofs.Exchanged.{exchanged}
use Rattle.pa_step_order.proofs.Queues.{in_turn}

-- no stake past 15 did anything
none_stamped : (k : ℕ) (all : List Stamped) → 16 ≤ k → Each (λ (m : Stamped). m.stake < 16) all → by_stake k all ≡ []
none_stamped k [] high small = refl
none_stamped k (m ∷ all) high small =
    let low = small.0 in
    rw (ne_eqb m.stake k (λ e. omega arith)) (none_stamped k all high small.1)

module _ (t : Trace) (r : Told) (v : View) (ts : List ToldRecord) (says : LayersSay t r v ts)
    (flows : SlotsFlow t.partitions r.roots (played_in ts)) where
  one_order : HasOneOrder v
  one_order = says.runner.has.aware.one_order says.runner.has.every

  abbrev all : List Stamped
  all = one_order.all

  -- each thread's log is what its stake did in the order
  logs_are : (k : ℕ) → log_of k ts ≡ by_stake k all
  logs_are k = elim (cases_lt k 16) [
    | inl low ↦
        let (i, s, at_i, mine, log) = stake_at v ts k (knows t r v ts says).logs low in
        let here = each_at (λ (z : Stake). z.log ≡ by_stake z.number all) v.stakes i s (one_order.ordered.logs 0 v refl) at_i in
        sym log ∙ here ∙ ap (λ n. by_stake n all) mine
    | inr high ↦ none_logged k ts high (knows t r v ts says).logs.threads ∙ sym (none_stamped k all high one_order.ordered.stakes)
  ]

  abbrev names : List Named
  names = in_turn (λ (m : Stamped). m.stake) (named_log ts) all

  are_named : AreNamed ts all names
  are_named = names_are ts all logs_are

  abbrev moments : List Moment
  moments = by_phases r.roots names

  has : HasClauses t r (played_in ts)
  has = subst (λ ps. HasClauses t r ps) (sym says.runner.records) (layers_tell_all.clauses t r v ts says flows)

  -- what an entry put into a list is what the list has
  listed : (q : ℕ) → list_of q v ≡ entered_in q (map (λ (n : Named). n.entry) names)
  listed q = list_named ts all names are_named r.roots q (list_of q v) (one_order.ordered.lists q)

  kept_journals : (p : ℕ) → filter_map (enters p) (moments_in r.roots names) ≡ r.roots p
  kept_journals p = elim (cases_lt p 4) [
    | inl small ↦
        kept_journal ts all names are_named r.roots p (list_of p v) (listed p) (list_is t r v ts says p (omega arith))
        ((are_lists t r v ts says).journals p small) small
    | inr past ↦ past_journal ts all names are_named r.roots p past ((are_lists t r v ts says).past p past)
  ]

  step_order : AreInTheirOrder t.partitions r.roots ts →
      IsStepOrder (outline_parts t.partitions r.roots) (played_in ts) r.pools r.roots r.cells moments
  step_order order =
      let up = rising t r v ts says in
      record {
        whole = whole ts all names are_named r.roots up t.partitions order;
        only = only ts all names are_named r.roots;
        in_order = in_order ts all names are_named r.roots up (phases_rise (rules_of t) t.lines (played_in ts) (are_lines t r v ts says));
        found = found (sizes_in t r) ts says.heap.told all names are_named r.roots one_order.ordered.found
            (in_phases r.cells (played_in ts) has.seen);
        journals = λ p. journals_made ts all names are_named r.roots p (kept_journals p) (has.roots.order p);
        pool = pool_asked ts all names are_named r.roots (list_of 4 v) r.pools (listed 4) (list_is t r v ts says 4 (omega arith))
            (are_lists t r v ts says).pool has.pool.order;
        exchanges = λ k. exchanged ts all names are_named r.roots up (list_of 5 v) r.cells says.swaps (listed 5)
            (list_is t r v ts says 5 (omega arith)) (says.cells.swaps_are)
            (answered t r v ts says) k (has.cells.order k);
      }

  -- ---- with the poisonings

  -- no Own of the seat is being poisoned, so each poisoning has its free
  module _ (order : AreInTheirOrder t.partitions r.roots ts) (clean : unclean_of v ≡ 0) where
    abbrev sizes : SlotName → ℕ
    sizes = sizes_in t r

    up : AreRising ts
    up = rising t r v ts says

    agree : map stamped_of names ≡ logged_among one_order.steps
    agree = stamps_agree ts all logs_are ∙ sym one_order.logged

    closed : (u : Title) → spoiled u one_order.steps ≡ 0
    closed u = one_order.freed u (none_poisoned v u clean)

    abbrev run : OrderedRun
    run = record {
      sizes = sizes;
      ts = ts;
      told = says.heap.told;
      rising = up;
      all = all;
      ns = names;
      are = are_named;
      roots = r.roots;
      rule = one_order.ordered.found;
      order = one_order.steps;
      agree = agree;
      placed = one_order.placed;
      closed = closed;
    }

    abbrev ms : List Moment
    ms = laid r.roots names one_order.steps

    marked : AreMarked (played_in ts) ms
    marked = record {
      members = members run;
      finds = finds run;
      spoils = spoils run;
      reads = reads run;
    }

    -- each slot has a history, and the bytes that it was made with
    histories : (s : SlotName) → (history : List Done) × AreSteps (played_in ts) s history
    histories s =
        let known = knows t r v ts says in
        (known.all.history (title_of sizes s), histories_follow sizes v ts known.all.history known.logs says.heap.told known.all.chain s)

    fits : (x : Played) (d : StepMade) → Contains (played_in ts) x → step_by x ≡ Some d → usable_in (played_in ts) d.slot + 8 ≡ sizes d.slot
    fits x d among is =
        let (history, steps) = histories d.slot in
        let at = steps.stand x d among is refl in
        let below = at.below in
        usable_follows sizes ts d.slot history says.heap.told steps (omega arith)

    same_moments : filter_map stays ms ≡ moments_in r.roots names
    same_moments =
        laid_stays names one_order.steps agree r.roots [] one_order.steps refl
        ∙ ap (moments_in r.roots) (front_all run)

    is_timeline : IsTimeline (usable_in (played_in ts)) t.partitions (played_in ts) r.pools r.roots r.cells (sorted phase_at ms)
    is_timeline =
        timeline (usable_of t.version) (usable_in (played_in ts)) t.partitions r.pools r.roots r.cells (played_in ts) ms marked
        (one_played ts all names are_named r.roots up)
        (whole_due run t.partitions order (usable_in (played_in ts)) fits)
        (phases_rise (rules_of t) t.lines (played_in ts) (are_lines t r v ts says))
        (in_phases r.cells (played_in ts) has.seen) has.contents
        (issued_again sizes ts says.heap.told histories)
        (lines run)
        (subst (λ zs. IsStepOrder (outline_parts t.partitions r.roots) (played_in ts) r.pools r.roots r.cells (sorted phase_at zs))
        (sym same_moments) (step_order order))

pub timeline_follows : TimelineFollows
timeline_follows t r v ts says flows order clean = (
  sorted phase_at (ms t r v ts says flows order clean),
  subst (λ ps. IsTimeline (usable_in ps) t.partitions ps r.pools r.roots r.cells (sorted phase_at (ms t r v ts says flows order clean)))
      says.runner.records (is_timeline t r v ts says flows order clean),
)
