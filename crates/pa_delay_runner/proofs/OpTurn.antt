-- The turn of an op line: its thread's worker plays it, and the others wait.
use Rattle.std.proofs.Common.{◌≡◌, ℕ, ◌+◌, ◌<◌, Bool, true, false, List, [], ◌∷◌, length, map, take, set, get_or, refl, sym, ◌∙◌, ap, subst, arith, inl, inr, eqb}
use Rattle.std.specs.Prelude.{if◌then◌else◌}
use Rattle.std.proofs.lemmas.Bool.{cases_eq, eq-eqb, ne_eqb}
use Rattle.std.proofs.lemmas.List.{get_or-set_same, get_or-set_other}
use Rattle.std.proofs.lemmas.List.Elements.{All-from_recursion, All-get_or}
use Rattle.pa_trace.specs.declared.script.Line.TheVariants.{Phase, Do}
use Rattle.pa_trace.specs.declared.script.Op.{Op}
use Rattle.pa_trace.specs.declared.script.Rules.{Rules}
use Rattle.pa_trace.specs.declared.script.Trace.{Trace}
use Rattle.pa_trace.specs.Limits.{IsLineWithin, IsWithinLimits}
use Rattle.pa_trace.specs.Rules.{rules_of}
use Rattle.pa_record.specs.declared.report.ReportLine.{ReportLine}
use Rattle.pa_region.specs.declared.view.View.{View}
use Rattle.pa_region.specs.Aware.{IsAware}
use Rattle.pa_region.specs.Hands.{given_after, united}
use Rattle.pa_region.specs.Lending.{stake_parcel}
use Rattle.pa_region.specs.Views.{stake_of}
use Rattle.pa_rules.specs.Played.{OpLine, op_line_of}
use Rattle.pa_rules.specs.Caches.{SameLists}
use Rattle.pa_rules.proofs.Lined.{phase_after}
use Rattle.pa_logs.specs.Told.{ToldRecord, played_in}
use Rattle.pa_cells.specs.declared.handle.Handle.{Handle}
use Rattle.pa_delay.specs.Queue.{QueueList}
use Rattle.pa_op_specs.specs.Stocks.{listed_in}
use Rattle.pa_op_specs.specs.Workers.{WorkerValue, worker_with_view}
use Rattle.pa_heap.specs.Waiting.{waiting_in, HoldsQueue, LeadsDelayed}
use Rattle.pa_execution.specs.Turns.{InTurn, lines_in_turn}
use Rattle.pa_execution.specs.Courses.{Course, HasSeenAll, HasHeardAll, HearsIf}
use Rattle.pa_execution.specs.Growing.{HasGrown}
use Rattle.pa_execution.specs.Gathering.{IsMain, HasAnswered, lent_again, told_worker}
use Rattle.pa_execution.proofs.Gathering.{workers_hear, one_lends_again}
use Rattle.pa_runner.specs.Phases.{HaveTold, no_worker, worker_in}
use Rattle.pa_delay_runner.specs.Course.{IsDelayedCourse}
use Rattle.pa_delay_runner.specs.Turning.{TakesTurn}
use Rattle.pa_delay_runner.specs.Going.{HasPlayedUpTo, IsAtLine, IsQueueFor}
use Rattle.pa_delay_runner.specs.Played.{delay_in}
use Rattle.pa_delay_runner.proofs.Heard.{heard_ended}
use Rattle.pa_delay_runner.proofs.NextTurn.{HasPart, part_waits, with_row, turn_grows}
use Rattle.pa_delay_runner.proofs.TurnLines.{op_at, turn_lines}

-- a part with other names for the same
part_as : {bytes : ℕ} {t : Trace} {n k : ℕ} {seat : View} {before : WorkerValue} {hs : List Handle} (heard heard' : Bool)
    (start start' : WorkerValue) (xs xs' : List ToldRecord) (after after' : WorkerValue) (rest rest' : List Handle) → heard' ≡ heard →
    start' ≡ start → xs' ≡ xs → after' ≡ after → rest' ≡ rest → HasPart bytes t n k seat before hs heard start xs after rest →
    HasPart bytes t n k seat before hs heard' start' xs' after' rest'
part_as {bytes} {t} {n} {k} {seat} {before} {hs} heard heard' start start' xs xs' after after' rest rest' e f g h i part =
    subst (λ b. HasPart bytes t n k seat before hs b start' xs' after' rest') (sym e)
    (subst (λ w. HasPart bytes t n k seat before hs heard w xs' after' rest') (sym f)
    (subst (λ ys. HasPart bytes t n k seat before hs heard start ys after' rest') (sym g)
    (subst (λ w. HasPart bytes t n k seat before hs heard start xs w rest') (sym h)
    (subst (λ rs. HasPart bytes t n k seat before hs heard start xs after rs) (sym i) part))))

-- what lists and queues have doesn't depend on who has the stake
numbers_told : (k : ℕ) (w : WorkerValue) (hs : List Handle) → waiting_in (told_worker k w).stock hs ≡ waiting_in w.stock hs
numbers_told k w hs = refl

module _ (bytes : ℕ) (t : Trace) (i phase : ℕ) (workers : List WorkerValue) (queues : List QueueList) (seat : View)
    (report : List ReportLine) (within : IsWithinLimits t) (going : HasPlayedUpTo bytes t i phase workers queues seat report) (thread : ℕ)
    (op : Op) (low : i < length t.lines) (is : get_or t.lines i Phase ≡ Do thread op) where
  pub line_within : IsLineWithin t.partitions t.threads (Do thread op)
  line_within =
      subst (IsLineWithin t.partitions t.threads) is
      (All-get_or (IsLineWithin t.partitions t.threads) t.lines i Phase low
      (All-from_recursion (IsLineWithin t.partitions t.threads) t.lines within.lines))

  pub thread_there : thread < t.threads
  thread_there = line_within.0

  -- the worker whose turn it is, before it lent its stake
  abbrev mine : WorkerValue
  mine = worker_in going.ends thread

  told_mine : worker_in workers thread ≡ told_worker thread mine
  told_mine = going.told.told thread thread_there

  heard_before : HasHeardAll t.threads (worker_in going.ends) seat
  heard_before = heard_ended InTurn t (i + 1) going.course (worker_in going.ends) seat (omega arith) going.ended

  module _ (w : WorkerValue) (q : QueueList) (next : View)
      (turn : TakesTurn thread (i + 2) op (worker_in workers thread) (delay_in queues thread) seat w q next) where
    abbrev pub after : List WorkerValue
    after = set going.ends thread turn.ends

    after_mine : worker_in after thread ≡ turn.ends
    after_mine = get_or-set_same going.ends thread turn.ends no_worker (let c = going.same_count in let l = thread_there in omega arith)

    after_other : (k : ℕ) → (k ≡ thread → ⊥) → worker_in after k ≡ worker_in going.ends k
    after_other k ne = get_or-set_other going.ends thread k turn.ends no_worker ne

    -- ---- the worker whose turn it is

    whole : HasAnswered t.threads thread seat seat
    whole = record { main = going.main; stakes = λ j high. refl; logs = λ j high. refl; seen = refl; lists = refl }

    hears_mine : HearsIf true thread seat mine turn.starts
    hears_mine =
        workers_hear.hears t.threads thread (worker_in going.ends) seat seat turn.starts heard_before whole thread_there
        (sym (ap (λ (z : WorkerValue). stake_of z.stock.view thread) told_mine) ∙ going.told.none thread thread_there thread)
        (subst (λ (z : WorkerValue). turn.starts ≡ worker_with_view (united z.stock.view (given_after (stake_parcel thread) seat)) z)
        told_mine turn.heard)
        (subst (λ (z : WorkerValue). SameLists (listed_in turn.starts.stock) (listed_in z.stock)) told_mine turn.lists)

    -- the phase of the line, and the record of the line
    abbrev at : ℕ
    at = phase_after 1 (take i t.lines)

    abbrev pub one : ToldRecord
    one = (turn.plays at).0

    mine_at : IsAtLine t i thread (worker_in workers thread)
    mine_at = going.each thread thread_there

    queue_at : IsQueueFor bytes t thread (going.waiting (i + 1) thread) (worker_in workers thread) (delay_in queues thread)
    queue_at = going.queued thread thread_there

    slots_are : (delay_in queues thread).slots ≡ going.waiting (i + 1) thread
    slots_are = ap (λ (z : QueueList). z.slots) queue_at.is

    lines_mine : map op_line_of (played_in (one ∷ [])) ≡ lines_in_turn InTurn t (i + 1 + 1) thread
    lines_mine =
        let number : i + 2 ≡ i + 1 + 1 = omega arith in
        let line : Rules → ℕ → OpLine = λ rules n. record { line = n; thread = thread; phase = at; rules = rules; op = op } in
        let same : op_at (rules_of t) (i + 1 + 1) at (Do thread op) thread ≡ line (rules_of t) (i + 1 + 1) ∷ [] =
        rw (eq-eqb thread thread refl) refl in
        ap (λ (o : OpLine). o ∷ []) ((turn.plays at).1 ∙ (ap (λ rules. line rules (i + 2)) mine_at.rules ∙ ap (line (rules_of t)) number))
        ∙ (sym same
        ∙ (ap (λ l. op_at (rules_of t) (i + 1 + 1) at l thread) (sym is)
        ∙ sym (turn_lines t i (i + 1 + 1) thread low (omega arith))))

    leads_mine : LeadsDelayed bytes turn.starts.stock (going.waiting (i + 1) thread) turn.ends.stock q.slots one
    leads_mine =
        let limit : (delay_in queues thread).limit ≡ bytes = ap (λ (z : QueueList). z.limit) queue_at.is in
        subst (λ n. LeadsDelayed n turn.starts.stock (going.waiting (i + 1) thread) turn.ends.stock q.slots one) limit
        (subst (λ hs. LeadsDelayed (delay_in queues thread).limit turn.starts.stock hs turn.ends.stock q.slots one) slots_are
        (turn.plays at).3)

    part_mine : HasPart bytes t (i + 1 + 1) thread seat mine (going.waiting (i + 1) thread) true turn.starts (one ∷ []) turn.ends q.slots
    part_mine = record {
      hears = hears_mine;
      plays = ((turn.ends, (turn.plays at).2, refl), lines_mine, turn.settled);
      none = λ waits. absurd cc;
      numbers = subst (λ hs. waiting_in turn.starts.stock hs ≡ waiting_in mine.stock hs) slots_are
          (turn.numbers
          ∙ (ap (λ (z : WorkerValue). waiting_in z.stock (delay_in queues thread).slots) told_mine
          ∙ numbers_told thread mine (delay_in queues thread).slots));
      holds = turn.holds;
      stays = λ none. absurd cc;
      leads = λ x same.
          let first : one ≡ x = cc in
          subst (λ z. LeadsDelayed bytes turn.starts.stock (going.waiting (i + 1) thread) turn.ends.stock q.slots z) first leads_mine;
    }

    -- ---- the others

    lines_other : (k : ℕ) → (k ≡ thread → ⊥) → lines_in_turn InTurn t (i + 1 + 1) k ≡ []
    lines_other k ne =
        let none : op_at (rules_of t) (i + 1 + 1) at (Do thread op) k ≡ [] = rw (ne_eqb thread k (λ e. ne (sym e))) refl in
        turn_lines t i (i + 1 + 1) k low (omega arith) ∙ (ap (λ l. op_at (rules_of t) (i + 1 + 1) at l k) is ∙ none)

    part_other : (k : ℕ) → k < t.threads → (k ≡ thread → ⊥) →
        HasPart bytes t (i + 1 + 1) k seat (worker_in going.ends k) (going.waiting (i + 1) k) false (worker_in going.ends k) []
        (worker_in going.ends k) (going.waiting (i + 1) k)
    part_other k few ne =
        let same = going.ended.ends k few in
        part_waits bytes t (i + 1 + 1) k seat (worker_in going.ends k) (going.waiting (i + 1) k) (lines_other k ne)
        (sym (ap (λ (z : WorkerValue). z.owed) same) ∙ going.ended.course.settled (i + 1) k (omega arith) (omega arith) few)
        (subst (λ (z : WorkerValue). HoldsQueue (going.waiting (i + 1) k) z.stock) same
        (going.delayed.holds (i + 1) k (omega arith) (omega arith) few))

    -- ---- all of them

    abbrev hears : ℕ → Bool
    hears k = eqb k thread

    abbrev pub starts : ℕ → WorkerValue
    starts k = if eqb k thread then turn.starts else worker_in going.ends k

    abbrev pub plays : ℕ → List ToldRecord
    plays k = if eqb k thread then one ∷ [] else []

    abbrev pub rest : ℕ → List Handle
    rest k = if eqb k thread then q.slots else going.waiting (i + 1) k

    pub rest_mine : (k : ℕ) → k ≡ thread → rest k ≡ q.slots
    rest_mine k e = rw (eq-eqb k thread e) refl

    pub rest_other : (k : ℕ) → (k ≡ thread → ⊥) → rest k ≡ going.waiting (i + 1) k
    rest_other k ne = rw (ne_eqb k thread ne) refl

    all_parts : (k : ℕ) → k < t.threads →
        HasPart bytes t (i + 1 + 1) k seat (worker_in going.ends k) (going.waiting (i + 1) k) (hears k) (starts k) (plays k)
        (worker_in after k) (rest k)
    all_parts k few = elim (cases_eq k thread) [
      | inl e ↦
          subst
          (λ j. HasPart bytes t (i + 1 + 1) j seat (worker_in going.ends j) (going.waiting (i + 1) j) (hears j) (starts j) (plays j)
          (worker_in after j) (rest j)) (sym e)
          (let yes = eq-eqb thread thread refl in
          part_as true (hears thread) turn.starts (starts thread) (one ∷ []) (plays thread) turn.ends (worker_in after thread) q.slots
          (rest thread) yes (rw yes refl) (rw yes refl) after_mine (rest_mine thread refl) part_mine)
      | inr ne ↦
          let no = ne_eqb k thread ne in
          part_as false (hears k) (worker_in going.ends k) (starts k) [] (plays k) (worker_in going.ends k) (worker_in after k)
          (going.waiting (i + 1) k) (rest k) no (rw no refl) (rw no refl) (after_other k ne) (rest_other k ne) (part_other k few ne)
    ]

    pub told_again : IsMain t.threads next × HasHeardAll t.threads (worker_in after) next × HasSeenAll seat next
    told_again =
        let seat_is : next ≡ lent_again thread seat (worker_in after thread) =
        turn.seat ∙ ap (lent_again thread seat) (sym after_mine) in
        subst (λ (v : View). IsMain t.threads v × HasHeardAll t.threads (worker_in after) v × HasSeenAll seat v) (sym seat_is)
        (one_lends_again t.threads thread (worker_in going.ends) (worker_in after) seat going.main heard_before thread_there
        (ap (λ (z : WorkerValue). z.stock.thread) after_mine ∙ turn.same.0)
        (subst (λ (z : WorkerValue). 0 < stake_of z.stock.view z.stock.thread) (sym after_mine) turn.keeps.stake)
        (λ k few ne. after_other k ne) (subst IsAware seat_is turn.aware))

    -- the execution with this turn
    pub grown_turn : (d : Course) × HasGrown InTurn t (i + 1) going.course d starts plays (worker_in after) next
        × IsDelayedCourse bytes t (i + 1 + 1) d (with_row (i + 1 + 1) rest going.waiting)
    grown_turn =
        turn_grows bytes t (i + 1) going.course going.waiting (worker_in going.ends) seat next hears starts plays (worker_in after) rest
        (omega arith) going.ended going.delayed all_parts told_again.1 told_again.2

    -- the workers when it lent its stake again
    pub told_now : HaveTold t.threads after (set workers thread w)
    told_now =
        let there : thread < length workers = (let m = going.many in let l = thread_there in omega arith) in
        let now_mine : worker_in (set workers thread w) thread ≡ w = get_or-set_same workers thread w no_worker there in
        let now_other : (k : ℕ) → (k ≡ thread → ⊥) → worker_in (set workers thread w) k ≡ worker_in workers k =
        λ k ne. get_or-set_other workers thread k w no_worker ne in
        record {
          told = λ k few. elim (cases_eq k thread) [
            | inl e ↦
                subst (λ j. worker_in (set workers thread w) j ≡ told_worker j (worker_in after j)) (sym e)
                (now_mine ∙ (turn.told ∙ ap (told_worker thread) (sym after_mine)))
            | inr ne ↦ now_other k ne ∙ (going.told.told k few ∙ ap (told_worker k) (sym (after_other k ne)))
          ];
          none = λ k few j. elim (cases_eq k thread) [
            | inl e ↦
                subst (λ m. stake_of (worker_in (set workers thread w) m).stock.view j ≡ 0) (sym e)
                (ap (λ (z : WorkerValue). stake_of z.stock.view j) now_mine ∙ turn.none j)
            | inr ne ↦ ap (λ (z : WorkerValue). stake_of z.stock.view j) (now_other k ne) ∙ going.told.none k few j
          ];
          others = λ k past.
              let l = thread_there in
              now_other k (λ e. omega arith) ∙ (going.told.others k past ∙ sym (after_other k (λ e. omega arith)));
        }
