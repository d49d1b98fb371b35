-- What the layers say of lists, logs, exchanges, what was seen, the pool, the roots and steps gives what the laws require of them.
use Rattle.std.proofs.Common.{◌≡◌, ◌≢◌, ℕ, ◌<◌, ◌≤◌, List, [], ◌∷◌, ◌++◌, map, sym, ◌∙◌, ap, subst, arith, inl, inr}
use Rattle.std.specs.Prelude.{Contains, AllPairs}
use Rattle.std.proofs.lemmas.List.Elements.{Contains-append_left, Contains-append_right}
use Rattle.pa_slot.specs.declared.title.Title.{Title}
use Rattle.pa_slot.specs.declared.word.SlotName.{SlotName}
use Rattle.pa_slot.specs.Run.{Slots}
use Rattle.pa_trace.specs.Rules.{rules_of}
use Rattle.pa_region.specs.declared.view.View.{View}
use Rattle.pa_region.specs.History.{Done}
use Rattle.pa_region.specs.Lists.{list_of}
use Rattle.pa_trace.specs.declared.script.Trace.{Trace}
use Rattle.pa_trace.specs.declared.script.Op.TheVariants as ops
use Rattle.pa_trace.specs.Limits.{IsOpWithin}
use Rattle.pa_lists.proofs.Joined.{map_in, filter_cases}
use Rattle.pa_lists.proofs.Members.{first_in}
use Rattle.pa_lists.proofs.Pairs.{pairs_none, pairs_cons, pairs_head, pairs_tail}
use Rattle.pa_rules.specs.declared.played.Played.{Played}
use Rattle.pa_rules.specs.Played.{AreLines, marks_of}
use Rattle.pa_rules.specs.Order.{StandsBefore}
use Rattle.pa_rules.specs.Roots.{AreRoots, IsPoolOf}
use Rattle.pa_rules.specs.Told.{Told}
use Rattle.pa_rules.specs.Legal.{phases_in}
use Rattle.pa_rules.proofs.Recorded.{records_are_lines}
use Rattle.pa_rules.proofs.Ruling.{told_once}
use Rattle.pa_rules.proofs.Running.{one_by}
use Rattle.pa_logs.specs.Told.{ToldRecord, played_in, is_until, told_until}
use Rattle.pa_logs.specs.Listed.{line_of, IsListOf, AreRising, HasCuts}
use Rattle.pa_logs.specs.Reads.{KnowsAll, HaveEnds}
use Rattle.pa_logs.specs.Seats.{AreOfThreads}
use Rattle.pa_logs.specs.Steps.{AreSteps}
use Rattle.pa_logs.specs.Touches.{title_of}
use Rattle.pa_logs.specs.Viewed.{AreViewed}
use Rattle.pa_logs.specs.Swaps.{SwapMade, AreSwapped, AreAnswered}
use Rattle.pa_logs.specs.Indices.{IsSwapAt, AreLists}
use Rattle.pa_logs.specs.Said.{sizes_in, HasLogs, EndsPhase, LayersSay}
use Rattle.pa_logs.proofs.Due.{IsWithin, records_due, told_rise}
use Rattle.pa_logs.proofs.Histories.{histories_follow}
use Rattle.pa_logs.proofs.Indexing.{indices_follow}
use Rattle.pa_logs.proofs.Layering.{layers_follow}
use Rattle.pa_logs.proofs.Listing.{lines_have_theirs}
use Rattle.pa_logs.proofs.Seating.{seats_know}
use Rattle.pa_logs.proofs.Slots.{slots_follow}
use Rattle.pa_logs.proofs.Swapping.{Apart, apart, swaps_follow}

-- exchanges with entries on different lines
swaps_apart : (ss : List SwapMade) → AllPairs Apart (map (λ (s : SwapMade). s.made) ss) →
    AllPairs (λ (a b : SwapMade). line_of a.made ≢ line_of b.made) ss
swaps_apart [] h = pairs_none (λ (a b : SwapMade). line_of a.made ≢ line_of b.made)
swaps_apart (s ∷ ss) h =
    let all = map (λ (z : SwapMade). z.made) ss in
    pairs_cons (λ (a b : SwapMade). line_of a.made ≢ line_of b.made) s ss
    (λ u among. pairs_head Apart s.made u.made all h (map_in (λ (z : SwapMade). z.made) ss u among))
    (swaps_apart ss (pairs_tail Apart s.made all h))

module _ (t : Trace) (r : Told) (v : View) (ts : List ToldRecord) (says : LayersSay t r v ts) where
  pub are_lines : AreLines (rules_of t) t.lines (played_in ts)
  are_lines = subst (λ ps. AreLines (rules_of t) t.lines ps) (sym says.runner.records)
      (records_are_lines.lines (rules_of t) t.lines r.entries says.runner.due)

  pub rising : AreRising ts
  rising = told_rise t ts are_lines

  pub within : (x : ToldRecord) → Contains ts x → IsWithin t x.played
  within x among = records_due t (played_in ts) x.played says.runner.limits are_lines (map_in (λ (z : ToldRecord). z.played) ts x among)

  of_threads : AreOfThreads ts
  of_threads x among =
      let below = (within x among).thread in
      let few = says.runner.limits.head.2.1 in
      omega arith

  -- the records up to a phase are of these
  before : (n : ℕ) (x : ToldRecord) → Contains (told_until n ts) x → Contains ts x
  before n x among = (filter_cases (is_until n) ts x among).0

  -- a seat with every stake knows all logs, and its lists are the records'
  knows_of : (w : View) (xs : List ToldRecord) → AreOfThreads xs → HasLogs w xs → KnowsAll w xs
  knows_of w xs few has = seats_know.logs w xs has.aware has.every few has.logs

  pub knows : KnowsAll v ts
  knows = knows_of v ts of_threads says.runner.has

  pub list_is : (q : ℕ) → q < 6 → IsListOf q (list_of q v) ts
  list_is q few = seats_know.lists q v ts says.runner.has.aware knows.logs (says.heap.lines q few)

  -- at the end of each phase
  phase_knows : (n : ℕ) (w : View) → EndsPhase n w v ts → KnowsAll w (told_until n ts)
  phase_knows n w end = knows_of w (told_until n ts) (λ x among. of_threads x (before n x among)) end.has

  pub have_ends : HaveEnds ts
  have_ends x among =
      let is = within x among in
      let n = x.played.phase in
      (says.seats n, phase_knows n (says.seats n) (says.runner.ends n is.low is.high))

  pub cut_at : (q n : ℕ) → q < 6 → 1 ≤ n → n ≤ phases_in t.lines → IsListOf q (list_of q (says.seats n)) (told_until n ts)
  cut_at q n few low high =
      let end = says.runner.ends n low high in
      seats_know.lists q (says.seats n) (told_until n ts) end.has.aware (phase_knows n (says.seats n) end).logs
      (λ x m among. says.heap.lines q few x m (before n x among))

  pub cuts : (q : ℕ) → q < 6 → HasCuts q (list_of q v) ts
  cuts q few x among =
      let is = within x among in
      let n = x.played.phase in
      let (rest, begins) = (says.runner.ends n is.low is.high).begins q few in
      (list_of q (says.seats n), rest, begins, cut_at q n few is.low is.high)

  pub are_lists : AreLists (λ q. list_of q v) r.pools r.roots ts
  are_lists = record {
    is = λ q few. list_is q (omega arith);
    rising = rising;
    journals = says.roots.lists;
    past = λ p four. let most = says.runner.limits.head.1.1 in says.roots.none_past p (omega arith);
    pool = says.pool.list;
  }

  -- ---- exchanges

  swap_in : (x : ToldRecord) (k : ℕ) (at : IsSwapAt says.swaps x k) → Contains says.swaps at.swap
  swap_in x k at = subst (λ ss. Contains ss at.swap) (sym at.begins)
      (Contains-append_left (at.older ++ at.swap ∷ []) at.rest at.swap
      (Contains-append_right at.older (at.swap ∷ []) at.swap (first_in at.swap [])))

  made_in : (s : SwapMade) → Contains says.swaps s → Contains (list_of 5 v) s.made
  made_in s among = subst (λ ms. Contains ms s.made) (sym says.cells.swaps_are.list_is)
      (map_in (λ (z : SwapMade). z.made) says.swaps s among)

  pub swapped : AreSwapped (list_of 5 v) r.cells says.swaps ts
  swapped = record {
    is = list_is 5 (omega arith);
    cuts = cuts 5 (omega arith);
    rising = rising;
    swaps_are = says.cells.swaps_are;
    one_each = says.cells.one_each;
    has = λ x among exchanged.
        let (k, reg, op) = exchanged in
        let at = says.cells.answers x k reg among op in
        (at.swap.made, made_in at.swap (swap_in x k at), at.line);
    rises = says.runner.has.aware.rises 5;
    gives = says.cells.gives;
  }

  -- an exchange is that of its record
  pub answered : AreAnswered r.cells says.swaps ts
  answered = record {
    chain = says.cells.chain;
    made = λ s among.
        let is = list_is 5 (omega arith) in
        let (x, there, thread, entered) = lines_have_theirs.each 5 (list_of 5 v) ts s.made is (made_in s among) in
        let (k, reg, op) = says.cells.only x s.made there entered in
        let at = says.cells.answers x k reg there op in
        let line : line_of s.made ≡ x.played.line = is.lines x s.made there entered in
        let differ = swaps_apart says.swaps
        (subst (λ ms. AllPairs Apart ms) says.cells.swaps_are.list_is (apart (list_of 5 v) r.cells says.swaps ts swapped)) in
        let one : at.swap ≡ s = one_by (λ (z : SwapMade). line_of z.made) says.swaps at.swap s differ (swap_in x k at) among
        (at.line ∙ sym line) in
        let cell : k ≡ s.cell = sym at.cell ∙ ap (λ (z : SwapMade). z.cell) one in
        (x, reg, there, sym line ∙ says.cells.swaps_are.lines s among, op ∙ ap (λ n. ops.Swap n reg) cell);
    answers = λ x k reg among op. indices_follow.swapped (list_of 5 v) r.cells says.swaps x k says.cells.swaps_are
        (says.cells.answers x k reg among op);
  }

  -- ---- what was seen

  stands_seen : (x y : ToldRecord) (u : Title) → Contains ts x → Contains ts y → StandsBefore x.played y.played → x.gives u ≤ y.saw u
  stands_seen x y u first second (inl (thread, less)) = says.heap.seen.thread x y u first second thread less
  stands_seen x y u first second (inr late) = says.runner.phases x y u first second late

  pub viewed : AreViewed r.cells ts
  viewed = record {
    steps = says.heap.seen.steps;
    looks = says.heap.seen.looks;
    grows = says.heap.seen.grows;
    stands = stands_seen;
    hands = λ x y u first second hands. swaps_follow.hands (list_of 5 v) r.cells says.swaps ts x y u swapped first second hands;
  }

  -- ---- the pool, the roots and the slots

  pub pool : IsPoolOf t.region (played_in ts) r.pools r.roots
  pool = layers_follow.pool t.region (λ q. list_of q v) r.pools r.roots ts
      (record { lists_are = are_lists; asked = says.pool.asked; fits = says.pool.fits; cuts = cuts 4 (omega arith) })

  -- the partition of a request is one of the first four
  partition_small : (x : ToldRecord) (reg p size : ℕ) → Contains ts x → x.played.op ≡ ops.Alloc reg p size → p < 4
  partition_small x reg p size among op =
      let most = says.runner.limits.head.1.1 in
      let is : IsOpWithin t.partitions (ops.Alloc reg p size) = subst (λ o. IsOpWithin t.partitions o) op (within x among).op in
      let below = is.1 in
      omega arith

  -- all records are played by the trace's rules
  one : (x y : Played) → Contains (played_in ts) x → Contains (played_in ts) y → x.rules ≡ y.rules
  one = subst (λ xs. (x y : Played) → Contains xs x → Contains xs y → x.rules ≡ y.rules) (sym says.runner.records) (told_once t r)

  pub roots : AreRoots t.partitions (played_in ts) r.pools r.roots
  roots = layers_follow.roots t.partitions (λ q. list_of q v) r.pools r.roots ts (record {
    one = one;
    lists_are = are_lists;
    journals = says.roots.journals;
    makes = says.roots.makes;
    cuts = λ p few. cuts p (omega arith);
    none_past = says.roots.none_past;
    refused = λ x j reg p size among answer op. (partition_small x reg p size among op, says.roots.refused x j reg p size among answer op);
  })

  -- the history of a slot, by the logs
  abbrev pub history : SlotName → List Done
  history s = knows.all.history (title_of (sizes_in t r) s)

  pub steps : (s : SlotName) → AreSteps (played_in ts) s (history s)
  steps s = histories_follow (sizes_in t r) v ts knows.all.history knows.logs says.heap.told knows.all.chain s

  pub slots : Slots (marks_of (played_in ts))
  slots = slots_follow (played_in ts) history steps
