-- The run that an execution became fits each worker: what its seat has seen of the lists is in it, and the acts of a line are those
-- that its record entered.
use Rattle.std.proofs.Common.{◌≡◌, ℕ, zero, suc, ◌<◌, ◌≤◌, List, [], ◌∷◌, ◌++◌, length, map, Some, slice_get, refl, sym, ◌∙◌, ap, subst, arith, inl, inr}
use Rattle.std.specs.Prelude.{Contains}
use Rattle.std.proofs.lemmas.Bool.{cases_lt}
use Rattle.pa_lists.proofs.Members.{in_cases, not_in_none, first_in, later_in}
use Rattle.pa_lists.proofs.Joined.{map_in}
use Rattle.std.proofs.lemmas.List.{append_assoc}
use Rattle.pa_record.specs.declared.pool.PoolEntry.{PoolEntry}
use Rattle.pa_record.specs.declared.root.RootEntry.{RootEntry}
use Rattle.pa_record.specs.Numbers.{root_numbers, pool_numbers}
use Rattle.pa_record.proofs.OneEntry.{one_root, one_pool, one_cell}
use Rattle.pa_region.specs.declared.view.Made.{Made}
use Rattle.pa_region.specs.declared.view.View.{View}
use Rattle.pa_region.specs.Lists.{list_of, IsBeginning}
use Rattle.pa_trace.specs.declared.script.Rules.{Rules}
use Rattle.pa_trace.specs.declared.script.Trace.{Trace}
use Rattle.pa_trace.specs.Rules.{rules_of}
use Rattle.pa_rules.specs.Roots.{Names}
use Rattle.pa_rules.specs.Told.{Told}
use Rattle.pa_rules.proofs.Ruling.{record_rules}
use Rattle.pa_logs.specs.Told.{ToldRecord, AreLogs, played_in}
use Rattle.pa_logs.specs.Listed.{IsListOf}
use Rattle.pa_logs.specs.Seats.{AreOfThreads, AreOfLines}
use Rattle.pa_logs.specs.Indices.{StandsAt, AreAsked, AreLists}
use Rattle.pa_logs.proofs.Indexing.{entry_there, indices_follow}
use Rattle.pa_logs.proofs.Listing.{acts_are_theirs, lines_have_theirs}
use Rattle.pa_logs.proofs.Seating.{seats_know}
use Rattle.pa_cells.specs.Cells.{Exchange, made_with_cell}
use Rattle.pa_cells.proofs.Histories.{stands_at}
use Rattle.pa_op_specs.specs.Outcomes.{IsOutcome, IsSeenOf, FillsFrom}
use Rattle.pa_op_specs.specs.Plays.{AnswersIn}
use Rattle.pa_op_specs.specs.Following.{FitsAll}
use Rattle.pa_op_specs.proofs.Following.{seen_before}
use Rattle.pa_execution.specs.Turns.{Manner, turns_in}
use Rattle.pa_execution.specs.Courses.{Course, HasSeenAll}
use Rattle.pa_execution.specs.Merged.{told_by_turns, outcome_of}
use Rattle.pa_execution.specs.Telling.{IsWholeRunBy}
use Rattle.pa_execution.proofs.Bounding.{courses_leave_none_past}
use Rattle.pa_execution.proofs.Chaining.{was_played, starts_of, sees_last, has_last}
use Rattle.pa_execution.proofs.Grouping.{told_turn, are_lines, rising, within, turn_low, turn_high, in_group, from_group}
use Rattle.pa_execution.proofs.Leading.{answer_of}
use Rattle.pa_execution.proofs.Lengthening.{handed_out, handed_home}
use Rattle.pa_execution.proofs.Playing.{HasPlayed, sees_then}
use Rattle.pa_lists.proofs.Indexed.{slice_get_at}

-- an entry at its place of a list, as what the list is in numbers has it
numbered_at : {A : Type 0} (numbers : A → List ℕ) (list older rest : List Made) (es : List A) (m : Made) (e : A) →
    ((a b : A) → numbers a ≡ numbers b → a ≡ b) →
    map (λ (n : Made). n.numbers) list ≡ map numbers es → list ≡ older ++ m ∷ rest → m.numbers ≡ numbers e →
    slice_get es (length older) ≡ Some e
numbered_at numbers list older rest es m e one same at says =
    let (f, there, is) = entry_there numbers list es (length older) m same
    (ap (λ l. slice_get l (length older)) at ∙ slice_get_at older rest m) in
    there ∙ ap Some (one f e (sym is ∙ says))

-- entries that are none in numbers are none
none_numbered : (es : List RootEntry) → map root_numbers es ≡ [] → es ≡ []
none_numbered [] none = refl
none_numbered (e ∷ es) none = absurd cc

-- an entry that a list in numbers has is one of its entries
from_numbers : (list : List Made) (es : List RootEntry) (e : RootEntry) → map (λ (n : Made). n.numbers) list ≡ map root_numbers es →
    Contains es e →
    (m : Made) × Contains list m × (m.numbers ≡ root_numbers e)
from_numbers list [] e same among = absurd (not_in_none e among)
from_numbers [] (f ∷ es) e same among = absurd cc
from_numbers (m ∷ ms) (f ∷ es) e same among =
    let head : m.numbers ≡ root_numbers f = cc in
    let tail : map (λ (n : Made). n.numbers) ms ≡ map root_numbers es = cc in
    elim (in_cases f e es among) [
      | inl is ↦ (m, first_in m ms, head ∙ ap root_numbers is)
      | inr later ↦ (let (n, there, says) = from_numbers ms es e tail later in (n, later_in m n ms there, says))
    ]

-- what is in a list is in a longer one
pub stands_longer : (list longer : List Made) (m : Made) (i : ℕ) → IsBeginning list longer → StandsAt list m i → StandsAt longer m i
stands_longer list longer m i (more, e) s = record {
  older = s.older;
  rest = s.rest ++ more;
  begins = e ∙ (ap (λ l. l ++ more) s.begins ∙ append_assoc (s.older ++ m ∷ []) s.rest more);
  index_is = s.index_is;
}

module _ (way : Manner) (t : Trace) (r : Told) (c : Course) (v : View) (xs : List Exchange) (run : IsWholeRunBy way t r c v xs) where
  abbrev pub turns : ℕ
  turns = turns_in way t

  abbrev pub ts : List ToldRecord
  ts = told_by_turns way t c

  -- how a record was played in its turn, and what the closing seat has seen of it
  pub played : (x : ToldRecord) → Contains ts x →
      HasPlayed (c.starts (told_turn way x) x.played.thread) (c.ends (told_turn way x) x.played.thread) x
  played = was_played way t c run.left.limits run.course

  pub end_sees : (n k : ℕ) → 1 ≤ n → n ≤ turns → k < t.threads → HasSeenAll (c.ends n k).stock.view v
  end_sees n k low high few =
      sees_then (c.ends n k).stock.view (c.seats n) v ((run.course.tells n low high).sees k few)
      (sees_last way t c run.left.limits run.course v run.closes n low high)

  pub then_sees : (x : ToldRecord) (among : Contains ts x) → HasSeenAll (played x among).after.stock.view v
  then_sees x among =
      let p = played x among in
      sees_then p.after.stock.view (c.ends (told_turn way x) x.played.thread).stock.view v p.last
      (end_sees (told_turn way x) x.played.thread (turn_low way t c run.left.limits run.course x among)
      (turn_high way t c run.left.limits run.course x among) (within way t c run.left.limits run.course x among).thread)

  -- ---- the lists

  pub of_threads : AreOfThreads ts
  of_threads x among =
      let few = (within way t c run.left.limits run.course x among).thread in
      let most = run.left.limits.head.2.1 in
      omega arith

  pub of_lines : (q : ℕ) → AreOfLines q ts
  of_lines q x m among entered = (played x among).one.does.enters.lines q m entered

  are_logs : AreLogs v ts
  are_logs =
      let has = has_last way t c run.left.limits run.course v run.closes in
      (seats_know.logs v ts has.aware has.every of_threads has.logs).logs

  list_is : (q : ℕ) → IsListOf q (list_of q v) ts
  list_is q = seats_know.lists q v ts run.closes.aware are_logs (of_lines q)

  -- no journal is of a partition past the run's
  pub none_past : (p : ℕ) → t.partitions ≤ p → r.roots p ≡ []
  none_past p past = elim (cases_lt p 4) [
    | inl low ↦
        none_numbered (r.roots p) (sym (run.left.lists p low)
        ∙ ap (λ l. map (λ (m : Made). m.numbers) l) (courses_leave_none_past way t c v run.left.limits run.course run.closes p past low))
    | inr far ↦ run.left.past p far
  ]

  pub are_lists : AreLists (λ q. list_of q v) r.pools r.roots ts
  are_lists = record {
    is = λ q few. list_is q;
    rising = rising way t c run.left.limits run.course;
    journals = run.left.lists;
    past = run.left.past;
    pool = run.left.pool;
  }

  pub asked : AreAsked (list_of 4 v) ts
  asked x among =
      let p = played x among in
      let (it, how) = p.one.does.enters.asked in (
        it,
        elim how [
          | inl none ↦ inl none
          | inr once ↦ inr (record {
            made = once.made;
            pool = once.pool;
            entry = once.entry;
            index = once.index;
            made_is = once.made_is;
            pools = once.pools;
            small = once.small;
            asked = once.asked;
            others = once.others;
            names = once.names;
            stands = stands_longer (list_of 4 p.after.stock.view) (list_of 4 v) once.made once.index
                ((then_sees x among).lists 4) once.stands;
          })
        ],
      )

  -- ---- the run fits

  once : (j p q i k : ℕ) (e : PoolEntry) → slice_get r.pools j ≡ Some e → Names r.roots p i j → Names r.roots q k j → (p ≡ q) × (i ≡ k)
  once j p q i k e at first second = indices_follow.once (λ n. list_of n v) r.pools r.roots ts j p q i k e are_lists asked at first second

  -- all records are played by the trace's rules
  pub by_rules : (x : ToldRecord) → Contains ts x → x.played.rules ≡ rules_of t
  by_rules x among =
      record_rules (rules_of t) t.lines (played_in ts) x.played (are_lines way t c run.left.limits run.course)
      (map_in (λ (z : ToldRecord). z.played) ts x among)

  -- journals fill from the classes of the trace's version alone, since each fill is of a record
  fills : (p : ℕ) (e : RootEntry) → Contains (r.roots p) e → FillsFrom t.version e.act
  fills p e among = elim (cases_lt p 4) [
    | inl low ↦
        let (m, there, says) = from_numbers (list_of p v) (r.roots p) e (run.left.lists p low) among in
        let (x, member, of, entered) = lines_have_theirs.each p (list_of p v) ts m (list_is p) there in
        subst (λ (k : Rules). FillsFrom k.version e.act) (by_rules x member)
        ((played x member).one.does.enters.fills p m e low entered says)
    | inr far ↦ absurd (not_in_none e (subst (λ (es : List RootEntry). Contains es e) (run.left.past p far) among))
  ]

  pub is_outcome : IsOutcome (outcome_of t r)
  is_outcome = record {
    few = run.left.limits.head.1.1;
    past = none_past;
    fills = fills;
    lengths = λ p e class u among out. handed_out t.partitions r.pools r.roots run.left.journals none_past once p e class u among out;
    homes = λ p e class u among out. handed_home t.partitions r.pools r.roots run.left.journals none_past once p e class u among out;
  }

  pub seen_of_it : IsSeenOf (outcome_of t r) v
  seen_of_it = record {
    roots = λ p older rest m e low at says. numbered_at root_numbers (list_of p v) older rest (r.roots p) m e one_root
        (run.left.lists p low) at says;
    pools = λ older rest m e at says. numbered_at pool_numbers (list_of 4 v) older rest r.pools m e one_pool run.left.pool at says;
    exchanges = λ older rest m e at says.
        ap (λ es. slice_get es (length (made_with_cell e.cell older))) (run.left.cells e.cell)
        ∙ stands_at one_cell older rest m e xs (ap (λ l. map (λ (n : Made). n.numbers) l) (sym at) ∙ run.left.exchanges) says;
  }

  pub fits : (n k : ℕ) → 1 ≤ n → n ≤ turns → k < t.threads →
      FitsAll (outcome_of t r) (c.starts n k).stock.partitions (c.ends n k).stock.view (c.plays n k)
  fits n k low high few = record {
    many = sym (starts_many n k low high few);
    rules = λ x among. by_rules x (from_group way t c run.left.limits run.course n k x low high few among);
    run = is_outcome;
    seen = seen_before (outcome_of t r) (c.ends n k).stock.view v (end_sees n k low high few).lists seen_of_it;
    acts = λ x among p entries small same.
        acts_are_theirs p (list_of p v) r.roots ts x entries (list_is p) (run.left.lists p small)
        (rising way t c run.left.limits run.course)
        (from_group way t c run.left.limits run.course n k x low high few among) same;
  }
    where
      starts_many : (n k : ℕ) → 1 ≤ n → n ≤ turns → k < t.threads → (c.starts n k).stock.partitions ≡ t.partitions
      starts_many zero k low high few = absurd (omega arith)
      starts_many (suc n) k low high few = (starts_of way t c run.left.limits run.course k n high few).many

  -- each record is what the run requires of it, by its thread's state before it and after it
  pub answer : (x : ToldRecord) (among : Contains ts x) →
      AnswersIn (outcome_of t r) (played x among).before.stock (played x among).after.stock x
  answer x among =
      answer_of (outcome_of t r) (c.starts (told_turn way x) x.played.thread) (c.ends (told_turn way x) x.played.thread)
      (c.plays (told_turn way x) x.played.thread) x (played x among)
      (fits (told_turn way x) x.played.thread (turn_low way t c run.left.limits run.course x among)
      (turn_high way t c run.left.limits run.course x among) (within way t c run.left.limits run.course x among).thread)
      (in_group way t c run.left.limits run.course x among)
