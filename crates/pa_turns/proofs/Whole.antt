-- A run whose lines are played one after the other is in the order of its lines.
use Rattle.std.proofs.Common.{◌≡◌, ℕ, ◌<◌, List, slice_get, Some, ◌∙◌, ap, subst, arith, inl, inr}
use Rattle.std.specs.Prelude.{Contains}
use Rattle.std.specs.List.Sorted.{IsNonDecreasingBy}
use Rattle.std.proofs.lemmas.Bool.{cases_lt}
use Rattle.pa_trace.specs.declared.script.Trace.{Trace}
use Rattle.pa_trace.specs.Rules.{rules_of}
use Rattle.pa_record.specs.declared.history.CellEntry.{CellEntry}
use Rattle.pa_record.specs.declared.pool.PoolEntry.{PoolEntry}
use Rattle.pa_record.specs.declared.root.RootEntry.{RootEntry}
use Rattle.pa_lists.proofs.Joined.{map_cases, map_in}
use Rattle.pa_lists.proofs.Members.{not_some}
use Rattle.pa_rules.specs.declared.played.Played.{Played}
use Rattle.pa_rules.specs.FileOrder.{AreCellsInFileOrder}
use Rattle.pa_rules.specs.Order.{IsOfLine, StandsBefore}
use Rattle.pa_rules.specs.Played.{mark_of, marks_of}
use Rattle.pa_rules.specs.Told.{Told}
use Rattle.pa_rules.proofs.Marking.{mark_line}
use Rattle.pa_rules.proofs.Numbering.{lines_rise}
use Rattle.pa_rules.proofs.Running.{mark_from}
use Rattle.pa_one_run.proofs.OneThread.{FindsNoLess, numbers}
use Rattle.pa_one_run.proofs.lines.Sorting.{sorted_by, rises_by}
use Rattle.pa_one_run.proofs.words.Marks.{marks_rise}
use Rattle.pa_region.specs.declared.view.View.{View}
use Rattle.pa_region.specs.Lists.{list_of}
use Rattle.pa_logs.specs.Told.{ToldRecord, played_in}
use Rattle.pa_logs.specs.InTurn.{TurnsSay}
use Rattle.pa_logs.specs.Said.{LayersSay}
use Rattle.pa_logs.proofs.Celling.{cells_follow}
use Rattle.pa_logs.proofs.Orders.{orders_follow}
use Rattle.pa_logs.proofs.Saying.{are_lines, are_lists, swapped, answered, pool, roots, slots}
use Rattle.pa_logs.proofs.Swapping.{swaps_follow}
use Rattle.pa_turns.specs.Laws.{TurnsAreInOrder}
use Rattle.pa_turns.proofs.Reading.{exact_contents}
use Rattle.pa_turns.proofs.Turned.{turned, in_turn, in_lines, list_is, cuts, exchanged, no_less}

module _ (t : Trace) (r : Told) (v : View) (ts : List ToldRecord) (seats : ℕ → View) (says : LayersSay t r v ts)
    (turns : TurnsSay v ts seats) where
  abbrev ps : List Played
  ps = played_in ts

  -- Entries are in the order of their lines, if each is of a record, and they are in the order of the records with their lines in place
  -- of their phases.
  sorted : {E : Type 0} (line : E → ℕ) (es : List E) →
      ((i : ℕ) (e : E) → slice_get es i ≡ Some e → (x : Played) × IsOfLine ps (line e) x) →
      ((x y : ToldRecord) (i j : ℕ) (e f : E) → Contains (in_turn ts) x → Contains (in_turn ts) y → slice_get es i ≡ Some e →
      slice_get es j ≡ Some f → x.played.line ≡ line e → y.played.line ≡ line f → StandsBefore x.played y.played → i < j) →
      IsNonDecreasingBy line es
  sorted line es named ordered = sorted_by line es (λ i j e f at_i at_j less.
      let (x, of) = named i e at_i in
      let (y, of') = named j f at_j in
      let (z, first, is) = map_cases (λ (w : ToldRecord). w.played) ts x of.0 in
      let (w, second, is') = map_cases (λ (w : ToldRecord). w.played) ts y of'.0 in
      let a : z.played.line ≡ line e = ap (λ (p : Played). p.line) is ∙ of.1 in
      let b : w.played.line ≡ line f = ap (λ (p : Played). p.line) is' ∙ of'.1 in
      ordered (turned z) (turned w) i j e f (map_in turned ts z first) (map_in turned ts w second) at_i at_j a b (inr (omega arith)))

  -- ---- entries and exchanges

  journals : (p : ℕ) → IsNonDecreasingBy (λ (e : RootEntry). e.line) (r.roots p)
  journals p = sorted (λ (e : RootEntry). e.line) (r.roots p)
      (λ i e at. let (x, of, makes) = (roots t r v ts says).lines p i e at in (x, of))
      (λ x y i j e f first second at_i at_j. elim (cases_lt p 4) [
        | inl few ↦ orders_follow.journal p (list_of p v) (r.roots p) (in_turn ts) x y i j e f
            (list_is t r v ts seats says turns p (omega arith)) (cuts t r v ts seats says turns p (omega arith))
            (in_lines t r v ts seats says turns) (says.roots.lists p few) first second at_i at_j
        | inr past ↦ absurd (not_some e (subst (λ es. slice_get es i ≡ Some e) ((are_lists t r v ts says).past p past) at_i))
      ])

  pool_sorted : IsNonDecreasingBy (λ (e : PoolEntry). e.line) r.pools
  pool_sorted = sorted (λ (e : PoolEntry). e.line) r.pools
      (λ i e at.
      let (k, f, entry, asks, line) = (pool t r v ts says).named i e at in
      let (x, of, makes) = (roots t r v ts says).lines e.partition k f entry in
      (x, (of.0, of.1 ∙ line)))
      (λ x y i j e f first second at_i at_j. orders_follow.pool (list_of 4 v) r.pools (in_turn ts) x y i j e f
      (list_is t r v ts seats says turns 4 (omega arith)) (cuts t r v ts seats says turns 4 (omega arith))
      (in_lines t r v ts seats says turns) says.pool.list first second at_i at_j)

  exchanges : AreCellsInFileOrder r.cells
  exchanges k =
      let are = cells_follow (list_of 5 v) r.cells says.swaps ts (swapped t r v ts says) (answered t r v ts says) in
      rises_by (λ (e : CellEntry). e.line) (r.cells k)
      (sorted (λ (e : CellEntry). e.line) (r.cells k) (λ i e at. let (x, reg, of, op) = are.lines k i e at in (x, of))
      (λ x y i j e f first second at_i at_j. swaps_follow.order (list_of 5 v) r.cells says.swaps (in_turn ts) k i j e f x y
      (exchanged t r v ts seats says turns) at_i at_j first second))
      (λ i j e f at_i at_j same. (are.different k k i j e f at_i at_j same).1)

  -- ---- numbers

  finds_no_less : FindsNoLess (marks_of ps)
  finds_no_less m n first second less slot =
      let (x, among, is) = mark_from ps m first in
      let (y, among', is') = mark_from ps n second in
      let (z, there, e) = map_cases (λ (w : ToldRecord). w.played) ts x among in
      let (w, there', f) = map_cases (λ (w : ToldRecord). w.played) ts y among' in
      let mine = ap mark_of e ∙ is in
      let other = ap mark_of f ∙ is' in
      let a = mark_line z.played m mine in
      let b = mark_line w.played n other in
      no_less t r v ts seats says turns z w m n there there' (omega arith) mine other slot

pub turns_are_in_order : TurnsAreInOrder
turns_are_in_order t r v ts seats says turns =
    let ps = played_in ts in
    record {
      journals = journals t r v ts seats says turns;
      pool = pool_sorted t r v ts seats says turns;
      exchanges = exchanges t r v ts seats says turns;
      numbers = numbers (marks_of ps) (slots t r v ts says)
          (marks_rise ps (lines_rise (rules_of t) t.lines ps (are_lines t r v ts says))) (finds_no_less t r v ts seats says turns);
      contents = exact_contents t r v ts seats says turns;
    }
