-- What is left when all seats were taken in.
use Rattle.std.proofs.Common.{◌≡◌, ℕ, zero, suc, ◌*◌, ◌<◌, ◌≤◌, List, [], ◌∷◌, refl, sym, ◌∙◌, ap, subst, arith, inl, inr, Some, map, length, slice_index_or}
use Rattle.std.specs.Prelude.{All}
use Rattle.std.proofs.lemmas.List.Elements.{All-weaker}
use Rattle.std.proofs.lemmas.Bool.{cases_lt}
use Rattle.pa_slot.specs.declared.title.Title.{Title}
use Rattle.pa_slot.specs.declared.word.SlotName.{SlotName}
use Rattle.pa_record.specs.declared.history.CellEntry.{CellEntry}
use Rattle.pa_record.specs.declared.history.Held.TheVariants.{Nothing}
use Rattle.pa_record.specs.declared.pool.PoolEntry.{PoolEntry}
use Rattle.pa_record.specs.declared.root.RootEntry.{RootEntry}
use Rattle.pa_record.specs.Laws.{IsNameOut}
use Rattle.pa_record.specs.Numbers.{root_numbers, pool_numbers}
use Rattle.pa_record.specs.Pool.{IsPool}
use Rattle.pa_record.specs.Root.{Root, new_root, root_replayed, IsJournal, IsOut}
use Rattle.pa_record.specs.Sound.{IsMade}
use Rattle.pa_record.specs.Spans.{name_of}
use Rattle.pa_record.proofs.Lawful.{out_is_out}
use Rattle.pa_region.specs.declared.view.Made.{Made}
use Rattle.pa_region.specs.declared.view.View.{View}
use Rattle.pa_region.specs.Views.{free_of, HasEveryStake}
use Rattle.pa_region.specs.Waiting.{unclean_of}
use Rattle.pa_region.specs.Aware.{IsAware}
use Rattle.pa_region.specs.Ends.{IsEnd}
use Rattle.pa_region.specs.Lists.{list_of}
use Rattle.pa_records.specs.Records.{HasSpans, AreSpansIn}
use Rattle.pa_records.proofs.Keeping.{spans_stay}
use Rattle.pa_rules.specs.Cells.{IsChain}
use Rattle.pa_legal.specs.Numbers.{moves_of, IsNumbered}
use Rattle.pa_logs.specs.Listed.{IsJournalOf, IsPoolList}
use Rattle.pa_root.specs.Laws.{JournalsFitPool}
use Rattle.pa_cells.specs.Cells.{Exchange, AreExchanges, cell_history}
use Rattle.pa_heap.specs.declared.left.Left.{Left}
use Rattle.pa_op_specs.specs.Workers.{WorkerValue}
use Rattle.pa_heap.specs.Closing.{TakesOthersIn, LeavesPool, LeavesRoot, LeavesCells, LeavesWorker, LeavesLists, IsClosedBy, journal_left, root_left}
use Rattle.pa_heap.proofs.Recorded.{keeps_spans}
use Rattle.pa_heap.proofs.TakingIn.{takes_on, pool_on, root_on, worker_on}

-- the pool's list is its entries, and they are those of its super pages
pub pool_list : (words : ℕ) (es : List PoolEntry) (v : View) → LeavesPool words es v → IsPoolList (list_of 4 v) es
pool_list words es v left =
    ap (λ (l : List Made). map (λ (m : Made). m.numbers) l) (left.within.own_lists 4 left.kept.hosts.1)
    ∙ (left.kept.list ∙ ap (λ (xs : List PoolEntry). map pool_numbers xs) left.entries_are)

pub pool_fits : (words supers : ℕ) (es : List PoolEntry) (v : View) → LeavesPool words es v → words ≡ 262144 * supers → IsPool supers es
pool_fits words supers es v left is =
    let whole = left.whole in
    let same : left.pool.supers ≡ supers = omega arith in
    subst (λ (xs : List PoolEntry). IsPool supers xs) left.entries_are (subst (λ (n : ℕ). IsPool n left.pool.entries) same left.kept.pool)

-- a root's list is its journal, which fits all entries of the pool
pub root_list : (p : ℕ) (journal : List RootEntry) (v : View) → LeavesRoot p journal v → IsJournalOf (list_of p v) journal
root_list p journal v left =
    ap (λ (l : List Made). map (λ (m : Made). m.numbers) l) (left.within.own_lists p left.kept.journal.hosts.1)
    ∙ (left.kept.journal.listed ∙ ap (λ (xs : List RootEntry). map root_numbers xs) left.journal_is)

pub root_fits : (p : ℕ) (journal : List RootEntry) (es : List PoolEntry) (v : View) → JournalsFitPool → IsPoolList (list_of 4 v) es →
    (left : LeavesRoot p journal v) → IsJournal es journal × (left.root.root ≡ root_replayed es journal new_root)
root_fits p journal es v law list left =
    subst (λ (xs : List RootEntry). IsJournal es xs × (left.root.root ≡ root_replayed es xs new_root)) left.journal_is
    (law p left.root (list_of 4 v) es left.kept (left.within.lists 4) list)

-- by it the root hands each slot out at the number at which it has it
pub root_numbered : (p : ℕ) (journal : List RootEntry) (v : View) → LeavesRoot p journal v → (s : SlotName) →
    IsNumbered (Some 0) (moves_of journal s)
root_numbered p journal v left s =
    subst (λ (xs : List RootEntry). IsNumbered (Some 0) (moves_of xs s)) left.journal_is (left.kept.numbers.numbered s)

-- what was made and isn't out is free in its seat
pub root_has : (p : ℕ) (journal : List RootEntry) (es : List PoolEntry) (v : View) (u : Title) →
    JournalsFitPool → IsPoolList (list_of 4 v) es →
    LeavesRoot p journal v → IsMade (root_replayed es journal new_root) u →
    (IsNameOut (root_replayed es journal new_root) (name_of u) → ⊥) → 0 < free_of v u
root_has p journal es v u law list left made stays =
    let same = (root_fits p journal es v law list left).1 in
    let more = left.within.frees u in
    elim (left.kept.titles.has u (subst (λ (r : Root). IsMade r u) (sym same) made)) [
      | inl free ↦ omega arith
      | inr out ↦ absurd
          (stays (out_is_out.titled (root_replayed es journal new_root) (name_of u) (subst (λ (r : Root). IsOut r (name_of u)) same out)))
    ]

-- the cells' list is all exchanges, and each history is a chain
pub cells_list : (histories : List (List CellEntry)) (v : View) → LeavesCells histories v →
    (xs : List Exchange) × AreExchanges (list_of 5 v) histories xs
cells_list histories v left =
    let of_old = left.kept.exchanged in (
      of_old.0,
      subst (λ (hs : List (List CellEntry)). AreExchanges (list_of 5 v) hs of_old.0) left.histories_are
          (subst (λ (l : List Made). AreExchanges l left.cells.histories of_old.0)
          (sym (left.within.own_lists 5 left.kept.host.1)) of_old.1),
    )

pub cells_chain : (histories : List (List CellEntry)) (v : View) (k : ℕ) → LeavesCells histories v →
    IsChain Nothing (cell_history histories k)
cells_chain histories v k left =
    subst (λ (hs : List (List CellEntry)). IsChain Nothing (cell_history hs k)) left.histories_are (left.kept.chain k)

-- What each of four partitions' roots left.
pub record LeavesRoots (l : Left) (v : View) : Type 0 where
  pub first : LeavesRoot 0 (journal_left l 0) v
  pub second : LeavesRoot 1 (journal_left l 1) v
  pub third : LeavesRoot 2 (journal_left l 2) v
  pub fourth : LeavesRoot 3 (journal_left l 3) v
  pub no_more : (p : ℕ) → 4 ≤ p → journal_left l p ≡ []

pub root_of : (l : Left) (v : View) (p : ℕ) → LeavesRoots l v → p < 4 → LeavesRoot p (journal_left l p) v
root_of l v zero roots below = roots.first
root_of l v (suc zero) roots below = roots.second
root_of l v (suc (suc zero)) roots below = roots.third
root_of l v (suc (suc (suc zero))) roots below = roots.fourth
root_of l v (suc (suc (suc (suc p)))) roots below = absurd (omega arith)

-- all lists agree with what is left
pub lists_left : (words : ℕ) (l : Left) (v : View) → JournalsFitPool → LeavesPool words l.pool.items v → LeavesRoots l v →
    LeavesCells l.cells.items v → LeavesLists words v l
lists_left words l v law pool roots cells =
    let entries = pool_list words l.pool.items v pool in
    record {
      pool = entries;
      fits = λ supers is. pool_fits words supers l.pool.items v pool is;
      lists = λ p below. root_list p (journal_left l p) v (root_of l v p roots below);
      journals = λ p. elim (cases_lt p 4) [
        | inl below ↦ (root_fits p (journal_left l p) l.pool.items v law entries (root_of l v p roots below)).0
        | inr past ↦
            subst (λ (es : List RootEntry). IsJournal l.pool.items es) (sym (roots.no_more p past)) (record { replays = tt; rise = tt })
      ];
      numbers = λ p s. elim (cases_lt p 4) [
        | inl below ↦ root_numbered p (journal_left l p) v (root_of l v p roots below) s
        | inr past ↦ subst (λ (es : List RootEntry). IsNumbered (Some 0) (moves_of es s)) (sym (roots.no_more p past)) tt
      ];
      count = ap (λ (hs : List (List CellEntry)). length hs) (sym cells.histories_are) ∙ cells.kept.cells;
      exchanges = cells_list l.cells.items v cells;
      chain = λ k. cells_chain l.cells.items v k cells;
    }

-- a slot that was made and is with its root is free in the closing seat
pub slots_left : (words : ℕ) (l : Left) (v : View) (p : ℕ) (u : Title) → JournalsFitPool →
    LeavesPool words l.pool.items v → LeavesRoots l v →
    IsMade (root_left l p) u → (IsNameOut (root_left l p) (name_of u) → ⊥) → 0 < free_of v u
slots_left words l v p u law pool roots made stays = elim (cases_lt p 4) [
  | inl below ↦
      root_has p (journal_left l p) l.pool.items v u law (pool_list words l.pool.items v pool) (root_of l v p roots below) made stays
  | inr past ↦ no_slot (subst (λ (es : List RootEntry). IsMade (root_replayed l.pool.items es new_root) u) (roots.no_more p past) made)
]
  where
    no_slot : IsMade new_root u → 0 < free_of v u
    no_slot made = let below : made.1.0 < 0 = made.1.1 in absurd (omega arith)

-- the words of the region have each root, as its journal replays
pub spans_left : (words : ℕ) (l : Left) (v : View) → JournalsFitPool → LeavesPool words l.pool.items v →
    LeavesRoots l v → IsEnd l.region v →
    AreSpansIn l.pool.items (journal_left l) l.region
spans_left words l v law pool roots ends p below =
    let left = root_of l v p roots below in
    subst (λ (r : Root). HasSpans l.region r)
    (root_fits p (journal_left l p) l.pool.items v law (pool_list words l.pool.items v pool) left).1
    (spans_stay left.root.view.words l.region left.root.root (keeps_spans p left.root left.kept v l.region left.within ends) left.spans)

-- a seat that has every stake still has it after it takes in more
pub every_on : (v w : View) → TakesOthersIn v w → HasEveryStake v → HasEveryStake w
every_on v w takes every k below = let has = every k below in let same = takes.stakes k in omega arith

pub taken_all : (seat a b c d e f last : View) → TakesOthersIn seat a → TakesOthersIn a b → TakesOthersIn b c → TakesOthersIn c d →
    TakesOthersIn d e → TakesOthersIn e f →
    TakesOthersIn f last → TakesOthersIn seat last
taken_all seat a b c d e f last to_a to_b to_c to_d to_e to_f to_last =
    takes_on seat a last to_a
    (takes_on a b last to_b (takes_on b c last to_c (takes_on c d last to_d (takes_on d e last to_e (takes_on e f last to_f to_last)))))

-- The heap was closed by a seat that took all others in, one after the other.
pub closed_by : (words : ℕ) (told : List WorkerValue) (seat a b c d e f last : View) (l : Left)
    (first second third fourth : List RootEntry) →
    l.roots ≡ first ∷ second ∷ third ∷ fourth ∷ [] → JournalsFitPool → HasEveryStake seat → unclean_of seat ≡ 0 → IsAware last →
    IsEnd l.region last → length l.region ≡ words → TakesOthersIn seat a → All (LeavesWorker a) told → TakesOthersIn a b →
    LeavesPool words l.pool.items b →
    TakesOthersIn b c → LeavesRoot 0 first c → TakesOthersIn c d → LeavesRoot 1 second d → TakesOthersIn d e → LeavesRoot 2 third e →
    TakesOthersIn e f → LeavesRoot 3 fourth f → TakesOthersIn f last → LeavesCells l.cells.items last → IsClosedBy words told seat l
closed_by words told seat a b c d e f last l first second third fourth are law every clean aware ends long to_a workers to_b pool to_c one
    to_d two to_e three to_f four to_last cells =
    let from_e = takes_on e f last to_f to_last in
    let from_d = takes_on d e last to_e from_e in
    let from_c = takes_on c d last to_d from_d in
    let from_b = takes_on b c last to_c from_c in
    let from_a = takes_on a b last to_b from_b in
    let all = taken_all seat a b c d e f last to_a to_b to_c to_d to_e to_f to_last in
    let at : (p : ℕ) → journal_left l p ≡ slice_index_or (first ∷ second ∷ third ∷ fourth ∷ []) p [] =
    λ p. ap (λ (js : List (List RootEntry)). slice_index_or js p []) are in
    let pool_there = pool_on words b last pool from_b.within in
    let roots : LeavesRoots l last = record {
      first = subst (λ (es : List RootEntry). LeavesRoot 0 es last) (sym (at 0)) (root_on 0 c last one from_c.within);
      second = subst (λ (es : List RootEntry). LeavesRoot 1 es last) (sym (at 1)) (root_on 1 d last two from_d.within);
      third = subst (λ (es : List RootEntry). LeavesRoot 2 es last) (sym (at 2)) (root_on 2 e last three from_e.within);
      fourth = subst (λ (es : List RootEntry). LeavesRoot 3 es last) (sym (at 3)) (root_on 3 f last four to_last.within);
      no_more = λ p past. at p ∙ none_past p past;
    } in
    record {
      last = last;
      aware = aware;
      every = every_on seat last all every;
      logs = all.logs;
      within = all.within;
      ends = ends;
      long = long;
      lists = lists_left words l last law pool_there roots cells;
      spans = spans_left words l last law pool_there roots ends;
      rooted = λ p u. slots_left words l last p u law pool_there roots;
      workers = All-weaker (LeavesWorker a) (LeavesWorker last) (λ w there. worker_on a last there from_a.within) told workers;
      clean = all.clean ∙ clean;
    }
  where
    none_past : (p : ℕ) → 4 ≤ p → slice_index_or (first ∷ second ∷ third ∷ fourth ∷ []) p [] ≡ []
    none_past zero past = absurd (omega arith)
    none_past (suc zero) past = absurd (omega arith)
    none_past (suc (suc zero)) past = absurd (omega arith)
    none_past (suc (suc (suc zero))) past = absurd (omega arith)
    none_past (suc (suc (suc (suc p)))) past = refl
