-- An execution says what is required of the pool, the roots and the cells.
use Rattle.std.proofs.Common.{◌≡◌, ℕ, suc, ◌≤◌, true, eqb, List, [], ◌∷◌, ◌++◌, length, map, filter, refl, sym, ◌∙◌, ap, subst, arith, inl, inr, slice_index}
use Rattle.std.specs.Prelude.{Contains}
use Rattle.std.proofs.lemmas.List.{append_assoc}
use Rattle.std.proofs.lemmas.Bool.{cases_Bool}
use Rattle.pa_record.specs.declared.entry.Answer.TheVariants.{Swapped}
use Rattle.pa_lists.proofs.Members.{not_in_none, in_cases}
use Rattle.pa_region.specs.declared.view.Made.{Made}
use Rattle.pa_region.specs.declared.view.View.{View}
use Rattle.pa_region.specs.Lists.{list_of, entered_in}
use Rattle.pa_trace.specs.declared.script.Trace.{Trace}
use Rattle.pa_trace.specs.declared.script.Op.{Op}
use Rattle.pa_trace.specs.declared.script.Op.TheVariants as ops
use Rattle.pa_rules.specs.Told.{Told}
use Rattle.pa_logs.specs.Told.{ToldRecord}
use Rattle.pa_logs.specs.Listed.{first_of, line_of}
use Rattle.pa_logs.specs.Swaps.{SwapMade, is_of_cell, AreSwaps}
use Rattle.pa_logs.specs.Indices.{IsSwapAt}
use Rattle.pa_logs.specs.Said.{PoolTells, RootsTell, CellsTell}
use Rattle.pa_cells.specs.Cells.{Exchange, exchange_numbers, entries_with, names_cell, made_with_cell}
use Rattle.pa_op_specs.specs.Entering.{EntersExchange, EntersCells}
use Rattle.pa_execution.specs.Turns.{Manner}
use Rattle.pa_execution.specs.Courses.{Course}
use Rattle.pa_execution.specs.Merged.{told_by_turns, phase_seats, swaps_of}
use Rattle.pa_execution.specs.Telling.{IsWholeRunBy, CoursesTellPool, CoursesTellRoots, CoursesTellCells, CoursesTellAll}
use Rattle.pa_execution.proofs.Fitting.{then_sees, none_past, asked, answer, stands_longer}
use Rattle.pa_execution.proofs.Fitting.{played as played_so}
use Rattle.pa_execution.proofs.Heaping.{courses_tell_heap, courses_tell_runner}

abbrev AreNumbers : List Made → List Exchange → Type 0
AreNumbers list xs = map (λ (m : Made). m.numbers) list ≡ map exchange_numbers xs

-- ---- the exchanges beside their entries

abbrev exchange_of : SwapMade → Exchange
exchange_of s = record { cell = s.cell; entry = s.entry }

swaps_list : (list : List Made) (xs : List Exchange) → AreNumbers list xs → list ≡ map (λ (s : SwapMade). s.made) (swaps_of list xs)
swaps_list [] xs same = refl
swaps_list (m ∷ ms) [] same = absurd cc
swaps_list (m ∷ ms) (x ∷ xs) same =
    let rest : AreNumbers ms xs = cc in
    ap (λ l. m ∷ l) (swaps_list ms xs rest)

swaps_numbers : (list : List Made) (xs : List Exchange) (s : SwapMade) → AreNumbers list xs → Contains (swaps_of list xs) s →
    s.made.numbers ≡ exchange_numbers (exchange_of s)
swaps_numbers [] xs s same among = absurd (not_in_none s among)
swaps_numbers (m ∷ ms) [] s same among = absurd (not_in_none s among)
swaps_numbers (m ∷ ms) (x ∷ xs) s same among =
    let here : m.numbers ≡ exchange_numbers x = cc in
    let rest : AreNumbers ms xs = cc in
    elim (in_cases (record { made = m; cell = x.cell; entry = x.entry }) s (swaps_of ms xs) among) [
      | inl e ↦ subst (λ (z : SwapMade). z.made.numbers ≡ exchange_numbers (exchange_of z)) e here
      | inr later ↦ swaps_numbers ms xs s rest later
    ]

swaps_entries : (k : ℕ) (list : List Made) (xs : List Exchange) → AreNumbers list xs →
    entries_with k xs ≡ map (λ (s : SwapMade). s.entry) (filter (is_of_cell k) (swaps_of list xs))
swaps_entries k [] [] same = refl
swaps_entries k [] (x ∷ xs) same = absurd cc
swaps_entries k (m ∷ ms) [] same = absurd cc
swaps_entries k (m ∷ ms) (x ∷ xs) same =
    let rest : AreNumbers ms xs = cc in
    elim (cases_Bool (eqb x.cell k)) [
      | inl y ↦ rw y (ap (λ es. x.entry ∷ es) (swaps_entries k ms xs rest))
      | inr n ↦ rw n (swaps_entries k ms xs rest)
    ]

-- what is around one entry of the list
record SwapStands (swaps : List SwapMade) (k : ℕ) (older : List Made) (m : Made) : Type 0 where
  before : List SwapMade
  swap : SwapMade
  later : List SwapMade
  parts : swaps ≡ before ++ swap ∷ later
  made : swap.made ≡ m
  numbers : m.numbers ≡ exchange_numbers (exchange_of swap)
  count : length (filter (is_of_cell k) before) ≡ length (made_with_cell k older)

one_more : (k : ℕ) (n : Made) (x : Exchange) (older : List Made) (before : List SwapMade) → n.numbers ≡ exchange_numbers x →
    length (filter (is_of_cell k) before) ≡ length (made_with_cell k older) →
    length (filter (is_of_cell k) (record { made = n; cell = x.cell; entry = x.entry } ∷ before)) ≡ length (made_with_cell k (n ∷ older))
one_more k n x older before says same =
    let names : names_cell k n ≡ eqb x.cell k = ap (λ (ns : List ℕ). eqb (slice_index ns 1) k) says in
    elim (cases_Bool (eqb x.cell k)) [
      | inl y ↦ let z : names_cell k n ≡ true = names ∙ y in rw (y, z) (ap suc same)
      | inr m ↦ let z = names ∙ m in rw (m, z) same
    ]

swap_stands : (k : ℕ) (older rest : List Made) (m : Made) (xs : List Exchange) → AreNumbers (older ++ m ∷ rest) xs →
    SwapStands (swaps_of (older ++ m ∷ rest) xs) k older m
swap_stands k [] rest m [] same = absurd cc
swap_stands k [] rest m (x ∷ xs) same = record {
  before = [];
  swap = record { made = m; cell = x.cell; entry = x.entry };
  later = swaps_of rest xs;
  parts = refl;
  made = refl;
  numbers = cc;
  count = refl;
}
swap_stands k (n ∷ older) rest m [] same = absurd cc
swap_stands k (n ∷ older) rest m (x ∷ xs) same =
    let here : n.numbers ≡ exchange_numbers x = cc in
    let more : AreNumbers (older ++ m ∷ rest) xs = cc in
    let again = swap_stands k older rest m xs more in
    let first : SwapMade = record { made = n; cell = x.cell; entry = x.entry } in
    record {
      before = first ∷ again.before;
      swap = again.swap;
      later = again.later;
      parts = ap (λ l. first ∷ l) again.parts;
      made = again.made;
      numbers = again.numbers;
      count = one_more k n x older again.before here again.count;
    }

-- ---- what an op entered in the cells' list

few_entered : (op : Op) (list : List Made) (x : ToldRecord) → EntersCells op list x → length (entered_in 5 x.stretch) ≤ 1
few_entered (ops.Alloc reg partition size) list x none = let l : length (entered_in 5 x.stretch) ≡ 0 = ap length none in omega arith
few_entered (ops.Copy from to) list x none = let l : length (entered_in 5 x.stretch) ≡ 0 = ap length none in omega arith
few_entered (ops.Reset reg) list x none = let l : length (entered_in 5 x.stretch) ≡ 0 = ap length none in omega arith
few_entered (ops.Free reg) list x none = let l : length (entered_in 5 x.stretch) ≡ 0 = ap length none in omega arith
few_entered (ops.Write reg value) list x none = let l : length (entered_in 5 x.stretch) ≡ 0 = ap length none in omega arith
few_entered (ops.Read reg place) list x none = let l : length (entered_in 5 x.stretch) ≡ 0 = ap length none in omega arith
few_entered (ops.Swap cell reg) list x it = let l : length (entered_in 5 x.stretch) ≡ 1 = ap length it.entered in omega arith
few_entered ops.Purge list x none = let l : length (entered_in 5 x.stretch) ≡ 0 = ap length none in omega arith

none_of : (x : ToldRecord) (m : Made) → entered_in 5 x.stretch ≡ [] → Contains (entered_in 5 x.stretch) m → ⊥
none_of x m none among = not_in_none m (subst (λ ms. Contains ms m) none among)

is_exchanged : (op : Op) (list : List Made) (x : ToldRecord) (m : Made) → EntersCells op list x → Contains (entered_in 5 x.stretch) m →
    (cell reg : ℕ) × (op ≡ ops.Swap cell reg)
is_exchanged (ops.Alloc reg partition size) list x m none among = absurd (none_of x m none among)
is_exchanged (ops.Copy from to) list x m none among = absurd (none_of x m none among)
is_exchanged (ops.Reset reg) list x m none among = absurd (none_of x m none among)
is_exchanged (ops.Free reg) list x m none among = absurd (none_of x m none among)
is_exchanged (ops.Write reg value) list x m none among = absurd (none_of x m none among)
is_exchanged (ops.Read reg place) list x m none among = absurd (none_of x m none among)
is_exchanged (ops.Swap cell reg) list x m it among = (cell, reg, refl)
is_exchanged ops.Purge list x m none among = absurd (none_of x m none among)

module _ (way : Manner) (t : Trace) (r : Told) (c : Course) (v : View) (xs : List Exchange) (run : IsWholeRunBy way t r c v xs) where
  abbrev swaps : List SwapMade
  swaps = swaps_of (list_of 5 v) xs

  swaps_are : AreSwaps (list_of 5 v) r.cells swaps
  swaps_are = record {
    list_is = swaps_list (list_of 5 v) xs run.left.exchanges;
    lines = λ s among. ap first_of (swaps_numbers (list_of 5 v) xs s run.left.exchanges among);
    cells_are = λ k. run.left.cells k ∙ swaps_entries k (list_of 5 v) xs run.left.exchanges;
  }

  -- where an exchange's entry is among all
  stands : (x : ToldRecord) (k reg : ℕ) → Contains (told_by_turns way t c) x → x.played.op ≡ ops.Swap k reg → IsSwapAt swaps x k
  stands x k reg among op =
      let p = played_so way t r c v xs run x among in
      let it : EntersExchange (list_of 5 p.after.stock.view) x k =
      subst (λ o. EntersCells o (list_of 5 p.after.stock.view) x) op p.one.does.enters.cells in
      let (more, longer) = (then_sees way t r c v xs run x among).lists 5 in
      let rest = it.rest ++ more in
      let whole : list_of 5 v ≡ it.older ++ it.made ∷ rest =
      longer ∙ (ap (λ l. l ++ more) it.begins ∙
      (append_assoc (it.older ++ it.made ∷ []) it.rest more ∙ append_assoc it.older (it.made ∷ []) rest)) in
      let at = swap_stands k it.older rest it.made xs (ap (λ l. map (λ (n : Made). n.numbers) l) (sym whole) ∙ run.left.exchanges) in
      record {
        older = at.before;
        rest = at.later;
        swap = at.swap;
        begins = ap (λ l. swaps_of l xs) whole ∙ (at.parts ∙ sym (append_assoc at.before (at.swap ∷ []) at.later));
        cell = ap (λ (ns : List ℕ). slice_index ns 1) (sym at.numbers ∙ it.says);
        line = ap (λ (m : Made). line_of m) at.made ∙ (ap first_of it.says ∙ it.line);
        answer = it.answer ∙ ap Swapped (sym at.count);
      }

  cells_tell : CellsTell r v (told_by_turns way t c) swaps
  cells_tell = record {
    swaps_are = swaps_are;
    chain = run.left.chain;
    one_each = λ x among. let p = played_so way t r c v xs run x among in
        few_entered x.played.op (list_of 5 p.after.stock.view) x p.one.does.enters.cells;
    only = λ x m among entered.
        let p = played_so way t r c v xs run x among in
        is_exchanged x.played.op (list_of 5 p.after.stock.view) x m p.one.does.enters.cells entered;
    answers = stands;
    gives = λ x m u among entered. (played_so way t r c v xs run x among).one.does.seen.carries m u entered;
  }

  pool_tells : PoolTells t r v (told_by_turns way t c)
  pool_tells = record { list = run.left.pool; fits = run.left.fits; asked = asked way t r c v xs run }

  roots_tell : RootsTell t r v (told_by_turns way t c)
  roots_tell = record {
    lists = run.left.lists;
    journals = run.left.journals;
    none_past = none_past way t r c v xs run;
    makes = λ x p m e few among entered says. (answer way t r c v xs run x among).makes p m e few entered says;
    refused = λ x j reg p size among full op.
        let q = played_so way t r c v xs run x among in
        let (few, at) = q.one.does.enters.refused j reg p size full op in
        record {
          made = at.made;
          entry = at.entry;
          stands = stands_longer (list_of p q.after.stock.view) (list_of p v) at.made j
              ((then_sees way t r c v xs run x among).lists p) at.stands;
          says = at.says;
          line = at.line;
          full = at.full;
        };
    numbers = run.left.numbers;
    unmaps = λ x among. (answer way t r c v xs run x among).unmaps;
  }

pub courses_tell_pool : CoursesTellPool
courses_tell_pool = pool_tells

pub courses_tell_roots : CoursesTellRoots
courses_tell_roots = roots_tell

pub courses_tell_cells : CoursesTellCells
courses_tell_cells = cells_tell

pub courses_tell_all : CoursesTellAll
courses_tell_all way t r c v xs run lines = record {
  seats = phase_seats way t c;
  swaps = swaps_of (list_of 5 v) xs;
  runner = courses_tell_runner way t r c v xs run;
  pool = courses_tell_pool way t r c v xs run;
  roots = courses_tell_roots way t r c v xs run;
  cells = courses_tell_cells way t r c v xs run;
  heap = courses_tell_heap way t r c v xs run;
  report = lines;
}
