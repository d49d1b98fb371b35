-- One more exchange: the list, the histories and what was found.
use Rattle.std.proofs.Common.{◌≡◌, ℕ, suc, None, length-append, ◌<◌, ◌≤◌, Bool, true, false, List, [], ◌∷◌, ◌++◌, length, map, slice_get, slice_index, slice_index_or, slice_set, Some, Option, refl, sym, ◌∙◌, ap, subst, arith}
use Rattle.std.specs.Prelude.{◌==◌, if◌then◌else◌}
use Rattle.std.specs.List.{filter}
use Rattle.std.proofs.lemmas.List.{get_or-set_same, get_or-set_other, map-append, length-set, append-nil}
use Rattle.std.proofs.lemmas.List.Elements.{filter-append}
use Rattle.std.proofs.lemmas.Bool.Decides.{nat_tests}
use Rattle.pa_record.specs.declared.history.CellEntry.{CellEntry}
use Rattle.pa_record.specs.declared.history.Held.{Held}
use Rattle.pa_record.specs.declared.history.Held.TheVariants.{Nothing}
use Rattle.pa_record.specs.Numbers.{cell_numbers}
use Rattle.pa_region.specs.declared.view.Made.{Made}
use Rattle.pa_region.specs.declared.view.View.{View}
use Rattle.pa_region.specs.Lists.{list_of}
use Rattle.pa_region.specs.Lending.{HostsKeeper}
use Rattle.pa_rules.specs.Cells.{IsChain}
use Rattle.pa_cells.specs.Handles.{ParkedHandle, held_as}
use Rattle.pa_cells.specs.Cells.{Exchange, exchange_numbers, is_with_cell, entries_with, made_with_cell, cell_history, cell_holds, held_after, AreExchanges, CellsHeld, IsCells}

-- if one member of a list is set
pub set_at : {A : Type 0} (xs : List A) (c k : ℕ) (y d : A) → c < length xs →
    slice_index_or (slice_set xs c y) k d ≡ (if c == k then y else slice_index_or xs k d)
set_at {A} xs c k y d within = go (c == k) refl
  where
    go : (b : Bool) → (c == k) ≡ b → slice_index_or (slice_set xs c y) k d ≡ (if b then y else slice_index_or xs k d)
    go true is = let e : c ≡ k = grind (arith, nat_tests) in
        subst (λ (n : ℕ). slice_index_or (slice_set xs c y) n d ≡ y) e (get_or-set_same xs c y d within)
    go false is = get_or-set_other xs c k y d (λ e. grind (arith, nat_tests))

-- what is true of the member that is set and of those that were there is true of each
pub each_set : {A : Type 0} (P : A → Type 0) (xs : List A) (c k : ℕ) (y d : A) → c < length xs → P y → P (slice_index_or xs k d) →
    P (slice_index_or (slice_set xs c y) k d)
each_set {A} P xs c k y d within here there = subst P (sym (set_at xs c k y d within)) (go (c == k))
  where
    go : (b : Bool) → P (if b then y else slice_index_or xs k d)
    go true = here
    go false = there

-- what holds of the members of two lists at each place holds after the members at one place are set
pub both_set : {A B : Type 0} (P : A → B → Type 0) (xs : List A) (ys : List B) (c k : ℕ) (x d : A) (y e : B) → c < length xs
    → c < length ys → P x y → P (slice_index_or xs k d) (slice_index_or ys k e)
    → P (slice_index_or (slice_set xs c x) k d) (slice_index_or (slice_set ys c y) k e)
both_set {A} {B} P xs ys c k x d y e within inside here there =
    subst (λ (a : A). P a (slice_index_or (slice_set ys c y) k e)) (sym (set_at xs c k x d within))
    (subst (λ (b : B). P (if c == k then x else slice_index_or xs k d) b) (sym (set_at ys c k y e inside)) (go (c == k)))
  where
    go : (b : Bool) → P (if b then x else slice_index_or xs k d) (if b then y else slice_index_or ys k e)
    go true = here
    go false = there

-- the entries of one cell, with one exchange more
pub entries_more : (k c : ℕ) (e : CellEntry) (xs : List Exchange) →
    entries_with k (xs ++ record { cell = c; entry = e } ∷ []) ≡ (if c == k then entries_with k xs ++ e ∷ [] else entries_with k xs)
entries_more k c e xs =
    ap (λ (ys : List Exchange). map (λ (x : Exchange). x.entry) ys)
    (filter-append (is_with_cell k) xs (record { cell = c; entry = e } ∷ []))
    ∙ (map-append (λ (x : Exchange). x.entry) (filter (is_with_cell k) xs) (filter (is_with_cell k) (record { cell = c; entry = e } ∷ [])) ∙
    go (c == k))
  where
    go : (b : Bool) → entries_with k xs ++
        map (λ (x : Exchange). x.entry) (if b then record { cell = c; entry = e } ∷ [] else []) ≡ (if b then entries_with k xs ++
        e ∷ [] else entries_with k xs)
    go true = refl
    go false = append-nil (entries_with k xs)

-- the list and the histories, with one exchange more
pub exchanged_more : (list : List Made) (hs : List (List CellEntry)) (xs : List Exchange) (c : ℕ) (e : CellEntry) (m : Made)
    → c < length hs → m.numbers ≡ exchange_numbers (record { cell = c; entry = e }) → AreExchanges list hs xs
    → AreExchanges (list ++ m ∷ []) (slice_set hs c (cell_history hs c ++ e ∷ [])) (xs ++ record { cell = c; entry = e } ∷ [])
exchanged_more list hs xs c e m within says h = record {
  numbers = map-append (λ (n : Made). n.numbers) list (m ∷ [])
      ∙ ((let n = h.numbers in cc) ∙ sym (map-append exchange_numbers xs (record { cell = c; entry = e } ∷ [])));
  cells = λ k. set_at hs c k (cell_history hs c ++ e ∷ []) [] within ∙ (go k (c == k) refl ∙ sym (entries_more k c e xs));
}
  where
    go : (k : ℕ) (b : Bool) → (c == k) ≡ b →
        (if b then cell_history hs c ++ e ∷ [] else cell_history hs k) ≡ (if b then entries_with k xs ++ e ∷ [] else entries_with k xs)
    go k true is = let same : c ≡ k = grind (arith, nat_tests) in
        ap (λ (es : List CellEntry). es ++ e ∷ []) (ap (λ (n : ℕ). cell_history hs n) same ∙ h.cells k)
    go k false is = h.cells k

-- one more entry finds what was given, and what the cell has then is what it gave
pub find_more : (held : Held) (es : List CellEntry) (e : CellEntry) → IsChain held es → e.found ≡ held_after held es →
    IsChain held (es ++ e ∷ [])
find_more held [] e h f = (f, tt)
find_more held (d ∷ es) e h f = (h.0, find_more d.gave es e h.1 f)

pub after_more : (held : Held) (es : List CellEntry) (e : CellEntry) → held_after held (es ++ e ∷ []) ≡ e.gave
after_more held [] e = refl
after_more held (d ∷ es) e = after_more d.gave es e

-- as many entries of the list are of a cell as its history has
pub same_count : (k : ℕ) (list : List Made) (xs : List Exchange) → map (λ (m : Made). m.numbers) list ≡ map exchange_numbers xs →
    length (made_with_cell k list) ≡ length (entries_with k xs)
same_count k [] [] e = refl
same_count k [] (x ∷ xs) e = cc
same_count k (m ∷ list) [] e = cc
same_count k (m ∷ list) (x ∷ xs) e =
    let here : m.numbers ≡ exchange_numbers x = cc in
    let later : map (λ (n : Made). n.numbers) list ≡ map exchange_numbers xs = cc in
    go (slice_index m.numbers 1 == k) (x.cell == k) (ap (λ (ns : List ℕ). slice_index ns 1 == k) here) (same_count k list xs later)
  where
    go : (b d : Bool) → b ≡ d → length (made_with_cell k list) ≡ length (entries_with k xs)
        → length (if b then m ∷ made_with_cell k list else made_with_cell k list) ≡ length
        (map (λ (y : Exchange). y.entry) (if d then x ∷ filter (is_with_cell k) xs else filter (is_with_cell k) xs))
    go true true is same = ap suc same
    go false false is same = same
    go true false is same = cc
    go false true is same = cc

-- An exchange that is in the list is in its cell's history, after as many as are before it in the list.
pub stands_at : ((a b : CellEntry) → cell_numbers a ≡ cell_numbers b → a ≡ b)
    → (before rest : List Made) (m : Made) (x : Exchange) (xs : List Exchange)
    → map (λ (n : Made). n.numbers) (before ++ m ∷ rest) ≡ map exchange_numbers xs → m.numbers ≡ exchange_numbers x
    → slice_get (entries_with x.cell xs) (length (made_with_cell x.cell before)) ≡ Some x.entry
stands_at one [] rest m x [] e says = cc
stands_at one [] rest m x (y ∷ xs) e says =
    let both : exchange_numbers y ≡ exchange_numbers x = cc in
    let cell : y.cell ≡ x.cell = cc in
    let entry : y.entry ≡ x.entry = one y.entry x.entry cc in
    go (y.cell == x.cell) (grind (arith, nat_tests)) entry
  where
    go : (b : Bool) → b ≡ true → y.entry ≡ x.entry →
        slice_get (map (λ (z : Exchange). z.entry) (if b then y ∷ filter (is_with_cell x.cell) xs else filter (is_with_cell x.cell) xs))
        0 ≡ Some x.entry
    go true is same = ap Some same
    go false is same = cc
stands_at one (n ∷ before) rest m x [] e says = cc
stands_at one (n ∷ before) rest m x (y ∷ xs) e says =
    let here : n.numbers ≡ exchange_numbers y = cc in
    let later : map (λ (l : Made). l.numbers) (before ++ m ∷ rest) ≡ map exchange_numbers xs = cc in
    go (slice_index n.numbers 1 == x.cell) (y.cell == x.cell) (ap (λ (ns : List ℕ). slice_index ns 1 == x.cell) here)
    (stands_at one before rest m x xs later says)
  where
    go : (b d : Bool) → b ≡ d → slice_get (entries_with x.cell xs) (length (made_with_cell x.cell before)) ≡ Some x.entry
        → slice_get (map (λ (z : Exchange). z.entry) (if d then y ∷ filter (is_with_cell x.cell) xs else filter (is_with_cell x.cell) xs))
        (length (if b then n ∷ made_with_cell x.cell before else made_with_cell x.cell before)) ≡ Some x.entry
    go true true is same = same
    go false false is same = same
    go true false is same = cc
    go false true is same = cc

-- the cells after an exchange
pub cells_more : (old : CellsHeld) (w : View) (hs : List (List CellEntry)) (ps : List (Option ParkedHandle)) (line c : ℕ)
    (given : Option ParkedHandle) (gave found : Held) (m : Made) → c < 64 → IsCells old
    → length (cell_history old.histories c) < 2147483647 → HostsKeeper 5 w → list_of 5 w ≡ list_of 5 old.view ++ m ∷ []
    → m.numbers ≡ exchange_numbers (record { cell = c; entry = record { line = line; gave = gave; found = found } })
    → gave ≡ held_as given → found ≡ held_as (cell_holds old.parked c)
    → hs ≡ slice_set old.histories c (cell_history old.histories c ++ record { line = line; gave = gave; found = found } ∷ [])
    → ps ≡ slice_set old.parked c given → IsCells (record { view = w; histories = hs; parked = ps })
cells_more old w hs ps line c given gave found m small h room hosts list says is_gave is_found histories parked =
    let e : CellEntry = record { line = line; gave = gave; found = found } in
    let h' = cell_history old.histories c ++ e ∷ [] in
    let within : c < length old.histories = (let n = h.cells in omega arith) in
    let inside : c < length old.parked = (let n = h.held in omega arith) in
    subst (λ (ys : List (List CellEntry)). IsCells (record { view = w; histories = ys; parked = ps })) (sym histories)
    (subst (λ (ys : List (Option ParkedHandle)). IsCells (record { view = w; histories = slice_set old.histories c h'; parked = ys }))
    (sym parked) (record {
      cells = length-set old.histories c h' ∙ h.cells;
      held = length-set old.parked c given ∙ h.held;
      host = hosts;
      exchanged = (
        h.exchanged.0 ++ record { cell = c; entry = e } ∷ [],
        subst (λ (l : List Made). AreExchanges l (slice_set old.histories c h') (h.exchanged.0 ++ record { cell = c; entry = e } ∷ []))
            (sym list)
            (exchanged_more (list_of 5 old.view) old.histories h.exchanged.0 c e m within says h.exchanged.1),
      );
      chain = λ k. each_set (λ (es : List CellEntry). IsChain Nothing es) old.histories c k h' [] within
          (find_more Nothing (cell_history old.histories c) e (h.chain c) (is_found ∙ h.holds c)) (h.chain k);
      holds = λ k. both_set (λ (o : Option ParkedHandle) (es : List CellEntry). held_as o ≡ held_after Nothing es) old.parked old.histories
          c k given None h' [] inside within
          (sym is_gave ∙ sym (after_more Nothing (cell_history old.histories c) e)) (h.holds k);
      few = λ k. each_set (λ (es : List CellEntry). length es ≤ 2147483647) old.histories c k h' [] within
          (omega (arith, length-append (cell_history old.histories c) (e ∷ []))) (h.few k);
    }))
