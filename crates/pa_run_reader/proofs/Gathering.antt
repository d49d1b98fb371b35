-- What is gathered after an item: its text, item by item.
use Rattle.std.proofs.Common.{◌≡◌, ℕ, ◌+◌, ◌<◌, List, [], ◌∷◌, ◌++◌, codes, length, get_or, set, inl, inr, refl, sym, ap, ◌∙◌, append_assoc, append-nil, arith}
use Rattle.std.specs.List.{flat_map}
use Rattle.pa_record.specs.declared.root.RootEntry.{RootEntry}
use Rattle.pa_record.specs.declared.history.CellEntry.{CellEntry}
use Rattle.pa_record.specs.Text.{entry_text, root_text, roots_text, pool_text, pools_text, cell_text, cells_text, report_text}
use Rattle.pa_run_reader.specs.declared.item.Item.{Item}
use Rattle.pa_run_reader.specs.declared.item.Item.TheVariants as items
use Rattle.pa_run_reader.specs.declared.place.Place.{Place}
use Rattle.pa_run_reader.specs.declared.place.Place.TheVariants.{Head, Record, Root, Pool, Cell, Report, End}
use Rattle.pa_run_reader.specs.Item.{FitsItem, item_text}
use Rattle.pa_run_reader.specs.Order.{item_place, StandsBehind}
use Rattle.pa_run_reader.specs.Gathered.{Gathered, gathered_with}
use Rattle.pa_run_reader.proofs.Grown.{flat_push, lines_push, nested_none, nested_push}

-- ---- what is nowhere yet

-- the journal of partition q has nothing at this place yet
abbrev pub IsBeforeRoot : Place → ℕ → Type 0
IsBeforeRoot Head q = Unit {0}
IsBeforeRoot Record q = Unit {0}
IsBeforeRoot (Root p j) q = p < q
IsBeforeRoot other q = ⊥

-- the pool has nothing at this place yet
abbrev pub IsBeforePool : Place → Type 0
IsBeforePool Head = Unit {0}
IsBeforePool Record = Unit {0}
IsBeforePool (Root p j) = Unit {0}
IsBeforePool other = ⊥

-- the history of cell q has nothing at this place yet
abbrev pub IsBeforeCell : Place → ℕ → Type 0
IsBeforeCell Head q = Unit {0}
IsBeforeCell Record q = Unit {0}
IsBeforeCell (Root p j) q = Unit {0}
IsBeforeCell (Pool j) q = Unit {0}
IsBeforeCell (Cell k j) q = k < q
IsBeforeCell other q = ⊥

-- the report has nothing at this place yet
abbrev pub IsBeforeReport : Place → Type 0
IsBeforeReport Report = ⊥
IsBeforeReport End = ⊥
IsBeforeReport other = Unit {0}

-- the index at this place is that of the last entry
abbrev pub IsCounted : Place → Gathered → Type 0
IsCounted (Root p j) g = length (get_or g.roots p []) ≡ j + 1
IsCounted (Pool j) g = length g.pool ≡ j + 1
IsCounted (Cell k j) g = length (get_or g.cells k []) ≡ j + 1
IsCounted other g = Unit {0}

-- this is gathered up to this place
pub record Stands (l : Place) (g : Gathered) : Type 0 where
  pub roots : (q : ℕ) → IsBeforeRoot l q → get_or g.roots q [] ≡ []
  pub pool : IsBeforePool l → g.pool ≡ []
  pub cells : (q : ℕ) → IsBeforeCell l q → get_or g.cells q [] ≡ []
  pub report : IsBeforeReport l → g.report ≡ []
  pub count : IsCounted l g

-- ---- what is known before an item, by its kind

pub record InFrontOfPool (g : Gathered) : Type 0 where
  pub cells : (q : ℕ) → get_or g.cells q [] ≡ []
  pub report : g.report ≡ []

pub record InFrontOfRoots (g : Gathered) : Type 0 where
  pub pool : g.pool ≡ []
  pub behind : InFrontOfPool g

pub record InFrontOfRoot (p j : ℕ) (g : Gathered) : Type 0 where
  pub count : length (get_or g.roots p []) ≡ j
  pub later : (q : ℕ) → p < q → get_or g.roots q [] ≡ []
  pub behind : InFrontOfRoots g

pub record InFrontOfCell (k j : ℕ) (g : Gathered) : Type 0 where
  pub count : length (get_or g.cells k []) ≡ j
  pub later : (q : ℕ) → k < q → get_or g.cells q [] ≡ []
  pub report : g.report ≡ []

none_yet : {A : Type 0} (xs : List A) (j : ℕ) → xs ≡ [] → j ≡ 0 → length xs ≡ j
none_yet xs j e z = ap length e ∙ sym z

empty_roots : (l : Place) (g : Gathered) → IsBeforePool l → ((q : ℕ) → IsBeforeCell l q) → IsBeforeReport l → Stands l g → InFrontOfRoots g
empty_roots l g pool cells report s =
    record { pool = s.pool pool; behind = record { cells = λ q. s.cells q (cells q); report = s.report report } }

pub front_record : (l : Place) (g : Gathered) → StandsBehind l Record → Stands l g → ((q : ℕ) → get_or g.roots q [] ≡ []) × InFrontOfRoots g
front_record Head g h s = ((λ q. s.roots q tt), empty_roots Head g tt (λ q. tt) tt s)
front_record Record g h s = ((λ q. s.roots q tt), empty_roots Record g tt (λ q. tt) tt s)
front_record l g (inl h) s = absurd (omega (arith, h.0))
front_record l g (inr h) s = absurd h

pub front_root : (l : Place) (p j : ℕ) (g : Gathered) → StandsBehind l (Root p j) → Stands l g → InFrontOfRoot p j g
front_root Head p j g (inl h) s =
    record {
      count = none_yet (get_or g.roots p []) j (s.roots p tt) h.1;
      later = λ q order. s.roots q tt;
      behind =
          empty_roots Head g tt (λ q. tt) tt s;
    }
front_root Record p j g (inl h) s =
    record {
      count = none_yet (get_or g.roots p []) j (s.roots p tt) h.1;
      later = λ q order. s.roots q tt;
      behind =
          empty_roots Record g tt (λ q. tt) tt s;
    }
front_root (Root r i) p j g (inr (inl h)) s = record {
  count = ap (λ (x : ℕ). length (get_or g.roots x [])) h.0 ∙ s.count ∙ sym h.1;
  later = λ q order. s.roots q (omega (arith, h.0, order));
  behind = empty_roots (Root r i) g tt (λ q. tt) tt s;
}
front_root (Root r i) p j g (inr (inr h)) s = record {
  count = none_yet (get_or g.roots p []) j (s.roots p h.0) h.1;
  later = λ q order. s.roots q (omega (arith, h.0, order));
  behind = empty_roots (Root r i) g tt (λ q. tt) tt s;
}
front_root l p j g (inl h) s = absurd (omega (arith, h.0))
front_root l p j g (inr h) s = absurd h

empty_pool : (l : Place) (g : Gathered) → ((q : ℕ) → IsBeforeCell l q) → IsBeforeReport l → Stands l g → InFrontOfPool g
empty_pool l g cells report s = record { cells = λ q. s.cells q (cells q); report = s.report report }

pub front_pool : (l : Place) (j : ℕ) (g : Gathered) → StandsBehind l (Pool j) → Stands l g → (length g.pool ≡ j) × InFrontOfPool g
front_pool Head j g (inl h) s = (none_yet g.pool j (s.pool tt) h.1, empty_pool Head g (λ q. tt) tt s)
front_pool Record j g (inl h) s = (none_yet g.pool j (s.pool tt) h.1, empty_pool Record g (λ q. tt) tt s)
front_pool (Root p i) j g (inl h) s = (none_yet g.pool j (s.pool tt) h.1, empty_pool (Root p i) g (λ q. tt) tt s)
front_pool (Pool i) j g (inr h) s = (s.count ∙ sym h, empty_pool (Pool i) g (λ q. tt) tt s)
front_pool l j g (inl h) s = absurd (omega (arith, h.0))
front_pool l j g (inr h) s = absurd h

cell_after : (l : Place) (k j : ℕ) (g : Gathered) → ((q : ℕ) → IsBeforeCell l q) → IsBeforeReport l → j ≡ 0 → Stands l g →
    InFrontOfCell k j g
cell_after l k j g cells report z s = record {
  count = none_yet (get_or g.cells k []) j (s.cells k (cells k)) z;
  later = λ q order. s.cells q (cells q);
  report = s.report report;
}

pub front_cell : (l : Place) (k j : ℕ) (g : Gathered) → StandsBehind l (Cell k j) → Stands l g → InFrontOfCell k j g
front_cell Head k j g (inl h) s = cell_after Head k j g (λ q. tt) tt h.1 s
front_cell Record k j g (inl h) s = cell_after Record k j g (λ q. tt) tt h.1 s
front_cell (Root p i) k j g (inl h) s = cell_after (Root p i) k j g (λ q. tt) tt h.1 s
front_cell (Pool i) k j g (inl h) s = cell_after (Pool i) k j g (λ q. tt) tt h.1 s
front_cell (Cell r i) k j g (inr (inl h)) s = record {
  count = ap (λ (x : ℕ). length (get_or g.cells x [])) h.0 ∙ s.count ∙ sym h.1;
  later = λ q order. s.cells q (omega (arith, h.0, order));
  report = s.report tt;
}
front_cell (Cell r i) k j g (inr (inr h)) s = record {
  count = none_yet (get_or g.cells k []) j (s.cells k h.0) h.1;
  later = λ q order. s.cells q (omega (arith, h.0, order));
  report = s.report tt;
}
front_cell l k j g (inl h) s = absurd (omega (arith, h.0))
front_cell l k j g (inr h) s = absurd h

-- ---- the text of what is gathered

abbrev pub told : Gathered → List ℕ
told g = codes "run 1\n" ++ flat_map entry_text g.entries ++ roots_text g.roots ++ pools_text g.pool ++ cells_text g.cells ++
    flat_map report_text g.report

-- the text up to this place
abbrev pub told_to : Place → Gathered → List ℕ
told_to End g = told g ++ codes "end\n"
told_to other g = told g

tail1 : (x s : List ℕ) → s ≡ [] → x ++ s ≡ x
tail1 x s e = rw e (append-nil x)

tail2 : (x c s : List ℕ) → c ≡ [] → s ≡ [] → x ++ c ++ s ≡ x
tail2 x c s e f = tail1 (x ++ c) s f ∙ tail1 x c e

tail3 : (x p c s : List ℕ) → p ≡ [] → c ≡ [] → s ≡ [] → x ++ p ++ c ++ s ≡ x
tail3 x p c s d e f = tail2 (x ++ p) c s e f ∙ tail1 x p d

pub tail4 : (x r p c s : List ℕ) → r ≡ [] → p ≡ [] → c ≡ [] → s ≡ [] → x ++ r ++ p ++ c ++ s ≡ x
tail4 x r p c s b d e f = tail3 (x ++ r) p c s d e f ∙ tail1 x r b

-- more of the last part, and nothing after it
more : (h e f t : List ℕ) → f ≡ e ++ t → h ++ f ≡ (h ++ e) ++ t
more h e f t same = ap (λ (w : List ℕ). h ++ w) same ∙ sym (append_assoc h e t)

pub report_none : (g : Gathered) → g.report ≡ [] → flat_map report_text g.report ≡ []
report_none g e = ap (flat_map report_text) e

pub cells_none : (g : Gathered) → ((q : ℕ) → get_or g.cells q [] ≡ []) → cells_text g.cells ≡ []
cells_none g none = nested_none cell_text 0 g.cells none

pub pool_none : (g : Gathered) → g.pool ≡ [] → pools_text g.pool ≡ []
pool_none g e = ap pools_text e

-- nothing comes after the end
not_end : (l p : Place) (g : Gathered) → StandsBehind l p → told_to l g ≡ told g
not_end End p g (inr h) = absurd h
not_end End Head g (inl h) = absurd (omega (arith, h.0))
not_end End Record g (inl h) = absurd (omega (arith, h.0))
not_end End (Root q j) g (inl h) = absurd (omega (arith, h.0))
not_end End (Pool j) g (inl h) = absurd (omega (arith, h.0))
not_end End (Cell q j) g (inl h) = absurd (omega (arith, h.0))
not_end End Report g (inl h) = absurd (omega (arith, h.0))
not_end End End g (inl h) = absurd (omega (arith, h.0))
not_end l p g h = refl

-- the head comes after nothing
pub no_head : (l : Place) → StandsBehind l Head → ⊥
no_head l (inl h) = absurd (omega (arith, h.0))
no_head Head (inr h) = h
no_head Record (inr h) = h
no_head (Root q j) (inr h) = h
no_head (Pool j) (inr h) = h
no_head (Cell q j) (inr h) = h
no_head Report (inr h) = h
no_head End (inr h) = h

-- there is a journal for each partition and a history for each cell
pub record IsRoomy (g : Gathered) : Type 0 where
  pub journals : length g.roots ≡ 4
  pub histories : length g.cells ≡ 64

told_next : (l : Place) (g : Gathered) (i : Item) → StandsBehind l (item_place i) → Stands l g → IsRoomy g → FitsItem i →
    told_to (item_place i) (gathered_with i g) ≡ told g ++ item_text i
told_next l g items.Head h s room fits = absurd (no_head l h)
told_next l g (items.Record e) h s room fits =
    let f = front_record l g h s in
    let r : List ℕ = roots_text g.roots in
    let p : List ℕ = pools_text g.pool in
    let c : List ℕ = cells_text g.cells in
    let t : List ℕ = flat_map report_text g.report in
    let none = tail4 (codes "run 1\n" ++ flat_map entry_text (g.entries ++ e ∷ [])) r p c t (nested_none root_text 0 g.roots f.0)
    (pool_none g f.1.pool) (cells_none g f.1.behind.cells) (report_none g f.1.behind.report) in
    let before = tail4 (codes "run 1\n" ++ flat_map entry_text g.entries) r p c t (nested_none root_text 0 g.roots f.0)
    (pool_none g f.1.pool) (cells_none g f.1.behind.cells) (report_none g f.1.behind.report) in
    none ∙ more (codes "run 1\n") (flat_map entry_text g.entries) (flat_map entry_text (g.entries ++ e ∷ [])) (entry_text e)
    (flat_push entry_text g.entries e)
    ∙ ap (λ (w : List ℕ). w ++ entry_text e) (sym before)
told_next l g (items.Root p j e) h s room fits =
    let f = front_root l p j g h s in
    let front : List ℕ = codes "run 1\n" ++ flat_map entry_text g.entries in
    let roots : List (List RootEntry) = set g.roots p (get_or g.roots p [] ++ e ∷ []) in
    let m : List ℕ = pools_text g.pool in
    let c : List ℕ = cells_text g.cells in
    let t : List ℕ = flat_map report_text g.report in
    let none = tail3 (front ++ roots_text roots) m c t (pool_none g f.behind.pool) (cells_none g f.behind.behind.cells)
    (report_none g f.behind.behind.report) in
    let before = tail3 (front ++ roots_text g.roots) m c t (pool_none g f.behind.pool) (cells_none g f.behind.behind.cells)
    (report_none g f.behind.behind.report) in
    none ∙ more front (roots_text g.roots) (roots_text roots) (root_text p j e)
    (nested_push root_text p j g.roots e (omega (arith, fits.0, room.journals)) f.count f.later)
    ∙ ap (λ (w : List ℕ). w ++ root_text p j e) (sym before)
told_next l g (items.Pool j e) h s room fits =
    let f = front_pool l j g h s in
    let front : List ℕ = codes "run 1\n" ++ flat_map entry_text g.entries ++ roots_text g.roots in
    let c : List ℕ = cells_text g.cells in
    let t : List ℕ = flat_map report_text g.report in
    let none = tail2 (front ++ pools_text (g.pool ++ e ∷ [])) c t (cells_none g f.1.cells) (report_none g f.1.report) in
    let before = tail2 (front ++ pools_text g.pool) c t (cells_none g f.1.cells) (report_none g f.1.report) in
    none ∙ more front (pools_text g.pool) (pools_text (g.pool ++ e ∷ [])) (pool_text j e)
    (lines_push pool_text 0 j g.pool e (omega (arith, f.0)))
    ∙ ap (λ (w : List ℕ). w ++ pool_text j e) (sym before)
told_next l g (items.Cell k j e) h s room fits =
    let f = front_cell l k j g h s in
    let front : List ℕ = codes "run 1\n" ++ flat_map entry_text g.entries ++ roots_text g.roots ++ pools_text g.pool in
    let cells : List (List CellEntry) = set g.cells k (get_or g.cells k [] ++ e ∷ []) in
    let t : List ℕ = flat_map report_text g.report in
    tail1 (front ++ cells_text cells) t (report_none g f.report)
    ∙ more front (cells_text g.cells) (cells_text cells) (cell_text k j e)
    (nested_push cell_text k j g.cells e (omega (arith, fits.0, room.histories)) f.count f.later)
    ∙ ap (λ (w : List ℕ). w ++ cell_text k j e) (sym (tail1 (front ++ cells_text g.cells) t (report_none g f.report)))
told_next l g (items.Report x) h s room fits =
    more (codes "run 1\n" ++ flat_map entry_text g.entries ++ roots_text g.roots ++ pools_text g.pool ++ cells_text g.cells)
    (flat_map report_text g.report) (flat_map report_text (g.report ++ x ∷ []))
    (report_text x) (flat_push report_text g.report x)
told_next l g items.End h s room fits = refl

-- the text grows by the item's line
pub told_more : (l : Place) (g : Gathered) (i : Item) → StandsBehind l (item_place i) → Stands l g → IsRoomy g → FitsItem i →
    told_to (item_place i) (gathered_with i g) ≡ told_to l g ++ item_text i
told_more l g i h s room fits = told_next l g i h s room fits ∙ ap (λ (w : List ℕ). w ++ item_text i) (sym (not_end l (item_place i) g h))
