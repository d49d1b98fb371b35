-- What stays true of what is gathered, item by item, and of the run at the end.
use Rattle.std.proofs.Common.{◌≡◌, ℕ, suc, ◌+◌, ◌<◌, List, [], ◌∷◌, ◌++◌, codes, length, get_or, set, inl, inr, refl, sym, ap, subst, ◌∙◌, arith}
use Rattle.std.specs.List.{All, AllByRecursion, flat_map}
use Rattle.std.proofs.lemmas.List.{get_or-set_same, get_or-set_other, length-set, length_push, get_or_past}
use Rattle.std.proofs.lemmas.Bool.{cases_lt}
use Rattle.pa_record.specs.declared.run.Run.{Run}
use Rattle.pa_record.specs.declared.root.RootEntry.{RootEntry}
use Rattle.pa_record.specs.Bits.{EntryInBits, RootInBits, PoolInBits, CellInBits, ReportInBits}
use Rattle.pa_record.specs.RunText.{NamesSlots, IsRunText}
use Rattle.pa_record.specs.declared.entry.Entry.{Entry}
use Rattle.pa_record.specs.Text.{entry_text, root_text, roots_text, pools_text, cells_text, report_text}
use Rattle.pa_run_reader.specs.declared.item.Item.{Item}
use Rattle.pa_run_reader.specs.declared.item.Item.TheVariants as items
use Rattle.pa_run_reader.specs.declared.place.Place.{Place}
use Rattle.pa_run_reader.specs.declared.place.Place.TheVariants.{Head}
use Rattle.pa_run_reader.specs.Item.{FitsItem}
use Rattle.pa_run_reader.specs.Order.{item_place, StandsBehind}
use Rattle.pa_run_reader.specs.Gathered.{Gathered, gathered_with, HasListOf, IsUngathered, TellsGathered}
use Rattle.pa_run_reader.proofs.Grown.{all_set, all_at, nested_none}
use Rattle.pa_run_reader.proofs.Gathering.{Stands, IsRoomy, told, no_head, front_record, front_root, front_pool, front_cell, report_none, cells_none, pool_none, tail4}
use Rattle.pa_lists.proofs.Elements.{all_more}

-- ---- a list of lists with one more entry in list p

set_later : {A : Type 0} (lists : List (List A)) (p : ℕ) (xs : List A) → ((q : ℕ) → p < q → get_or lists q [] ≡ []) → (q : ℕ) → p < q →
    get_or (set lists p xs) q [] ≡ []
set_later lists p xs none q order = get_or-set_other lists p q xs [] (λ e. omega (arith, e, order)) ∙ none q order

set_count : {A : Type 0} (lists : List (List A)) (p j : ℕ) (x : A) → p < length lists → length (get_or lists p []) ≡ j →
    length (get_or (set lists p (get_or lists p [] ++ x ∷ [])) p []) ≡ j + 1
set_count lists p j x lt e =
    ap length (get_or-set_same lists p (get_or lists p [] ++ x ∷ []) [] lt) ∙ omega (arith, e, length_push (get_or lists p []) x)

-- ---- places

pub stands_next : (l : Place) (g : Gathered) (i : Item) → StandsBehind l (item_place i) → Stands l g → IsRoomy g → FitsItem i →
    Stands (item_place i) (gathered_with i g)
stands_next l g items.Head h s room fits = absurd (no_head l h)
stands_next l g (items.Record e) h s room fits =
    let f = front_record l g h s in record {
      roots = λ q before. f.0 q;
      pool = λ before. f.1.pool;
      cells = λ q before. f.1.behind.cells q;
      report = λ before. f.1.behind.report;
      count = tt;
    }
stands_next l g (items.Root p j e) h s room fits =
    let f = front_root l p j g h s in record {
      roots = λ q order. set_later g.roots p (get_or g.roots p [] ++ e ∷ []) f.later q order;
      pool = λ before. f.behind.pool;
      cells = λ q before. f.behind.behind.cells q;
      report = λ before. f.behind.behind.report;
      count = set_count g.roots p j e (omega (arith, fits.0, room.journals)) f.count;
    }
stands_next l g (items.Pool j e) h s room fits =
    let f = front_pool l j g h s in record {
      roots = λ q before. absurd before;
      pool = λ before. absurd before;
      cells = λ q before. f.1.cells q;
      report = λ before. f.1.report;
      count = omega (arith, f.0, length_push g.pool e);
    }
stands_next l g (items.Cell k j e) h s room fits =
    let f = front_cell l k j g h s in record {
      roots = λ q before. absurd before;
      pool = λ before. absurd before;
      cells = λ q order. set_later g.cells k (get_or g.cells k [] ++ e ∷ []) f.later q order;
      report = λ before. f.report;
      count = set_count g.cells k j e (omega (arith, fits.0, room.histories)) f.count;
    }
stands_next l g (items.Report x) h s room fits =
    record {
      roots = λ q before. absurd before;
      pool = λ before. absurd before;
      cells = λ q before. absurd before;
      report =
          λ before. absurd before;
      count = tt;
    }
stands_next l g items.End h s room fits =
    record {
      roots = λ q before. absurd before;
      pool = λ before. absurd before;
      cells = λ q before. absurd before;
      report =
          λ before. absurd before;
      count = tt;
    }

-- ---- numbers

abbrev pub AllSlots : RootEntry → Type 0
AllSlots e = NamesSlots e.act

-- the lists are those of a run that can be printed
pub record Kept (g : Gathered) : Type 0 where
  pub room : IsRoomy g
  pub entries : AllByRecursion EntryInBits g.entries
  pub roots : AllByRecursion (AllByRecursion RootInBits) g.roots
  pub slots : AllByRecursion (AllByRecursion AllSlots) g.roots
  pub pool : AllByRecursion PoolInBits g.pool
  pub cells : AllByRecursion (AllByRecursion CellInBits) g.cells
  pub report : AllByRecursion ReportInBits g.report

all_nested : {A : Type 0} (P : A → Type 0) (lists : List (List A)) (p : ℕ) (x : A) → AllByRecursion (AllByRecursion P) lists → P x
    → AllByRecursion (AllByRecursion P) (set lists p (get_or lists p [] ++ x ∷ []))
all_nested P lists p x all one =
    all_set (AllByRecursion P) lists p (get_or lists p [] ++ x ∷ []) all
    (all_more P (get_or lists p []) x (all_at (AllByRecursion P) lists p [] all tt) one)

pub kept_next : (g : Gathered) (i : Item) → Kept g → FitsItem i → Kept (gathered_with i g)
kept_next g items.Head k fits = k
kept_next g (items.Record e) k fits =
    record {
      room = record { journals = k.room.journals; histories = k.room.histories };
      entries = all_more EntryInBits g.entries e k.entries fits;
      roots = k.roots;
      slots = k.slots;
      pool = k.pool;
      cells = k.cells;
      report = k.report;
    }
kept_next g (items.Root p j e) k fits = record {
  room = record { journals = length-set g.roots p (get_or g.roots p [] ++ e ∷ []) ∙ k.room.journals; histories = k.room.histories };
  entries = k.entries;
  roots = all_nested RootInBits g.roots p e k.roots fits.1;
  slots = all_nested AllSlots g.roots p e k.slots fits.2;
  pool = k.pool;
  cells = k.cells;
  report = k.report;
}
kept_next g (items.Pool j e) k fits =
    record {
      room = record { journals = k.room.journals; histories = k.room.histories };
      entries = k.entries;
      roots = k.roots;
      slots = k.slots;
      pool = all_more PoolInBits g.pool e k.pool fits;
      cells = k.cells;
      report = k.report;
    }
kept_next g (items.Cell c j e) k fits = record {
  room = record { journals = k.room.journals; histories = length-set g.cells c (get_or g.cells c [] ++ e ∷ []) ∙ k.room.histories };
  entries = k.entries;
  roots = k.roots;
  slots = k.slots;
  pool = k.pool;
  cells = all_nested CellInBits g.cells c e k.cells fits.1;
  report = k.report;
}
kept_next g (items.Report x) k fits =
    record {
      room = record { journals = k.room.journals; histories = k.room.histories };
      entries = k.entries;
      roots = k.roots;
      slots = k.slots;
      pool = k.pool;
      cells = k.cells;
      report = all_more ReportInBits g.report x k.report fits;
    }
kept_next g items.End k fits = k

-- the item's list is there
pub listed : (g : Gathered) (i : Item) → Kept g → FitsItem i → HasListOf i g
listed g items.Head k fits = tt
listed g (items.Record e) k fits = tt
listed g (items.Root p j e) k fits = omega (arith, fits.0, k.room.journals)
listed g (items.Pool j e) k fits = tt
listed g (items.Cell c j e) k fits = omega (arith, fits.0, k.room.histories)
listed g (items.Report x) k fits = tt
listed g items.End k fits = tt

-- ---- at the start

all_empty : {A : Type 0} (lists : List (List A)) → All (λ xs. xs ≡ []) lists → (q : ℕ) → get_or lists q [] ≡ []
all_empty lists h q =
    elim (cases_lt q (length lists)) [ inl lt ↦ h q [] lt | inr past ↦ get_or_past lists q [] past ]

none_nested : {A : Type 0} (P : A → Type 0) (lists : List (List A)) → ((q : ℕ) → get_or lists q [] ≡ []) →
    AllByRecursion (AllByRecursion P) lists
none_nested P [] h = tt
none_nested P (xs ∷ lists) h = (subst (λ z. AllByRecursion P z) (sym (h 0)) tt, none_nested P lists (λ q. h (suc q)))

none_all : {A : Type 0} (P : A → Type 0) (xs : List A) → xs ≡ [] → AllByRecursion P xs
none_all P xs e = subst (λ z. AllByRecursion P z) (sym e) tt

pub stands_first : (g : Gathered) → IsUngathered g → Stands Head g
stands_first g u = record {
  roots = λ q before. all_empty g.roots u.roots q;
  pool = λ before. u.pool;
  cells = λ q before. all_empty g.cells u.cells q;
  report = λ before. u.report;
  count = tt;
}

pub kept_first : (g : Gathered) → IsUngathered g → Kept g
kept_first g u = record {
  room = record { journals = u.journals; histories = u.histories };
  entries = none_all EntryInBits g.entries u.entries;
  roots = none_nested RootInBits g.roots (all_empty g.roots u.roots);
  slots = none_nested AllSlots g.roots (all_empty g.roots u.roots);
  pool = none_all PoolInBits g.pool u.pool;
  cells = none_nested CellInBits g.cells (all_empty g.cells u.cells);
  report = none_all ReportInBits g.report u.report;
}

pub told_first : (g : Gathered) → IsUngathered g → told g ≡ codes "run 1\n"
told_first g u =
    tail4 (codes "run 1\n" ++ flat_map entry_text g.entries) (roots_text g.roots) (pools_text g.pool) (cells_text g.cells)
    (flat_map report_text g.report)
    (nested_none root_text 0 g.roots (all_empty g.roots u.roots)) (pool_none g u.pool) (cells_none g (all_empty g.cells u.cells))
    (report_none g u.report)
    ∙ ap (λ (es : List Entry). codes "run 1\n" ++ flat_map entry_text es) u.entries

-- ---- at the end

pub run_told : (g : Gathered) (r : Run) → Kept g → TellsGathered g r → IsRunText r (told g ++ codes "end\n")
run_told g r k h = record {
  fits = record {
    entries = rw h.entries k.entries;
    roots = rw h.roots k.roots;
    pool = rw h.pool k.pool;
    cells = rw h.cells k.cells;
    report = rw h.report k.report;
  };
  form = record {
    roots = rw h.roots (omega (arith, k.room.journals));
    cells = rw h.cells (omega (arith, k.room.histories));
    slots = rw h.roots k.slots;
  };
  text = rw (h.entries, h.roots, h.pool, h.cells, h.report) refl;
}
