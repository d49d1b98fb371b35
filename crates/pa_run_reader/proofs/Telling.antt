-- The items of a run: their texts are its text, each follows the one before, and the last is `end`.
use Rattle.std.proofs.Common.{◌≡◌, ℕ, ◌+◌, ◌<◌, ◌≤◌, List, [], ◌∷◌, ◌++◌, codes, length, map, inl, inr, Some, None, refl, sym, ap, subst, ◌∙◌, append_assoc, arith}
use Rattle.std.specs.List.{AllByRecursion, flat_map}
use Rattle.std.proofs.lemmas.Grind.{flat_map-append}
use Rattle.pa_record.specs.declared.entry.Entry.{Entry}
use Rattle.pa_record.specs.declared.root.RootEntry.{RootEntry}
use Rattle.pa_record.specs.declared.pool.PoolEntry.{PoolEntry}
use Rattle.pa_record.specs.declared.history.CellEntry.{CellEntry}
use Rattle.pa_record.specs.declared.report.ReportLine.{ReportLine}
use Rattle.pa_record.specs.declared.run.Run.{Run}
use Rattle.pa_record.specs.Bits.{EntryInBits, RootInBits, PoolInBits, CellInBits, ReportInBits}
use Rattle.pa_record.specs.RunText.{NamesSlots, IsRunText}
use Rattle.pa_record.specs.Text.{entry_text, root_text, pool_text, cell_text, report_text, lines_from, run_text}
use Rattle.pa_record.proofs.Lists.{nested}
use Rattle.pa_run_reader.specs.declared.item.Item.{Item}
use Rattle.pa_run_reader.specs.declared.item.Item.TheVariants as items
use Rattle.pa_run_reader.specs.Item.{FitsItem, item_text}
use Rattle.pa_run_reader.specs.Order.{item_place, kind, Follows, numbered_items, listed_items, items_of, AreInOrder}

-- ---- texts

numbered_text : {A : Type 0} (at : ℕ → A → Item) (f : ℕ → A → List ℕ) → ((j : ℕ) (x : A) → item_text (at j x) ≡ f j x) →
    (n : ℕ) (xs : List A)
    → flat_map item_text (numbered_items at n xs) ≡ lines_from f n xs
numbered_text at f same n [] = refl
numbered_text at f same n (x ∷ xs) =
    ap (λ (w : List ℕ). w ++ flat_map item_text (numbered_items at (n + 1) xs)) (same n x) ∙
    ap (λ (w : List ℕ). f n x ++ w) (numbered_text at f same (n + 1) xs)

listed_text : {A : Type 0} (at : ℕ → ℕ → A → Item) (f : ℕ → ℕ → A → List ℕ) → ((p j : ℕ) (x : A) → item_text (at p j x) ≡ f p j x) →
    (p : ℕ) (lists : List (List A))
    → flat_map item_text (listed_items at p lists) ≡ nested f p lists
listed_text at f same p [] = refl
listed_text at f same p (xs ∷ lists) =
    flat_map-append item_text (numbered_items (at p) 0 xs) (listed_items at (p + 1) lists)
    ∙ ap (λ (w : List ℕ). w ++ flat_map item_text (listed_items at (p + 1) lists)) (numbered_text (at p) (f p) (same p) 0 xs)
    ∙ ap (λ (w : List ℕ). lines_from (f p) 0 xs ++ w) (listed_text at f same (p + 1) lists)

plain_text : {A : Type 0} (at : A → Item) (f : A → List ℕ) → ((x : A) → item_text (at x) ≡ f x) → (xs : List A) →
    flat_map item_text (map at xs) ≡ flat_map f xs
plain_text at f same [] = refl
plain_text at f same (x ∷ xs) = ap (λ (w : List ℕ). w ++ flat_map item_text (map at xs)) (same x) ∙
    ap (λ (w : List ℕ). f x ++ w) (plain_text at f same xs)

-- a part's text, put behind what was told
part : (h is t u : List ℕ) → h ≡ t → is ≡ u → h ++ is ≡ t ++ u
part h is t u e f = cc

joined_items : (a b : List Item) (t u : List ℕ) → flat_map item_text a ≡ t → flat_map item_text b ≡ u → flat_map item_text (a ++ b) ≡ t ++ u
joined_items a b t u e f = flat_map-append item_text a b ∙ part (flat_map item_text a) (flat_map item_text b) t u e f

pub items_text : (r : Run) → run_text r ≡ flat_map item_text (items_of r)
items_text r =
    let head = items.Head ∷ [] in
    let entries = map (λ e. items.Record e) r.entries.items in
    let roots = listed_items (λ p j e. items.Root p j e) 0 r.roots.items in
    let pool = numbered_items (λ j e. items.Pool j e) 0 r.pool.items in
    let cells = listed_items (λ k j e. items.Cell k j e) 0 r.cells.items in
    let report = map (λ l. items.Report l) r.report.items in
    let first = joined_items head entries (codes "run 1\n") (flat_map entry_text r.entries.items) refl
    (plain_text (λ e. items.Record e) entry_text (λ e. refl) r.entries.items) in
    let second = joined_items (head ++ entries) roots _ _ first
    (listed_text (λ p j e. items.Root p j e) root_text (λ p j e. refl) 0 r.roots.items) in
    let third = joined_items (head ++ entries ++ roots) pool _ _ second
    (numbered_text (λ j e. items.Pool j e) pool_text (λ j e. refl) 0 r.pool.items) in
    let fourth = joined_items (head ++ entries ++ roots ++ pool) cells _ _ third
    (listed_text (λ k j e. items.Cell k j e) cell_text (λ k j e. refl) 0 r.cells.items) in
    let fifth = joined_items (head ++ entries ++ roots ++ pool ++ cells) report _ _ fourth
    (plain_text (λ l. items.Report l) report_text (λ l. refl) r.report.items) in
    let whole = joined_items (head ++ entries ++ roots ++ pool ++ cells ++ report) (items.End ∷ []) _ (codes "end\n") fifth refl in
    sym whole

-- ---- the order

-- the last of these may be the last after which those stand
abbrev Goes : (Item → Type 0) → List Item → Type 0
Goes Behind tail = (last : Item) → Behind last → AreInOrder (Some last) tail

-- items of kinds up to this one
abbrev IsUpTo : ℕ → Item → Type 0
IsUpTo k i = kind (item_place i) ≤ k

end_goes : Goes (IsUpTo 5) (items.End ∷ [])
end_goes last h = (tt, inl (omega (arith, h), tt), refl)

begin_report : (last : Item) (l : ReportLine) → IsUpTo 5 last → Follows (Some last) (items.Report l)
begin_report (items.Report x) l h = inr tt
begin_report items.Head l h = inl (omega arith, tt)
begin_report (items.Record e) l h = inl (omega arith, tt)
begin_report (items.Root p j e) l h = inl (omega arith, tt)
begin_report (items.Pool j e) l h = inl (omega arith, tt)
begin_report (items.Cell k j e) l h = inl (omega arith, tt)
begin_report items.End l h = absurd (omega (arith, h))

report_goes : (ls : List ReportLine) (tail : List Item) → AllByRecursion ReportInBits ls → Goes (IsUpTo 5) tail →
    Goes (IsUpTo 5) (map (λ l. items.Report l) ls ++ tail)
report_goes [] tail fits goes last h = goes last h
report_goes (l ∷ ls) tail fits goes last h = (fits.0, begin_report last l h, report_goes ls tail fits.1 goes (items.Report l) (omega arith))

begin_record : (last : Item) (e : Entry) → IsUpTo 1 last → Follows (Some last) (items.Record e)
begin_record (items.Record x) e h = inr tt
begin_record items.Head e h = inl (omega arith, tt)
begin_record (items.Report x) e h = absurd (omega (arith, h))
begin_record (items.Root p j x) e h = absurd (omega (arith, h))
begin_record (items.Pool j x) e h = absurd (omega (arith, h))
begin_record (items.Cell k j x) e h = absurd (omega (arith, h))
begin_record items.End e h = absurd (omega (arith, h))

record_goes : (es : List Entry) (tail : List Item) → AllByRecursion EntryInBits es → Goes (IsUpTo 1) tail →
    Goes (IsUpTo 1) (map (λ e. items.Record e) es ++ tail)
record_goes [] tail fits goes last h = goes last h
record_goes (e ∷ es) tail fits goes last h = (fits.0, begin_record last e h, record_goes es tail fits.1 goes (items.Record e) (omega arith))

-- ---- numbered items

-- entry j of the pool may come
abbrev IsPoolDue : ℕ → Item → Type 0
IsPoolDue j i = (x : PoolEntry) → Follows (Some i) (items.Pool j x)

begin_pool : (last : Item) → IsUpTo 2 last → IsPoolDue 0 last
begin_pool last h x = inl (omega (arith, h), refl)

pool_rest : (j : ℕ) (es : List PoolEntry) (tail : List Item) → AllByRecursion PoolInBits es → Goes (IsUpTo 3) tail → (last : Item) →
    IsUpTo 3 last → IsPoolDue j last
    → AreInOrder (Some last) (numbered_items (λ j e. items.Pool j e) j es ++ tail)
pool_rest j [] tail fits goes last h due = goes last h
pool_rest j (e ∷ es) tail fits goes last h due =
    (fits.0, due e, pool_rest (j + 1) es tail fits.1 goes (items.Pool j e) (omega arith) (λ x. inr refl))

pool_goes : (es : List PoolEntry) (tail : List Item) → AllByRecursion PoolInBits es → Goes (IsUpTo 3) tail →
    Goes (IsUpTo 2) (numbered_items (λ j e. items.Pool j e) 0 es ++ tail)
pool_goes es tail fits goes last h = pool_rest 0 es tail fits goes last (omega (arith, h)) (begin_pool last h)

-- ---- items in lists

-- The items of lists: what may come before list p, and after all of them. `at` makes the item, and `Up p` says that the last one
-- comes before list p.
record AreLists {A : Type 0} (P : A → Type 0) (most : ℕ) (at : ℕ → ℕ → A → Item) (Up : ℕ → Item → Type 0) : Type 0 where
  fits : (p j : ℕ) (x : A) → p < most → P x → FitsItem (at p j x)
  first : (p : ℕ) (last : Item) (x : A) → Up p last → Follows (Some last) (at p 0 x)
  next : (p j : ℕ) (x y : A) → Follows (Some (at p j x)) (at p (j + 1) y)
  up : (p j : ℕ) (x : A) → Up (p + 1) (at p j x)
  later : (p : ℕ) (last : Item) → Up p last → Up (p + 1) last

module _ {A : Type 0} (P : A → Type 0) (most : ℕ) (at : ℕ → ℕ → A → Item) (Up : ℕ → Item → Type 0) (known : AreLists P most at Up) where
  list_rest : (p j : ℕ) (xs : List A) (tail : List Item) → p < most → AllByRecursion P xs → Goes (Up (p + 1)) tail → (last : Item) →
      Up (p + 1) last → ((x : A) → Follows (Some last) (at p j x))
      → AreInOrder (Some last) (numbered_items (at p) j xs ++ tail)
  list_rest p j [] tail lt fits goes last up due = goes last up
  list_rest p j (x ∷ xs) tail lt fits goes last up due =
      (known.fits p j x lt fits.0, due x, list_rest p (j + 1) xs tail lt fits.1 goes (at p j x) (known.up p j x) (λ y. known.next p j x y))

  lists_go : (p : ℕ) (lists : List (List A)) (tail : List Item) → p + length lists ≤ most → AllByRecursion (AllByRecursion P) lists →
      Goes (Up (p + length lists)) tail
      → Goes (Up p) (listed_items at p lists ++ tail)
  lists_go p [] tail few fits goes last h = goes last (subst (λ (q : ℕ). Up q last) (omega arith) h)
  lists_go p (xs ∷ lists) tail few fits goes last h =
      let rest = lists_go (p + 1) lists tail (omega arith) fits.1 (λ l k. goes l (subst (λ (q : ℕ). Up q l) (omega arith) k)) in
      subst (λ is. AreInOrder (Some last) is) (sym (append_assoc (numbered_items (at p) 0 xs) (listed_items at (p + 1) lists) tail))
      (list_rest p 0 xs (listed_items at (p + 1) lists ++ tail) (omega arith) fits.0 rest last (known.later p last h)
      (λ x. known.first p last x h))

-- before the journal of partition p
abbrev IsUpToRoot : ℕ → Item → Type 0
IsUpToRoot p (items.Root q j e) = q < p
IsUpToRoot p i = IsUpTo 1 i

abbrev IsRootFit : RootEntry → Type 0
IsRootFit e = RootInBits e × NamesSlots e.act

root_first : (p : ℕ) (last : Item) (x : RootEntry) → IsUpToRoot p last → Follows (Some last) (items.Root p 0 x)
root_first p (items.Root q j e) x h = inr (inr (h, refl))
root_first p items.Head x h = inl (omega arith, refl)
root_first p (items.Record e) x h = inl (omega arith, refl)
root_first p (items.Pool j e) x h = absurd (omega (arith, h))
root_first p (items.Cell k j e) x h = absurd (omega (arith, h))
root_first p (items.Report l) x h = absurd (omega (arith, h))
root_first p items.End x h = absurd (omega (arith, h))

root_later : (p : ℕ) (last : Item) → IsUpToRoot p last → IsUpToRoot (p + 1) last
root_later p (items.Root q j e) h = omega (arith, h)
root_later p items.Head h = h
root_later p (items.Record e) h = h
root_later p (items.Pool j e) h = h
root_later p (items.Cell k j e) h = h
root_later p (items.Report l) h = h
root_later p items.End h = h

root_kind : (p : ℕ) (last : Item) → IsUpToRoot p last → IsUpTo 2 last
root_kind p (items.Root q j e) h = omega arith
root_kind p items.Head h = omega arith
root_kind p (items.Record e) h = omega arith
root_kind p (items.Pool j e) h = absurd (omega (arith, h))
root_kind p (items.Cell k j e) h = absurd (omega (arith, h))
root_kind p (items.Report l) h = absurd (omega (arith, h))
root_kind p items.End h = absurd (omega (arith, h))

root_begin : (last : Item) → IsUpTo 1 last → IsUpToRoot 0 last
root_begin (items.Root q j e) h = absurd (omega (arith, h))
root_begin items.Head h = h
root_begin (items.Record e) h = h
root_begin (items.Pool j e) h = h
root_begin (items.Cell k j e) h = h
root_begin (items.Report l) h = h
root_begin items.End h = h

roots_listed : AreLists IsRootFit 4 (λ p j e. items.Root p j e) IsUpToRoot
roots_listed = record {
  fits = λ p j x lt fit. (lt, fit.0, fit.1);
  first = root_first;
  next = λ p j x y. inr (inl (refl, refl));
  up = λ p j x. omega arith;
  later = root_later;
}

-- before the history of cell k
abbrev IsUpToCell : ℕ → Item → Type 0
IsUpToCell k (items.Cell q j e) = q < k
IsUpToCell k i = IsUpTo 3 i

cell_first : (k : ℕ) (last : Item) (x : CellEntry) → IsUpToCell k last → Follows (Some last) (items.Cell k 0 x)
cell_first k (items.Cell q j e) x h = inr (inr (h, refl))
cell_first k items.Head x h = inl (omega arith, refl)
cell_first k (items.Record e) x h = inl (omega arith, refl)
cell_first k (items.Root p j e) x h = inl (omega arith, refl)
cell_first k (items.Pool j e) x h = inl (omega arith, refl)
cell_first k (items.Report l) x h = absurd (omega (arith, h))
cell_first k items.End x h = absurd (omega (arith, h))

cell_later : (k : ℕ) (last : Item) → IsUpToCell k last → IsUpToCell (k + 1) last
cell_later k (items.Cell q j e) h = omega (arith, h)
cell_later k items.Head h = h
cell_later k (items.Record e) h = h
cell_later k (items.Root p j e) h = h
cell_later k (items.Pool j e) h = h
cell_later k (items.Report l) h = h
cell_later k items.End h = h

cell_kind : (k : ℕ) (last : Item) → IsUpToCell k last → IsUpTo 5 last
cell_kind k (items.Cell q j e) h = omega arith
cell_kind k items.Head h = omega arith
cell_kind k (items.Record e) h = omega arith
cell_kind k (items.Root p j e) h = omega arith
cell_kind k (items.Pool j e) h = omega arith
cell_kind k (items.Report l) h = absurd (omega (arith, h))
cell_kind k items.End h = absurd (omega (arith, h))

cell_begin : (last : Item) → IsUpTo 3 last → IsUpToCell 0 last
cell_begin (items.Cell q j e) h = absurd (omega (arith, h))
cell_begin items.Head h = h
cell_begin (items.Record e) h = h
cell_begin (items.Root p j e) h = h
cell_begin (items.Pool j e) h = h
cell_begin (items.Report l) h = h
cell_begin items.End h = h

cells_listed : AreLists CellInBits 64 (λ k j e. items.Cell k j e) IsUpToCell
cells_listed = record {
  fits = λ k j x lt fit. (lt, fit);
  first = cell_first;
  next = λ k j x y. inr (inl (refl, refl));
  up = λ k j x. omega arith;
  later = cell_later;
}

-- ---- the run

all_pairs : {A : Type 0} (P Q : A → Type 0) (xs : List A) → AllByRecursion P xs → AllByRecursion Q xs → AllByRecursion (λ x. P x × Q x) xs
all_pairs P Q [] p q = tt
all_pairs P Q (x ∷ xs) p q = ((p.0, q.0), all_pairs P Q xs p.1 q.1)

all_both : {A : Type 0} (P Q : A → Type 0) (lists : List (List A)) → AllByRecursion (AllByRecursion P) lists
    → AllByRecursion (AllByRecursion Q) lists → AllByRecursion (AllByRecursion (λ x. P x × Q x)) lists
all_both P Q [] p q = tt
all_both P Q (xs ∷ lists) p q = (all_pairs P Q xs p.0 q.0, all_both P Q lists p.1 q.1)

items_cut : (a b c d f g h : List Item) → a ++ b ++ c ++ d ++ f ++ g ++ h ≡ a ++ (b ++ (c ++ (d ++ (f ++ (g ++ h)))))
items_cut a b c d f g h = simp append_assoc

-- the items of a run are in order
pub items_ordered : (r : Run) (bytes : List ℕ) → IsRunText r bytes → AreInOrder None (items_of r)
items_ordered r bytes h =
    let entries = map (λ e. items.Record e) r.entries.items in
    let roots = listed_items (λ p j e. items.Root p j e) 0 r.roots.items in
    let pool = numbered_items (λ j e. items.Pool j e) 0 r.pool.items in
    let cells = listed_items (λ k j e. items.Cell k j e) 0 r.cells.items in
    let report = map (λ l. items.Report l) r.report.items in
    let last : List Item = items.End ∷ [] in
    let five : Goes (IsUpTo 5) (report ++ last) = report_goes r.report.items last h.fits.report end_goes in
    let four : Goes (IsUpToCell 0) (cells ++ (report ++ last)) =
    lists_go CellInBits 64 (λ k j e. items.Cell k j e) IsUpToCell cells_listed 0 r.cells.items (report ++ last)
    (omega (arith, h.form.cells)) h.fits.cells
    (λ l up. five l (cell_kind (0 + length r.cells.items) l up)) in
    let three = pool_goes r.pool.items (cells ++ (report ++ last)) h.fits.pool (λ l up. four l (cell_begin l up)) in
    let two : Goes (IsUpToRoot 0) (roots ++ (pool ++ (cells ++ (report ++ last)))) =
    lists_go IsRootFit 4 (λ p j e. items.Root p j e) IsUpToRoot roots_listed 0 r.roots.items (pool ++ (cells ++ (report ++ last)))
    (omega (arith, h.form.roots))
    (all_both RootInBits (λ e. NamesSlots e.act) r.roots.items h.fits.roots h.form.slots)
    (λ l up. three l (root_kind (0 + length r.roots.items) l up)) in
    let one = record_goes r.entries.items (roots ++ (pool ++ (cells ++ (report ++ last)))) h.fits.entries
    (λ l up. two l (root_begin l up)) in
    subst (λ is. AreInOrder None is) (sym (items_cut (items.Head ∷ []) entries roots pool cells report last))
    (tt, refl, one items.Head (omega arith))
