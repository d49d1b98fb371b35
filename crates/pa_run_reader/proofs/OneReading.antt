-- The text of a run has no bad line.
use Rattle.std.proofs.Common.{◌≡◌, ℕ, ◌+◌, ◌*◌, List, [], ◌∷◌, ◌++◌, get_or, map, inl, inr, Option, Some, None, refl, sym, ap, subst, ◌∙◌, arith}
use Rattle.std.specs.List.{flat_map}
use Rattle.pa_trace.specs.Faults.{lines_of}
use Rattle.pa_trace.proofs.Cuts.{no_lines}
use Rattle.pa_record.specs.declared.run.Run.{Run}
use Rattle.pa_record.specs.declared.root.RootEntry.{RootEntry}
use Rattle.pa_record.specs.declared.pool.PoolEntry.{PoolEntry}
use Rattle.pa_record.specs.declared.history.CellEntry.{CellEntry}
use Rattle.pa_record.specs.RunText.{IsRunText}
use Rattle.pa_record.specs.Text.{root_text, pool_text, cell_text, places_text}
use Rattle.pa_record.proofs.EntryLines.{split_entry}
use Rattle.pa_record.proofs.OtherLines.{split_root, root_place, split_pool, split_cell, cell_place, split_line}
use Rattle.pa_run_reader.specs.declared.item.Item.{Item}
use Rattle.pa_run_reader.specs.declared.item.Item.TheVariants as items
use Rattle.pa_run_reader.specs.declared.place.Place.{Place}
use Rattle.pa_run_reader.specs.declared.place.Place.TheVariants.{Root, Pool, Cell}
use Rattle.pa_run_reader.specs.Item.{FitsItem, item_text}
use Rattle.pa_run_reader.specs.Order.{item_place, StandsBehind, Follows, IsFirstBad, items_of, AreInOrder}
use Rattle.pa_run_reader.proofs.TextLines.{item_lines}
use Rattle.pa_run_reader.proofs.Telling.{items_text, items_ordered}

-- ---- of one list, one index may follow

root_index : (l : Place) (p j i : ℕ) → StandsBehind l (Root p j) → StandsBehind l (Root p i) → j ≡ i
root_index l p j i (inl h) (inl k) = omega (arith, h.1, k.1)
root_index (Root q n) p j i (inr (inl h)) (inr (inl k)) = omega (arith, h.1, k.1)
root_index (Root q n) p j i (inr (inl h)) (inr (inr k)) = absurd (omega (arith, h.0, k.0))
root_index (Root q n) p j i (inr (inr h)) (inr (inl k)) = absurd (omega (arith, h.0, k.0))
root_index (Root q n) p j i (inr (inr h)) (inr (inr k)) = omega (arith, h.1, k.1)
root_index (Root q n) p j i (inl h) (inr k) = absurd (omega (arith, h.0))
root_index (Root q n) p j i (inr h) (inl k) = absurd (omega (arith, k.0))
root_index l p j i (inl h) (inr k) = absurd k
root_index l p j i (inr h) k = absurd h

pool_index : (l : Place) (j i : ℕ) → StandsBehind l (Pool j) → StandsBehind l (Pool i) → j ≡ i
pool_index l j i (inl h) (inl k) = omega (arith, h.1, k.1)
pool_index (Pool n) j i (inr h) (inr k) = omega (arith, h, k)
pool_index (Pool n) j i (inl h) (inr k) = absurd (omega (arith, h.0))
pool_index (Pool n) j i (inr h) (inl k) = absurd (omega (arith, k.0))
pool_index l j i (inl h) (inr k) = absurd k
pool_index l j i (inr h) k = absurd h

cell_index : (l : Place) (p j i : ℕ) → StandsBehind l (Cell p j) → StandsBehind l (Cell p i) → j ≡ i
cell_index l p j i (inl h) (inl k) = omega (arith, h.1, k.1)
cell_index (Cell q n) p j i (inr (inl h)) (inr (inl k)) = omega (arith, h.1, k.1)
cell_index (Cell q n) p j i (inr (inl h)) (inr (inr k)) = absurd (omega (arith, h.0, k.0))
cell_index (Cell q n) p j i (inr (inr h)) (inr (inl k)) = absurd (omega (arith, h.0, k.0))
cell_index (Cell q n) p j i (inr (inr h)) (inr (inr k)) = omega (arith, h.1, k.1)
cell_index (Cell q n) p j i (inl h) (inr k) = absurd (omega (arith, h.0))
cell_index (Cell q n) p j i (inr h) (inl k) = absurd (omega (arith, k.0))
cell_index l p j i (inl h) (inr k) = absurd k
cell_index l p j i (inr h) k = absurd h

-- ---- of one text, one item may follow

ended : (a b : List ℕ) → a ≡ b → a ++ [] ≡ b ++ []
ended a b e = ap (λ (w : List ℕ). w ++ []) e

same_root : (l : Place) (p j q i : ℕ) (a b : RootEntry) → FitsItem (items.Root p j a) → FitsItem (items.Root q i b) →
    StandsBehind l (Root p j) → StandsBehind l (Root q i)
    → root_text p j a ≡ root_text q i b → items.Root p j a ≡ items.Root q i b
same_root l p j q i a b ha hb h k e =
    let place : p ≡ q = root_place p q j i a b [] [] (omega (arith, ha.0)) (omega (arith, hb.0))
    (ended (root_text p j a) (root_text q i b) e) in
    let index : j ≡ i = root_index l p j i h (subst (λ (x : ℕ). StandsBehind l (Root x i)) (sym place) k) in
    let text : root_text p j a ≡ root_text p j b = e ∙ sym (ap (λ (x : ℕ). root_text x i b) place) ∙
    sym (ap (λ (x : ℕ). root_text p x b) index) in
    let entry : a ≡ b = (split_root p j a b [] [] ha.1 hb.1 (ended (root_text p j a) (root_text p j b) text)).0 in
    cc

same_pool : (l : Place) (j i : ℕ) (a b : PoolEntry) → FitsItem (items.Pool j a) → FitsItem (items.Pool i b) → StandsBehind l (Pool j) →
    StandsBehind l (Pool i)
    → pool_text j a ≡ pool_text i b → items.Pool j a ≡ items.Pool i b
same_pool l j i a b ha hb h k e =
    let index : j ≡ i = pool_index l j i h k in
    let text : pool_text j a ≡ pool_text j b = e ∙ sym (ap (λ (x : ℕ). pool_text x b) index) in
    let entry : a ≡ b = (split_pool j a b [] [] ha hb (ended (pool_text j a) (pool_text j b) text)).0 in
    cc

same_cell : (l : Place) (p j q i : ℕ) (a b : CellEntry) → FitsItem (items.Cell p j a) → FitsItem (items.Cell q i b) →
    StandsBehind l (Cell p j) → StandsBehind l (Cell q i)
    → cell_text p j a ≡ cell_text q i b → items.Cell p j a ≡ items.Cell q i b
same_cell l p j q i a b ha hb h k e =
    let place : p ≡ q = cell_place p q j i a b [] [] (omega (arith, ha.0)) (omega (arith, hb.0))
    (ended (cell_text p j a) (cell_text q i b) e) in
    let index : j ≡ i = cell_index l p j i h (subst (λ (x : ℕ). StandsBehind l (Cell x i)) (sym place) k) in
    let text : cell_text p j a ≡ cell_text p j b = e ∙ sym (ap (λ (x : ℕ). cell_text x i b) place) ∙
    sym (ap (λ (x : ℕ). cell_text p x b) index) in
    let entry : a ≡ b = (split_cell p j a b [] [] ha.1 hb.1 (ended (cell_text p j a) (cell_text p j b) text)).0 in
    cc

-- the first two letters of an item's line, as one number
letters : Item → ℕ
letters items.Head = 114117
letters (items.Record e) = 101032
letters (items.Root p j e) = 114032
letters (items.Pool j e) = 112032
letters (items.Cell k j e) = 99032
letters (items.Report l) = 115032
letters items.End = 101110

letters_text : (i : Item) → 1000 * get_or (item_text i) 0 0 + get_or (item_text i) 1 0 ≡ letters i
unfolding letters places_text
letters_text items.Head = refl
letters_text (items.Record e) = refl
letters_text (items.Root p j e) = refl
letters_text (items.Pool j e) = refl
letters_text (items.Cell k j e) = refl
letters_text (items.Report l) = refl
letters_text items.End = refl

same_letters : (i k : Item) → item_text i ≡ item_text k → letters i ≡ letters k
same_letters i k e = sym (letters_text i) ∙ ap (λ (w : List ℕ). 1000 * get_or w 0 0 + get_or w 1 0) e ∙ letters_text k

same_behind : (l : Place) (i k : Item) → FitsItem i → FitsItem k → StandsBehind l (item_place i) → StandsBehind l (item_place k) →
    item_text i ≡ item_text k → i ≡ k
unfolding letters
same_behind l items.Head items.Head hi hk h g e = refl
same_behind l (items.Record a) (items.Record b) hi hk h g e =
    ap (λ x. items.Record x) (split_entry a b [] [] hi hk (ap (λ (w : List ℕ). w ++ []) e)).0
same_behind l (items.Root p j a) (items.Root q i b) hi hk h g e = same_root l p j q i a b hi hk h g e
same_behind l (items.Pool j a) (items.Pool i b) hi hk h g e = same_pool l j i a b hi hk h g e
same_behind l (items.Cell p j a) (items.Cell q i b) hi hk h g e = same_cell l p j q i a b hi hk h g e
same_behind l (items.Report a) (items.Report b) hi hk h g e =
    ap (λ x. items.Report x) (split_line a b [] [] hi hk (ap (λ (w : List ℕ). w ++ []) e)).0
same_behind l items.End items.End hi hk h g e = refl
same_behind l i k hi hk h g e = absurd (omega (arith, same_letters i k e))

pub same_item : (last : Option Item) (i k : Item) → FitsItem i → FitsItem k → Follows last i → Follows last k → item_text i ≡ item_text k →
    i ≡ k
same_item None i k hi hk h g e = h ∙ sym g
same_item (Some l) i k hi hk h g e = same_behind (item_place l) i k hi hk h g e

-- ---- lines

pub items_lines : (is : List Item) → lines_of (flat_map item_text is) ≡ map item_text is
items_lines [] = no_lines
items_lines (i ∷ is) = item_lines i (flat_map item_text is) ∙ ap (λ (lines : List (List ℕ)). item_text i ∷ lines) (items_lines is)

-- items in order have no bad line
none_bad : (n : ℕ) (last : Option Item) (is : List Item) (m : ℕ) → AreInOrder last is → IsFirstBad n last (map item_text is) m → ⊥
none_bad n last [] m order bad = bad.1 order
none_bad n last (i ∷ is) m order (inl bad) = bad.1 i order.0 order.1 refl
none_bad n last (i ∷ is) m order (inr bad) =
    let same : i ≡ bad.0 = same_item last i bad.0 order.0 bad.1 order.1 bad.2 bad.3 in
    none_bad (n + 1) (Some i) is m order.2 (subst (λ (k : Item). IsFirstBad (n + 1) (Some k) (map item_text is) m) (sym same) bad.4)

pub one_reading : (r : Run) (bytes : List ℕ) (m : ℕ) → IsRunText r bytes → IsFirstBad 1 None (lines_of bytes) m → ⊥
one_reading r bytes m h bad =
    let lines : lines_of bytes ≡ map item_text (items_of r) = ap lines_of (h.text ∙ items_text r) ∙ items_lines (items_of r) in
    none_bad 1 None (items_of r) m (items_ordered r bytes h) (subst (λ (ls : List (List ℕ)). IsFirstBad 1 None ls m) lines bad)

-- ---- a text has one first bad line at most

one_bad : (n : ℕ) (last : Option Item) (lines : List (List ℕ)) (m k : ℕ) → IsFirstBad n last lines m → IsFirstBad n last lines k → m ≡ k
one_bad n last [] m k h g = h.0 ∙ sym g.0
one_bad n last (line ∷ lines) m k (inl h) (inl g) = h.0 ∙ sym g.0
one_bad n last (line ∷ lines) m k (inl h) (inr g) = absurd (h.1 g.0 g.1 g.2 g.3)
one_bad n last (line ∷ lines) m k (inr h) (inl g) = absurd (g.1 h.0 h.1 h.2 h.3)
one_bad n last (line ∷ lines) m k (inr h) (inr g) =
    let same : h.0 ≡ g.0 = same_item last h.0 g.0 h.1 g.1 h.2 g.2 (sym h.3 ∙ g.3) in
    one_bad (n + 1) (Some g.0) lines m k (subst (λ (i : Item). IsFirstBad (n + 1) (Some i) lines m) same h.4) g.4

pub one_bad_line : (bytes : List ℕ) (m k : ℕ) → IsFirstBad 1 None (lines_of bytes) m → IsFirstBad 1 None (lines_of bytes) k → m ≡ k
one_bad_line bytes m k h g = one_bad 1 None (lines_of bytes) m k h g
