-- Items in order are those of each run with the lists that they gather.
use Rattle.std.proofs.Common.{◌≡◌, ℕ, ◌<◌, List, [], ◌∷◌, ◌++◌, codes, length, map, replicate, get_or, Option, Some, None, refl, sym, ap, subst, ◌∙◌, append_assoc, append-nil}
use Rattle.std.specs.List.{flat_map}
use Rattle.std.proofs.lemmas.List.{length-replicate, get_or-replicate}
use Rattle.pa_trace.specs.Faults.{lines_of}
use Rattle.pa_record.specs.declared.root.RootEntry.{RootEntry}
use Rattle.pa_record.specs.declared.history.CellEntry.{CellEntry}
use Rattle.pa_record.specs.declared.run.Run.{Run}
use Rattle.pa_record.specs.RunText.{IsRunText}
use Rattle.pa_run_reader.specs.declared.item.Item.{Item}
use Rattle.pa_run_reader.specs.declared.item.Item.TheVariants as items
use Rattle.pa_run_reader.specs.Item.{item_text}
use Rattle.pa_run_reader.specs.Order.{item_place, AreInOrder, items_of}
use Rattle.pa_run_reader.specs.Gathered.{Gathered, gathered_with, IsUngathered, TellsGathered}
use Rattle.pa_run_reader.proofs.Gathering.{Stands, told, told_to, told_more}
use Rattle.pa_run_reader.proofs.Keeping.{Kept, stands_next, kept_next, stands_first, kept_first, told_first, run_told}
use Rattle.pa_run_reader.proofs.Telling.{items_text, items_ordered}
use Rattle.pa_run_reader.proofs.OneReading.{same_item, items_lines}
use Rattle.pa_lists.proofs.Elements.{same_cons}

-- ---- nothing

nothing : Gathered
nothing = record { entries = []; roots = replicate 4 []; pool = []; cells = replicate 64 []; report = [] }

all_same : {A : Type 0} (n i : ℕ) (a d : A) → i < length (replicate n a) → get_or (replicate n a) i d ≡ a
all_same n i a d lt = get_or-replicate n i a d (subst (λ (k : ℕ). i < k) (length-replicate n a) lt)

many : {A : Type 0} (n : ℕ) (xs : List A) → length (replicate n xs) ≡ n
many n xs = length-replicate n xs

nothing_gathered : IsUngathered nothing
unfolding nothing
nothing_gathered = record {
  entries = refl;
  journals = many {A = RootEntry} 4 [];
  roots = λ i d lt. all_same 4 i [] d lt;
  pool = refl;
  histories = many {A = CellEntry} 64 [];
  cells = λ i d lt. all_same 64 i [] d lt;
  report = refl;
}

-- ---- items in order

-- what is gathered of items, and its text
record AreGathered (text : List ℕ) : Type 0 where
  pub lists : Gathered
  pub kept : Kept lists
  pub whole : told lists ++ codes "end\n" ≡ text

some_same : (i j : Item) → ◌≡◌ {A = Option Item} (Some i) (Some j) → i ≡ j
some_same i j e = cc

gather : (last : Item) (g : Gathered) (is : List Item) → AreInOrder (Some last) is → Stands (item_place last) g → Kept g →
    AreGathered (told_to (item_place last) g ++ flat_map item_text is)
gather last g [] order s k = record {
  lists = g;
  kept = k;
  whole = sym (append-nil (told_to (item_place last) g) ∙ ap (λ (i : Item). told_to (item_place i) g) (some_same last items.End order));
}
gather last g (i ∷ is) order s k =
    let rest = gather i (gathered_with i g) is order.2 (stands_next (item_place last) g i order.1 s k.room order.0)
    (kept_next g i k order.0) in
    let texts : List ℕ = flat_map item_text is in record {
      lists = rest.lists;
      kept = rest.kept;
      whole = rest.whole ∙ ap (λ (w : List ℕ). w ++ texts) (told_more (item_place last) g i order.1 s k.room order.0)
          ∙ append_assoc (told_to (item_place last) g) (item_text i) texts;
    }

all_gathered : (is : List Item) → AreInOrder None is → AreGathered (flat_map item_text is)
all_gathered [] order = absurd (cc)
all_gathered (i ∷ is) order =
    let behind : AreInOrder (Some items.Head) is = subst (λ (k : Item). AreInOrder (Some k) is) order.1 order.2 in
    let rest = gather items.Head nothing is behind (stands_first nothing nothing_gathered) (kept_first nothing nothing_gathered) in record {
      lists = rest.lists;
      kept = rest.kept;
      whole = rest.whole ∙ ap (λ (w : List ℕ). w ++ flat_map item_text is)
          (told_first nothing nothing_gathered ∙ sym (ap item_text order.1));
    }

-- ---- texts in order are of one list of items

cons_parts : {A : Type 0} (x y : A) (xs ys : List A) → x ∷ xs ≡ y ∷ ys → (x ≡ y) × (xs ≡ ys)
cons_parts x y xs ys e = (cc, cc)

same_items : (last : Option Item) (is js : List Item) → AreInOrder last is → AreInOrder last js → map item_text is ≡ map item_text js →
    is ≡ js
same_items last [] [] ha hb e = refl
same_items last [] (b ∷ js) ha hb e = absurd (cc)
same_items last (a ∷ is) [] ha hb e = absurd (cc)
same_items last (a ∷ is) (b ∷ js) ha hb e =
    let p = cons_parts (item_text a) (item_text b) (map item_text is) (map item_text js) e in
    let first : a ≡ b = same_item last a b ha.0 hb.0 ha.1 hb.1 p.0 in
    same_cons a b is js first (same_items (Some b) is js (subst (λ (i : Item). AreInOrder (Some i) is) first ha.2) hb.2 p.1)

-- items in order are those of a run
pub items_are_run : (is : List Item) → AreInOrder None is → (g : Gathered) ×
    ((r : Run) → TellsGathered g r → IsRunText r (flat_map item_text is) × (items_of r ≡ is))
items_are_run is order =
    let all = all_gathered is order in (
      all.lists,
      λ r h.
          let text : IsRunText r (flat_map item_text is) =
          subst (λ (w : List ℕ). IsRunText r w) all.whole (run_told all.lists r all.kept h) in
          let texts : flat_map item_text (items_of r) ≡ flat_map item_text is = sym (items_text r) ∙ sym text.text in (
            text,
            same_items None (items_of r) is (items_ordered r (flat_map item_text is) text) order
                (sym (items_lines (items_of r)) ∙ ap lines_of texts ∙ items_lines is),
          ),
    )
