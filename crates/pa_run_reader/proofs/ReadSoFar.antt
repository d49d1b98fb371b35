-- The reader after an item: what is read, and the bad line of the rest.
use Rattle.std.proofs.Common.{◌≡◌, ℕ, ◌+◌, ◌-◌, ◌<◌, ◌≤◌, ◌^◌, List, [], ◌++◌, codes, length, Some, refl, sym, ap, subst, ◌∙◌, append_assoc, append-nil, length-append, arith}
use Rattle.std.proofs.lemmas.List.{length_push}
use Rattle.pa_trace.specs.Faults.{lines_of}
use Rattle.pa_record.specs.declared.run.Run.{Run}
use Rattle.pa_record.specs.RunText.{IsRunText}
use Rattle.pa_run_reader.specs.declared.item.Item.{Item}
use Rattle.pa_run_reader.specs.declared.item.Item.TheVariants as items
use Rattle.pa_run_reader.specs.declared.place.Place.{Place}
use Rattle.pa_run_reader.specs.declared.place.Place.TheVariants.{Head, End}
use Rattle.pa_run_reader.specs.Item.{ItemInBits, index_of, item_text}
use Rattle.pa_run_reader.specs.Order.{item_place, StandsBehind, IsFirstBad}
use Rattle.pa_run_reader.specs.Gathered.{Gathered, gathered_with, IsUngathered, TellsGathered}
use Rattle.pa_run_reader.proofs.OneLine.{item_line}
use Rattle.pa_run_reader.proofs.FirstBad.{next_index, not_read, misplaced, followed}
use Rattle.pa_run_reader.proofs.Gathering.{Stands, told, told_to, told_more}
use Rattle.pa_run_reader.proofs.Keeping.{Kept, stands_next, kept_next, stands_first, kept_first, told_first, run_told}

-- Line n begins the rest. The lines after the head up to there are those of what is gathered, and the last of them is an item's
-- at this place. The bad line of the rest is that of all.
pub record IsReadTo (l : Place) (n : ℕ) (g : Gathered) (rest bytes : List ℕ) : Type 0 where
  pub item : Item
  pub place : item_place item ≡ l
  pub index : index_of item + 2 ≤ n
  pub lines : n + length rest ≤ length bytes + 2
  pub stands : Stands l g
  pub kept : Kept g
  pub text : codes "run 1\n" ++ bytes ≡ told_to l g ++ rest
  pub fault : (m : ℕ) → IsFirstBad n (Some item) (lines_of rest) m → IsFirstBad 2 (Some items.Head) (lines_of bytes) m

pub reads_first : (g : Gathered) (bytes : List ℕ) → IsUngathered g → IsReadTo Head 2 g bytes bytes
reads_first g bytes u = record {
  item = items.Head;
  place = refl;
  index = omega arith;
  lines = omega arith;
  stands = stands_first g u;
  kept = kept_first g u;
  text = ap (λ (w : List ℕ). w ++ bytes) (sym (told_first g u));
  fault = λ m h. h;
}

-- what follows the place comes after the item
behind_item : (item : Item) (l p : Place) → item_place item ≡ l → StandsBehind l p → StandsBehind (item_place item) p
behind_item item l p e h = subst (λ (x : Place). StandsBehind x p) (sym e) h

-- an item's line isn't empty
pub item_length : (i : Item) (rest after : List ℕ) → rest ≡ item_text i ++ after → length after < length rest
item_length i rest after e =
    let t = item_line i in
    omega (arith, ap length e, length-append (item_text i) after, ap length t.2, length_push t.0 10)

pub reads_next : (l : Place) (n : ℕ) (g : Gathered) (i : Item) (rest after bytes : List ℕ) → IsReadTo l n g rest bytes → ItemInBits i →
    StandsBehind l (item_place i) → rest ≡ item_text i ++ after
    → IsReadTo (item_place i) (n + 1) (gathered_with i g) after bytes
reads_next l n g i rest after bytes r bits h e =
    let follows = behind_item r.item l (item_place i) r.place h in record {
      item = i;
      place = refl;
      index = omega (arith, next_index r.item i follows, r.index);
      lines = omega (arith, item_length i rest after e, r.lines);
      stands = stands_next l g i h r.stands r.kept.room bits.0;
      kept = kept_next g i r.kept bits.0;
      text = r.text ∙ ap (λ (w : List ℕ). told_to l g ++ w) e ∙ sym (append_assoc (told_to l g) (item_text i) after)
          ∙ ap (λ (w : List ℕ). w ++ after) (sym (told_more l g i h r.stands r.kept.room bits.0));
      fault = λ m bad. r.fault m (followed n m r.item i rest after bits.0 follows e bad);
    }

-- the first item may not come there
pub reads_misplaced : (l : Place) (n : ℕ) (g : Gathered) (i : Item) (rest after bytes : List ℕ) → length bytes < 2 ^ 32 - 2 →
    IsReadTo l n g rest bytes → ItemInBits i → rest ≡ item_text i ++ after
    → (StandsBehind l (item_place i) → ⊥) → IsFirstBad 2 (Some items.Head) (lines_of bytes) n
reads_misplaced l n g i rest after bytes short r bits e other =
    r.fault n (misplaced n r.item i rest after (omega (arith, short, r.index, r.lines)) bits e
    (λ h. other (subst (λ (x : Place). StandsBehind x (item_place i)) r.place h)))

-- no item comes first
pub reads_bad : (l : Place) (n : ℕ) (g : Gathered) (rest bytes : List ℕ) → length bytes < 2 ^ 32 - 2 → IsReadTo l n g rest bytes
    → ((i : Item) (x : List ℕ) → ItemInBits i → rest ≡ item_text i ++ x → ⊥) → (rest ≡ [] → l ≡ End → ⊥) →
    IsFirstBad 2 (Some items.Head) (lines_of bytes) n
reads_bad l n g rest bytes short r none other =
    r.fault n (not_read n r.item rest (omega (arith, short, r.index, r.lines)) none (λ e last. other e (sym r.place ∙ ap item_place last)))

-- the end of the text
pub reads_run : (l : Place) (n : ℕ) (g : Gathered) (rest bytes : List ℕ) (run : Run) → IsReadTo l n g rest bytes → rest ≡ [] → l ≡ End →
    TellsGathered g run → IsRunText run (codes "run 1\n" ++ bytes)
reads_run l n g rest bytes run r none last h =
    let whole : codes "run 1\n" ++ bytes ≡ told g ++ codes "end\n" =
    r.text ∙ ap (λ (w : List ℕ). told_to l g ++ w) none ∙ append-nil (told_to l g) ∙ ap (λ (x : Place). told_to x g) last in
    subst (λ (w : List ℕ). IsRunText run w) (sym whole) (run_told g run r.kept h)

-- there is a journal for each partition and a history for each cell
pub reads_lists : (l : Place) (n : ℕ) (g : Gathered) (rest bytes : List ℕ) (run : Run) → IsReadTo l n g rest bytes → TellsGathered g run →
    (length run.roots.items ≡ 4) × (length run.cells.items ≡ 64)
reads_lists l n g rest bytes run r h = (ap length h.roots ∙ r.kept.room.journals, ap length h.cells ∙ r.kept.room.histories)
