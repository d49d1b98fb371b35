-- Which lines make a run's text: the order of the items, and the first line that is outside the grammar.
use Rattle.std.specs.Prelude.{◌≡◌, ℕ, ◌+◌, ◌<◌, ◌⊎◌, List, [], ◌∷◌, ◌++◌, map, Option, Some, None}
use Rattle.pa_record.specs.declared.run.Run.{Run}
use Rattle.pa_run_reader.specs.declared.item.Item.{Item}
use Rattle.pa_run_reader.specs.declared.item.Item.TheVariants as items
use Rattle.pa_run_reader.specs.declared.place.Place.{Place}
use Rattle.pa_run_reader.specs.declared.place.Place.TheVariants.{Head, Record, Root, Pool, Cell, Report, End}
use Rattle.pa_run_reader.specs.Item.{FitsItem, item_text}

-- the position of an item: its kind, and its list and index if it has them
abbrev pub item_place : Item → Place
item_place items.Head = Head
item_place (items.Record entry) = Record
item_place (items.Root partition index entry) = Root partition index
item_place (items.Pool index entry) = Pool index
item_place (items.Cell cell index entry) = Cell cell index
item_place (items.Report line) = Report
item_place items.End = End

-- the kinds in their order: the head, records, journals, the pool, cells, the report, the end
abbrev pub kind : Place → ℕ
kind Head = 0
kind Record = 1
kind (Root partition index) = 2
kind (Pool index) = 3
kind (Cell cell index) = 4
kind Report = 5
kind End = 6

-- an item at this place may be the first of its kind: its index, if it has one, is 0
abbrev pub Begins : Place → Type 0
Begins Head = Unit {0}
Begins Record = Unit {0}
Begins (Root partition index) = index ≡ 0
Begins (Pool index) = index ≡ 0
Begins (Cell cell index) = index ≡ 0
Begins Report = Unit {0}
Begins End = Unit {0}

-- the second entry comes right after the first: the next of one list, or the first of a later one
abbrev pub IsNextOf : ℕ → ℕ → ℕ → ℕ → Type 0
IsNextOf list index later next = ((later ≡ list) × (next ≡ index + 1)) ⊎ ((list < later) × (next ≡ 0))

-- the second may come right after the first, which is of its kind
abbrev pub Continues : Place → Place → Type 0
Continues Record Record = Unit {0}
Continues (Root partition index) (Root later next) = IsNextOf partition index later next
Continues (Pool index) (Pool next) = next ≡ index + 1
Continues (Cell cell index) (Cell later next) = IsNextOf cell index later next
Continues Report Report = Unit {0}
Continues last next = ⊥

-- the second may come right after the first
abbrev pub StandsBehind : Place → Place → Type 0
StandsBehind last next = ((kind last < kind next) × Begins next) ⊎ Continues last next

-- the item may come right after the last one, and without a last one it is the head
abbrev pub Follows : Option Item → Item → Type 0
Follows None next = next ≡ items.Head
Follows (Some last) next = StandsBehind (item_place last) (item_place next)

-- line m is the first bad one of these, of which the first is line n and comes after the last item: it isn't the text of an item
-- that may follow, or there is none when one is due
abbrev pub IsFirstBad : ℕ → Option Item → List (List ℕ) → ℕ → Type 0
IsFirstBad n last [] m = (m ≡ n) × (last ≡ Some items.End → ⊥)
IsFirstBad n last (line ∷ lines) m =
    ((m ≡ n) × ((i : Item) → FitsItem i → Follows last i → line ≡ item_text i → ⊥))
    ⊎ ((i : Item) × FitsItem i × Follows last i × (line ≡ item_text i) × IsFirstBad (n + 1) (Some i) lines m)

-- ---- the items of a run

-- the items of a list, the first of which has index n
abbrev pub numbered_items : {A : Type 0} → (ℕ → A → Item) → ℕ → List A → List Item
numbered_items at n [] = []
numbered_items at n (x ∷ xs) = at n x ∷ numbered_items at (n + 1) xs

-- the items of lists, the first of which is list p
abbrev pub listed_items : {A : Type 0} → (ℕ → ℕ → A → Item) → ℕ → List (List A) → List Item
listed_items at p [] = []
listed_items at p (xs ∷ lists) = numbered_items (at p) 0 xs ++ listed_items at (p + 1) lists

-- the items that the lines of a run's text contain, in their order
abbrev pub items_of : Run → List Item
items_of r =
    items.Head ∷ [] ++ map (λ e. items.Record e) r.entries.items ++ listed_items (λ p j e. items.Root p j e) 0 r.roots.items
    ++ numbered_items (λ j e. items.Pool j e) 0 r.pool.items ++ listed_items (λ k j e. items.Cell k j e) 0 r.cells.items
    ++ map (λ l. items.Report l) r.report.items ++ items.End ∷ []

-- each of these items follows the one before, the first of them the last one, and none is due after them
abbrev pub AreInOrder : Option Item → List Item → Type 0
AreInOrder last [] = last ≡ Some items.End
AreInOrder last (i ∷ is) = FitsItem i × Follows last i × AreInOrder (Some i) is
