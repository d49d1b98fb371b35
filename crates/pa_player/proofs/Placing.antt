-- What calls of the placement leave is what an allocation changes.
use Rattle.std.proofs.Common.{◌≡◌, ℕ, ◌⊎◌, inl, inr, List, [], ◌∷◌, Option, Some, None, sym, ap, ◌∙◌, subst}
use Rattle.std.specs.Prelude.{length, slice_get, slice_index_or, slice_set}
use Rattle.pa_slot.specs.declared.title.Title.{Title}
use Rattle.pa_buckets.specs.Bands.{fill_of}
use Rattle.pa_record.specs.declared.pool.PoolAct.TheVariants as pool
use Rattle.pa_record.specs.declared.root.RootAct.TheVariants.{Full, Map}
use Rattle.pa_record.specs.Pool.{PoolState}
use Rattle.pa_record.specs.Root.{Root, Filled, new_root}
use Rattle.pa_record.specs.Spans.{name_of}
use Rattle.pa_place.specs.declared.placed.Placed.{Placed}
use Rattle.pa_place.specs.Placed.{FillDid, MapDid, Maps, with_slots}
use Rattle.pa_heap_effects.specs.Ops.{found_by}
use Rattle.pa_player.specs.Player.{Player}
use Rattle.pa_player.specs.declared.table.Slot.{Slot}
use Rattle.pa_player.specs.Calls.{IsFillTold, IsMapTaken}
use Rattle.pa_player.specs.Changes.{ArePut, IsFilled, IsMapPlaced, IsUnfilled, acted, asked_in, placed_in, pooled}
use Rattle.pa_player.specs.Playing.{root_of}
use Rattle.pa_player.specs.Tables.{IsHome, new_slot}
use Rattle.pa_player.specs.Told.{Lists, journal_in, with_act}

-- a direct map has one slot or none
maps_one : (len : ℕ) (before next : PoolState) (r : Root) (filled : Filled) (o : Option ℕ) → Maps len before next r filled o →
    (filled.titles ≡ []) ⊎ ((t : Title) × (filled.titles ≡ t ∷ []))
maps_one len before next r filled None h = absurd h
maps_one len before next r filled (Some entry) (None, asked, e) = inl (ap (λ (z : Filled). z.titles) e)
maps_one len before next r filled (Some entry) (Some first, asked, e) = inr (_, ap (λ (z : Filled). z.titles) e)

only_title : (len : ℕ) (before next : PoolState) (r after : Root) (placed : Placed) (t : Title) (ts : List Title) →
    MapDid len before next r after placed
    → placed.titles.items ≡ t ∷ ts → placed.titles.items ≡ t ∷ []
only_title len before next r after placed t ts did first = elim (maps_one len before next r (with_slots after placed) placed.pool did) [
  | inl none ↦ absurd (let e : t ∷ ts ≡ [] = sym first ∙ none in cc)
  | inr (u, one) ↦ let e : t ∷ ts ≡ u ∷ [] = sym first ∙ one in let same : u ≡ t = cc in one ∙ ap (λ z. z ∷ []) same
]

-- a direct map has its place
pub map_placed : (q len supers asked place : ℕ) (p taken r : Player) (placed : Placed) (title : Title) (ts : List Title)
    (table : List Slot) → IsMapTaken q len supers p taken placed
    → placed.titles.items ≡ title ∷ ts → placed.pool ≡ Some asked → IsHome taken.table table (new_slot title q None) place
    → r ≡ record (acted q (Map asked (name_of title) title.len ∷ []) taken) { table = table } → IsMapPlaced q len supers p r place
map_placed q len supers asked place p taken r placed title ts table h first asks home is =
    let one = only_title len p.heap.pool h.plan (root_of p q) h.after placed title ts h.did first in
    let e : taken ≡ pooled q (pool.Take supers (found_by (title ∷ []))) (placed_in q h.after h.plan p) =
    h.taken ∙ ap (λ z. asked_in q supers z placed.pool (placed_in q h.after h.plan p)) one ∙
    ap (λ z. asked_in q supers (title ∷ []) z (placed_in q h.after h.plan p)) asks in record {
      plan = h.plan;
      after = h.after;
      placed = placed;
      asked = asked;
      title = title;
      table = table;
      did = h.did;
      asks = asks;
      some = one;
      home = subst (λ (z : List Slot). IsHome z table (new_slot title q None) place) (ap (λ (z : Player). z.table) e) home;
      acted = is ∙ ap (λ (z : Player). record (acted q (Map asked (name_of title) title.len ∷ []) z) { table = table }) e;
    }

-- A list was filled if the slots that the root gave were put into it and that was reported.
pub filled_told : (q at class want : ℕ) (p told r : Player) (plan : PoolState) (roots : List Root) (placed : Placed) → want ≡ fill_of class
    → FillDid class want p.heap.pool plan (root_of p q) (slice_index_or roots q new_root) placed →
    roots ≡ slice_set p.heap.roots q (slice_index_or roots q new_root)
    → told ≡ asked_in q 1 placed.titles.items placed.pool (record p { heap = record { pool = plan; roots = roots } })
    → (placed.titles.items ≡ [] → ⊥) → IsFillTold q at class placed.pool placed.titles.items told r → IsFilled q at class p r
filled_told q at class want p told r plan roots placed many did others asked some h =
    let after = slice_index_or roots q new_root in
    let e : told ≡ asked_in q 1 placed.titles.items placed.pool (placed_in q after plan p) =
    asked ∙ ap (λ (z : List Root). asked_in q 1 placed.titles.items placed.pool (record p { heap = record { pool = plan; roots = z } }))
    others in record {
      plan = plan;
      after = after;
      placed = placed;
      put = h.put;
      slots = h.slots;
      did = subst (λ (z : ℕ). FillDid class z p.heap.pool plan (root_of p q) after placed) many did;
      some = some;
      puts = subst (λ (z : Player). ArePut q at class placed.titles.items z h.put h.slots) e h.puts;
      acted = h.acted;
    }

-- There was no room for a slot if the root gave none and that was reported.
pub unfilled_told : (q class want asked entry : ℕ) (p told : Player) (after : Lists) (plan : PoolState) (roots : List Root)
    (placed : Placed) → want ≡ fill_of class
    → FillDid class want p.heap.pool plan (root_of p q) (slice_index_or roots q new_root) placed →
    roots ≡ slice_set p.heap.roots q (slice_index_or roots q new_root)
    → told ≡ asked_in q 1 placed.titles.items placed.pool (record p { heap = record { pool = plan; roots = roots } })
    → placed.titles.items ≡ [] → placed.pool ≡ Some asked → entry ≡ length (journal_in told.told q)
    → after ≡ with_act q (record { line = told.told.line; act = Full (Some class) asked }) told.told →
    IsUnfilled q class p (record told { told = after }) entry
unfilled_told q class want asked entry p told after plan roots placed many did others tells none asks place is =
    let root = slice_index_or roots q new_root in
    let e : told ≡ pooled q (pool.Take 1 None) (placed_in q root plan p) =
    tells ∙ ap (λ (z : List Root). asked_in q 1 placed.titles.items placed.pool (record p { heap = record { pool = plan; roots = z } }))
    others
    ∙ ap (λ (z : List Title). asked_in q 1 z placed.pool (placed_in q root plan p)) none ∙
    ap (λ (z : Option ℕ). asked_in q 1 [] z (placed_in q root plan p)) asks in record {
      plan = plan;
      after = root;
      placed = placed;
      asked = asked;
      did = subst (λ (z : ℕ). FillDid class z p.heap.pool plan (root_of p q) root placed) many did;
      asks = asks;
      none = none;
      acted = ap (λ (z : Lists). record told { told = z }) is ∙ ap (λ (z : Player). acted q (Full (Some class) asked ∷ []) z) e;
      told = place ∙ ap (λ (z : Player). length (journal_in z.told q)) e;
    }

-- the first of some titles
pub first_of : (xs : List Title) (t : Title) → Some t ≡ slice_get xs 0 → (ts : List Title) × (xs ≡ t ∷ ts)
first_of [] t e = absurd (let f : Some t ≡ None = e in cc)
first_of (x ∷ xs) t e = let same : x ≡ t = (let f : Some t ≡ Some x = e in cc) in (xs, ap (λ z. z ∷ xs) same)
