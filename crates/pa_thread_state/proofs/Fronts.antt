-- A slot that goes to the front of a list after its tail was given back.
use Rattle.std.proofs.Common.{◌≡◌, ℕ, zero, suc, ◌<◌, ◌≤◌, Bool, true, false, List, [], ◌∷◌, length, take, Some, sym, ◌∙◌, ap, subst, arith, refl, ◌⊎◌, inl, inr}
use Rattle.std.specs.Prelude.{◌==◌, ◌&&◌, Contains, if◌then◌else◌}
use Rattle.std.proofs.lemmas.Bool.Decides.{nat_tests, eqb_tells}
use Rattle.pa_slot.specs.declared.title.Title.{Title}
use Rattle.pa_slot.specs.Titles.{IsWellFormed}
use Rattle.pa_buckets.specs.Bands.{limit_of}
use Rattle.pa_cells.specs.declared.handle.Handle.{Handle}
use Rattle.pa_cells.specs.Handles.{SlotsStaySeen}
use Rattle.pa_op_specs.specs.Stocks.{StockValue, titles_in}
use Rattle.pa_thread_state.specs.Changes.{CanList, IsBack}
use Rattle.pa_thread_state.specs.Giving.{GivesTail, with_titles}
use Rattle.pa_record.specs.declared.numbered.Numbered.{Numbered}
use Rattle.pa_rules.specs.Caches.{Cache, with_list}

-- the list that was changed, and another
pub list_there : (p class : ℕ) (ts : List Title) (lists : ℕ → ℕ → List Title) → with_titles p class ts lists p class ≡ ts
list_there p class ts lists = go (p == p) (class == class) refl refl
  where
    go : (a b : Bool) → (p == p) ≡ a → (class == class) ≡ b → (if a && b then ts else lists p class) ≡ ts
    go true true e f = refl
    go true false e f = absurd (grind (arith, nat_tests))
    go false b e f = absurd (grind (arith, nat_tests))

pub list_elsewhere : (p class q d : ℕ) (ts : List Title) (lists : ℕ → ℕ → List Title) → ((q ≡ p) × (d ≡ class) → ⊥) →
    with_titles p class ts lists q d ≡ lists q d
list_elsewhere p class q d ts lists other = go (q == p) (d == class) refl refl
  where
    go : (a b : Bool) → (q == p) ≡ a → (d == class) ≡ b → (if a && b then ts else lists q d) ≡ lists q d
    go true true e f = absurd (other (grind (arith, nat_tests), grind (arith, nat_tests)))
    go true false e f = refl
    go false b e f = refl

taken_few : (n : ℕ) (ts : List Title) → length (take n ts) ≤ n
taken_few zero ts = omega arith
taken_few (suc n) [] = omega arith
taken_few (suc n) (t ∷ ts) = let again = taken_few n ts in omega arith

-- The slot can go to the front of what is left.
pub can_spill : SlotsStaySeen → (line : ℕ) (h : Handle) (class keep words : ℕ) (s b : StockValue) → IsBack h s → h.class ≡ Some class →
    keep < limit_of class →
    GivesTail line h.partition class keep s b → IsWellFormed words h.title → CanList h class b
can_spill stays line h class keep words s b back class_is few given well = record {
  class_is = class_is;
  free = subst (λ n. 0 < n) (sym (given.frees h.title back.new)) back.free;
  new = λ p other among. back.new p other (given.listed p other h.title (subst (λ ts. Contains ts h.title) (given.kept p other) among));
  made = stays h s.view b.view back.made (given.lists h.partition);
  well = (words, well);
  room =
      let e = given.kept h.partition class ∙
      list_there h.partition class (take keep (titles_in s.caches h.partition class)) (titles_in s.caches) in
      let l : length (titles_in b.caches h.partition class) ≡ length (take keep (titles_in s.caches h.partition class)) =
      ap (λ (ts : List Title). length ts) e in
      let f = taken_few keep (titles_in s.caches h.partition class) in
      omega arith;
}

-- the list of partition p and the class with this at the front
pub front_list : (cache : Cache) (p c q d : ℕ) (xs : List Numbered) → ((q ≡ p) × (d ≡ c) × (with_list cache p c xs q d ≡ xs)) ⊎
    (((q ≡ p) × (d ≡ c) → ⊥) × (with_list cache p c xs q d ≡ cache q d))
front_list cache p c q d xs = elim (eqb_tells q p) [
  | inl y ↦ elim (eqb_tells d c) [
    | inl z ↦ inl (y.1, z.1, rw (y.0, z.0) refl)
    | inr n ↦ inr (λ e. n.1 e.1, rw (y.0, n.0) refl)
  ]
  | inr n ↦ inr (λ e. n.1 e.0, rw n.0 refl)
]
