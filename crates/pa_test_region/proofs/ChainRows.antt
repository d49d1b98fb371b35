-- The row of slots of which the tests make chains.
use Rattle.std.proofs.Common.{◌≡◌, ℕ, ◌+◌, ◌*◌, ◌^◌, ◌<◌, ◌≤◌, List, ◌∷◌, [], refl, sym, ◌∙◌, ap, subst, arith, inl, inr}
use Rattle.std.specs.Prelude.{Contains, None}
use Rattle.std.proofs.lemmas.Bool.{cases_lt}
use Rattle.std.proofs.lemmas.List.Sums.{sum_by-cons}
use Rattle.std.proofs.lemmas.List.Elements.{All-nil, All-cons, All-weaker, All-contains}
use Rattle.pa_slot.specs.declared.title.Title.{Title}
use Rattle.pa_slot.specs.Titles.{same_title}
use Rattle.pa_slot.specs.Holdings.{one}
use Rattle.pa_slot.proofs.Same.{title_self}
use Rattle.pa_region.specs.declared.view.View.{View}
use Rattle.pa_region.specs.Views.{free_of, HasEveryStake}
use Rattle.pa_region.specs.Cuts.{after_cut}
use Rattle.pa_region.specs.CutTells.{FirstCanCut, CutLeavesOthers}
use Rattle.pa_region.specs.Start.{first_view}
use Rattle.pa_region.proofs.FirstLists.{stake_count}
use Rattle.pa_link.specs.declared.chain.ChainParts.{ChainParts}
use Rattle.pa_link.specs.Chains.{IsChain, Relinked, after_link}
use Rattle.pa_link.proofs.Gaps.{relinked_once}
use Rattle.pa_test_region.specs.ChainRows.{chain_slot, IsRowOf, IsRowChained}

-- a new region's seat has every stake
all_stakes : (words budget : ℕ) → HasEveryStake (first_view words budget)
all_stakes words budget k small = elim (stake_count 0 16 k) [
  | inl there ↦ omega (arith, there.2)
  | inr none ↦ absurd (none.0 (omega arith, omega arith))
]

-- none of the row is cut so far
pub row_first : FirstCanCut → (born : ℕ) (v : View) → v ≡ first_view 262144 0 → IsRowOf born 0 v
row_first law born v e = subst (IsRowOf born 0) (sym e) (record {
  free = λ k less. absurd (omega arith);
  can = λ k low high. law 262144 0 (chain_slot born k) (omega arith) refl (omega arith) (omega arith);
  stakes = all_stakes 262144 0;
})

-- the next slot of a row is cut
pub row_more : CutLeavesOthers → (born n : ℕ) (v w : View) → IsRowOf born n v → n < 256 → w ≡ after_cut (chain_slot born n) v →
    IsRowOf born (n + 1) w
row_more law born n v w row few e = subst (IsRowOf born (n + 1)) (sym e) (record {
  free = λ k less. elim (cases_lt k n) [
    | inl below ↦ left k (row.free k below)
    | inr most ↦ subst (λ m. 0 < free_of (after_cut
        (chain_slot born n) v) (chain_slot born m)) (same k less most) here
  ];
  can = λ k low high. law.1 (chain_slot born n) (chain_slot born k) v (row.can k (omega arith) high) (inl (omega arith));
  stakes = row.stakes;
})
  where
    same : (k : ℕ) → k < n + 1 → n ≤ k → n ≡ k
    same k less most = omega arith

    here : 0 < free_of (after_cut (chain_slot born n) v) (chain_slot born n)
    here =
        let t = chain_slot born n in
        let one_here : one (same_title t t) ≡ 1 = ap one (title_self t) in
        omega (arith, sum_by-cons (λ u. one (same_title u t)) t v.frees)

    left : (k : ℕ) → 0 < free_of v (chain_slot born k) → 0 < free_of (after_cut (chain_slot born n) v) (chain_slot born k)
    left k has = omega (arith, sum_by-cons (λ u. one (same_title u (chain_slot born k))) (chain_slot born n) v.frees)

-- a new chain has none of the row
pub chained_none : (born n from : ℕ) (v : View) (c : ChainParts) → from ≤ n → IsRowOf born n v →
    c ≡ record { slot_len = 16; head = None; len = 0 } → IsRowChained born n from v c
chained_none born n from v c le row e = subst (IsRowChained born n from v) (sym e) (record {
  row = row;
  size = refl;
  few = omega arith;
  titles = [];
  chain = record {
    many = refl;
    head = refl;
    sized = All-nil (λ (t : Title). t.len ≡ 16);
    named = All-nil (λ (t : Title). (t.start < 2 ^ 32) × (t.born < 2 ^ 32));
    free = All-nil (λ t. 0 < free_of v t);
    different = λ i j d less within. absurd (omega arith);
    links = tt;
  };
  later = All-nil (λ (t : Title). 16384 + 16 * from ≤ t.start);
})

-- stores of links leave what was cut, and what can be
pub row_relinked : (born n : ℕ) (v w : View) → Relinked v w → IsRowOf born n v → IsRowOf born n w
row_relinked born n v w re row = subst (IsRowOf born n) (sym re.rest) (record {
  free = row.free;
  can = λ k low high.
      let it = row.can k low high in
      record { start_aligned = it.start_aligned; len_aligned = it.len_aligned; long = it.long; floors = it.floors };
  stakes = row.stakes;
})

-- the slot before those of the chain isn't in it
pub row_new : (born n from : ℕ) (v : View) (c : ChainParts) (row : IsRowChained born n (from + 1) v c) →
    Contains row.titles (chain_slot born from) → ⊥
row_new born n from v c row there =
    let P : Title → Type 0 = λ t. 16384 + 16 * (from + 1) ≤ t.start in
    let low : 16384 + 16 * (from + 1) ≤ 16384 + 16 * from = All-contains P row.titles (chain_slot born from) row.later there in
    omega arith

-- after a push the slot is the front of the row's chain
pub row_pushed : (born n from link : ℕ) (v w : View) (c d : ChainParts) → IsRowChained born n (from + 1) v c →
    w ≡ after_link (chain_slot born from) link v →
    ((ts : List Title) → IsChain v c ts → (Contains ts (chain_slot born from) → ⊥) → IsChain w d (chain_slot born from ∷ ts)) →
    d.len ≡ c.len + 1 → d.slot_len ≡ c.slot_len → IsRowChained born n from w d
row_pushed born n from link v w c d row e push len size = record {
  row =
      let f = row.few in
      row_relinked born n v w
      (subst (Relinked v) (sym e) (relinked_once (chain_slot born from) link v (row.row.free from (omega arith)))) row.row;
  size = size ∙ row.size;
  few = let f = row.few in omega arith;
  titles = chain_slot born from ∷ row.titles;
  chain = push row.titles row.chain (row_new born n from v c row);
  later = All-cons (λ (t : Title). 16384 + 16 * from ≤ t.start) (chain_slot born from) row.titles (omega arith)
      (All-weaker (λ (t : Title). 16384 + 16 * (from + 1) ≤ t.start) (λ (t : Title). 16384 + 16 * from ≤ t.start)
      (λ t low. omega arith) row.titles row.later);
}
