-- The row of slots with which the tests fill their caches.
use Rattle.std.proofs.Common.{◌≡◌, ℕ, ◌+◌, ◌*◌, ◌<◌, [], ◌∷◌, length, sym, ◌∙◌, ap, subst, arith}
use Rattle.std.specs.Prelude.{All, Contains}
use Rattle.std.proofs.lemmas.List.Elements.{All-nil, All-cons, All-weaker, All-contains}
use Rattle.pa_slot.specs.declared.title.Title.{Title}
use Rattle.pa_buckets.specs.Bands.{limit_of}
use Rattle.pa_buckets.proofs.Facts.{limit_of-first}
use Rattle.pa_region.specs.declared.view.View.{View}
use Rattle.pa_link.specs.Chains.{Relinked}
use Rattle.pa_cache.specs.Caches.{CacheList}
use Rattle.pa_cache.specs.Chained.{CacheParts, HoldsList, list_in}
use Rattle.pa_test_region.specs.ChainRows.{chain_slot, IsRowOf}
use Rattle.pa_test_region.specs.CacheRows.{IsRowCached}
use Rattle.pa_test_region.proofs.ChainRows.{row_relinked}

pub limit_of-0 : limit_of 0 ≡ 64
limit_of-0 = limit_of-first 0 (omega arith)

-- an empty cache
pub row_none : (v : View) (c : CacheParts) → IsRowOf 0 65 v → HoldsList v c →
    list_in v c ≡ record { class = 0; titles = [] } → IsRowCached 0 v c
row_none v c row has e = record {
  row = row;
  has = has;
  class = ap (λ (s : CacheList). s.class) e;
  count = ap (λ (s : CacheList). length s.titles) e;
  before = subst (λ (s : CacheList). All (λ (t : Title). t.start < 16384 + 16 * 0) s.titles) (sym e)
      (All-nil (λ (t : Title). t.start < 16384 + 16 * 0));
}

-- the next slot isn't in the cache
pub row_new : (n : ℕ) (v : View) (c : CacheParts) (t : Title) → IsRowCached n v c → t ≡ chain_slot 0 n → Contains (list_in v c).titles t → ⊥
row_new n v c t row is there =
    let below : t.start < 16384 + 16 * n = All-contains (λ (u : Title). u.start < 16384 + 16 * n) (list_in v c).titles t row.before there in
    let start : t.start ≡ 16384 + 16 * n = ap (λ (u : Title). u.start) is in
    omega arith

-- one more came to the front
pub row_next : (n : ℕ) (v w : View) (c d : CacheParts) (t : Title) → IsRowCached n v c → t ≡ chain_slot 0 n → Relinked v w → HoldsList w d →
    d.class ≡ c.class → (list_in w d).titles ≡ t ∷ (list_in v c).titles → IsRowCached (n + 1) w d
row_next n v w c d t row is re has class front = record {
  row = row_relinked 0 65 v w re row.row;
  has = has;
  class = class ∙ row.class;
  count = let m = row.count in omega (arith, ap length front);
  before = subst (All (λ (u : Title). u.start < 16384 + 16 * (n + 1))) (sym front)
      (All-cons (λ (u : Title). u.start < 16384 + 16 * (n + 1)) t (list_in v c).titles here
      (All-weaker (λ (u : Title). u.start < 16384 + 16 * n) (λ (u : Title). u.start < 16384 + 16 * (n + 1)) (λ u less. omega arith)
      (list_in v c).titles row.before));
}
  where
    here : t.start < 16384 + 16 * (n + 1)
    here = subst (λ (u : Title). u.start < 16384 + 16 * (n + 1)) (sym is) (omega arith)
