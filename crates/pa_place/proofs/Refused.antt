-- A call gives no slot exactly when the pool had no room.
use Rattle.std.proofs.Common.{◌≡◌, ℕ, zero, suc, ◌<◌, ◌≤◌, List, [], length, sym, ap, subst, arith, Option, Some, None}
use Rattle.std.specs.Prelude.{◌↔◌}
use Rattle.pa_slot.specs.declared.title.Title.{Title}
use Rattle.pa_record.specs.Pool.{PoolState, IsLowest}
use Rattle.pa_record.specs.Root.{Root, Filled, takes, opened}
use Rattle.pa_record.specs.Sound.{IsSound, IsBornBelow}
use Rattle.pa_lists.proofs.Members.{not_some}
use Rattle.pa_record.proofs.Lawful.{fill_keeps}
use Rattle.pa_place.specs.Placed.{Fills, mapped_by, IsRefused}
use Rattle.pa_place.proofs.Filling.{filled_with}

-- some slots are not none
not_none : (ts : List Title) (f : Filled) (r : Root) → filled_with r ts ≡ f → 1 ≤ length f.titles → ts ≡ [] → ⊥
not_none ts f r e some none =
    let same = ap (λ (z : Filled). length z.titles) e in
    let empty = ap length none in
    omega arith

pub fill_refused : (class want : ℕ) (pool next : PoolState) (r after : Root) (ts : List Title) (asked : Option ℕ) → IsSound r →
    IsBornBelow pool.entries r → class < 170 → 1 ≤ want →
    Fills class want pool next r (filled_with after ts) asked → (ts ≡ []) ↔ IsRefused 1 pool asked
fill_refused class zero pool next r after ts asked sound old real some h = absurd (omega arith)
fill_refused class (suc k) pool next r after ts None sound old real some (found, same, e) = (
  λ none. absurd (not_none ts (takes class (suc k) r) after e (fill_keeps.finds class k r sound real found) none),
  λ refused. absurd (not_some pool.entries refused.0),
)
fill_refused class (suc k) pool next r after ts (Some entry) sound old real some (none, None, is, e) = (
  λ _. (ap Some is.entry, is.lowest),
  λ _. ap (λ (z : Filled). z.titles) e,
)
fill_refused class (suc k) pool next r after ts (Some entry) sound old real some (none, Some first, is, e) =
    let good = fill_keeps.opens first entry r sound (subst (λ n. IsBornBelow n r) (sym is.entry) old) in
    let found = fill_keeps.finds_new class first entry r real in (
      λ empty. absurd (not_none ts (takes class (suc k) (opened first entry r)) after e
          (fill_keeps.finds class k (opened first entry r) good real found) empty),
      λ refused. absurd (refused.1 first is.lowest.0),
    )

pub map_refused : (len count entry : ℕ) (found : Option ℕ) (pool : PoolState) (r after : Root) (ts : List Title) → entry ≡ pool.entries →
    IsLowest pool count found →
    mapped_by len entry found r ≡ filled_with after ts → (ts ≡ []) ↔ IsRefused count pool (Some entry)
map_refused len count entry None pool r after ts is lowest e = (
  λ _. (ap Some is, lowest),
  λ _. sym (ap (λ (z : Filled). z.titles) e),
)
map_refused len count entry (Some first) pool r after ts is lowest e = (
  λ empty. absurd (let p = ap (λ (z : Filled). length z.titles) e in let q = ap length empty in omega arith),
  λ refused. absurd (refused.1 first lowest.0),
)
