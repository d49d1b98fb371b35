-- The pool was asked: where its entry is, that it is new to the root, and what the log says.
use Rattle.std.proofs.Common.{◌≡◌, ℕ, ◌+◌, ◌<◌, ◌≤◌, List, [], ◌∷◌, ◌++◌, Option, Some, None, length, map, refl, sym, ◌∙◌, ap, subst, arith}
use Rattle.std.specs.Prelude.{slice_get}
use Rattle.std.proofs.lemmas.List.{append-nil, length-append, length-map, map-append}
use Rattle.pa_region.specs.declared.view.Entry.TheVariants.{Entered}
use Rattle.pa_region.specs.declared.view.Made.{Made}
use Rattle.pa_region.specs.declared.view.View.{View}
use Rattle.pa_region.specs.Views.{least_stake, stake_of}
use Rattle.pa_region.specs.Lists.{list_of, IsBeginning}
use Rattle.pa_region.specs.Lending.{Lends, CanLend}
use Rattle.pa_region.specs.Aware.{IsAware}
use Rattle.pa_region.specs.Shares.{Share}
use Rattle.pa_region.proofs.Entering.{least_there}
use Rattle.pa_region.proofs.LendBack.{lends_again}
use Rattle.pa_record.specs.declared.pool.PoolEntry.{PoolEntry}
use Rattle.pa_record.specs.declared.pool.PoolAct.{PoolAct}
use Rattle.pa_record.specs.declared.pool.PoolAct.TheVariants.{Take, Give}
use Rattle.pa_record.specs.Numbers.{pool_numbers}
use Rattle.pa_record.specs.Pool.{PoolState, IsLowest, new_pool, pool_next, pool_replayed}
use Rattle.pa_pool.specs.Pools.{PoolValue, IsPoolKept, pool_after}
use Rattle.pa_pool.specs.Calls.{IsTaken, take_entry}
use Rattle.pa_root.specs.Uncutting.{IsShown}
use Rattle.pa_root.specs.Asking.{IsAskedFor}
use Rattle.pa_root.proofs.Lists.{pools_are_read}
use Rattle.pa_root.proofs.Entries.{on, entry_is_new}

pub begun_length : (a b : List Made) → IsBeginning a b → length a ≤ length b
begun_length a b (rest, e) = let k = length-append a rest in let n = ap length e in omega arith

-- a seat that shows what it has seen can still lend its stake, the same one
pub shown_lends : (v mid root root_now : View) → IsShown root root_now v mid → CanLend v → CanLend mid ×
    (least_stake mid.stakes ≡ least_stake v.stakes)
shown_lends v mid root root_now shown can = lends_again v mid (shown.taker 0).keeps can

pub asked_is : (line p count index : ℕ) (found : Option ℕ) (v root root_now : View) (mid after : Share) (pool pool_now : PoolValue) →
    IsShown root root_now v mid.view → CanLend v → IsAware mid.view → IsAware after.view → IsPoolKept pool →
    IsTaken line p count found index mid after pool pool_now →
    IsAskedFor (least_stake v.stakes) line p count found index v after.view root_now
asked_is line p count index found v root root_now mid after pool pool_now shown can aware now kept taken =
    let r = least_stake v.stakes in
    let e : PoolEntry = take_entry line p count found in
    let (m, entered) = taken.entered in
    let (again, least) = shown_lends v mid.view root root_now shown can in
    let whole : list_of 4 after.view ≡ list_of 4 pool.view ++ m ∷ [] = entered.whole ∙ entered.list in
    let has : 0 < stake_of mid.view (least_stake mid.view.stakes) = least_there mid.view.stakes again.0 in
    let new = entry_is_new (least_stake mid.view.stakes) 4 mid.view after.view (list_of 4 pool.view) m aware now has whole entered.lends in
    let lists = begun_length (list_of 4 root) (list_of 4 mid.view) (shown.lists 4) in
    let same = ap length (shown.same 4) in
    let long : length (list_of 4 pool.view) ≡ length pool.entries =
    sym (length-map (list_of 4 pool.view) (λ (n : Made). n.numbers)) ∙ (ap length kept.list ∙ length-map pool.entries pool_numbers) in
    let place = taken.place in
    let numbers : map (λ (n : Made). n.numbers) (list_of 4 after.view) ≡ map pool_numbers pool_now.entries =
    ap (map (λ (n : Made). n.numbers)) whole ∙ (map-append (λ (n : Made). n.numbers) (list_of 4 pool.view) (m ∷ [])
    ∙ (ap (λ ns. ns ++ m.numbers ∷ []) kept.list ∙ (ap (λ ns. map pool_numbers pool.entries ++ ns ∷ []) entered.says
    ∙ (sym (map-append pool_numbers pool.entries (e ∷ [])) ∙ sym (ap (map pool_numbers) entered.entries))))) in
    let lends : Lends r (Entered 4 m ∷ []) mid.view after.view =
    subst (λ k. Lends k (Entered 4 m ∷ []) mid.view after.view) least entered.lends in
    record {
      made = m;
      is_made = record {
        stake = entered.stake ∙ least;
        says = entered.says;
        earlier = list_of 4 pool.view;
        stands = ([], whole ∙ sym (append-nil (list_of 4 pool.view ++ m ∷ [])));
        index = long ∙ sym place;
        before = λ t. let a = (shown.taker 0).keeps.seen t in let b = entered.before t in omega arith;
        known = entered.known;
      };
      lends = on r [] (Entered 4 m ∷ []) v mid.view after.view (shown.taker r) lends;
      stands = subst (λ es. slice_get es index ≡ Some e)
          (sym (pools_are_read.list (list_of 4 after.view) pool_now.entries numbers)) taken.stands;
      later = omega arith;
    }

-- ---- where the run is

next_supers : (a : PoolAct) (s : PoolState) → (pool_next a s).supers ≡ s.supers
next_supers (Take count None) s = refl
next_supers (Take count (Some first)) s = refl
next_supers (Give count first) s = refl

replayed_supers : (es : List PoolEntry) (s : PoolState) → (pool_replayed es s).supers ≡ s.supers
replayed_supers [] s = refl
replayed_supers (e ∷ es) s = replayed_supers es (pool_next e.act s) ∙ next_supers e.act s

-- a region has 64 super pages at most
pub run_low : (count first : ℕ) (pool : PoolValue) → IsPoolKept pool → IsLowest (pool_after pool.entries pool.supers) count (Some first) →
    first + count ≤ 64
run_low count first pool kept lowest =
    let supers = replayed_supers pool.entries (new_pool pool.supers) in
    let few = kept.few in
    let inside = lowest.0.inside in
    omega arith
