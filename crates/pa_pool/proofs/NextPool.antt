-- What the type keeps, after one more entry.
use Rattle.std.proofs.Common.{◌≡◌, ℕ, ◌+◌, ◌<◌, ◌≤◌, List, [], ◌∷◌, ◌++◌, map, Option, Some, length, length-append, refl, sym, ◌∙◌, ap, subst}
use Rattle.std.proofs.lemmas.List.{map-append, length-map}
use Rattle.std.specs.Prelude.{slice_get}
use Rattle.pa_record.specs.declared.pool.PoolEntry.{PoolEntry}
use Rattle.pa_record.specs.Pool.{PoolState, IsLowest, PoolActFits, IsPool, pool_next}
use Rattle.pa_record.specs.Numbers.{pool_numbers}
use Rattle.pa_record.proofs.PoolSteps.{pool_grows}
use Rattle.pa_region.specs.declared.view.Made.{Made}
use Rattle.pa_region.specs.declared.view.View.{View}
use Rattle.pa_region.specs.Views.{low_of, least_stake}
use Rattle.pa_region.specs.Lists.{lease_of, list_of}
use Rattle.pa_region.specs.Lending.{HostsKeeper, IsNoted}
use Rattle.pa_region.specs.Shares.{Share}
use Rattle.pa_pool.specs.Calls.{take_entry, IsAsBefore, IsEntered, IsTaken, HasSeenTake}
use Rattle.pa_pool.proofs.Runs.{same_supers}
use Rattle.pa_pool.specs.Pools.{PoolValue, pool_after, IsFreeByte, IsEntryOut, IsPoolSound, HasNoMore}
use Rattle.pa_lists.proofs.Indexed.{slice_get_at}

-- the list with the additional entry, in numbers
pub list_grows : (es : List PoolEntry) (e : PoolEntry) (before after : List Made) (m : Made)
    → map (λ (x : Made). x.numbers) before ≡ map pool_numbers es → after ≡ before ++ m ∷ [] → m.numbers ≡ pool_numbers e →
    map (λ (x : Made). x.numbers) after ≡ map pool_numbers (es ++ e ∷ [])
list_grows es e before after m same is says =
    ap (map (λ (x : Made). x.numbers)) is ∙ map-append (λ (x : Made). x.numbers) before (m ∷ []) ∙ ap (λ ns. ns ++ m.numbers ∷ []) same
    ∙ ap (λ n. map pool_numbers es ++ n ∷ []) says ∙ sym (map-append pool_numbers es (e ∷ []))

-- a view that has what the next state says
pub record HasRest (s : PoolState) (n : ℕ) (v : View) : Type 0 where
  pub raw : (b : ℕ) → IsFreeByte s b → 0 < low_of v b n
  pub here : (k : ℕ) → (IsEntryOut s k → ⊥) → 0 < lease_of v k
  pub out : (k : ℕ) → IsEntryOut s k → lease_of v k ≡ 0

pub next_pool : (supers : ℕ) (es : List PoolEntry) (e : PoolEntry) (v : View) → supers ≤ 64 → IsPool supers es →
    PoolActFits es e.partition e.act (pool_after es supers) →
    map (λ (m : Made). m.numbers) (list_of 4 v) ≡ map pool_numbers (es ++ e ∷ []) → HostsKeeper 4 v →
    HasRest (pool_next e.act (pool_after es supers)) (length es + 1) v → HasNoMore v →
    IsPoolSound supers (es ++ e ∷ []) v
next_pool supers es e v few fits next list hosts rest more =
    let is = pool_grows.next supers es e in
    let long : length (es ++ e ∷ []) ≡ length es + 1 = length-append es (e ∷ []) in
    record {
      few = few;
      pool = pool_grows.fits supers es e fits next;
      list = list;
      hosts = hosts;
      raw = λ b free. subst (λ (n : ℕ). 0 < low_of v b n) (sym long) (rest.raw b (subst (λ s. IsFreeByte s b) is free));
      here = λ n none. rest.here n (λ h. none (subst (λ s. IsEntryOut s n) (sym is) h));
      out = λ n h. rest.out n (subst (λ s. IsEntryOut s n) is h);
      more = more;
    }

-- the plan goes along with the entries
pub plan_follows : (plan next : PoolState) (es after : List PoolEntry) (e : PoolEntry) (v : View) → plan ≡ pool_after es plan.supers →
    next ≡ pool_next e.act plan → after ≡ es ++ e ∷ [] →
    IsPoolSound plan.supers (es ++ e ∷ []) v → (next ≡ pool_after after next.supers) × IsPoolSound next.supers after v ×
    (next.supers ≡ plan.supers)
plan_follows plan next es after e v was step grown sound =
    let is : next ≡ pool_after (es ++ e ∷ []) plan.supers = step ∙ (ap (pool_next e.act) was ∙ sym (pool_grows.next plan.supers es e)) in
    let same : next.supers ≡ plan.supers = ap (λ (s : PoolState). s.supers) is ∙ same_supers plan.supers (es ++ e ∷ []) in (
      is ∙ (ap (λ n. pool_after (es ++ e ∷ []) n) (sym same) ∙ ap (λ xs. pool_after xs next.supers) (sym grown)),
      subst (λ xs. IsPoolSound next.supers xs v) (sym grown) (subst (λ n. IsPoolSound n (es ++ e ∷ []) v) (sym same) sound),
      same,
    )

-- a new member is at the end
pub last_stands : {A : Type 0} (before after : List A) (x : A) (index : ℕ) → after ≡ before ++ x ∷ [] → index ≡ length before →
    slice_get after index ≡ Some x
last_stands before after x index grown place = ap (λ xs. slice_get xs index) grown ∙
    (ap (λ n. slice_get (before ++ x ∷ []) n) place ∙ slice_get_at before [] x)

-- what the entry means for the caller
pub entered : (r : ℕ) (e : PoolEntry) (v w u host : View) (p q z : PoolValue) (m : Made) → IsAsBefore p q →
    IsNoted r 4 (pool_numbers e) v w u host m → list_of 4 u ≡ list_of 4 q.view →
    z.entries ≡ q.entries ++ e ∷ [] → z.supers ≡ q.supers → list_of 4 z.view ≡ list_of 4 host → IsEntered r e v w p z m
entered r e v w u host p q z m same noted stays grown supers list = record {
  entries = grown ∙ ap (λ es. es ++ e ∷ []) same.entries;
  supers = supers ∙ same.supers;
  stake = noted.stake;
  says = noted.says;
  list = list ∙ (noted.list ∙ (ap (λ ms. ms ++ m ∷ []) stays ∙ ap (λ (x : View). list_of 4 x ++ m ∷ []) same.view));
  whole = noted.whole ∙ sym list;
  lends = noted.lends;
  before = noted.before;
  known = noted.known;
}

-- what the call that takes ensures
pub taken_so : (line partition count : ℕ) (found : Option ℕ) (index : ℕ) (a b host : Share) (p q z : PoolValue) → IsAsBefore p q →
    index ≡ length q.entries →
    IsLowest (pool_after q.entries q.supers) count found → (m : Made) →
    IsNoted (least_stake a.view.stakes) 4 (pool_numbers (take_entry line partition count found)) a.view b.view q.view host.view m →
    z.entries ≡ q.entries ++ take_entry line partition count found ∷ [] → z.supers ≡ q.supers → list_of 4 z.view ≡ list_of 4 host.view →
    IsTaken line partition count found index a b p z
taken_so line partition count found index a b host p q z same place lowest m noted grown supers list = record {
  place = place ∙ ap length same.entries;
  lowest = subst (λ n. IsLowest (pool_after p.entries n) count found) same.supers
      (subst (λ es. IsLowest (pool_after es q.supers) count found) same.entries lowest);
  entered = (
    m,
    entered (least_stake a.view.stakes)
        (take_entry line partition count found) a.view b.view q.view host.view p q z m same noted refl grown supers list,
  );
  stands = last_stands q.entries z.entries (take_entry line partition count found) index grown place;
}

-- the caller of a take has seen its entry
pub taken_seen : (line partition count first index supers r : ℕ) (es : List PoolEntry) (v w h host : View) (m : Made) →
    IsPoolSound supers es h →
    IsNoted r 4 (pool_numbers (take_entry line partition count (Some first))) v w h host m → index ≡ length es →
    HasSeenTake partition index first count w
taken_seen line partition count first index supers r es v w h host m sound noted place =
    let long : length (list_of 4 h) ≡ length es = sym (length-map (list_of 4 h) (λ (x : Made). x.numbers)) ∙
    (ap length sound.list ∙ length-map es pool_numbers) in
    record {
      line = line;
      made = m;
      stands = last_stands (list_of 4 h) (list_of 4 w) m index (noted.whole ∙ noted.list) (place ∙ sym long);
      says = noted.says;
    }
