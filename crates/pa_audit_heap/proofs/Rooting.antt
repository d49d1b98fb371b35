-- The entries of a journal, one by one.
use Rattle.std.proofs.Common.{◌≡◌, ℕ, ◌+◌, ◌<◌, ◌≤◌, ◌≢◌, List, length, map, take, Bool, not, true, false, Option, Some, None, refl, sym, ◌∙◌, ap, subst, arith, inl, inr}
use Rattle.std.specs.Prelude.{Contains, All, AllPairs, IfSome, slice_get, IsSome, IsNone, is_some}
use Rattle.pa_slot.specs.declared.title.Title.{Title}
use Rattle.pa_slot.specs.declared.word.SlotName.{SlotName}
use Rattle.pa_layout.specs.Pages.{page_place, supers_for, super_page_at}
use Rattle.pa_buckets.specs.Bands.{fill_of}
use Rattle.pa_record.specs.declared.numbered.Numbered.{Numbered}
use Rattle.pa_record.specs.declared.pool.PoolEntry.{PoolEntry}
use Rattle.pa_record.specs.declared.pool.PoolAct.{PoolAct}
use Rattle.pa_record.specs.declared.pool.PoolAct.TheVariants as pool
use Rattle.pa_record.specs.declared.root.RootAct.{RootAct}
use Rattle.pa_record.specs.declared.root.RootAct.TheVariants.{Fill, Map, Full, Give, Unmap}
use Rattle.pa_record.specs.Pool.{PoolState, PoolActFits, IsLowest, new_pool, pool_next, pool_replayed, act_at, FoundRun, FoundNone, GaveRun}
use Rattle.pa_record.specs.Spans.{name_of}
use Rattle.pa_record.specs.Root.{Root, Filled, all_returned, span_for, takes, opened, opened_by, super_of, mapped, map_title, names, root_next, RootActFits, asked_by, IsOut, IsTitleOut}
use Rattle.pa_record.specs.Sound.{IsSound, IsBornBelow, AsksFrom, least_after}
use Rattle.pa_record.proofs.Lawful.{out_is_out}
use Rattle.pa_record.proofs.Mapping.{born_more}
use Rattle.pa_record.proofs.PoolSteps.{pool_answers, pool_is_sound}
use Rattle.pa_place.specs.declared.placed.Placed.{Placed}
use Rattle.pa_place.specs.Placed.{Fills, Maps, FillDid, MapDid, IsStep, filled_by, mapped_by, map_in, with_slots}
use Rattle.pa_audit_heap.specs.Replayed.{DoAllFit, IsInStep, IsPlayedBy, TellsPlay}
use Rattle.pa_audit_heap.proofs.Playing.{played_entries, played_next}
use Rattle.std.proofs.lemmas.Bool.{cases_Bool, false≢true}
use Rattle.std.proofs.lemmas.Option.{slice_get_within}
use Rattle.pa_lists.proofs.Indexed.{option_cases}

pub none_some : {A : Type 0} (o : Option A) → IsNone o → IsSome o → ⊥
none_some None none some = absurd (false≢true some)
none_some (Some x) none some = absurd (false≢true (sym none))

-- by the two answers of a test
pub plays_by : (pools : List PoolEntry) (act : RootAct) (plan : PoolState) (r : Root) (next : PoolState) (after : Root) (b : Bool) →
    (b ≡ true → RootActFits pools act r × IsPlayedBy pools act plan r next after) → (b ≡ false → RootActFits pools act r → ⊥) →
    TellsPlay pools act plan r next after b
plays_by pools act plan r next after true f g = f refl
plays_by pools act plan r next after false f g = g refl

-- the plan of the first n entries
pub in_step : (pools : List PoolEntry) (supers n : ℕ) (plan : PoolState) (r : Root) →
    plan ≡ pool_replayed (take n pools) (new_pool supers) → n ≤ length pools → IsBornBelow n r
    → IsInStep pools plan r
in_step pools supers n plan r is within born =
    let e = played_entries supers pools n plan within is in
    let s : plan.supers ≡ supers = ap (λ (p : PoolState). p.supers) is ∙ pool_is_sound.supers supers (take n pools) in
    record {
      plan_is = is ∙ ap (λ m. pool_replayed (take m pools) (new_pool supers)) (sym e) ∙
          ap (λ m. pool_replayed (take plan.entries pools) (new_pool m)) (sym s);
      entries = omega arith;
      born = subst (λ m. IsBornBelow m r) (sym e) born;
    }

-- The plan of the entries before j, which did this: it fits, and the plan after it is that of the entries up to j.
pub record IsAt (pools : List PoolEntry) (supers j : ℕ) (a : PoolAct) (plan : PoolState) : Type 0 where
  pub within : j < length pools
  pub entries : plan.entries ≡ j
  pub supers_are : plan.supers ≡ supers
  pub partition : ℕ
  pub fits : PoolActFits pools partition a plan
  pub next : (after : PoolState) → after ≡ pool_next a plan → after ≡ pool_replayed (take (j + 1) pools) (new_pool supers)

pub at_entry : (pools : List PoolEntry) (supers j : ℕ) (a : PoolAct) (plan : PoolState) → DoAllFit supers pools → act_at pools j ≡ Some a
    → plan ≡ pool_replayed (take j pools) (new_pool supers) → IsAt pools supers j a plan
at_entry pools supers j a plan all did is =
    let (e, at, same) = option_cases (λ (e : PoolEntry). e.act) (slice_get pools j) a did in
    let within = slice_get_within pools j e at in
    record {
      within = within;
      entries = played_entries supers pools j plan (omega arith) is;
      supers_are = ap (λ (p : PoolState). p.supers) is ∙ pool_is_sound.supers supers (take j pools);
      partition = e.partition;
      fits = subst (PoolActFits pools e.partition a) (sym is)
          (subst (λ b. PoolActFits pools e.partition b (pool_replayed (take j pools) (new_pool supers))) same (all j e at));
      next = λ after after_is. played_next supers pools j plan after e at is (after_is ∙ ap (λ b. pool_next b plan) (sym same));
    }

pub ready_at : (pools : List PoolEntry) (plan0 plan : PoolState) (r here : Root) (j : ℕ) (a : PoolAct) → IsInStep pools plan0 r →
    plan0.entries ≤ j → IsAt pools plan0.supers j a plan
    → here ≡ r → IsBornBelow plan.entries here
ready_at pools plan0 plan r here j a old ahead at same =
    let e = at.entries in
    subst (IsBornBelow plan.entries) (sym same) (born_more plan0.entries plan.entries r (omega arith) old.born)

-- what an entry leaves that names entry j of the pool
pub played_by : (pools : List PoolEntry) (act : RootAct) (plan0 plan next : PoolState) (r after : Root) (j : ℕ) (a : PoolAct) →
    IsInStep pools plan0 r → plan0.entries ≤ j
    → asked_by act ≡ Some j → IsAt pools plan0.supers j a plan → next ≡ pool_next a plan → after ≡ root_next pools act r →
    IsStep plan.entries next.entries r after
    → IsPlayedBy pools act plan0 r next after
played_by pools act plan0 plan next r after j a old ahead asks at next_is after_is step =
    let is = at.next next next_is in
    let within = at.within in
    let e = played_entries plan0.supers pools (j + 1) next (omega arith) is in
    let f = at.entries in
    record {
      root = after_is;
      step = in_step pools plan0.supers (j + 1) next after is (omega arith)
          (subst (λ m. IsBornBelow m after) e (step.born (born_more plan0.entries plan.entries r (omega arith) old.born)));
      supers = ap (λ (p : PoolState). p.supers) is ∙ pool_is_sound.supers plan0.supers (take (j + 1) pools);
      turn = step.turn;
      least = λ n low from. subst (λ o. next.entries ≤ least_after n o) (sym asks) (omega arith);
    }

least_rises : (m n : ℕ) (o : Option ℕ) → m ≤ n → AsksFrom n o → m ≤ least_after n o
least_rises m n None low from = low
least_rises m n (Some j) low from = omega arith

-- an entry that changes nothing in the pool is played with the plan as it is
pub played_still : (pools : List PoolEntry) (act : RootAct) (plan : PoolState) (r after : Root) → IsInStep pools plan r →
    after ≡ root_next pools act r → after.turn ≤ r.turn + 32
    → IsBornBelow plan.entries after → IsPlayedBy pools act plan r plan after
played_still pools act plan r after old after_is turn born = record {
  root = after_is;
  step = record { plan_is = old.plan_is; entries = old.entries; born = born };
  supers = refl;
  turn = turn;
  least = λ n low. least_rises plan.entries n (asked_by act) low;
}

-- what a fill did, by whether it asked the pool
pub asked_fill : (class want : ℕ) (plan next : PoolState) (r : Root) (filled : Filled) (o : Option ℕ) →
    Fills class want plan next r filled o → is_some o ≡ true
    → IsNone (span_for class r) × (found : Option ℕ) × IsLowest plan 1 found × (next ≡ pool_next (pool.Take 1 found) plan) ×
    (filled ≡ filled_by class want plan.entries found r)
asked_fill class want plan next r filled None did some = absurd (false≢true some)
asked_fill class want plan next r filled (Some entry) (none, found, asked, is) some =
    (none, found, asked.lowest, asked.took, is ∙ ap (λ n. filled_by class want n found r) asked.entry)

pub unasked_fill : (class want : ℕ) (plan next : PoolState) (r : Root) (filled : Filled) (o : Option ℕ) →
    Fills class want plan next r filled o → is_some o ≡ false
    → IsSome (span_for class r) × (next ≡ plan) × (filled ≡ takes class want r)
unasked_fill class want plan next r filled None did none = did
unasked_fill class want plan next r filled (Some entry) did none = absurd (false≢true (sym none))

-- a fill that asks for no super page
pub fill_plays : (pools : List PoolEntry) (plan next : PoolState) (r after : Root) (class : ℕ) (slots : List Numbered) (placed : Placed) →
    class < 170 → IsInStep pools plan r
    → FillDid class (fill_of class) plan next r after placed → IsStep plan.entries next.entries r after → is_some placed.pool ≡ false →
    map name_of placed.titles.items ≡ names slots
    → RootActFits pools (Fill class None slots) r × IsPlayedBy pools (Fill class None slots) plan r next after
fill_plays pools plan next r after class slots placed real old did step none same =
    let (found, still, is) = unasked_fill class (fill_of class) plan next r (with_slots after placed) placed.pool did none in
    let root : after ≡ (takes class (fill_of class) r).root = ap (λ (f : Filled). f.root) is in
    let titles : placed.titles.items ≡ (takes class (fill_of class) r).titles = ap (λ (f : Filled). f.titles) is in (
      (real, found, ap (map name_of) (sym titles) ∙ same),
      subst (λ p. IsPlayedBy pools (Fill class None slots) plan r p after) (sym still)
          (played_still pools (Fill class None slots) plan r after old root step.turn
          (subst (λ (p : PoolState). IsBornBelow p.entries after) still (step.born old.born))),
    )

pub fill_misfits : (pools : List PoolEntry) (plan next : PoolState) (r after : Root) (class : ℕ) (slots : List Numbered) (placed : Placed)
    → FillDid class (fill_of class) plan next r after placed →
    (is_some placed.pool ≡ false → map name_of placed.titles.items ≡ names slots → ⊥)
    → RootActFits pools (Fill class None slots) r → ⊥
fill_misfits pools plan next r after class slots placed did differ (real, found, same) = elim (cases_Bool (is_some placed.pool)) [
  | inl some ↦
      let (none, o, lowest, took, is) = asked_fill class (fill_of class) plan next r (with_slots after placed) placed.pool did some in
      none_some (span_for class r) none found
  | inr none ↦
      let (found', still, is) = unasked_fill class (fill_of class) plan next r (with_slots after placed) placed.pool did none in
      let titles : placed.titles.items ≡ (takes class (fill_of class) r).titles = ap (λ (f : Filled). f.titles) is in
      differ none (ap (map name_of) titles ∙ same)
]

-- a fill that asks for one, by an entry that found it
pub fill_from_is : (pools : List PoolEntry) (supers : ℕ) (plan next : PoolState) (r after : Root) (class j first : ℕ) (placed : Placed)
    → IsAt pools supers j (pool.Take 1 (Some first)) plan →
    FillDid class (fill_of class) plan next r after placed → is_some placed.pool ≡ true
    → IsNone (span_for class r) × (next ≡ pool_next (pool.Take 1 (Some first)) plan) ×
    (with_slots after placed ≡ takes class (fill_of class) (opened first j r))
fill_from_is pools supers plan next r after class j first placed at did some =
    let (none, found, lowest, took, is) = asked_fill class (fill_of class) plan next r (with_slots after placed) placed.pool did some in
    let one : found ≡ Some first = pool_answers.lowest plan 1 found (Some first) lowest at.fits.1 in (
      none,
      took ∙ ap (λ o. pool_next (pool.Take 1 o) plan) one,
      is ∙ ap (λ n. filled_by class (fill_of class) n found r) at.entries ∙
          ap (λ o. filled_by class (fill_of class) j o r) one,
    )

opened_is : (pools : List PoolEntry) (j first : ℕ) (r : Root) → FoundRun pools j 1 first → opened first j r ≡ opened_by pools (Some j) r
opened_is pools j first r found = ap (λ o. opened (super_of o) j r) (sym found)

pub fill_from_plays : (pools : List PoolEntry) (plan0 plan next : PoolState) (r after : Root) (class j first : ℕ) (slots : List Numbered)
    (placed : Placed) → class < 170
    → IsInStep pools plan0 r → plan0.entries ≤ j → FoundRun pools j 1 first → IsAt pools plan0.supers j (pool.Take 1 (Some first)) plan
    → FillDid class (fill_of class) plan next r after placed → IsStep plan.entries next.entries r after → is_some placed.pool ≡ true →
    map name_of placed.titles.items ≡ names slots
    → RootActFits pools (Fill class (Some j) slots) r × IsPlayedBy pools (Fill class (Some j) slots) plan0 r next after
fill_from_plays pools plan0 plan next r after class j first slots placed real old ahead found at did step some same =
    let (none, next_is, is) = fill_from_is pools plan0.supers plan next r after class j first placed at did some in
    let full : with_slots after placed ≡ takes class (fill_of class) (opened_by pools (Some j) r) =
    is ∙ ap (takes class (fill_of class)) (opened_is pools j first r found) in
    let root : after ≡ (takes class (fill_of class) (opened_by pools (Some j) r)).root = ap (λ (f : Filled). f.root) full in
    let titles : placed.titles.items ≡ (takes class (fill_of class) (opened_by pools (Some j) r)).titles =
    ap (λ (f : Filled). f.titles) full in (
      (real, (none, first, found), ap (map name_of) (sym titles) ∙ same),
      played_by pools (Fill class (Some j) slots) plan0 plan next r after j (pool.Take 1 (Some first)) old ahead refl at next_is root step,
    )

pub fill_from_misfits : (pools : List PoolEntry) (supers : ℕ) (plan next : PoolState) (r after : Root) (class j first : ℕ)
    (slots : List Numbered) (placed : Placed)
    → FoundRun pools j 1 first → IsAt pools supers j (pool.Take 1 (Some first)) plan →
    FillDid class (fill_of class) plan next r after placed
    → (is_some placed.pool ≡ true → map name_of placed.titles.items ≡ names slots → ⊥) → RootActFits pools (Fill class (Some j) slots) r → ⊥
fill_from_misfits pools supers plan next r after class j first slots placed found at did differ (real, (none, first', found'), same) =
    elim (cases_Bool (is_some placed.pool)) [
      | inl some ↦
          let (none', next_is, is) = fill_from_is pools supers plan next r after class j first placed at did some in
          let full : with_slots after placed ≡ takes class (fill_of class) (opened_by pools (Some j) r) =
          is ∙ ap (takes class (fill_of class)) (opened_is pools j first r found) in
          differ some (ap (λ (f : Filled). map name_of f.titles) full ∙ same)
      | inr unasked ↦
          let (some, still, is) = unasked_fill class (fill_of class) plan next r (with_slots after placed) placed.pool did unasked in
          none_some (span_for class r) none some
    ]

-- no room for a slot of a class
pub full_plays : (pools : List PoolEntry) (plan0 plan next : PoolState) (r after : Root) (class j : ℕ) (placed : Placed)
    → IsInStep pools plan0 r → plan0.entries ≤ j → FoundNone pools j 1 → IsAt pools plan0.supers j (pool.Take 1 None) plan
    → FillDid class (fill_of class) plan next r after placed → IsStep plan.entries next.entries r after → is_some placed.pool ≡ true
    → RootActFits pools (Full (Some class) j) r × IsPlayedBy pools (Full (Some class) j) plan0 r next after
full_plays pools plan0 plan next r after class j placed old ahead found at did step some =
    let (none, o, lowest, took, is) = asked_fill class (fill_of class) plan next r (with_slots after placed) placed.pool did some in
    let one : o ≡ None = pool_answers.lowest plan 1 o None lowest at.fits.1 in
    let next_is : next ≡ pool_next (pool.Take 1 None) plan = took ∙ ap (λ f. pool_next (pool.Take 1 f) plan) one in
    let root : after ≡ r = ap (λ (f : Filled). f.root) (is ∙ ap (λ f. filled_by class (fill_of class) plan.entries f r) one) in
    ((none, found), played_by pools (Full (Some class) j) plan0 plan next r after j (pool.Take 1 None) old ahead refl at next_is root step)

pub full_misfits : (pools : List PoolEntry) (plan next : PoolState) (r after : Root) (class j : ℕ) (placed : Placed)
    → FillDid class (fill_of class) plan next r after placed → is_some placed.pool ≡ false → RootActFits pools (Full (Some class) j) r → ⊥
full_misfits pools plan next r after class j placed did unasked (none, found) =
    let (some, still, is) = unasked_fill class (fill_of class) plan next r (with_slots after placed) placed.pool did unasked in
    none_some (span_for class r) none some

-- a direct map
mapped_what : (len : ℕ) (plan next : PoolState) (r : Root) (filled : Filled) (o : Option ℕ) → Maps len plan next r filled o
    → (found : Option ℕ) × IsLowest plan (supers_for len) found × (next ≡ pool_next (pool.Take (supers_for len) found) plan) ×
    (filled ≡ mapped_by len plan.entries found r)
mapped_what len plan next r filled None did = absurd did
mapped_what len plan next r filled (Some entry) (found, asked, is) =
    (found, asked.lowest, asked.took, is ∙ ap (λ n. mapped_by len n found r) asked.entry)

pub map_plays : (pools : List PoolEntry) (plan0 plan next : PoolState) (r after : Root) (j first len : ℕ) (slot : SlotName)
    (placed : Placed)
    → IsInStep pools plan0 r → plan0.entries ≤ j → FoundRun pools j (supers_for len) first →
    IsAt pools plan0.supers j (pool.Take (supers_for len) (Some first)) plan
    → slot.start ≡ page_place first 1 → slot.born ≡ j → MapDid len plan next r after placed → IsStep plan.entries next.entries r after
    → RootActFits pools (Map j slot len) r × IsPlayedBy pools (Map j slot len) plan0 r next after
map_plays pools plan0 plan next r after j first len slot placed old ahead found at start born did step =
    let (o, lowest, took, is) = mapped_what len plan next r (with_slots after placed) placed.pool did in
    let one : o ≡ Some first = pool_answers.lowest plan (supers_for len) o (Some first) lowest at.fits.1 in
    let next_is : next ≡ pool_next (pool.Take (supers_for len) (Some first)) plan =
    took ∙ ap (λ f. pool_next (pool.Take (supers_for len) f) plan) one in
    let done : with_slots after placed ≡ mapped_by len j (Some first) r =
    is ∙ ap (λ n. mapped_by len n o r) at.entries ∙ ap (λ f. mapped_by len j f r) one in
    let title : map_in first len j ≡ map_title slot len =
    ap (λ n. record { start = n; len = len; born = j }) (sym start) ∙
    ap (λ n. record { start = slot.start; len = len; born = n }) (sym born) in
    let root : after ≡ mapped (map_title slot len) r = ap (λ (f : Filled). f.root) done ∙ ap (λ t. mapped t r) title in (
      (first, found, start, born),
      played_by pools (Map j slot len) plan0 plan next r after j
          (pool.Take (supers_for len) (Some first)) old ahead refl at next_is root step,
    )

-- nothing is a slot that is out and a direct map at once
pub slot_or_map : (r : Root) (name : SlotName) (t : Title) → IsSound r → IsOut r name → Contains r.maps t → name_of t ≡ name → ⊥
slot_or_map r name t sound (s, among, n, out) mapped same =
    let (at, page, p) = sound.placed s among in
    sound.mixed t at mapped p.among (ap (λ (x : SlotName). x.born) (same ∙ out.named) ∙ p.born)

pub slot_is_away : (r : Root) (name : SlotName) → ((t : Title) → IsTitleOut r t → name_of t ≡ name → ⊥) → IsOut r name → ⊥
slot_is_away r name away out = let (t, is, same) = out_is_out.titled r name out in away t is (sym same)

-- a direct map that comes back
pub unmap_plays : (pools : List PoolEntry) (plan0 plan next : PoolState) (r after : Root) (j : ℕ) (slot : Numbered) (t : Title)
    → IsInStep pools plan0 r → plan0.entries ≤ j → Contains r.maps t → name_of t ≡ slot.slot →
    t.start ≡ page_place (super_page_at t.start) 1
    → GaveRun pools j (supers_for t.len) (super_page_at t.start) →
    IsAt pools plan0.supers j (pool.Give (supers_for t.len) (super_page_at t.start)) plan
    → next ≡ pool_next (pool.Give (supers_for t.len) (super_page_at t.start)) plan → after ≡ root_next pools (Unmap j slot) r →
    IsStep plan.entries next.entries r after
    → RootActFits pools (Unmap j slot) r × IsPlayedBy pools (Unmap j slot) plan0 r next after
unmap_plays pools plan0 plan next r after j slot t old ahead mapped same start gave at next_is after_is step = (
  (
    t.len,
    super_page_at t.start,
    subst (λ name. Contains r.maps (map_title name t.len)) same mapped,
    sym (ap (λ (x : SlotName). x.start) same) ∙ start,
    gave,
  ),
  played_by pools (Unmap j slot) plan0 plan next r after j
      (pool.Give (supers_for t.len) (super_page_at t.start)) old ahead refl at next_is after_is step,
)

pub unmap_misfits : (pools : List PoolEntry) (r : Root) (j : ℕ) (slot : Numbered) (t : Title) → IsSound r →
    Contains r.maps t → name_of t ≡ slot.slot
    → (t.start ≡ page_place (super_page_at t.start) 1 → GaveRun pools j (supers_for t.len) (super_page_at t.start) → ⊥) →
    RootActFits pools (Unmap j slot) r → ⊥
unmap_misfits pools r j slot t sound mapped same other (len, first, mapped', start, gave) =
    let one : t ≡ map_title slot.slot len = out_is_out.one r t (map_title slot.slot len) sound (inr mapped) (inr mapped') same in
    let start' : t.start ≡ page_place first 1 = ap (λ (z : Title). z.start) one ∙ start in
    let place : super_page_at t.start ≡ first = omega arith in
    other (start' ∙ ap (λ n. page_place n 1) (sym place))
    (subst (λ n. GaveRun pools j (supers_for t.len) n) (sym place)
    (subst (λ n. GaveRun pools j (supers_for n) first) (sym (ap (λ (z : Title). z.len) one)) gave))

pub unmap_none : (pools : List PoolEntry) (r : Root) (j : ℕ) (slot : Numbered) →
    ((t : Title) → Contains r.maps t → name_of t ≡ slot.slot → ⊥) → RootActFits pools (Unmap j slot) r → ⊥
unmap_none pools r j slot away (len, first, mapped, start, gave) = away (map_title slot.slot len) mapped refl

-- what a test says of what a look-up found
pub some_is : (o : Option ℕ) (P : ℕ → Type 0) → IfSome o P → (b : Bool) → is_some o ≡ not b → b ≡ false → (x : ℕ) × P x
some_is None P h b is left = absurd (false≢true (is ∙ ap not left))
some_is (Some x) P h b is left = (x, h)

-- slots that come back
pub give_plays : (pools : List PoolEntry) (plan : PoolState) (r after : Root) (slots : List Numbered) → IsInStep pools plan r →
    All (IsOut r) (names slots) → AllPairs ◌≢◌ (names slots)
    → after ≡ all_returned (names slots) r → IsStep plan.entries plan.entries r after
    → RootActFits pools (Give slots) r × IsPlayedBy pools (Give slots) plan r plan after
give_plays pools plan r after slots old out differ is step =
    ((out, differ), played_still pools (Give slots) plan r after old is step.turn (step.born old.born))
