-- What a root gives is taken in: the thread state in between and after.
use Rattle.std.proofs.Common.{◌≡◌, ℕ, ◌≤◌, List, [], ◌∷◌, length, Option, Some, None, refl, sym, ◌∙◌, ap, subst, arith}
use Rattle.std.specs.Prelude.{◌==◌, Result, Ok, Err, IfErr, All, slice_index_or}
use Rattle.std.specs.List.{remove}
use Rattle.std.proofs.lemmas.List.Elements.{All-contains, All-contains_itself}
use Rattle.std.proofs.lemmas.List.Sums.{sum_by-append}
use Rattle.pa_slot.specs.declared.title.Title.{Title}
use Rattle.pa_slot.specs.Titles.{same_title, IsWellFormed}
use Rattle.pa_slot.specs.Holdings.{one}
use Rattle.pa_record.specs.declared.root.RootAct.{RootAct}
use Rattle.pa_region.specs.declared.view.OwnTitle.{OwnTitle}
use Rattle.pa_region.specs.declared.view.Stake.{Stake}
use Rattle.pa_region.specs.declared.view.View.{View}
use Rattle.pa_region.specs.Waiting.{is_unclean}
use Rattle.pa_region.specs.Lending.{Keeps}
use Rattle.pa_region.specs.Hands.{united}
use Rattle.pa_region.specs.Aware.{IsAware}
use Rattle.pa_region.specs.Shares.{Share}
use Rattle.pa_region.proofs.TakeLaws.{left_begins}
use Rattle.pa_root.specs.declared.fault.FillFault.{FillFault}
use Rattle.pa_root.specs.declared.fault.FillFault.TheVariants.{Full, OutOfMemory}
use Rattle.pa_root.specs.Handing.{HasOnly, EntersFor, IsFullFor}
use Rattle.pa_root.proofs.Together.{no_own_clean}
use Rattle.pa_cache.specs.Caches.{IsCache, HoldsFree}
use Rattle.pa_cache.specs.Chained.{HoldsList}
use Rattle.pa_cells.specs.Handles.{SlotsStaySeen}
use Rattle.pa_op_specs.specs.Stocks.{StockValue, IsStock, register_in}
use Rattle.pa_thread_state.specs.Allocating.{CanLoad, GivesNone, FindsNone, with_listed}
use Rattle.pa_op_specs.proofs.Stocks.{stock_kept}
use Rattle.pa_thread_state.proofs.Leaving.{seals_beside}
use Rattle.pa_thread_state.proofs.Parking.{made_for_more}
use Rattle.pa_rules.specs.Sizes.{HasClass}
use Rattle.pa_thread_state.specs.Lists.{WorkerCaches, lists_in}
use Rattle.pa_thread_state.proofs.Staying.{HasThem, kept_has, same_has}
use Rattle.pa_thread_state.proofs.Relisting.{relisted_stock}

pub err_weaker : {A E : Type 0} (r : Result A E) (P Q : E → Type 0) → ((e : E) → P e → Q e) → IfErr r P → IfErr r Q
err_weaker (Ok a) P Q f is = tt
err_weaker (Err e) P Q f is = f e is

-- a seat that asked a root keeps what it has
pub for_keeps : (j r p line : ℕ) (asked found : Option ℕ) (a : RootAct) (v u : View) → EntersFor j r p line asked found a v u → Keeps v u
for_keeps j r p line None found a v u one = one.lends.keeps
for_keeps j r p line (Some k) found a v u two = two.lends.keeps

-- the thread state is sound when the root gave nothing, and has its lists
pub none_has : SlotsStaySeen →
    (s : StockValue) (cs : WorkerCaches) (a b : Share) (r line p count : ℕ) (class : Option ℕ) (fault : FillFault) →
    s.caches ≡ lists_in s.view cs → IsStock s → All (HoldsList s.view) cs.parts → a.view ≡ s.view →
    GivesNone r line p count class a b fault →
    HasThem s b.view s.registers cs
none_has stays s cs a b r line p count class (Full j) are is has at full =
    kept_has stays s b.view cs are is has (subst (λ v. Keeps v b.view) at full.enters.lends.keeps)
none_has stays s cs a b r line p count class OutOfMemory are is has at same =
    same_has s b.view cs are is has (ap (λ (x : Share). x.view) same ∙ at)

-- what a thread state knows of a root that gave none
pub finds_none : (s : StockValue) (a b : Share) (r line p count : ℕ) (class : Option ℕ) (fault : FillFault) → a.view ≡ s.view →
    r ≡ s.thread →
    GivesNone r line p count class a b fault → FindsNone line p count class s (record s { view = b.view }) fault
finds_none s a b r line p count class (Full j) at stake full = (
  subst (λ k. IsFullFor j k p line count class s.view b.view) stake (subst (λ v. IsFullFor j r p line count class v b.view) at full),
  refl,
)
finds_none s a b r line p count class OutOfMemory at stake same = ap (λ v. record s { view = v }) (ap (λ (x : Share). x.view) same ∙ at)

-- the thread state that took in a note with free titles alone
pub received_stock : SlotsStaySeen → (s : StockValue) (n : View) (titles : List Title) → IsStock s → HasOnly titles n →
    IsAware (united s.view n) →
    IsStock (record s { view = united s.view n })
received_stock stays s n titles is has both =
    stock_kept s (united s.view n) s.registers is
    (record {
      count = is.handles.count;
      owns = λ t. let a = is.handles.owns t in let b = has.handles t in
          omega (arith, sum_by-append (λ (o : OwnTitle). one (same_title o.title t)) s.view.owns n.owns);
      refs = λ t. let a = is.handles.refs t in let b = has.handles t in
          omega (arith, sum_by-append (λ (u : Title). one (same_title u t)) s.view.refs n.refs);
      clean =
          let a = is.handles.clean in
          let b = no_own_clean n (λ t. let e = has.handles t in omega arith) in
          omega (arith, sum_by-append (λ (o : OwnTitle). one (is_unclean o.state)) s.view.owns n.owns);
      sealed = λ t. seals_beside s.view n t (let e = has.handles t in omega arith) ∙ is.handles.sealed t;
      made = λ k. made_for_more stays s.view (united s.view n) (λ q. left_begins s.view n q both) (register_in s.registers k)
          (is.handles.made k);
    })
    (record {
      small = is.stake.small;
      only = λ k other. let a = is.stake.only k other in let b = has.stakes k in
          omega (arith, sum_by-append (λ (x : Stake). one (x.number == k)) s.view.stakes n.stakes);
    })
    (λ h m. stays h s.view (united s.view n) m (left_begins s.view n h.partition both))
    (λ t. omega (arith, sum_by-append (λ (u : Title). one (same_title u t)) s.view.frees n.frees))

-- the thread state with a list that was loaded
pub loaded_stock : (s : StockValue) (p c : ℕ) (ts : List Title) (words : ℕ) → IsStock s → CanLoad p c ts s → HasClass s.caches.version c →
    IsCache (record { class = c; titles = ts }) →
    All (IsWellFormed words) ts → IsStock (record s { caches = with_listed p c ts s.caches })
loaded_stock s p c ts words is can small sound placed =
    relisted_stock s p c ts is can.partition small sound can.few
    (λ t among. record {
      free = can.free t among;
      alone = λ q d other. absurd (can.new q d t other among);
      made = can.made t among;
      well = (words, All-contains (IsWellFormed words) ts t placed among);
    })

-- each of these titles is free
pub loads_free : (s : StockValue) (p c : ℕ) (ts : List Title) → CanLoad p c ts s → HoldsFree s.view ts
loads_free s p c ts can = λ k d less. can.free (slice_index_or ts k d) (All-contains_itself ts k d less)

-- the first and the others
pub first_rest : (ts : List Title) (t : Title) (rest : List Title) → 1 ≤ length ts → t ≡ slice_index_or ts 0 t → rest ≡ remove ts 0 →
    ts ≡ t ∷ rest
first_rest [] t rest some first others = absurd (omega arith)
first_rest (x ∷ xs) t rest some first others = ap (λ y. y ∷ xs) (sym first) ∙ ap (λ ys. t ∷ ys) (sym others)
