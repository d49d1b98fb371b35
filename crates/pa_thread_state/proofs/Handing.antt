-- A worker's stake handed over and taken back: the thread state in between and after.
use Rattle.std.proofs.Common.{◌≡◌, ℕ, ◌<◌, ◌≤◌, Bool, true, false, not, List, [], ◌∷◌, length, refl, sym, ◌∙◌, ap, subst, arith, ◌⊎◌, inl, inr}
use Rattle.std.specs.Prelude.{◌==◌}
use Rattle.std.specs.List.{sum_by, filter}
use Rattle.std.proofs.lemmas.List.Sums.{sum_by-cons, sum_by-append}
use Rattle.std.proofs.lemmas.Bool.{cases_Bool}
use Rattle.std.proofs.lemmas.Bool.Decides.{nat_tests, eqb_tells}
use Rattle.pa_slot.specs.declared.title.Title.{Title}
use Rattle.pa_slot.specs.Titles.{same_title}
use Rattle.pa_slot.specs.Holdings.{one}
use Rattle.pa_slot.proofs.Same.{title_self}
use Rattle.pa_region.specs.declared.view.OwnTitle.{OwnTitle}
use Rattle.pa_region.specs.declared.view.Stake.{Stake}
use Rattle.pa_region.specs.declared.view.View.{View}
use Rattle.pa_region.specs.Waiting.{is_unclean}
use Rattle.pa_region.specs.Hands.{left_after, given_after, united, IsParted}
use Rattle.pa_region.specs.Views.{stake_of}
use Rattle.pa_region.specs.Lending.{stake_parcel}
use Rattle.pa_region.specs.Aware.{IsAware}
use Rattle.pa_region.specs.Takes.{BeginningsJoin, FreeNumbersStay}
use Rattle.pa_rules.specs.Caches.{SameLists}
use Rattle.pa_cells.specs.Handles.{SlotsStaySeen}
use Rattle.pa_rules.specs.declared.register.Register.TheVariants.{Empty, Own, Ref, Freed, Cleared}
use Rattle.pa_op_specs.specs.Stocks.{StockRegister, StockValue, IsStock, HoldsStake, IsForThread, IsMadeFor, titles_in, listed_in, register_in}
use Rattle.pa_op_specs.specs.Plays.{KeepsApart}
use Rattle.pa_op_specs.proofs.Quiet.{same_titles}
use Rattle.pa_op_specs.proofs.Seeing.{made_for_kept, made_kept}
use Rattle.pa_op_specs.proofs.Stocks.{stock_kept}
use Rattle.pa_thread_state.proofs.Leaving.{seals_beside}

-- without some members a sum isn't greater
filter_less : {A : Type 0} (test : A → Bool) (f : A → ℕ) (xs : List A) → sum_by f (filter test xs) ≤ sum_by f xs
filter_less test f [] = omega arith
filter_less test f (x ∷ xs) =
    let again = filter_less test f xs in
    let c = sum_by-cons f x xs in
    let d = sum_by-cons f x (filter test xs) in
    elim (cases_Bool (test x)) [
      | inl y ↦ rw y (omega arith)
      | inr n ↦ rw n (omega arith)
    ]

-- the thread state after the stake was handed over
pub told_stock : (s : StockValue) → IsStock s → IsStock (record s { view = left_after (stake_parcel s.thread) s.view })
told_stock s is =
    let w = left_after (stake_parcel s.thread) s.view in
    stock_kept s w s.registers is
    (record {
      count = is.handles.count;
      owns = is.handles.owns;
      refs = is.handles.refs;
      clean = is.handles.clean;
      sealed = is.handles.sealed;
      made = λ k. made_for_kept s.view w refl (register_in s.registers k) (is.handles.made k);
    })
    (record {
      small = is.stake.small;
      only = λ k other.
          let z = is.stake.only k other in
          let less = filter_less (λ (x : Stake). not ((stake_parcel s.thread).stakes x.number))
          (λ (x : Stake). one (x.number == k)) s.view.stakes in
          omega arith;
    })
    (λ h made. made_kept h s.view w refl made) (λ t. omega arith)

-- a view that has no handle has no Own that isn't clean, and none poisoned
none_owned : (os : List OwnTitle) → ((t : Title) → sum_by (λ (o : OwnTitle). one (same_title o.title t)) os ≡ 0) →
    sum_by (λ (o : OwnTitle). one (is_unclean o.state)) os ≡ 0
none_owned [] none = refl
none_owned (o ∷ os) none =
    let z = none o.title in
    let c = sum_by-cons (λ (x : OwnTitle). one (same_title x.title o.title)) o os in
    let d : one (same_title o.title o.title) ≡ 1 = ap one (title_self o.title) in
    absurd (omega arith)

-- the thread state after the stake came back
pub heard_stock : BeginningsJoin → SlotsStaySeen → (s : StockValue) (n : View) → IsStock s → IsForThread s.thread n →
    IsAware (united s.view n) →
    IsStock (record s { view = united s.view n })
heard_stock joins stays s n is for aware =
    let w = united s.view n in
    stock_kept s w s.registers is
    (record {
      count = is.handles.count;
      owns = λ t. let a = is.handles.owns t in let b = for.unused t in
          omega (arith, sum_by-append (λ (o : OwnTitle). one (same_title o.title t)) s.view.owns n.owns);
      refs = λ t. let a = is.handles.refs t in let b = for.unused t in
          omega (arith, sum_by-append (λ (u : Title). one (same_title u t)) s.view.refs n.refs);
      clean =
          let a = is.handles.clean in
          let b = none_owned n.owns (λ t. let e = for.unused t in omega arith) in
          omega (arith, sum_by-append (λ (o : OwnTitle). one (is_unclean o.state)) s.view.owns n.owns);
      sealed = λ t. seals_beside s.view n t (let e = for.unused t in omega arith) ∙ is.handles.sealed t;
      made = λ k. made_for (register_in s.registers k) (is.handles.made k);
    })
    (record {
      small = is.stake.small;
      only = λ k other. let a = is.stake.only k other in let b = for.stake.only k other in
          omega (arith, sum_by-append (λ (x : Stake). one (x.number == k)) s.view.stakes n.stakes);
    })
    (λ h m. stays h s.view w m (joins s.view n h.partition aware).0)
    (λ t. omega (arith, sum_by-append (λ (u : Title). one (same_title u t)) s.view.frees n.frees))
  where
    made_for : (r : StockRegister) → IsMadeFor s.view r → IsMadeFor (united s.view n) r
    made_for Empty m = tt
    made_for (Own h) m = stays h s.view (united s.view n) m (joins s.view n h.partition aware).0
    made_for (Ref h) m = stays h s.view (united s.view n) m (joins s.view n h.partition aware).0
    made_for Freed m = tt
    made_for Cleared m = tt

-- the lists of a worker that gets its stake back are as they were
pub heard_lists : FreeNumbersStay → (s : StockValue) (n : View) → IsStock s → IsAware s.view → IsAware n → IsAware (united s.view n) →
    length s.view.words ≡ length n.words →
    SameLists (listed_in (record s { view = united s.view n })) (listed_in s)
heard_lists law s n is aware other both long p c =
    same_titles s.view (united s.view n) (titles_in s.caches p c) (λ t among.
    let well = is.lists.well p c t among in
    (law s.view n well.0 t aware other both long well.1).0 (is.lists.free p c t among))

-- and what it has free and on no list stays so
pub heard_apart : FreeNumbersStay → (s : StockValue) (n : View) → IsAware s.view → IsAware n → IsAware (united s.view n) →
    length s.view.words ≡ length n.words → KeepsApart s (record s { view = united s.view n })
heard_apart law s n aware other both long t is = (
  record {
    free = omega (arith, is.free, sum_by-append (λ (u : Title). one (same_title u t)) s.view.frees n.frees);
    off = is.off;
    well = is.well;
  },
  (law s.view n is.well.0 t aware other both long is.well.1).0 is.free,
)

-- the stake of this number goes, and no other
goes_alone : (r k : ℕ) → ((r == k) ≡ true) × ((stake_parcel r).stakes k ≡ true) ⊎ ((r == k) ≡ false) × ((stake_parcel r).stakes k ≡ false)
goes_alone r k = go (r == k) refl
  where
    go : (b : Bool) → (r == k) ≡ b → ((r == k) ≡ true) × ((stake_parcel r).stakes k ≡ true) ⊎ ((r == k) ≡ false) ×
        ((stake_parcel r).stakes k ≡ false)
    go true is = inl (is, rw is refl)
    go false is = inr (is, rw is refl)

-- all stakes of this number go
all_go : (r : ℕ) (ss : List Stake) →
    sum_by (λ (x : Stake). one (x.number == r)) (filter (λ (x : Stake). (stake_parcel r).stakes x.number) ss) ≡ sum_by
    (λ (x : Stake). one (x.number == r)) ss
all_go r [] = refl
all_go r (s ∷ ss) =
    let again = all_go r ss in
    let c = sum_by-cons (λ (x : Stake). one (x.number == r)) s ss in
    let d = sum_by-cons (λ (x : Stake). one (x.number == r)) s (filter (λ (x : Stake). (stake_parcel r).stakes x.number) ss) in
    elim (goes_alone r s.number) [
      | inl y ↦ rw y.1 (omega arith)
      | inr n ↦ (let e : one (s.number == r) ≡ 0 = ap one (other_way r s.number n.0) in rw n.1 (omega arith))
    ]
  where
    other_way : (a b : ℕ) → (a == b) ≡ false → (b == a) ≡ false
    other_way a b e = grind (arith, nat_tests)

-- a worker can take back the note with the stake that it lent, and has no stake in between
pub told_again : (thread : ℕ) (v : View) → HoldsStake thread v → 0 < stake_of v thread →
    IsForThread thread (given_after (stake_parcel thread) v)
told_again thread v holds has = record {
  stake = record {
    small = holds.small;
    only = λ k other.
        let z = holds.only k other in
        let less = filter_less (λ (x : Stake). (stake_parcel thread).stakes x.number) (λ (x : Stake). one (x.number == k)) v.stakes in
        omega arith;
  };
  has = let e = all_go thread v.stakes in omega arith;
  unused = λ t. refl;
}

pub told_none : (thread : ℕ) (v : View) → HoldsStake thread v →
    IsParted v (left_after (stake_parcel thread) v) (given_after (stake_parcel thread) v) →
    (k : ℕ) → stake_of (left_after (stake_parcel thread) v) k ≡ 0
told_none thread v holds parted k =
    let sum = parted.stakes k in
    elim (eqb_tells k thread) [
      | inl y ↦ (let e = all_go thread v.stakes in
          subst (λ n. stake_of (left_after (stake_parcel thread) v) n ≡ 0) (sym y.1) (let at = parted.stakes thread in omega arith))
      | inr n ↦ (let z = holds.only k n.1 in omega arith)
    ]
