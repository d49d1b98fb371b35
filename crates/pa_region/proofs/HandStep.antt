-- A hand keeps the rule.
use Rattle.std.proofs.Common.{◌≡◌, ℕ, ◌+◌, ◌*◌, ◌<◌, ◌≤◌, Bool, true, false, ◌&&◌, List, [], ◌∷◌, ◌++◌, length, set, refl, sym, ap, subst, arith, inl, inr, eqb}
use Rattle.std.specs.Prelude.{not, cond, slice_index}
use Rattle.std.proofs.lemmas.Bool.{cases_Bool, true≢false}
use Rattle.std.specs.List.{sum_by, filter}
use Rattle.core.specs.List.{AllByRecursion as Each}
use Rattle.std.proofs.lemmas.List.Filters.{sum_by-filter_both}
use mathlib.Core.Option.{some}
use lib.ListN.{get_elem?}
use Rattle.atomic_table.proofs.Lists.{at_snoc}
use Rattle.pa_slot.specs.declared.title.Title.{Title}
use Rattle.pa_slot.specs.Titles.{same_title}
use Rattle.pa_slot.specs.Holdings.{Thing, RawByte, FreeTitle, OwnOf, RefOf, one}
use Rattle.pa_region.specs.declared.view.Made.{Made}
use Rattle.pa_region.specs.declared.view.Stake.{Stake}
use Rattle.pa_region.specs.declared.view.Keeper.{Keeper}
use Rattle.pa_region.specs.declared.view.View.{View}
use Rattle.pa_region.specs.Views.{held_of_view, byte_words, own_of, ref_of, Knows, least_stake, HasStake}
use Rattle.pa_region.specs.Pairs.{pairs, amount_by}
use Rattle.pa_region.specs.Waiting.{is_poisoned, is_unclean, unclean_of, IsReader}
use Rattle.pa_region.proofs.ReadsSame.{reader_handed}
use Rattle.pa_region.specs.Rule.{IsKept}
use Rattle.pa_region.specs.Order.{OneStep, by_stake, IsAlone, IsLoggedIn}
use Rattle.pa_region.specs.Filled.{IsSteady}
use Rattle.pa_region.proofs.PoisonedOwns.{poisoned_unclean}
use Rattle.pa_region.proofs.StepsPart.{steady_handed}
use Rattle.pa_region.specs.Lists.{keeper_of, made_with, entered_in, list_of, IsListed, HasSeenFree}
use Rattle.pa_region.specs.Hands.{Parcel, empty_of, left_after, given_after, CanHand, IsParted}
use Rattle.pa_region.proofs.Pieces.{frees_have, owns_have, refs_have}
use Rattle.pa_region.proofs.Parting.{items_owns, given_nothing, items_part, items_floors, items_idle}
use Rattle.pa_region.proofs.LeasePart.{leases_sum}
use Rattle.pa_region.proofs.ListPart.{each_set}
use Rattle.pa_region.proofs.Regroup.{parted_regroups, kept_regrouped}

-- the stakes are parted
stakes_part : (p : Parcel) (v : View) (amount : Stake → ℕ) →
    sum_by amount (left_after p v).stakes + sum_by amount (given_after p v).stakes ≡ sum_by amount v.stakes
stakes_part p v amount = let e =
    sum_by-filter_both (λ (s : Stake). p.stakes s.number) (λ s. not (p.stakes s.number)) (λ s. refl) amount v.stakes in omega arith

-- the two views have what the one had
pub hand_parts : (p : Parcel) (v : View) → CanHand p v → IsParted v (left_after p v) (given_after p v)
hand_parts p v can = record {
  things = λ x. let e = items_part p.items v (empty_of v) can.items x in omega arith;
  floors = λ b n. let e = items_floors p.items v (empty_of v) b n in omega arith;
  idle = λ t. let e = items_idle p.items v (empty_of v) can.items t in omega arith;
  budget = let b = can.budget in omega arith;
  logs = λ weight. stakes_part p v (λ s. sum_by weight s.log);
  stakes = λ k. stakes_part p v (λ s. one (eqb s.number k));
  keepers = λ k. let e = sum_by-filter_both (λ (q : Keeper). p.keepers q.number) (λ q. not (p.keepers q.number)) (λ q. refl)
      (λ q. one (eqb q.number k)) v.keepers in omega arith;
  leases = λ n. let e = leases_sum p.leases v.leases can.leases n in omega arith;
  pairs = λ weight. stakes_part p v (λ s. pairs weight s.log);
  pairs_by = λ k weight. stakes_part p v (amount_by k (pairs weight));
  logs_by = λ k weight. stakes_part p v (amount_by k (sum_by weight));
  poisoned = λ t. let e = items_owns (λ u a. one (same_title u t && is_poisoned a)) p.items v (empty_of v) can.items in omega arith;
  unclean = let e = items_owns (λ u a. one (is_unclean a)) p.items v (empty_of v) can.items in omega arith;
  undone = λ t. omega arith;
}

-- only clean Owns are given
pub given_clean : (p : Parcel) (v : View) → unclean_of (given_after p v) ≡ 0
given_clean p v = given_nothing (λ u a. one (is_unclean a)) (λ t. refl) p.items v (empty_of v)

-- if no stake is in the parcel, all stay
stakes_stay : (p : Parcel) (ss : List Stake) → ((k : ℕ) → p.stakes k ≡ false) → filter (λ (s : Stake). not (p.stakes s.number)) ss ≡ ss
stakes_stay p [] none = refl
stakes_stay p (s ∷ ss) none = rw (none s.number) (ap (λ xs. s ∷ xs) (stakes_stay p ss none))

-- a view that has an unclean Own keeps its stakes
stakes_kept : (p : Parcel) (v : View) → CanHand p v → 0 < unclean_of v → (left_after p v).stakes ≡ v.stakes
stakes_kept p v can some_own = stakes_stay p v.stakes none
  where
    none : (k : ℕ) → p.stakes k ≡ false
    none k = elim (cases_Bool (p.stakes k)) [ inl y ↦ let z = can.clean k y in absurd (omega arith) | inr n ↦ n ]

left_stake : (p : Parcel) (v : View) → CanHand p v → (0 < unclean_of v → HasStake v) → 0 < unclean_of (left_after p v) →
    HasStake (left_after p v)
left_stake p v can stake some_own =
    let u = (hand_parts p v can).unclean in
    let has = stake (omega arith) in
    subst (λ (ss : List Stake). least_stake ss < 16) (sym (stakes_kept p v can (omega arith))) has

-- a view that hands something over still finds the steps steady
left_steady : (steps : List OneStep) (p : Parcel) (v : View) → CanHand p v → IsSteady steps v → IsSteady steps (left_after p v)
left_steady steps p v can s = record {
  waits = λ t found is quiet. absurd (true≢false quiet);
  near = λ t did some_own.
      let e = (hand_parts p v can).poisoned t in
      let l = poisoned_unclean v t in
      subst (λ (ss : List Stake). IsAlone (least_stake ss) t steps) (sym (stakes_kept p v can (omega arith))) (s.near t did (omega arith));
}

-- a view that holds less knows less
pub knows_less : (v w : View) (q : ℕ) → ((x : Thing) → held_of_view w x ≤ held_of_view v x) → Knows w q → Knows v q
knows_less v w q less (inl raw) = let e = less (RawByte (8 * q)) in inl (omega arith)
knows_less v w q less (inr (inl free)) =
    let e = less (FreeTitle free.0) in let a = frees_have w free.0 in let b = frees_have v free.0 in let has = free.1 in
    inr (inl (free.0, omega arith, free.2))
knows_less v w q less (inr (inr own)) =
    let e = less (OwnOf own.0) in let a = owns_have w own.0 in let b = owns_have v own.0 in let has = own.1 in
    inr (inr (own.0, omega arith, own.2))

-- a fact of each view, when one is parted
pub each_parted : (P : View → Type 0) (views : List View) (i : ℕ) (v l r : View) → get_elem? views i ≡ some v →
    ((j : ℕ) (u : View) → get_elem? views j ≡ some u → P u) → P l → P r → (j : ℕ) (u : View) →
    get_elem? (set views i l ++ r ∷ []) j ≡ some u → P u
each_parted P views i v l r at_i before left right j u at_j = elim (at_snoc (set views i l) r u j at_j) [
  | inl y ↦ each_set P views i v l at_i (λ m x at_m ne. before m x at_m) left j u y
  | inr e ↦ subst P e right
]

module _ {A : Type 0} where
  -- a fact of each member that passes a test
  pub each_filter : (P : A → Type 0) (test : A → Bool) (xs : List A) → Each P xs → Each P (filter test xs)
  each_filter P test [] e = tt
  each_filter P test (x ∷ xs) e = go (test x) (each_filter P test xs e.1)
    where
      go : (b : Bool) → Each P (filter test xs) → Each P (cond b (x ∷ filter test xs) (filter test xs))
      go true again = (e.0, again)
      go false again = again

-- a view with some of the stakes and keepers stays as it was to the lists
listed_part : (list : ℕ → List Made) (v w : View) (stakes keepers : ℕ → Bool) → IsListed list v → w.seen_lists ≡ v.seen_lists →
    w.seen ≡ v.seen →
    w.stakes ≡ filter (λ (s : Stake). stakes s.number) v.stakes → w.keepers ≡ filter (λ (q : Keeper). keepers q.number) v.keepers →
    ((k : ℕ) → keeper_of w k ≤ keeper_of v k) → ((t : Title) → own_of w t + ref_of w t ≤ own_of v t + ref_of v t) → IsListed list w
listed_part list v w stakes keepers l lists seen s q less fewer = record {
  beginnings = rw lists l.beginnings;
  whole = λ k has. rw lists (l.whole k (let e = less k in omega arith));
  kept = rw q (each_filter (λ (q : Keeper). q.entries ≡ list q.number) (λ (q : Keeper). keepers q.number) v.keepers l.kept);
  made = λ k. rw s (each_filter (λ (s : Stake). made_with s.number (list k) ≡ entered_in k s.log) (λ (s : Stake). stakes s.number) v.stakes
      (l.made k));
  noticed = λ k. rw (lists, s)
      (each_filter (λ (s : Stake). made_with s.number (list_of k v) ≡ entered_in k s.log) (λ (s : Stake). stakes s.number) v.stakes
      (l.noticed k));
  follows = λ k. rw (lists, seen) (l.follows k);
  handles = λ t has. rw seen (l.handles t (let e = fewer t in omega arith));
}

-- the giver's view, and the receiver's
left_keepers : (p : Parcel) (v : View) → CanHand p v → (k : ℕ) → keeper_of (left_after p v) k ≤ keeper_of v k
left_keepers p v can k = let e = (hand_parts p v can).keepers k in omega arith

given_keepers : (p : Parcel) (v : View) → CanHand p v → (k : ℕ) → keeper_of (given_after p v) k ≤ keeper_of v k
given_keepers p v can k = let e = (hand_parts p v can).keepers k in omega arith

-- a view that holds less has fewer handles
fewer_handles : (v w : View) → ((x : Thing) → held_of_view w x ≤ held_of_view v x) → (t : Title) →
    own_of w t + ref_of w t ≤ own_of v t + ref_of v t
fewer_handles v w less t =
    let o = less (OwnOf t) in let r = less (RefOf t) in
    let o1 = owns_have v t in let o2 = owns_have w t in let r1 = refs_have v t in let r2 = refs_have w t in
    omega arith

pub left_listed : (list : ℕ → List Made) (p : Parcel) (v : View) → CanHand p v → IsListed list v → IsListed list (left_after p v)
left_listed list p v can l =
    listed_part list v (left_after p v) (λ k. not (p.stakes k)) (λ k. not (p.keepers k)) l refl refl refl refl (left_keepers p v can)
    (fewer_handles v (left_after p v) (λ x. let e = (hand_parts p v can).things x in omega arith))

pub given_listed : (list : ℕ → List Made) (p : Parcel) (v : View) → CanHand p v → IsListed list v → IsListed list (given_after p v)
given_listed list p v can l = listed_part list v (given_after p v) p.stakes p.keepers l refl refl refl refl (given_keepers p v can)
    (fewer_handles v (given_after p v) (λ x. let e = (hand_parts p v can).things x in omega arith))

-- a hand keeps the rule
pub hand_keeps : (p : Parcel) (words : List ℕ) (views : List View) (i : ℕ) (v : View) → IsKept words views → get_elem? views i ≡ some v →
    CanHand p v →
    IsKept words (set views i (left_after p v) ++ given_after p v ∷ [])
hand_keeps p words views i v k at_i can =
    let parts = hand_parts p v can in
    let l = left_after p v in
    let r = given_after p v in
    let left : (x : Thing) → held_of_view l x ≤ held_of_view v x = λ x. let e = parts.things x in omega arith in
    let right : (x : Thing) → held_of_view r x ≤ held_of_view v x = λ x. let e = parts.things x in omega arith in
    kept_regrouped words views (set views i l ++ r ∷ []) k (parted_regroups views i v l r at_i parts refl refl)
    (record {
      long = each_parted (λ u. length u.words ≡ length (byte_words words)) views i v l r at_i k.values.long (k.values.long i v at_i)
          (k.values.long i v at_i);
      known = λ j q u at_j. each_parted (λ u. Knows u q → slice_index u.words q ≡ slice_index (byte_words words) q) views i v l r at_i
          (λ m x at_m. k.values.known m q x at_m)
          (λ knows. k.values.known i q v at_i (knows_less v l q left knows))
          (λ knows. k.values.known i q v at_i (knows_less v r q right knows)) j u at_j;
    })
    (each_parted (IsListed k.list) views i v l r at_i k.lists.each_view (left_listed k.list p v can (k.lists.each_view i v at_i))
    (given_listed k.list p v can (k.lists.each_view i v at_i)))
    (each_parted HasSeenFree views i v l r at_i k.lists.free_seen
    (λ t free. let e = left (FreeTitle t) in let a = frees_have l t in let b = frees_have v t in k.lists.free_seen i v at_i t (omega arith))
    (λ t free. let e = right (FreeTitle t) in let a = frees_have r t in let b = frees_have v t in
    k.lists.free_seen i v at_i t (omega arith)))
    (each_parted (IsReader k.history (byte_words words)) views i v l r at_i k.reads.each_view
    (reader_handed k.history (byte_words words) l refl (left_stake p v can (k.reads.each_view i v at_i).stake))
    (reader_handed k.history (byte_words words) r refl (λ some_own. let z = given_clean p v in absurd (omega arith))))
    (each_parted (IsLoggedIn k.all) views i v l r at_i k.ordered.logs
    (each_filter (λ (s : Stake). s.log ≡ by_stake s.number k.all) (λ (s : Stake). not (p.stakes s.number)) v.stakes
    (k.ordered.logs i v at_i))
    (each_filter (λ (s : Stake). s.log ≡ by_stake s.number k.all) (λ (s : Stake). p.stakes s.number) v.stakes (k.ordered.logs i v at_i)))
    (each_parted (IsSteady k.steps) views i v l r at_i k.filled.each_view (left_steady k.steps p v can (k.filled.each_view i v at_i))
    (steady_handed k.steps r refl (λ t. let z = given_clean p v in let s = poisoned_unclean r t in omega arith)))
