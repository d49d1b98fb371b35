-- A seat shows another what it has seen, by a note that has nothing.
use Rattle.std.proofs.Common.{◌≡◌, ℕ, ◌<◌, ◌≤◌, ◌&&◌, ◌||◌, List, [], ◌∷◌, ◌++◌, Bool, true, false, length, filter, refl, sym, ◌∙◌, ap, subst, arith, eqb, inl, inr}
use Rattle.std.specs.Prelude.{if◌then◌else◌}
use Rattle.std.specs.List.{sum_by}
use Rattle.std.proofs.lemmas.List.{append-nil, length-append}
use Rattle.std.proofs.lemmas.List.Sums.{sum_by-append}
use Rattle.pa_slot.specs.Titles.{same_title}
use Rattle.pa_slot.specs.Holdings.{one}
use Rattle.pa_region.specs.declared.view.OwnTitle.{OwnTitle}
use Rattle.pa_region.specs.declared.view.Entry.{Entry}
use Rattle.pa_region.specs.declared.view.Stake.{Stake}
use Rattle.pa_region.specs.declared.view.Keeper.{Keeper}
use Rattle.pa_region.specs.declared.view.Made.{Made}
use Rattle.pa_region.specs.declared.view.View.{View}
use Rattle.pa_region.specs.Views.{seen_of}
use Rattle.pa_region.specs.Pairs.{log_among}
use Rattle.pa_region.specs.Lists.{list_of, keeper_of, IsBeginning}
use Rattle.pa_region.specs.Hands.{left_after, given_after, united}
use Rattle.pa_region.specs.Takes.{log_of, IsLongest}
use Rattle.pa_region.specs.Lending.{Lends}
use Rattle.pa_region.specs.Aware.{IsAware}
use Rattle.pa_region.proofs.JoinLists.{among_append, beginning_whole}
use Rattle.pa_region.proofs.JoinStep.{united_parts}
use Rattle.pa_region.proofs.SeenJoin.{seen_left, seen_right}
use Rattle.pa_region.proofs.TakeLaws.{left_begins, right_begins, left_whole, left_known}
use Rattle.pa_root.specs.Filling.{frees_parcel}
use Rattle.pa_root.specs.Uncutting.{IsShown}
use Rattle.pa_root.proofs.Parcels.{none_keepers}

-- all stakes, and no stake
pub all_stakes : (ss : List Stake) → filter (λ (s : Stake). true) ss ≡ ss
all_stakes [] = refl
all_stakes (s ∷ ss) = ap (λ xs. s ∷ xs) (all_stakes ss)

all_keepers : (qs : List Keeper) → filter (λ (q : Keeper). true) qs ≡ qs
all_keepers [] = refl
all_keepers (q ∷ qs) = ap (λ xs. q ∷ xs) (all_keepers qs)

-- of no stakes is what a test keeps that none passes
pub no_stakes : (ss : List Stake) → filter (λ (s : Stake). false) ss ≡ []
no_stakes [] = refl
no_stakes (s ∷ ss) = no_stakes ss

more_none : (k r : ℕ) (log now : List Entry) → now ≡ log → now ≡ log ++ (if eqb k r then [] else [])
more_none k r log now e = by_test (eqb k r)
  where
    by_test : (b : Bool) → now ≡ log ++ (if b then [] else [])
    by_test true = e ∙ sym (append-nil log)
    by_test false = e ∙ sym (append-nil log)

-- a view that gives a note that has nothing keeps what it has
pub gives_nothing : (v : View) (r : ℕ) → Lends r [] v (left_after (frees_parcel []) v)
gives_nothing v r =
    let stakes : (left_after (frees_parcel []) v).stakes ≡ v.stakes = all_stakes v.stakes in
    let keepers : (left_after (frees_parcel []) v).keepers ≡ v.keepers = all_keepers v.keepers in
    record {
      keeps = record {
        things = λ x. refl;
        floors = λ b n. refl;
        idle = λ t. refl;
        poisoned = λ t. refl;
        unclean = refl;
        budget = omega arith;
        stakes = λ k. ap (λ ss. sum_by (λ (s : Stake). one (eqb s.number k)) ss) stakes;
        keepers = λ k. ap (λ qs. sum_by (λ (q : Keeper). one (eqb q.number k)) qs) keepers;
        leases = λ n. refl;
        words = λ q knows. refl;
        seen = λ t. omega arith;
        lists = λ k. ([], sym (append-nil (list_of k v)));
        undone = λ t. omega arith;
      };
      own_lists = λ k has. refl;
      logs = λ k. more_none k r (log_of k v) (log_of k (left_after (frees_parcel []) v)) (ap (λ ss. log_among k ss) stakes);
    }

-- a seat that takes a note of nothing keeps what it has
pub takes_nothing : (v w : View) (r : ℕ) → IsAware w → IsAware (united w (given_after (frees_parcel []) v)) →
    length w.words ≡ length v.words →
    Lends r [] w (united w (given_after (frees_parcel []) v))
takes_nothing v w r aware both long =
    let g = given_after (frees_parcel []) v in
    let u = united w g in
    let parts = united_parts w g in
    let stakes : u.stakes ≡ w.stakes = ap (λ ss. w.stakes ++ ss) (no_stakes v.stakes) ∙ append-nil w.stakes in
    record {
      keeps = record {
        things = λ x. let e = parts.things x in omega arith;
        floors = λ b n. let e = parts.floors b n in omega arith;
        idle = λ t.
            let e = sum_by-append (λ (o : OwnTitle). one (same_title o.title t && (o.idle || o.sealed))) w.owns g.owns in omega arith;
        poisoned = λ t. let e = parts.poisoned t in omega arith;
        unclean = let e = parts.unclean in omega arith;
        budget = let e = parts.budget in omega arith;
        stakes = λ k. ap (λ ss. sum_by (λ (s : Stake). one (eqb s.number k)) ss) stakes;
        keepers = λ k.
            let e = parts.keepers k in
            let z : keeper_of g k ≡ 0 = none_keepers v.keepers k in
            omega arith;
        leases = λ n. let e = parts.leases n in omega arith;
        words = λ q knows. left_known w g q long knows;
        seen = λ t. seen_left t w.seen g.seen;
        lists = λ k. left_begins w g k both;
        undone = λ t. let e = parts.undone t in omega arith;
      };
      own_lists = λ k has. left_whole w g k aware both has;
      logs = λ k. more_none k r (log_of k w) (log_of k u) (ap (λ ss. log_among k ss) stakes);
    }

pub shown_by : (v v_now g w w_now : View) → v_now ≡ left_after (frees_parcel []) v → g ≡ given_after (frees_parcel []) v →
    w_now ≡ united w g →
    IsAware w → IsAware w_now → length w.words ≡ length v.words → IsShown v v_now w w_now
shown_by v v_now g w w_now left given both aware now long =
    let g0 = given_after (frees_parcel []) v in
    let is : w_now ≡ united w g0 = both ∙ ap (united w) given in
    let there : IsAware (united w g0) = subst IsAware is now in
    record {
      giver = λ r. subst (λ x. Lends r [] v x) (sym left) (gives_nothing v r);
      taker = λ r. subst (λ x. Lends r [] w x) (sym is) (takes_nothing v w r aware there long);
      same = λ k. subst (λ x. list_of k x ≡ list_of k v) (sym left) refl;
      lists = λ k. subst (λ x. IsBeginning (list_of k v) (list_of k x)) (sym is) (right_begins w g0 k there);
      longest = λ k. subst (λ x. IsLongest (list_of k x) (list_of k w) (list_of k v)) (sym is) (among_append k w.seen_lists v.seen_lists);
      seen = λ t. subst (λ x. seen_of v t ≤ seen_of x t) (sym is) (seen_right t w.seen v.seen);
    }

-- Two seats that show each other what they have seen have seen the same of a list if one of them has its keeper.
module _ (p : ℕ) (v w v_mid w_mid v_now w_now : View) (there : IsShown w w_mid v v_mid) (back : IsShown v_mid v_now w_mid w_now)
    (has : 0 < keeper_of v p) where
  pub own_stays : list_of p v_now ≡ list_of p v
  own_stays = back.same p ∙ (there.taker 0).own_lists p has

  pub both_whole : list_of p w_now ≡ list_of p v
  both_whole =
      let mid : list_of p v_mid ≡ list_of p v = (there.taker 0).own_lists p has in
      elim (back.longest p).either [
        | inl mine ↦
            let whole : IsBeginning (list_of p w_mid) (list_of p v_mid) =
            subst (λ l. IsBeginning l (list_of p v_mid)) (sym (there.same p)) (there.lists p) in
            mine ∙ (beginning_whole (list_of p w_mid) (list_of p v_mid) whole
            (begun_less (list_of p v_mid) (list_of p w_now) (list_of p w_mid) (back.lists p) mine) ∙ mid)
        | inr its ↦ its ∙ mid
      ]
    where
      begun_less : (a b c : List Made) → IsBeginning a b → b ≡ c → length a ≤ length c
      begun_less a b c (rest, e) f = let k = length-append a rest in let m = ap length (sym e) in let n = ap length f in omega arith
