-- A title is uncut with a lent stake.
use Rattle.std.proofs.Common.{◌≡◌, ℕ, ◌+◌, ◌<◌, List, [], ◌∷◌, ◌++◌, length, refl, sym, ◌∙◌, ap, subst, arith, inl, inr}
use Rattle.std.specs.List.{sum_by}
use Rattle.std.proofs.lemmas.List.Sums.{sum_by-cons}
use Rattle.std.proofs.lemmas.Bool.Decides.{eqb_tells}
use Rattle.pa_slot.specs.declared.title.Title.{Title}
use Rattle.pa_slot.specs.Titles.{same_title}
use Rattle.pa_slot.specs.Holdings.{one}
use Rattle.pa_slot.proofs.Same.{title_tells}
use Rattle.pa_region.specs.declared.view.Entry.TheVariants.{Uncut}
use Rattle.pa_region.specs.declared.view.View.{View}
use Rattle.pa_region.specs.Views.{free_of, stake_of, least_stake}
use Rattle.pa_region.specs.Moves.{without, is_title_of}
use Rattle.pa_region.specs.Lists.{keeper_of}
use Rattle.pa_region.specs.Hands.{left_after, given_after, united}
use Rattle.pa_region.specs.Cuts.{CanUncut, after_uncut}
use Rattle.pa_region.specs.Takes.{log_of}
use Rattle.pa_region.specs.Lending.{stake_parcel, CanLend, CanHost}
use Rattle.pa_region.specs.Aware.{IsAware}
use Rattle.pa_region.proofs.CutLaws.{uncut_gives_back}
use Rattle.pa_region.proofs.HandStep.{hand_parts}
use Rattle.pa_region.proofs.JoinStep.{united_parts}
use Rattle.pa_region.proofs.Merging.{merged_long}
use Rattle.pa_region.proofs.Leaving.{entry_leaves}
use Rattle.pa_region.proofs.LendBack.{marked_here, given_stake, given_beside, log_filter, log_right, lends_back}
use Rattle.pa_region.proofs.Noting.{both_of, both_stake, host_least, both_clean, can_hand}
use Rattle.pa_region.proofs.TakeLaws.{left_begins, left_whole, left_number, left_known}
use Rattle.pa_root.specs.Uncutting.{IsUncut, IsUncutWith}
use Rattle.pa_root.proofs.Together.{free_both, handles_both}
use Rattle.pa_root.proofs.Parcels.{none_keepers}

-- a list without one of a title that is there
without_one : (t o : Title) (ts : List Title) → 0 < sum_by (λ x. one (same_title x t)) ts →
    sum_by (λ x. one (same_title x o)) (without (is_title_of t) ts) + one (same_title t o) ≡ sum_by (λ x. one (same_title x o)) ts
without_one t o [] some = absurd (omega arith)
without_one t o (x ∷ xs) some =
    let c = sum_by-cons (λ (y : Title). one (same_title y o)) x xs in
    let d = sum_by-cons (λ (y : Title). one (same_title y t)) x xs in
    elim (title_tells x t) [
      | inl y ↦ let k : one (same_title x o) ≡ one (same_title t o) = ap (λ z. one (same_title z o)) y.1 in rw y.0 (omega arith)
      | inr n ↦
          let none : one (same_title x t) ≡ 0 = ap one n.0 in
          let ih = without_one t o xs (omega arith) in
          let e = sum_by-cons (λ (y : Title). one (same_title y o)) x (without (is_title_of t) xs) in
          rw n.0 (omega arith)
    ]

module _ (a h : View) (t : Title) (lends : CanLend a) (host : CanHost h) (free : 0 < free_of h t) (aware_a : IsAware a)
    (aware_h : IsAware h)
    (long : length h.words ≡ length a.words) (aware_u : IsAware (both_of a h)) where
  abbrev r : ℕ
  r = least_stake a.stakes

  abbrev g : View
  g = given_after (stake_parcel r) a

  abbrev u : View
  u = both_of a h

  abbrev e : View
  e = after_uncut t u

  free_u : (o : Title) → free_of u o ≡ free_of h o
  free_u o = let b = free_both h g o in omega arith

  pub uncut_can : CanUncut t u
  uncut_can = let l = host_least a h lends host in let small = lends.0 in let f = free_u t in (omega arith, omega arith)

  pub uncut_least : least_stake e.stakes ≡ r
  uncut_least = (entry_leaves (Uncut t) u e uncut_can.1 refl).least ∙ host_least a h lends host

  pub uncut_lends : CanLend e
  uncut_lends = let l = uncut_least in let small = lends.0 in (omega arith, both_clean a h host)

  uncut_now : IsUncut t h (left_after (stake_parcel r) e)
  uncut_now =
      let c = left_after (stake_parcel r) e in
      let can = can_hand r e (both_clean a h host) in
      let parts = united_parts h g in
      let cut = hand_parts (stake_parcel r) e can in
      let en = entry_leaves (Uncut t) u e uncut_can.1 refl in
      let back = uncut_gives_back t u in
      record {
        frees = λ o. let w = without_one t o u.frees uncut_can.0 in w ∙ free_u o;
        handles = λ o. let k = handles_both h g o in omega arith;
        raw_here = back.0;
        raw_beside = λ b n away. let k = back.1 b n away in let f = parts.floors b n in omega arith;
        budget = let f = parts.budget in omega arith;
        stakes = λ n. elim (eqb_tells n r) [
          | inl y ↦ subst (λ (m : ℕ). stake_of c m ≡ stake_of h m) (sym y.1)
              (let p = parts.stakes r in let f = en.stakes r in let k = cut.stakes r in let x = given_stake r e in omega arith)
          | inr m ↦
              let p = parts.stakes n in let f = en.stakes n in let k = cut.stakes n in
              let x = given_beside r n e m.1 in let y = given_beside r n a m.1 in omega arith
        ];
        unclean = let f = parts.unclean in let z = host.1 in let b = both_clean a h host in omega arith;
        keepers = λ n.
            let p = parts.keepers n in let k = cut.keepers n in let x = none_keepers a.keepers n in let y = none_keepers e.keepers n in
            let x' : keeper_of g n ≡ 0 = x in let y' : keeper_of (given_after (stake_parcel r) e) n ≡ 0 = y in
            omega arith;
        leases = λ n. let p = parts.leases n in let k = cut.leases n in omega arith;
        numbers = λ n o well some.
            let w = without_one t o u.frees uncut_can.0 in
            let f = free_u o in
            left_number h g n o aware_h aware_u long well (omega arith);
        own_lists = λ k has. left_whole h g k aware_h aware_u has;
        lists = λ k. left_begins h g k aware_u;
        undone = λ o.
            let p = parts.undone o in
            let one_more = sum_by-cons (λ (x : Title). one (same_title x o)) t u.uncut in
            omega arith;
        words = λ q knows. left_known h g q long knows;
      }

  -- the title was uncut in the host's view with the lender's stake, and that stake's log says so
  uncut_with_now : IsAware (united (left_after (stake_parcel r) a) (given_after (stake_parcel r) e)) →
      IsUncutWith r t a (united (left_after (stake_parcel r) a) (given_after (stake_parcel r) e)) h (left_after (stake_parcel r) e)
  uncut_with_now aware_f =
      let can_a = can_hand r a lends.1 in
      let can_e = can_hand r e (both_clean a h host) in
      let words : length u.words ≡ length h.words = merged_long h 0 h.words a.words long in
      let en = entry_leaves (Uncut t) u e uncut_can.1 refl in
      let logged : log_of r e ≡ log_of r u ++ Uncut t ∷ [] =
      subst (λ (n : ℕ). log_of n e ≡ log_of n u ++ Uncut t ∷ []) (host_least a h lends host) en.log in
      let was : log_of r u ≡ log_of r a = log_right r h.stakes g.stakes (host.0 r) ∙
      log_filter (stake_parcel r).stakes r a.stakes (marked_here r) in
      record {
        lends = lends_back a e r (Uncut t ∷ []) aware_a can_a can_e (sym (words ∙ long)) aware_f (en.stakes r ∙ both_stake a h host)
            (logged ∙ ap (λ log. log ++ Uncut t ∷ []) was);
        uncut = uncut_now;
      }

-- a title is uncut with the lender's stake, of the views of the seats as they come
pub uncut_by : (a h l g u e l2 g2 f : View) (t : Title) → l ≡ left_after (stake_parcel (least_stake a.stakes)) a →
    g ≡ given_after (stake_parcel (least_stake a.stakes)) a → u ≡ united h g → e ≡ after_uncut t u →
    l2 ≡ left_after (stake_parcel (least_stake e.stakes)) e → g2 ≡ given_after (stake_parcel (least_stake e.stakes)) e → f ≡ united l g2 →
    CanLend a → CanHost h → 0 < free_of h t → IsAware a → IsAware h → length h.words ≡ length a.words → IsAware u → IsAware f →
    IsUncutWith (least_stake a.stakes) t a f h l2
uncut_by a h l g u e l2 g2 f t l_is g_is u_is e_is l2_is g2_is f_is lends host free aware_a aware_h long aware_u aware_f =
    let r = least_stake a.stakes in
    let u_by : u ≡ both_of a h = u_is ∙ ap (λ (x : View). united h x) g_is in
    let both : IsAware (both_of a h) = subst IsAware u_by aware_u in
    let e_by : e ≡ after_uncut t (both_of a h) = e_is ∙ ap (λ (x : View). after_uncut t x) u_by in
    let least : least_stake e.stakes ≡ r = ap (λ (x : View). least_stake x.stakes) e_by ∙
    uncut_least a h t lends host free aware_a aware_h long both in
    let l2_by : l2 ≡ left_after (stake_parcel r) (after_uncut t (both_of a h)) =
    l2_is ∙ (ap (λ (n : ℕ). left_after (stake_parcel n) e) least ∙ ap (λ (x : View). left_after (stake_parcel r) x) e_by) in
    let g2_by : g2 ≡ given_after (stake_parcel r) (after_uncut t (both_of a h)) =
    g2_is ∙ (ap (λ (n : ℕ). given_after (stake_parcel n) e) least ∙ ap (λ (x : View). given_after (stake_parcel r) x) e_by) in
    let f_by : f ≡ united (left_after (stake_parcel r) a) (given_after (stake_parcel r) (after_uncut t (both_of a h))) =
    f_is ∙ (ap (λ (x : View). united x g2) l_is ∙ ap (λ (x : View). united (left_after (stake_parcel r) a) x) g2_by) in
    subst (λ (x : View). IsUncutWith r t a x h l2) (sym f_by)
    (subst (λ (x : View). IsUncutWith r t a
    (united (left_after (stake_parcel r) a) (given_after (stake_parcel r) (after_uncut t (both_of a h)))) h x) (sym l2_by)
    (uncut_with_now a h t lends host free aware_a aware_h long both (subst IsAware f_by aware_f)))
