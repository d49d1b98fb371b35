-- An entry that is made with a lent stake.
use Rattle.std.proofs.Common.{◌≡◌, ℕ, ◌<◌, List, [], ◌∷◌, ◌++◌, length, refl, sym, ◌∙◌, ap, subst, arith, inl, inr, length-append}
use Rattle.std.proofs.lemmas.Bool.Decides.{eqb_tells}
use Rattle.pa_region.specs.declared.view.Entry.TheVariants.{Entered}
use Rattle.pa_region.specs.declared.view.Made.{Made}
use Rattle.pa_region.specs.declared.view.View.{View}
use Rattle.pa_region.specs.Views.{stake_of, least_stake}
use Rattle.pa_region.specs.Waiting.{unclean_of}
use Rattle.pa_region.specs.Lists.{keeper_of, list_of}
use Rattle.pa_region.specs.Hands.{CanHand, left_after, given_after, united}
use Rattle.pa_region.specs.Entries.{new_entry, CanEnter, after_enter}
use Rattle.pa_region.specs.Aware.{IsAware}
use Rattle.pa_region.specs.Takes.{log_of}
use Rattle.pa_region.specs.Lending.{stake_parcel, CanLend, CanHost, IsNoted}
use Rattle.pa_region.proofs.Entering.{least_there}
use Rattle.pa_region.proofs.SeatStakes.{least_below}
use Rattle.pa_region.proofs.Merging.{merged_long}
use Rattle.pa_region.proofs.JoinLists.{among_append}
use Rattle.pa_region.proofs.JoinStep.{united_parts}
use Rattle.pa_region.proofs.SeenJoin.{seen_right}
use Rattle.pa_region.proofs.TakeLaws.{left_whole}
use Rattle.pa_region.proofs.Leaving.{enter_leaves}
use Rattle.pa_region.proofs.LendBack.{marked_here, given_stake, given_beside, log_filter, log_right, lends_back, host_keeps, entering_keeps}

-- a view that has only clean Owns may hand its stake over
pub can_hand : (r : ℕ) (v : View) → unclean_of v ≡ 0 → CanHand (stake_parcel r) v
can_hand r v clean = record { items = tt; budget = omega arith; leases = tt; clean = λ k marked. clean }

-- lender a, host h, and the host with a's least stake
abbrev pub both_of : View → View → View
both_of a h = united h (given_after (stake_parcel (least_stake a.stakes)) a)

-- how many times it has a stake
pub both_stake : (a h : View) → CanHost h → stake_of (both_of a h) (least_stake a.stakes) ≡ stake_of a (least_stake a.stakes)
both_stake a h host =
    let e = (united_parts h (given_after (stake_parcel (least_stake a.stakes)) a)).stakes (least_stake a.stakes) in
    let n = host.0 (least_stake a.stakes) in
    let g = given_stake (least_stake a.stakes) a in
    omega arith

-- the least stake of the host with a lent stake is that stake
pub host_least : (a h : View) → CanLend a → CanHost h → least_stake (both_of a h).stakes ≡ least_stake a.stakes
host_least a h lends host =
    let r = least_stake a.stakes in
    let u = both_of a h in
    let has = least_there a.stakes lends.0 in
    let same = both_stake a h host in
    let low = least_below u.stakes r (omega arith) in
    let small = lends.0 in
    let there = least_there u.stakes (omega arith) in
    elim (eqb_tells (least_stake u.stakes) r) [
      | inl y ↦ y.1
      | inr n ↦
          let e = (united_parts h (given_after (stake_parcel r) a)).stakes (least_stake u.stakes) in
          let z = host.0 (least_stake u.stakes) in
          let b = given_beside r (least_stake u.stakes) a n.1 in
          absurd (omega arith)
    ]

-- the host with a lent stake may make an entry if it has the keeper
pub enter_can : (a h : View) (k : ℕ) → CanLend a → CanHost h → 0 < keeper_of h k → CanEnter k (both_of a h)
enter_can a h k lends host has =
    let e = (united_parts h (given_after (stake_parcel (least_stake a.stakes)) a)).keepers k in
    let l = host_least a h lends host in
    let small = lends.0 in
    (omega arith, omega arith)

-- the Owns of the host with a lent stake are clean
pub both_clean : (a h : View) → CanHost h → unclean_of (both_of a h) ≡ 0
both_clean a h host = let e = (united_parts h (given_after (stake_parcel (least_stake a.stakes)) a)).unclean in let z = host.1 in
    omega arith

-- the Owns of the host are clean after its entry, so it can hand the stake back
entered_clean : (a h : View) (k : ℕ) (numbers : List ℕ) → CanHost h → unclean_of (after_enter k numbers (both_of a h)) ≡ 0
entered_clean a h k numbers host = both_clean a h host

entered_least : (a h : View) (k : ℕ) (numbers : List ℕ) → CanLend a → CanHost h → 0 < keeper_of h k →
    least_stake (after_enter k numbers (both_of a h)).stakes ≡ least_stake a.stakes
entered_least a h k numbers lends host has = (enter_leaves k numbers (both_of a h) (enter_can a h k lends host has)).entry.least ∙
    host_least a h lends host

pub lend_again : (a h : View) (k : ℕ) (numbers : List ℕ) → CanLend a → CanHost h → 0 < keeper_of h k →
    CanLend (after_enter k numbers (both_of a h))
lend_again a h k numbers lends host has =
    let l = entered_least a h k numbers lends host has in
    let small = lends.0 in
    (omega arith, entered_clean a h k numbers host)

-- what the entry is
noted_of : (a h : View) (k : ℕ) (numbers : List ℕ) → CanLend a → CanHost h → 0 < keeper_of h k → IsAware a → IsAware h →
    length h.words ≡ length a.words →
    IsAware (both_of a h) →
    IsAware (united (left_after (stake_parcel (least_stake a.stakes)) a)
    (given_after (stake_parcel (least_stake a.stakes)) (after_enter k numbers (both_of a h)))) →
    IsNoted (least_stake a.stakes) k numbers a
    (united (left_after (stake_parcel (least_stake a.stakes)) a)
    (given_after (stake_parcel (least_stake a.stakes)) (after_enter k numbers (both_of a h))))
    h (left_after (stake_parcel (least_stake a.stakes)) (after_enter k numbers (both_of a h))) (new_entry numbers (both_of a h))
noted_of a h k numbers lends host has aware_a aware_h long aware_u aware_f =
    let r = least_stake a.stakes in
    let g = given_after (stake_parcel r) a in
    let u = both_of a h in
    let e = after_enter k numbers u in
    let m = new_entry numbers u in
    let f = united (left_after (stake_parcel r) a) (given_after (stake_parcel r) e) in
    let can = enter_can a h k lends host has in
    let en = enter_leaves k numbers u can in
    let least = host_least a h lends host in
    let can_a = can_hand r a lends.1 in
    let can_e = can_hand r e (entered_clean a h k numbers host) in
    let words : length u.words ≡ length h.words = merged_long h 0 h.words a.words long in
    let logged : log_of r e ≡ log_of r u ++ Entered k m ∷ [] =
    subst (λ (n : ℕ). log_of n e ≡ log_of n u ++ Entered k m ∷ []) least en.entry.log in
    let was : log_of r u ≡ log_of r a = log_right r h.stakes g.stakes (host.0 r) ∙
    log_filter (stake_parcel r).stakes r a.stakes (marked_here r) in
    let longest = among_append k a.seen_lists e.seen_lists in
    record {
      stake = least;
      says = refl;
      list = en.list ∙ ap (λ (xs : List Made). xs ++ m ∷ []) (left_whole h g k aware_h aware_u has);
      whole = elim longest.either [
        | inl y ↦
            let whole : length (list_of k f) ≡ length (list_of k a) = ap (λ (xs : List Made). length xs) y in
            let more = ap (λ (xs : List Made). length xs) en.list in
            let one_more = length-append (list_of k u) (m ∷ []) in
            let copied = (among_append k h.seen_lists a.seen_lists).second in
            let second = longest.second in
            absurd (omega arith)
        | inr y ↦ y
      ];
      lends = lends_back a e r (Entered k m ∷ []) aware_a can_a can_e (sym (words ∙ long)) aware_f (en.entry.stakes r ∙ both_stake a h host)
          (logged ∙ ap (λ log. log ++ Entered k m ∷ []) was);
      hosts = host_keeps h a e r can_a can_e long aware_u (host.0 r) (entering_keeps k numbers u can);
      before = λ t. seen_right t h.seen a.seen;
      known = λ t. seen_right t a.seen u.seen;
    }

-- what an entry with a lent stake leaves, of the views of the seats as they come
pub noted_by : (a h l g u e l2 g2 f : View) (k : ℕ) (numbers : List ℕ) → l ≡ left_after (stake_parcel (least_stake a.stakes)) a →
    g ≡ given_after (stake_parcel (least_stake a.stakes)) a → u ≡ united h g → e ≡ after_enter k numbers u →
    l2 ≡ left_after (stake_parcel (least_stake e.stakes)) e → g2 ≡ given_after (stake_parcel (least_stake e.stakes)) e → f ≡ united l g2 →
    CanLend a → CanHost h → 0 < keeper_of h k → IsAware a → IsAware h → length h.words ≡ length a.words → IsAware u → IsAware f →
    (m : Made) × IsNoted (least_stake a.stakes) k numbers a f h l2 m
noted_by a h l g u e l2 g2 f k numbers l_is g_is u_is e_is l2_is g2_is f_is lends host has aware_a aware_h long aware_u aware_f =
    let r = least_stake a.stakes in
    let u_by : u ≡ both_of a h = u_is ∙ ap (λ (x : View). united h x) g_is in
    let e_by : e ≡ after_enter k numbers (both_of a h) = e_is ∙ ap (λ (x : View). after_enter k numbers x) u_by in
    let least : least_stake e.stakes ≡ r = ap (λ (x : View). least_stake x.stakes) e_by ∙ entered_least a h k numbers lends host has in
    let l2_by : l2 ≡ left_after (stake_parcel r) (after_enter k numbers (both_of a h)) =
    l2_is ∙ (ap (λ (n : ℕ). left_after (stake_parcel n) e) least ∙ ap (λ (x : View). left_after (stake_parcel r) x) e_by) in
    let g2_by : g2 ≡ given_after (stake_parcel r) (after_enter k numbers (both_of a h)) =
    g2_is ∙ (ap (λ (n : ℕ). given_after (stake_parcel n) e) least ∙ ap (λ (x : View). given_after (stake_parcel r) x) e_by) in
    let f_by : f ≡ united (left_after (stake_parcel r) a) (given_after (stake_parcel r) (after_enter k numbers (both_of a h))) =
    f_is ∙ (ap (λ (x : View). united x g2) l_is ∙ ap (λ (x : View). united (left_after (stake_parcel r) a) x) g2_by) in (
      new_entry numbers (both_of a h),
      subst (λ (x : View). IsNoted r k numbers a x h l2 (new_entry numbers (both_of a h))) (sym f_by)
          (subst (λ (x : View). IsNoted r k numbers a (united (left_after (stake_parcel r) a)
          (given_after (stake_parcel r) (after_enter k numbers (both_of a h)))) h x (new_entry numbers (both_of a h))) (sym l2_by)
          (noted_of a h k numbers lends host has aware_a aware_h long (subst IsAware u_by aware_u) (subst IsAware f_by aware_f))),
    )
