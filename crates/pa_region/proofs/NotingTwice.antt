-- Two entries that are made with one lent stake.
use Rattle.std.proofs.Common.{◌≡◌, ℕ, ◌<◌, List, [], ◌∷◌, ◌++◌, length, refl, sym, ◌∙◌, ap, subst, arith, inl, inr, append_assoc}
use Rattle.std.specs.Prelude.{◌==◌, if◌then◌else◌}
use Rattle.std.proofs.lemmas.Bool.Decides.{eqb_tells}
use Rattle.pa_region.specs.declared.view.Entry.{Entry}
use Rattle.pa_region.specs.declared.view.Entry.TheVariants.{Entered}
use Rattle.pa_region.specs.declared.view.Made.{Made}
use Rattle.pa_region.specs.declared.view.View.{View}
use Rattle.pa_region.specs.Views.{least_stake}
use Rattle.pa_region.specs.Lists.{keeper_of, list_of, IsBeginning}
use Rattle.pa_region.specs.Hands.{left_after, given_after, united}
use Rattle.pa_region.specs.Entries.{new_entry, CanEnter, after_enter}
use Rattle.pa_region.specs.Aware.{IsAware}
use Rattle.pa_region.specs.Takes.{log_of}
use Rattle.pa_region.specs.Lending.{stake_parcel, CanLend, CanHost, Keeps, IsNoted, AreNoted}
use Rattle.pa_region.proofs.JoinStep.{united_parts}
use Rattle.pa_region.proofs.SeenJoin.{seen_right}
use Rattle.pa_region.proofs.TakeLaws.{left_whole}
use Rattle.pa_region.proofs.Leaving.{enter_leaves}
use Rattle.pa_region.proofs.LendBack.{marked_here, log_filter, log_right, lends_back, host_keeps, keeps_on, entering_keeps, lends_again}
use Rattle.pa_region.proofs.Noting.{both_of, can_hand, both_stake, host_least, both_clean}

-- the host with the lent stake may lend it on
pub lend_on : (a h : View) → CanLend a → CanHost h → CanLend (both_of a h)
lend_on a h lends host = let l = host_least a h lends host in let small = lends.0 in (omega arith, both_clean a h host)

-- after the stake came back from another host, the host can make an entry of its own
pub enter_later : (a h w : View) (k : ℕ) → CanLend a → CanHost h → 0 < keeper_of h k → Keeps (both_of a h) w → CanEnter k w
enter_later a h w k lends host has keeps =
    let e = (united_parts h (given_after (stake_parcel (least_stake a.stakes)) a)).keepers k in
    let c = keeps.keepers k in
    (omega arith, (lends_again (both_of a h) w keeps (lend_on a h lends host)).0.0)

-- after its own entry the host can hand the stake back
pub lend_later : (a h w : View) (k : ℕ) (numbers : List ℕ) → CanLend a → CanHost h → 0 < keeper_of h k → Keeps (both_of a h) w →
    CanLend (after_enter k numbers w)
lend_later a h w k numbers lends host has keeps =
    (lends_again w (after_enter k numbers w) (entering_keeps k numbers w (enter_later a h w k lends host has keeps))
    (lends_again (both_of a h) w keeps (lend_on a h lends host)).0).0

-- the least stake of the host after its own entry is still the lender's
later_least : (a h w : View) (k : ℕ) (numbers : List ℕ) → CanLend a → CanHost h → 0 < keeper_of h k → Keeps (both_of a h) w →
    least_stake (after_enter k numbers w).stakes ≡ least_stake a.stakes
later_least a h w k numbers lends host has keeps =
    (enter_leaves k numbers w (enter_later a h w k lends host has keeps)).entry.least
    ∙ ((lends_again (both_of a h) w keeps (lend_on a h lends host)).1 ∙ host_least a h lends host)

-- lender a, middle h, which becomes w while it lends the stake on to the host b, which becomes b2
noted_twice_of : (a h w b b2 : View) (inner outer : ℕ) (first second : List ℕ) (m : Made) → CanLend a → CanHost h → 0 < keeper_of h outer →
    IsAware a → IsAware h →
    length h.words ≡ length a.words → length w.words ≡ length a.words → IsAware (both_of a h) →
    IsAware (united (left_after (stake_parcel (least_stake a.stakes)) a)
    (given_after (stake_parcel (least_stake a.stakes)) (after_enter outer second w))) →
    IsNoted (least_stake a.stakes) inner first (both_of a h) w b b2 m →
    AreNoted (least_stake a.stakes) inner outer first second a
    (united (left_after (stake_parcel (least_stake a.stakes)) a)
    (given_after (stake_parcel (least_stake a.stakes)) (after_enter outer second w)))
    h (left_after (stake_parcel (least_stake a.stakes)) (after_enter outer second w)) b b2 m (new_entry second w)
noted_twice_of a h w b b2 inner outer first second m lends host has aware_a aware_h long longer aware_u aware_f noted =
    let r = least_stake a.stakes in
    let g = given_after (stake_parcel r) a in
    let u = both_of a h in
    let e = after_enter outer second w in
    let n = new_entry second w in
    let keeps = noted.lends.keeps in
    let can = enter_later a h w outer lends host has keeps in
    let en = enter_leaves outer second w can in
    let again = lends_again u w keeps (lend_on a h lends host) in
    let least : least_stake w.stakes ≡ r = again.1 ∙ host_least a h lends host in
    let parts = united_parts h g in
    let mine : 0 < keeper_of u outer = let p = parts.keepers outer in omega arith in
    let logged : log_of r e ≡ log_of r w ++ Entered outer n ∷ [] =
    subst (λ (i : ℕ). log_of i e ≡ log_of i w ++ Entered outer n ∷ []) least en.entry.log in
    let between : log_of r w ≡ log_of r u ++ Entered inner m ∷ [] =
    noted.lends.logs r ∙ ap (λ (log : List Entry). log_of r u ++ log) (same_here r (Entered inner m ∷ [])) in
    let was : log_of r u ≡ log_of r a = log_right r h.stakes g.stakes (host.0 r) ∙
    log_filter (stake_parcel r).stakes r a.stakes (marked_here r) in
    let all : log_of r e ≡ log_of r a ++ Entered inner m ∷ Entered outer n ∷ [] =
    logged ∙ (ap (λ log. log ++ Entered outer n ∷ []) (between ∙ ap (λ log. log ++ Entered inner m ∷ []) was) ∙
    append_assoc (log_of r a) (Entered inner m ∷ []) (Entered outer n ∷ [])) in
    let on = keeps_on u w e keeps (entering_keeps outer second w can) in
    record {
      stakes = (noted.stake, least);
      say = (noted.says, refl);
      inner_list = noted.list;
      outer_list = en.list ∙ ap (λ (xs : List Made). xs ++ n ∷ [])
          (noted.lends.own_lists outer mine ∙ left_whole h g outer aware_h aware_u has);
      lends = lends_back a e r (Entered inner m ∷ Entered outer n ∷ []) aware_a (can_hand r a lends.1)
          (can_hand r e (lend_later a h w outer second lends host has keeps).1) (sym longer) aware_f
          (en.entry.stakes r ∙ (keeps.stakes r ∙ both_stake a h host)) all;
      middle_has = host_keeps h a e r (can_hand r a lends.1)
          (can_hand r e (lend_later a h w outer second lends host has keeps).1) long aware_u (host.0 r) on;
      host_has = noted.hosts;
      before = λ t. let x = seen_right t h.seen a.seen in let y = noted.before t in omega arith;
      between = noted.known;
      known = λ t. seen_right t a.seen w.seen;
      seen_list = subst (λ (xs : List Made). IsBeginning xs (list_of inner e)) noted.whole
          ((entering_keeps outer second w can).lists inner);
    }
  where
    same_here : (i : ℕ) (more : List Entry) → (if i == i then more else []) ≡ more
    same_here i more = elim (eqb_tells i i) [ inl y ↦ rw y.0 refl | inr n ↦ absurd (n.1 refl) ]

-- what two entries with a lent stake leave, of the views of the seats as they come
pub noted_twice : (a h l g u w e l2 g2 f b b2 : View) (inner outer : ℕ) (first second : List ℕ) →
    l ≡ left_after (stake_parcel (least_stake a.stakes)) a →
    g ≡ given_after (stake_parcel (least_stake a.stakes)) a → u ≡ united h g → e ≡ after_enter outer second w →
    l2 ≡ left_after (stake_parcel (least_stake e.stakes)) e → g2 ≡ given_after (stake_parcel (least_stake e.stakes)) e → f ≡ united l g2 →
    CanLend a → CanHost h → 0 < keeper_of h outer → IsAware a → IsAware h → length h.words ≡ length a.words →
    length e.words ≡ length a.words → IsAware u → IsAware f →
    ((m : Made) × IsNoted (least_stake u.stakes) inner first u w b b2 m) →
    (m n : Made) × AreNoted (least_stake a.stakes) inner outer first second a f h l2 b b2 m n
noted_twice a h l g u w e l2 g2 f b b2 inner outer first second l_is g_is u_is e_is l2_is g2_is f_is lends host has aware_a aware_h long
    longer aware_u aware_f noted =
    let r = least_stake a.stakes in
    let u_by : u ≡ both_of a h = u_is ∙ ap (λ (x : View). united h x) g_is in
    let noted_by : IsNoted r inner first (both_of a h) w b b2 noted.0 =
    subst (λ (i : ℕ). IsNoted i inner first (both_of a h) w b b2 noted.0) (host_least a h lends host)
    (subst (λ (x : View). IsNoted (least_stake x.stakes) inner first x w b b2 noted.0) u_by noted.1) in
    let keeps = noted_by.lends.keeps in
    let least : least_stake e.stakes ≡ r = ap (λ (x : View). least_stake x.stakes) e_is ∙
    later_least a h w outer second lends host has keeps in
    let l2_by : l2 ≡ left_after (stake_parcel r) (after_enter outer second w) =
    l2_is ∙ (ap (λ (i : ℕ). left_after (stake_parcel i) e) least ∙ ap (λ (x : View). left_after (stake_parcel r) x) e_is) in
    let g2_by : g2 ≡ given_after (stake_parcel r) (after_enter outer second w) =
    g2_is ∙ (ap (λ (i : ℕ). given_after (stake_parcel i) e) least ∙ ap (λ (x : View). given_after (stake_parcel r) x) e_is) in
    let f_by : f ≡ united (left_after (stake_parcel r) a) (given_after (stake_parcel r) (after_enter outer second w)) =
    f_is ∙ (ap (λ (x : View). united x g2) l_is ∙ ap (λ (x : View). united (left_after (stake_parcel r) a) x) g2_by) in
    let words : length w.words ≡ length a.words = sym (ap (λ (x : View). length x.words) e_is) ∙ longer in (
      noted.0,
      new_entry second w,
      subst (λ (x : View). AreNoted r inner outer first second a x h l2 b b2 noted.0 (new_entry second w)) (sym f_by)
          (subst (λ (x : View). AreNoted r inner outer first second a
          (united (left_after (stake_parcel r) a) (given_after (stake_parcel r) (after_enter outer second w))) h x b b2 noted.0
          (new_entry second w)) (sym l2_by)
          (noted_twice_of a h w b b2 inner outer first second noted.0 lends host has aware_a aware_h long words (subst IsAware u_by aware_u)
          (subst IsAware f_by aware_f) noted_by)),
    )
