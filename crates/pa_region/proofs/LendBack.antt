-- A stake that is lent and comes back.
use Rattle.std.proofs.Common.{◌≡◌, ℕ, ◌+◌, ◌<◌, Bool, true, false, ◌&&◌, ◌||◌, List, [], ◌∷◌, ◌++◌, length, refl, sym, ◌∙◌, ap, subst, arith, inl, inr, eqb, append_assoc}
use Rattle.std.specs.Prelude.{not}
use Rattle.std.specs.List.{sum_by, filter}
use Rattle.std.proofs.lemmas.List.{append-nil}
use Rattle.std.proofs.lemmas.List.Sums.{sum_by-cons, sum_by-append}
use Rattle.std.proofs.lemmas.Bool.{cases_Bool, cases_lt}
use Rattle.std.proofs.lemmas.Bool.Decides.{eqb_tells}
use Rattle.pa_slot.specs.declared.title.Title.{Title}
use Rattle.pa_slot.specs.Count.{number_of}
use Rattle.pa_slot.specs.Titles.{same_title, IsWellFormed, count_place, count_word}
use Rattle.pa_slot.specs.Holdings.{FreeTitle, one}
use Rattle.pa_region.proofs.PoisonedOwns.{poisoned_unclean}
use Rattle.pa_region.proofs.Pieces.{frees_have}
use Rattle.pa_region.specs.declared.view.OwnTitle.{OwnTitle}
use Rattle.pa_region.specs.declared.view.Entry.{Entry}
use Rattle.pa_region.specs.declared.view.Made.{Made}
use Rattle.pa_region.specs.declared.view.Stake.{Stake}
use Rattle.pa_region.specs.declared.view.Keeper.{Keeper}
use Rattle.pa_region.specs.declared.view.View.{View}
use Rattle.pa_region.specs.Views.{free_of, stake_of, seen_of, least_stake, HasStake}
use Rattle.pa_region.specs.Pairs.{log_among}
use Rattle.pa_region.specs.Waiting.{poisoned_of, unclean_of}
use Rattle.pa_region.specs.Lists.{keeper_of, list_of, IsBeginning}
use Rattle.pa_region.specs.Hands.{CanHand, left_after, given_after, united}
use Rattle.pa_region.specs.Entries.{new_entry, CanEnter, after_enter}
use Rattle.pa_region.specs.Aware.{IsAware}
use Rattle.pa_region.specs.Takes.{log_of}
use Rattle.pa_region.specs.Lending.{stake_parcel, CanLend, CanHost, Keeps, Lends}
use Rattle.pa_region.proofs.Entering.{least_there}
use Rattle.pa_region.proofs.SeatStakes.{filter_number, least_below}
use Rattle.pa_region.proofs.HandStep.{hand_parts, knows_less}
use Rattle.pa_region.proofs.JoinStep.{united_parts}
use Rattle.pa_region.proofs.SeenJoin.{seen_left}
use Rattle.pa_region.proofs.Leaving.{enter_leaves}
use Rattle.pa_region.proofs.TakeLaws.{left_begins, left_whole, left_known, knows_count}
use Rattle.pa_region.proofs.AwarePart.{left_aware}

-- the parcel has this stake alone
marked_is : (r k : ℕ) → (stake_parcel r).stakes k ≡ eqb r k
marked_is r k = go (eqb r k)
  where
    go : (b : Bool) → (b || false) ≡ b
    go true = refl
    go false = refl

pub marked_here : (r : ℕ) → (stake_parcel r).stakes r ≡ true
marked_here r = marked_is r r ∙ elim (eqb_tells r r) [ inl y ↦ y.0 | inr n ↦ absurd (n.1 refl) ]

pub marked_beside : (r k : ℕ) → (k ≡ r → ⊥) → (stake_parcel r).stakes k ≡ false
marked_beside r k ne = marked_is r k ∙ elim (eqb_tells r k) [ inl y ↦ absurd (ne (sym y.1)) | inr n ↦ n.0 ]

-- how many times the two have a stake
pub given_stake : (r : ℕ) (v : View) → stake_of (given_after (stake_parcel r) v) r ≡ stake_of v r
given_stake r v = filter_number (stake_parcel r).stakes r v.stakes ∙ rw (marked_here r) refl

pub given_beside : (r k : ℕ) (v : View) → (k ≡ r → ⊥) → stake_of (given_after (stake_parcel r) v) k ≡ 0
given_beside r k v ne = filter_number (stake_parcel r).stakes k v.stakes ∙ rw (marked_beside r k ne) refl

-- the log of a number that no stake has, of those that pass a test, and of two lists
no_log : (k : ℕ) (ss : List Stake) → sum_by (λ (s : Stake). one (eqb s.number k)) ss ≡ 0 → log_among k ss ≡ []
no_log k [] none = refl
no_log k (s ∷ ss) none =
    let c = sum_by-cons (λ (x : Stake). one (eqb x.number k)) s ss in
    elim (eqb_tells s.number k) [
      | inl y ↦ let z : one (eqb s.number k) ≡ 1 = ap one y.0 in absurd (omega arith)
      | inr n ↦ rw n.0 (no_log k ss (omega arith))
    ]

pub log_filter : (test : ℕ → Bool) (k : ℕ) (ss : List Stake) → test k ≡ true →
    log_among k (filter (λ (s : Stake). test s.number) ss) ≡ log_among k ss
log_filter test k [] passes = refl
log_filter test k (s ∷ ss) passes = elim (eqb_tells s.number k) [
  | inl y ↦ let t : test s.number ≡ true = ap test y.1 ∙ passes in rw (t, y.0) refl
  | inr n ↦ elim (cases_Bool (test s.number)) [
    | inl z ↦ rw (z, n.0) (log_filter test k ss passes)
    | inr z ↦ rw (z, n.0) (log_filter test k ss passes)
  ]
]

log_left : (k : ℕ) (a b : List Stake) → 0 < sum_by (λ (s : Stake). one (eqb s.number k)) a → log_among k (a ++ b) ≡ log_among k a
log_left k [] b has = absurd (omega arith)
log_left k (s ∷ a) b has =
    let c = sum_by-cons (λ (x : Stake). one (eqb x.number k)) s a in
    elim (eqb_tells s.number k) [
      | inl y ↦ rw y.0 refl
      | inr n ↦ let z : one (eqb s.number k) ≡ 0 = ap one n.0 in rw n.0 (log_left k a b (omega arith))
    ]

pub log_right : (k : ℕ) (a b : List Stake) → sum_by (λ (s : Stake). one (eqb s.number k)) a ≡ 0 → log_among k (a ++ b) ≡ log_among k b
log_right k [] b none = refl
log_right k (s ∷ a) b none =
    let c = sum_by-cons (λ (x : Stake). one (eqb x.number k)) s a in
    elim (eqb_tells s.number k) [
      | inl y ↦ let z : one (eqb s.number k) ≡ 1 = ap one y.0 in absurd (omega arith)
      | inr n ↦ rw n.0 (log_right k a b (omega arith))
    ]

-- no keeper goes with it
pub no_keepers : (k : ℕ) (qs : List Keeper) → sum_by (λ (q : Keeper). one (eqb q.number k)) (filter (λ (q : Keeper). false) qs) ≡ 0
no_keepers k [] = refl
no_keepers k (q ∷ qs) = no_keepers k qs

given_keeper : (r k : ℕ) (v : View) → keeper_of (given_after (stake_parcel r) v) k ≡ 0
given_keeper r k v = no_keepers k v.keepers

-- beginnings of beginnings
pub begins_on : (a b c : List Made) → IsBeginning a b → IsBeginning b c → IsBeginning a c
begins_on a b c f g = (f.0 ++ g.0, g.1 ∙ (ap (λ xs. xs ++ g.0) f.1 ∙ append_assoc a f.0 g.0))

-- a view that gets a stake back keeps what it has
lend_keeps : (lender done : View) (r : ℕ) → CanHand (stake_parcel r) lender → CanHand (stake_parcel r) done →
    length lender.words ≡ length done.words →
    IsAware (united (left_after (stake_parcel r) lender) (given_after (stake_parcel r) done)) → stake_of done r ≡ stake_of lender r →
    Keeps lender (united (left_after (stake_parcel r) lender) (given_after (stake_parcel r) done))
lend_keeps lender done r can there long aware back =
    let l = left_after (stake_parcel r) lender in
    let g = given_after (stake_parcel r) done in
    let parts = united_parts l g in
    let cut = hand_parts (stake_parcel r) lender can in
    record {
      things = λ x. let e = parts.things x in omega arith;
      floors = λ b n. let e = parts.floors b n in omega arith;
      idle = λ t.
          let e = sum_by-append (λ (o : OwnTitle). one (same_title o.title t && (o.idle || o.sealed))) l.owns g.owns in omega arith;
      poisoned = λ t. let e = parts.poisoned t in omega arith;
      unclean = let e = parts.unclean in omega arith;
      budget = omega arith;
      stakes = λ k.
          let e = parts.stakes k in
          let c = cut.stakes k in
          elim (eqb_tells k r) [
            | inl y ↦ subst (λ (n : ℕ). stake_of (united l g) n ≡ stake_of lender n) (sym y.1)
                (let e1 = parts.stakes r in let c1 = cut.stakes r in let a = given_stake r done in let b = given_stake r lender in
                omega arith)
            | inr n ↦ let a = given_beside r k done n.1 in let b = given_beside r k lender n.1 in omega arith
          ];
      keepers = λ k. let e = parts.keepers k in let c = cut.keepers k in let a = given_keeper r k done in let b = given_keeper r k lender in
          omega arith;
      leases = λ n. let e = parts.leases n in omega arith;
      words = λ q knows. left_known l g q long (knows_less lender l q (λ x. omega arith) knows);
      seen = λ t. seen_left t lender.seen done.seen;
      lists = λ k. left_begins l g k aware;
      undone = λ t. let e = parts.undone t in let c = cut.undone t in omega arith;
    }

-- a seat that gets its stake back keeps what it has, and its logs have what was done with the stake
pub lends_back : (lender done : View) (r : ℕ) (more : List Entry) → IsAware lender → CanHand (stake_parcel r) lender →
    CanHand (stake_parcel r) done →
    length lender.words ≡ length done.words → IsAware (united (left_after (stake_parcel r) lender) (given_after (stake_parcel r) done)) →
    stake_of done r ≡ stake_of lender r → log_of r done ≡ log_of r lender ++ more →
    Lends r more lender (united (left_after (stake_parcel r) lender) (given_after (stake_parcel r) done))
lends_back lender done r more mine can there long aware back logged = record {
  own_lists = λ k has.
      let c = (hand_parts (stake_parcel r) lender can).keepers k in let n = given_keeper r k lender in
      left_whole l g k (left_aware (stake_parcel r) lender can mine) aware (omega arith);
  keeps = lend_keeps lender done r can there long aware back;
  logs = λ k. elim (eqb_tells k r) [
    | inl y ↦ rw y.0 (subst (λ (n : ℕ). log_of n (united l g) ≡ log_of n lender ++ more) (sym y.1) here)
    | inr n ↦ rw n.0 (beside k n.1 ∙ sym (append-nil (log_of k lender)))
  ];
}
  where
    l : View
    l = left_after (stake_parcel r) lender

    g : View
    g = given_after (stake_parcel r) done

    cut : (k : ℕ) → stake_of l k + stake_of (given_after (stake_parcel r) lender) k ≡ stake_of lender k
    cut k = (hand_parts (stake_parcel r) lender can).stakes k

    here : log_of r (united l g) ≡ log_of r lender ++ more
    here =
        let c = cut r in let a = given_stake r lender in
        log_right r l.stakes g.stakes (omega arith) ∙ (log_filter (stake_parcel r).stakes r done.stakes (marked_here r) ∙ logged)

    beside : (k : ℕ) → (k ≡ r → ⊥) → log_of k (united l g) ≡ log_of k lender
    beside k ne =
        let c = cut k in let a = given_beside r k lender ne in let b = given_beside r k done ne in
        elim (cases_lt 0 (stake_of l k)) [
          | inl y ↦ log_left k l.stakes g.stakes y ∙
              log_filter (λ n. not ((stake_parcel r).stakes n)) k lender.stakes (ap not (marked_beside r k ne))
          | inr n ↦ log_right k l.stakes g.stakes (omega arith) ∙ (no_log k g.stakes b ∙ sym (no_log k lender.stakes (omega arith)))
        ]

-- one fact goes on to the next
pub keeps_on : (u v w : View) → Keeps u v → Keeps v w → Keeps u w
keeps_on u v w a b = record {
  things = λ x. b.things x ∙ a.things x;
  floors = λ c n. b.floors c n ∙ a.floors c n;
  idle = λ t. b.idle t ∙ a.idle t;
  poisoned = λ t. b.poisoned t ∙ a.poisoned t;
  unclean = b.unclean ∙ a.unclean;
  budget = b.budget ∙ a.budget;
  stakes = λ k. b.stakes k ∙ a.stakes k;
  keepers = λ k. b.keepers k ∙ a.keepers k;
  leases = λ n. b.leases n ∙ a.leases n;
  words = λ q knows. b.words q (knows_less v u q (λ x. let e = a.things x in omega arith) knows) ∙ a.words q knows;
  seen = λ t. let x = a.seen t in let y = b.seen t in omega arith;
  lists = λ k. begins_on (list_of k u) (list_of k v) (list_of k w) (a.lists k) (b.lists k);
  undone = λ t. let x = a.undone t in let y = b.undone t in omega arith;
}

-- a view that had the stake keeps what it has
pub host_keeps : (host lender done : View) (r : ℕ) → CanHand (stake_parcel r) lender → CanHand (stake_parcel r) done →
    length host.words ≡ length lender.words →
    IsAware (united host (given_after (stake_parcel r) lender)) → stake_of host r ≡ 0 →
    Keeps (united host (given_after (stake_parcel r) lender)) done →
    Keeps host (left_after (stake_parcel r) done)
host_keeps host lender done r can there long aware none k =
    let g = given_after (stake_parcel r) lender in
    let u = united host g in
    let l = left_after (stake_parcel r) done in
    let parts = united_parts host g in
    let cut = hand_parts (stake_parcel r) done there in
    record {
      things = λ x. let e = parts.things x in let f = k.things x in omega arith;
      floors = λ b n. let e = parts.floors b n in let f = k.floors b n in omega arith;
      idle = λ t.
          let e = sum_by-append (λ (o : OwnTitle). one (same_title o.title t && (o.idle || o.sealed))) host.owns g.owns in
          let f = k.idle t in omega arith;
      poisoned = λ t. let e = parts.poisoned t in let f = k.poisoned t in omega arith;
      unclean = let e = parts.unclean in let f = k.unclean in omega arith;
      budget = let f = k.budget in omega arith;
      stakes = λ n.
          elim (eqb_tells n r) [
            | inl y ↦ subst (λ (m : ℕ). stake_of l m ≡ stake_of host m) (sym y.1)
                (let e = parts.stakes r in let f = k.stakes r in let c = cut.stakes r in let a = given_stake r done in omega arith)
            | inr m ↦ let e = parts.stakes n in let f = k.stakes n in let c = cut.stakes n in let a = given_beside r n done m.1 in
                let b = given_beside r n lender m.1 in omega arith
          ];
      keepers = λ n. let e = parts.keepers n in let f = k.keepers n in let c = cut.keepers n in let a = given_keeper r n done in
          let b = given_keeper r n lender in omega arith;
      leases = λ n. let e = parts.leases n in let f = k.leases n in omega arith;
      words = λ q knows. k.words q (knows_less u host q (λ x. let e = parts.things x in omega arith) knows) ∙
          left_known host g q long knows;
      seen = λ t. let a = seen_left t host.seen lender.seen in let f = k.seen t in omega arith;
      lists = λ n. begins_on (list_of n host) (list_of n u) (list_of n l) (left_begins host g n aware) (k.lists n);
      undone = λ t. let e = parts.undone t in let f = k.undone t in omega arith;
    }

-- a view that makes an entry keeps what it has
pub entering_keeps : (k : ℕ) (numbers : List ℕ) (v : View) → CanEnter k v → Keeps v (after_enter k numbers v)
entering_keeps k numbers v can =
    let e = enter_leaves k numbers v can in
    record {
      things = λ x. refl;
      floors = λ b n. refl;
      idle = λ t. refl;
      poisoned = λ t. refl;
      unclean = refl;
      budget = refl;
      stakes = e.entry.stakes;
      keepers = e.keepers;
      leases = λ n. refl;
      words = λ q knows. refl;
      seen = λ t. omega arith;
      lists = λ q. elim (eqb_tells q k) [
        | inl y ↦ subst (λ (n : ℕ). IsBeginning (list_of n v) (list_of n (after_enter k numbers v))) (sym y.1)
            (new_entry numbers v ∷ [], e.list)
        | inr n ↦ ([], e.other_lists q n.1 ∙ sym (append-nil (list_of q v)))
      ];
      undone = λ t. omega arith;
    }

-- a view that has no unclean Own has no poisoned one
pub none_poisoned : (v : View) (t : Title) → unclean_of v ≡ 0 → poisoned_of v t ≡ 0
none_poisoned v t clean = let l = poisoned_unclean v t in omega arith

-- the least stake of a view that has the same stakes
same_least : (v w : View) → HasStake v → ((k : ℕ) → stake_of w k ≡ stake_of v k) → least_stake w.stakes ≡ least_stake v.stakes
same_least v w has same =
    let a = least_there v.stakes has in
    let s = same (least_stake v.stakes) in
    let low = least_below w.stakes (least_stake v.stakes) (omega arith) in
    let b = least_there w.stakes (omega arith) in
    let z = same (least_stake w.stakes) in
    let high = least_below v.stakes (least_stake w.stakes) (omega arith) in
    omega arith

-- a view that keeps what could lend can lend again
pub lends_again : (v w : View) → Keeps v w → CanLend v → CanLend w × (least_stake w.stakes ≡ least_stake v.stakes)
lends_again v w k can =
    let l = same_least v w can.0 k.stakes in let u = k.unclean in let has = can.0 in let clean = can.1 in
    ((omega arith, omega arith), l)

pub hosts_again : (v w : View) → Keeps v w → CanHost v → CanHost w
hosts_again v w k can = ((λ n. k.stakes n ∙ can.0 n), k.unclean ∙ can.1)

-- a view that keeps what another has has seen the same number of a title that it holds free
pub kept_number : (v w : View) (n : ℕ) (t : Title) → IsAware v → IsAware w → Keeps v w → IsWellFormed n t → 0 < free_of v t →
    seen_of w t ≡ seen_of v t
kept_number v w n t a b k well free =
    let e = k.things (FreeTitle t) in let x = frees_have v t in let y = frees_have w t in
    let same : count_word w.words t ≡ count_word v.words t = k.words (count_place t) (knows_count n t v well free) in
    sym (b.free_seen t (omega arith)) ∙ (ap number_of same ∙ a.free_seen t free)
