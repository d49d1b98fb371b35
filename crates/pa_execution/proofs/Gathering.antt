-- How the main seat takes in what all workers have seen, and how they get it back.
use Rattle.std.proofs.Common.{◌≡◌, ℕ, ◌+◌, ◌<◌, List, [], ◌∷◌, ◌++◌, refl, sym, ◌∙◌, ap, subst, arith, inl, inr, eqb}
use Rattle.std.specs.Prelude.{◌≢◌, not}
use Rattle.std.specs.List.{sum_by}
use Rattle.std.proofs.lemmas.List.{append-nil}
use Rattle.std.proofs.lemmas.List.Sums.{sum_by-cons}
use Rattle.std.proofs.lemmas.Bool.{cases_lt, cases_eq}
use Rattle.std.proofs.lemmas.Bool.Decides.{eqb_tells}
use Rattle.pa_slot.specs.Holdings.{one}
use Rattle.pa_region.specs.declared.view.Stake.{Stake}
use Rattle.pa_region.specs.declared.view.View.{View}
use Rattle.pa_region.specs.Views.{stake_of, seen_of}
use Rattle.pa_region.specs.Pairs.{log_among}
use Rattle.pa_region.specs.Lists.{list_of, list_among}
use Rattle.pa_region.specs.Waiting.{unclean_of}
use Rattle.pa_region.specs.Hands.{left_after, given_after, united, CanHand}
use Rattle.pa_region.specs.Lending.{stake_parcel}
use Rattle.pa_region.specs.Aware.{IsAware}
use Rattle.pa_region.specs.Takes.{log_of}
use Rattle.pa_region.proofs.HandStep.{hand_parts}
use Rattle.pa_region.proofs.JoinStep.{united_parts}
use Rattle.pa_region.proofs.LendBack.{marked_here, given_stake, given_beside, log_filter, log_right, marked_beside}
use Rattle.pa_region.proofs.SeenJoin.{seen_left, seen_right}
use Rattle.pa_region.proofs.TakeLaws.{left_begins, right_begins}
use Rattle.pa_rules.specs.Caches.{SameLists}
use Rattle.pa_op_specs.specs.Stocks.{IsForThread, listed_in}
use Rattle.pa_op_specs.specs.Workers.{WorkerValue, HasItsStake, worker_with_view}
use Rattle.pa_execution.specs.Courses.{HasSeenAll, HasHeardAll, Hears}
use Rattle.pa_execution.specs.Gathering.{IsMain, HasHeardSome, HasAnswered, WorkersTell, WorkersHear, OneLendsAgain, lent_again, told_worker}
use Rattle.pa_execution.proofs.Playing.{sees_itself, sees_then}

-- ---- the logs of two lists of stakes

abbrev pub how_often : ℕ → List Stake → ℕ
how_often k ss = sum_by (λ (s : Stake). one (eqb s.number k)) ss

-- a number that no stake has, has no log
pub none_logged : (k : ℕ) (ss : List Stake) → how_often k ss ≡ 0 → log_among k ss ≡ []
none_logged k [] none = refl
none_logged k (s ∷ ss) none =
    let c = sum_by-cons (λ (x : Stake). one (eqb x.number k)) s ss in
    elim (eqb_tells s.number k) [
      | inl y ↦ let z : one (eqb s.number k) ≡ 1 = ap one y.0 in absurd (omega arith)
      | inr n ↦ rw n.0 (none_logged k ss (omega arith))
    ]

first_logged : (k : ℕ) (a b : List Stake) → 0 < how_often k a → log_among k (a ++ b) ≡ log_among k a
first_logged k [] b has = absurd (omega arith)
first_logged k (s ∷ a) b has =
    let c = sum_by-cons (λ (x : Stake). one (eqb x.number k)) s a in
    elim (eqb_tells s.number k) [
      | inl y ↦ rw y.0 refl
      | inr n ↦ let z : one (eqb s.number k) ≡ 0 = ap one n.0 in rw n.0 (first_logged k a b (omega arith))
    ]

-- ---- what a seat has after it took a note in, and after it handed one over

-- a view with the stake of a note that another view handed it
module _ (k : ℕ) (seat v : View) where
  abbrev note : View
  note = given_after (stake_parcel k) v

  log_here : stake_of seat k ≡ 0 → log_of k (united seat note) ≡ log_of k v
  log_here none = log_right k seat.stakes note.stakes none ∙ log_filter (stake_parcel k).stakes k v.stakes (marked_here k)

  log_beside : (j : ℕ) → (j ≡ k → ⊥) → log_of j (united seat note) ≡ log_of j seat
  log_beside j ne = elim (cases_lt 0 (stake_of seat j)) [
    | inl y ↦ first_logged j seat.stakes note.stakes y
    | inr n ↦
        log_right j seat.stakes note.stakes (omega arith)
        ∙ (none_logged j note.stakes (given_beside k j v ne) ∙ sym (none_logged j seat.stakes (omega arith)))
  ]

  sees_giver : IsAware (united seat note) → HasSeenAll v (united seat note)
  sees_giver aware = record { lists = λ q. right_begins seat note q aware; seen = λ u. seen_right u seat.seen v.seen }

  sees_before : IsAware (united seat note) → HasSeenAll seat (united seat note)
  sees_before aware = record { lists = λ q. left_begins seat note q aware; seen = λ u. seen_left u seat.seen v.seen }

  still_clean : unclean_of seat ≡ 0 → unclean_of (united seat note) ≡ 0
  still_clean clean = let e = (united_parts seat note).unclean in omega arith

-- ---- stakes are lent

tell_none : (threads : ℕ) (ends : ℕ → WorkerValue) (seat : View) → IsMain threads seat → HasHeardSome threads 0 ends seat seat
tell_none threads ends seat main = record {
  main = main;
  told = λ k low. absurd (omega arith);
  logs = λ k low. absurd (omega arith);
  sees = λ k low. absurd (omega arith);
  grows = sees_itself seat;
}

tell_next : (threads k : ℕ) (ends : ℕ → WorkerValue) (first seat : View) → HasHeardSome threads k ends first seat → k < threads →
    (ends k).stock.thread ≡ k → HasItsStake (ends k).stock →
    IsAware (united seat (given_after (stake_parcel k) (ends k).stock.view)) →
    HasHeardSome threads (k + 1) ends first (united seat (given_after (stake_parcel k) (ends k).stock.view))
tell_next threads k ends first seat heard few own has aware =
    let v = (ends k).stock.view in
    let g = given_after (stake_parcel k) v in
    let u = united seat g in
    let parts = united_parts seat g in
    let mine : stake_of g k ≡ stake_of v k = given_stake k v in
    let here : 0 < stake_of v k = subst (λ n. 0 < stake_of v n) own has in
    let none : stake_of seat k ≡ 0 = (let e = parts.stakes k in let o = aware.stake_once k in omega arith) in
    record {
      main = record {
        own = λ j past small. let h = heard.main.own j past small in let e = parts.stakes j in omega arith;
        idle = λ j past. log_beside k seat v j (λ e. absurd (omega arith)) ∙ heard.main.idle j past;
        clean = still_clean k seat v heard.main.clean;
      };
      told = λ j low. elim (cases_eq j k) [
        | inl e ↦ subst (λ n. 0 < stake_of u n) (sym e) (let p = parts.stakes k in omega arith)
        | inr ne ↦ let h = heard.told j (omega arith) in let p = parts.stakes j in omega arith
      ];
      logs = λ j low. elim (cases_eq j k) [
        | inl e ↦ subst (λ n. log_of n u ≡ log_of n (ends n).stock.view) (sym e) (log_here k seat v none)
        | inr ne ↦ log_beside k seat v j ne ∙ heard.logs j (omega arith)
      ];
      sees = λ j low. elim (cases_eq j k) [
        | inl e ↦ subst (λ n. HasSeenAll (ends n).stock.view u) (sym e) (sees_giver k seat v aware)
        | inr ne ↦ sees_then (ends j).stock.view seat u (heard.sees j (omega arith)) (sees_before k seat v aware)
      ];
      grows = sees_then first seat u heard.grows (sees_before k seat v aware);
    }

tell_all : (threads : ℕ) (ends : ℕ → WorkerValue) (first seat : View) → HasHeardSome threads threads ends first seat → IsAware seat →
    HasHeardAll threads ends seat
tell_all threads ends first seat heard aware = record {
  aware = aware;
  every = λ k small. elim (cases_lt k threads) [ inl few ↦ heard.told k few | inr past ↦ heard.main.own k past small ];
  logs = heard.logs;
  idle = heard.main.idle;
  sees = heard.sees;
}

pub workers_tell : WorkersTell
workers_tell = record { none = tell_none; next = tell_next; all = tell_all }

-- ---- stakes come back

module _ (threads k : ℕ) (whole seat : View) (answered : HasAnswered threads k whole seat) where
  can_hand : CanHand (stake_parcel k) seat
  can_hand = record { items = tt; budget = omega arith; leases = tt; clean = λ j marked. answered.main.clean }

  for_thread : 0 < stake_of whole k → k < 16 → IsForThread k (given_after (stake_parcel k) seat)
  for_thread has small = record {
    stake = record { small = small; only = λ j ne. given_beside k j seat ne };
    has = let g = given_stake k seat in let s = answered.stakes k (omega arith) in omega arith;
    unused = λ t. refl;
  }

  log_left : (j : ℕ) → (j ≡ k → ⊥) → log_of j (left_after (stake_parcel k) seat) ≡ log_of j seat
  log_left j ne = log_filter (λ n. not ((stake_parcel k).stakes n)) j seat.stakes (ap not (marked_beside k j ne))

  answer_next : k < threads → HasAnswered threads (k + 1) whole (left_after (stake_parcel k) seat)
  answer_next few =
      let l = left_after (stake_parcel k) seat in
      let parts = hand_parts (stake_parcel k) seat can_hand in
      record {
        main = record {
          own = λ j past small. let h = answered.main.own j past small in let p = parts.stakes j in
              let b = given_beside k j seat (λ e. absurd (omega arith)) in omega arith;
          idle = λ j past. log_left j (λ e. absurd (omega arith)) ∙ answered.main.idle j past;
          clean = answered.main.clean;
        };
        stakes = λ j high. let s = answered.stakes j (omega arith) in let p = parts.stakes j in
            let b = given_beside k j seat (λ e. absurd (omega arith)) in omega arith;
        logs = λ j high. log_left j (λ e. absurd (omega arith)) ∙ answered.logs j (omega arith);
        seen = answered.seen;
        lists = answered.lists;
      }

answer_none : (threads : ℕ) (ends : ℕ → WorkerValue) (first whole : View) → HasHeardSome threads threads ends first whole →
    HasAnswered threads 0 whole whole
answer_none threads ends first whole heard =
    record { main = heard.main; stakes = λ k low. refl; logs = λ k low. refl; seen = refl; lists = refl }

hears : (threads k : ℕ) (ends : ℕ → WorkerValue) (whole seat : View) (after : WorkerValue) → HasHeardAll threads ends whole →
    HasAnswered threads k whole seat → k < threads → stake_of (left_after (stake_parcel k) (ends k).stock.view) k ≡ 0 →
    after ≡ worker_with_view (united (told_worker k (ends k)).stock.view (given_after (stake_parcel k) seat)) (told_worker k (ends k)) →
    SameLists (listed_in after.stock) (listed_in (told_worker k (ends k)).stock) → Hears k whole (ends k) after
hears threads k ends whole seat after heard answered few none is lists =
    let l = left_after (stake_parcel k) (ends k).stock.view in
    record {
      view = united l (given_after (stake_parcel k) seat);
      same = is;
      log = log_here k l seat none ∙ (answered.logs k (omega arith) ∙ heard.logs k few);
      lists = lists;
      seen = λ heard u.
          let r = seen_right u l.seen seat.seen in
          let same : seen_of whole u ≡ seen_of seat u = ap (λ ns. seen_of (record whole { seen = ns }) u) (sym answered.seen) in
          omega arith;
    }

grows : (threads count : ℕ) (whole seat : View) → HasAnswered threads count whole seat → HasSeenAll whole seat
grows threads count whole seat answered = record {
  lists = λ q. ([], ap (list_among q) answered.lists ∙ sym (append-nil (list_of q whole)));
  seen = λ u. let same : seen_of seat u ≡ seen_of whole u = ap (λ ns. seen_of (record whole { seen = ns }) u) answered.seen in omega arith;
}

pub workers_hear : WorkersHear
workers_hear = record { none = answer_none; can = can_hand; for = for_thread; next = answer_next; hears = hears; grows = grows }

-- ---- one stake comes back, and is lent again

module _ (threads k : ℕ) (ends after : ℕ → WorkerValue) (seat : View) (main : IsMain threads seat) (heard : HasHeardAll threads ends seat)
    (few : k < threads) (own : (after k).stock.thread ≡ k) (has : HasItsStake (after k).stock)
    (others : (j : ℕ) → j < threads → j ≢ k → after j ≡ ends j) (aware : IsAware (lent_again k seat (after k))) where
  abbrev less : View
  less = left_after (stake_parcel k) seat

  abbrev again : View
  again = lent_again k seat (after k)

  whole : HasAnswered threads k seat seat
  whole = record { main = main; stakes = λ j low. refl; logs = λ j low. refl; seen = refl; lists = refl }

  main_less : IsMain threads less
  main_less = (answer_next threads k seat seat whole few).main

  here : 0 < stake_of (after k).stock.view k
  here = subst (λ n. 0 < stake_of (after k).stock.view n) own has

  none_less : stake_of less k ≡ 0
  none_less =
      let p = (hand_parts (stake_parcel k) seat (can_hand threads k seat seat whole)).stakes k in
      let g = given_stake k seat in
      omega arith

  sees_seat : HasSeenAll seat again
  sees_seat = let sees = sees_before k less (after k).stock.view aware in record { lists = sees.lists; seen = sees.seen }

  has_stake : (j : ℕ) → 0 < stake_of less j → 0 < stake_of again j
  has_stake j low = let p = (united_parts less (given_after (stake_parcel k) (after k).stock.view)).stakes j in omega arith

  main_again : IsMain threads again
  main_again = record {
    own = λ j past small. has_stake j (main_less.own j past small);
    idle = λ j past. log_beside k less (after k).stock.view j (λ e. absurd (omega arith)) ∙ main_less.idle j past;
    clean = still_clean k less (after k).stock.view main_less.clean;
  }

  heard_again : HasHeardAll threads after again
  heard_again = record {
    aware = aware;
    every = λ j small. elim (cases_eq j k) [
      | inl e ↦
          subst (λ n. 0 < stake_of again n) (sym e)
          (let p = (united_parts less (given_after (stake_parcel k) (after k).stock.view)).stakes k in
          let g = given_stake k (after k).stock.view in
          let h = here in
          omega arith)
      | inr ne ↦
          has_stake j (
          let p = (hand_parts (stake_parcel k) seat (can_hand threads k seat seat whole)).stakes j in
          let b = given_beside k j seat ne in
          let h = heard.every j small in
          omega arith
          )
    ];
    logs = λ j low. elim (cases_eq j k) [
      | inl e ↦ subst (λ n. log_of n again ≡ log_of n (after n).stock.view) (sym e) (log_here k less (after k).stock.view none_less)
      | inr ne ↦
          log_beside k less (after k).stock.view j ne
          ∙ (log_left threads k seat seat whole j ne
          ∙ (heard.logs j low ∙ ap (λ (w : WorkerValue). log_of j w.stock.view) (sym (others j low ne))))
    ];
    idle = main_again.idle;
    sees = λ j low. elim (cases_eq j k) [
      | inl e ↦ subst (λ n. HasSeenAll (after n).stock.view again) (sym e) (sees_giver k less (after k).stock.view aware)
      | inr ne ↦
          subst (λ (w : WorkerValue). HasSeenAll w.stock.view again) (sym (others j low ne))
          (sees_then (ends j).stock.view seat again (heard.sees j low) sees_seat)
    ];
  }

pub one_lends_again : OneLendsAgain
one_lends_again threads k ends after seat main heard few own has others aware = (
  main_again threads k ends after seat main heard few own has others aware,
  heard_again threads k ends after seat main heard few own has others aware,
  sees_seat threads k ends after seat main heard few own has others aware,
)
