-- The workers of all threads hand their stakes to the main seat, and get them back, one after the other.
use Rattle.std.proofs.Common.{◌≡◌, ℕ, ◌+◌, ◌<◌, ◌≤◌, List, length, set, get_or, refl, sym, ◌∙◌, ap, subst, arith, inl, inr}
use Rattle.std.proofs.lemmas.Bool.{cases_eq}
use Rattle.std.proofs.lemmas.List.{length-set, get_or-set_same, get_or-set_other, get_or_default}
use Rattle.pa_region.specs.declared.view.View.{View}
use Rattle.pa_region.specs.Views.{HasEveryStake, stake_of}
use Rattle.pa_region.specs.Hands.{left_after, given_after, united}
use Rattle.pa_region.specs.Lending.{stake_parcel}
use Rattle.pa_region.specs.Aware.{IsAware}
use Rattle.pa_rules.specs.Caches.{SameLists}
use Rattle.pa_region.proofs.LendBack.{given_stake, given_beside}
use Rattle.pa_totals.specs.Settled.{none_owed}
use Rattle.pa_op_specs.specs.Stocks.{IsForThread, listed_in}
use Rattle.pa_op_specs.specs.Workers.{WorkerValue, worker_with_view}
use Rattle.pa_execution.specs.Gathering.{IsMain, HasHeardSome, HasAnswered, told_worker}
use Rattle.pa_execution.proofs.Gathering.{workers_tell, workers_hear}
use Rattle.pa_runner.specs.Phases.{HaveStakes, HaveTold, HaveNone, HeardFrom, HaveHeard, no_worker, worker_in}

-- ---- one worker among them is changed

at_place : (ws : List WorkerValue) (k : ℕ) (w : WorkerValue) → k < length ws → worker_in (set ws k w) k ≡ w
at_place ws k w low = get_or-set_same ws k w no_worker low

beside : (ws : List WorkerValue) (k j : ℕ) (w : WorkerValue) → (j ≡ k → ⊥) → worker_in (set ws k w) j ≡ worker_in ws j
beside ws k j w ne = get_or-set_other ws k j w no_worker ne

-- ---- stakes are lent

pub record IsTelling (k : ℕ) (before now : List WorkerValue) (first seat : View) : Type 0 where
  pub count : length now ≡ length before
  pub heard : HasHeardSome (length before) k (worker_in before) first seat
  pub told : HaveTold k before now

pub tell_start : (ws : List WorkerValue) (seat : View) → IsMain (length ws) seat → IsTelling 0 ws ws seat seat
tell_start ws seat main = record {
  count = refl;
  heard = workers_tell.none (length ws) (worker_in ws) seat main;
  told = record { told = λ k low. absurd (omega arith); none = λ k low. absurd (omega arith); others = λ k low. refl };
}

pub tell_more : (k : ℕ) (before now : List WorkerValue) (first seat next : View) (d w : WorkerValue) → IsTelling k before now first seat →
    k < length before → HaveStakes before →
    w ≡ told_worker (get_or now k d).stock.thread (get_or now k d) → ((j : ℕ) → stake_of w.stock.view j ≡ 0) →
    next ≡ united seat (given_after (stake_parcel (get_or now k d).stock.thread) (get_or now k d).stock.view) → IsAware next →
    IsTelling (k + 1) before (set now k w) first next
tell_more k before now first seat next d w telling few has is' none took' aware =
    let here : get_or now k d ≡ worker_in now k = (let long = telling.count in get_or_default now k d no_worker (omega arith)) in
    let is : w ≡ told_worker (worker_in now k).stock.thread (worker_in now k) =
    is' ∙ ap (λ (z : WorkerValue). told_worker z.stock.thread z) here in
    let took : next ≡ united seat (given_after (stake_parcel (worker_in now k).stock.thread) (worker_in now k).stock.view) =
    took' ∙ ap (λ (z : WorkerValue). united seat (given_after (stake_parcel z.stock.thread) z.stock.view)) here in
    let same : worker_in now k ≡ worker_in before k = telling.told.others k (omega arith) in
    let own : (worker_in now k).stock.thread ≡ k = ap (λ (z : WorkerValue). z.stock.thread) same ∙ has.thread k few in
    let note : next ≡ united seat (given_after (stake_parcel k) (worker_in before k).stock.view) =
    took ∙ (ap (λ n. united seat (given_after (stake_parcel n) (worker_in now k).stock.view)) own
    ∙ ap (λ (z : WorkerValue). united seat (given_after (stake_parcel k) z.stock.view)) same) in
    let told : w ≡ told_worker k (worker_in before k) = is ∙ (ap (λ n. told_worker n (worker_in now k)) own ∙ ap (told_worker k) same) in
    let long = telling.count in
    record {
      count = length-set now k w ∙ telling.count;
      heard = subst (HasHeardSome (length before) (k + 1) (worker_in before) first) (sym note)
          (workers_tell.next (length before) k (worker_in before) first seat telling.heard few (has.thread k few) (has.each k few)
          (subst IsAware note aware));
      told = record {
        told = λ j low. elim (cases_eq j k) [
          | inl e ↦ subst (λ n. worker_in (set now k w) n ≡ told_worker n (worker_in before n)) (sym e)
              (at_place now k w (omega arith) ∙ told)
          | inr ne ↦ beside now k j w ne ∙ telling.told.told j (omega arith)
        ];
        none = λ j low i. elim (cases_eq j k) [
          | inl e ↦ subst (λ n. stake_of (worker_in (set now k w) n).stock.view i ≡ 0) (sym e)
              (ap (λ (z : WorkerValue). stake_of z.stock.view i) (at_place now k w (omega arith)) ∙ none i)
          | inr ne ↦ ap (λ (z : WorkerValue). stake_of z.stock.view i) (beside now k j w ne) ∙ telling.told.none j (omega arith) i
        ];
        others = λ j high. beside now k j w (λ e. absurd (omega arith)) ∙ telling.told.others j (omega arith);
      };
    }

-- the next worker that tells still has its stake
pub tell_ready : (k : ℕ) (before now : List WorkerValue) (first seat : View) (d : WorkerValue) → IsTelling k before now first seat →
    k < length before → HaveStakes before →
    0 < stake_of (get_or now k d).stock.view (get_or now k d).stock.thread
tell_ready k before now first seat d telling few has =
    let here : get_or now k d ≡ worker_in now k = (let long = telling.count in get_or_default now k d no_worker (omega arith)) in
    subst (λ (z : WorkerValue). 0 < stake_of z.stock.view z.stock.thread) (sym (here ∙ telling.told.others k (omega arith)))
    (has.each k few)

-- ---- stakes come back

pub record IsHearing (k : ℕ) (before now : List WorkerValue) (whole seat : View) : Type 0 where
  pub count : length now ≡ length before
  pub answered : HasAnswered (length before) k whole seat
  pub heard : HaveHeard (length before) k whole before now

pub hear_start : (ws : List WorkerValue) (whole : View) → IsMain (length ws) whole → IsHearing 0 ws ws whole whole
hear_start ws whole main = record {
  count = refl;
  answered = record { main = main; stakes = λ k low. refl; logs = λ k low. refl; seen = refl; lists = refl };
  heard = record { heard = λ k low. absurd (omega arith); others = λ k low. refl };
}

pub hear_more : (k : ℕ) (before now : List WorkerValue) (whole seat next : View) (d w : WorkerValue) →
    IsHearing k before now whole seat → k < length before →
    w ≡ worker_with_view (united (get_or now k d).stock.view (given_after (stake_parcel k) seat)) (get_or now k d) →
    SameLists (listed_in w.stock) (listed_in (get_or now k d).stock) → next ≡ left_after (stake_parcel k) seat →
    IsHearing (k + 1) before (set now k w) whole next
hear_more k before now whole seat next d w hearing few is' lists' left =
    let long = hearing.count in
    let here : get_or now k d ≡ worker_in now k = get_or_default now k d no_worker (omega arith) in
    let is : w ≡ worker_with_view (united (worker_in now k).stock.view (given_after (stake_parcel k) seat)) (worker_in now k) =
    is' ∙ ap (λ (z : WorkerValue). worker_with_view (united z.stock.view (given_after (stake_parcel k) seat)) z) here in
    let lists = subst (λ (z : WorkerValue). SameLists (listed_in w.stock) (listed_in z.stock)) here lists' in
    let same : worker_in now k ≡ worker_in before k = hearing.heard.others k (omega arith) in
    let heard : w ≡ worker_with_view (united (worker_in before k).stock.view (given_after (stake_parcel k) seat)) (worker_in before k) =
    is ∙ ap (λ (z : WorkerValue). worker_with_view (united z.stock.view (given_after (stake_parcel k) seat)) z) same in
    record {
      count = length-set now k w ∙ hearing.count;
      answered = subst (HasAnswered (length before) (k + 1) whole) (sym left)
          (workers_hear.next (length before) k whole seat hearing.answered few);
      heard = record {
        heard = λ j low. elim (cases_eq j k) [
          | inl e ↦
              subst (λ n. HeardFrom (length before) n whole (worker_in before n) (worker_in (set now k w) n)) (sym e)
              (subst (HeardFrom (length before) k whole (worker_in before k)) (sym (at_place now k w (omega arith)))
              (record {
                seat = seat;
                answered = hearing.answered;
                heard = heard;
                lists = subst (λ (z : WorkerValue). SameLists (listed_in w.stock) (listed_in z.stock)) same lists;
              }))
          | inr ne ↦ subst (HeardFrom (length before) j whole (worker_in before j)) (sym (beside now k j w ne))
              (hearing.heard.heard j (omega arith))
        ];
        others = λ j high. beside now k j w (λ e. absurd (omega arith)) ∙ hearing.heard.others j (omega arith);
      };
    }

-- what the next worker needs to get its stake back
pub hear_ready : (k : ℕ) (before now : List WorkerValue) (whole seat : View) (d : WorkerValue) → IsHearing k before now whole seat →
    k < length before → length before ≤ 16 → HasEveryStake whole →
    HaveNone before →
    ((get_or now k d).stock.thread ≡ k) × (0 < stake_of seat k) × ((j : ℕ) → stake_of (get_or now k d).stock.view j ≡ 0) ×
    ((get_or now k d).owed ≡ none_owed)
hear_ready k before now whole seat d hearing few small every none =
    let long = hearing.count in
    let same : get_or now k d ≡ worker_in before k =
    get_or_default now k d no_worker (omega arith) ∙ hearing.heard.others k (omega arith) in (
      ap (λ (z : WorkerValue). z.stock.thread) same ∙ none.thread k few,
      let s = hearing.answered.stakes k (omega arith) in let e = every k (omega arith) in omega arith,
      λ j. ap (λ (z : WorkerValue). stake_of z.stock.view j) same ∙ none.each k few j,
      ap (λ (z : WorkerValue). z.owed) same ∙ none.settled k few,
    )

-- a note with the stake of thread k is for it
pub for_note : (k : ℕ) (seat : View) → k < 16 → 0 < stake_of seat k → IsForThread k (given_after (stake_parcel k) seat)
for_note k seat small has = record {
  stake = record { small = small; only = λ j ne. given_beside k j seat ne };
  has = let g = given_stake k seat in omega arith;
  unused = λ t. refl;
}
