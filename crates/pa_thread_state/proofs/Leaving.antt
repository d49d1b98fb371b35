-- How steps, looks and reads of its own handles change a view, if its one stake is a thread's.
use Rattle.std.proofs.Common.{◌≡◌, ℕ, ◌+◌, ◌<◌, ◌≤◌, Bool, true, false, ◌&&◌, List, [], ◌∷◌, refl, arith}
use Rattle.std.specs.List.{sum_by}
use Rattle.std.proofs.lemmas.List.Sums.{sum_by-cons, sum_by-append, sum_by-le-sum_by}
use Rattle.pa_slot.specs.declared.title.Title.{Title}
use Rattle.pa_slot.specs.declared.title.OwnState.{OwnState}
use Rattle.pa_slot.specs.declared.title.OwnState.TheVariants.{Clean, Dirty, Poisoned}
use Rattle.pa_slot.specs.declared.word.Step.{Step}
use Rattle.pa_slot.specs.Count.{number_of}
use Rattle.pa_slot.specs.Titles.{same_title, same_state}
use Rattle.pa_slot.specs.Holdings.{one}
use Rattle.pa_region.specs.declared.view.Entry.TheVariants.{Counted, Looked}
use Rattle.pa_region.specs.declared.view.OwnTitle.{OwnTitle}
use Rattle.pa_region.specs.declared.view.View.{View}
use Rattle.pa_region.specs.Views.{free_of, own_of, own_as, unsealed_as, sealed_of, seen_of, least_stake, HasStake}
use Rattle.pa_region.specs.Waiting.{is_unclean, unclean_of}
use Rattle.pa_region.specs.Moves.{CanCount, IsFound, after_count, after_look, value_of}
use Rattle.pa_region.specs.Hands.{united}
use Rattle.pa_region.specs.Leaves.{CountLeaves, LookLeaves, takes_free}
use Rattle.pa_region.specs.Aware.{IsAware}
use Rattle.pa_region.specs.Shares.{IsUser}
use Rattle.pa_region.proofs.Adding.{one_and}
use Rattle.pa_region.proofs.Pieces.{sealed_or_not}
use Rattle.pa_op_specs.proofs.Seeing.{now_seen}
use Rattle.pa_op_specs.proofs.Touching.{Touched, touched_entry}

-- an Own among clean ones is a clean one
pub clean_own : (v : View) (t : Title) → unclean_of v ≡ 0 → own_of v t ≤ own_as v t Clean
clean_own v t clean = let n = go v.owns in omega arith
  where
    each : (b : Bool) (a : OwnState) → one b ≤ one (b && same_state a Clean) + one (is_unclean a)
    each true Clean = omega arith
    each true Dirty = omega arith
    each true (Poisoned j) = omega arith
    each false a = omega arith

    go : (os : List OwnTitle) → sum_by (λ (o : OwnTitle). one (same_title o.title t)) os
        ≤ sum_by (λ (o : OwnTitle). one (same_title o.title t && same_state o.state Clean)) os + sum_by
        (λ (o : OwnTitle). one (is_unclean o.state)) os
    go [] = omega arith
    go (o ∷ os) =
        let again = go os in
        let here = each (same_title o.title t) o.state in
        omega (
          arith,
          sum_by-cons (λ (x : OwnTitle). one (same_title x.title t)) o os,
          sum_by-cons (λ (x : OwnTitle). one (same_title x.title t && same_state x.state Clean)) o os,
          sum_by-cons (λ (x : OwnTitle). one (is_unclean x.state)) o os,
        )

-- among Owns that are clean and not sealed it is one that can be copied
pub unsealed_own : (v : View) (t : Title) → unclean_of v ≡ 0 → sealed_of v t ≡ 0 → own_of v t ≤ unsealed_as v t Clean
unsealed_own v t clean none = let a = clean_own v t clean in let b = (sealed_or_not v t Clean).1 in omega arith

-- a sealed Own is an Own
pub seals_own : (v : View) (t : Title) → sealed_of v t ≤ own_of v t
seals_own v t =
    sum_by-le-sum_by (λ (o : OwnTitle). one (same_title o.title t && o.sealed)) (λ (o : OwnTitle). one (same_title o.title t)) v.owns
    (λ o. one_and (same_title o.title t) o.sealed)

-- a view that takes in one without Owns of the title has no other sealed ones
pub seals_beside : (v n : View) (t : Title) → own_of n t ≡ 0 → sealed_of (united v n) t ≡ sealed_of v t
seals_beside v n t none =
    let a = seals_own n t in omega (arith, sum_by-append (λ (o : OwnTitle). one (same_title o.title t && o.sealed)) v.owns n.owns)

-- a title that the view has a handle of isn't free in it
pub user_not_free : (v : View) (t : Title) → IsAware v → IsUser t v → 0 < free_of v t → ⊥
user_not_free v t aware user free = let z = aware.free_alone t free in absurd (omega arith)

-- a counted step that isn't an issue
pub touched_count : CountLeaves → (stake : ℕ) (step : Step) (t : Title) (word : ℕ) (v : View) → takes_free step ≡ false →
    CanCount step t v → IsFound t word v →
    least_stake v.stakes ≡ stake → (0 < free_of v t → ⊥) →
    Touched stake (Counted t step word (value_of step t v) ∷ []) v (after_count step t word v)
touched_count law stake step t word v takes can found least held =
    let leaves = law step t word v can in
    touched_entry stake (number_of word + 1) (Counted t step word (value_of step t v)) t v
    (after_count step t word v) leaves.entry least leaves.lists leaves.seen held
    (λ u. let e = leaves.frees u in let z : one (takes_free step && same_title t u) ≡ 0 = rw takes refl in omega arith)
    (found.not_older, now_seen t (number_of word + 1) (seen_of (after_count step t word v) t) (seen_of v t) (leaves.seen t))

-- a look
pub touched_look : LookLeaves → (stake : ℕ) (t : Title) (word : ℕ) (v : View) → HasStake v → IsFound t word v →
    least_stake v.stakes ≡ stake →
    (0 < free_of v t → ⊥) → Touched stake (Looked t word ∷ []) v (after_look t word v)
touched_look law stake t word v has found least held =
    let leaves = law t word v has in
    touched_entry stake (number_of word) (Looked t word) t v (after_look t word v) leaves.1 least refl (λ u. refl) held
    (λ u. let e = leaves.0.frees u in omega arith)
    (found.not_older, now_seen t (number_of word) (seen_of (after_look t word v) t) (seen_of v t) refl)
