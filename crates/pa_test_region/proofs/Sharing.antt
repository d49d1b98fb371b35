-- What is left of a view that gives a stake and a Ref, and after a free and a reset, of stakes and of Owns that aren't clean.
use Rattle.std.proofs.Common.{◌≡◌, ℕ, ◌+◌, ◌-◌, ◌<◌, Bool, true, false, ◌||◌, List, [], ◌∷◌, refl, sym, ◌∙◌, ap, arith, inl, inr, eqb, cond}
use Rattle.std.specs.List.{sum_by, filter}
use Rattle.std.proofs.lemmas.List.Sums.{sum_by-cons}
use Rattle.std.proofs.lemmas.Bool.{cases_Bool}
use Rattle.std.proofs.lemmas.Bool.Decides.{eqb_tells}
use Rattle.pa_slot.specs.declared.title.Title.{Title}
use Rattle.pa_slot.specs.declared.word.Step.TheVariants.{Reset, Free}
use Rattle.pa_machine.specs.declared.event.Item.TheVariants.{Ref}
use Rattle.pa_slot.specs.Count.{refs_of}
use Rattle.pa_slot.specs.Titles.{same_title, content_count}
use Rattle.pa_slot.specs.Holdings.{one}
use Rattle.pa_slot.proofs.Same.{title_self}
use Rattle.pa_region.specs.declared.marks.Mark.TheVariants.{Stake as StakeMark}
use Rattle.pa_region.specs.declared.view.OwnTitle.{OwnTitle}
use Rattle.pa_region.specs.declared.view.Entry.TheVariants.{Counted, Looked, Read}
use Rattle.pa_region.specs.declared.view.Stake.{Stake}
use Rattle.pa_region.specs.declared.view.View.{View}
use Rattle.pa_region.specs.Views.{ref_of, stake_of, HasStake}
use Rattle.pa_region.specs.Waiting.{is_unclean, unclean_of}
use Rattle.pa_region.specs.Moves.{without, changed, is_title_of, is_own_of, idle_if, value_of, after_count, after_look, CanCount}
use Rattle.pa_region.specs.Stores.{poisoned_to}
use Rattle.pa_region.specs.Hands.{Parcel, IsParted, left_after, given_after}
use Rattle.pa_region.specs.Marks.{parcel_of}
use Rattle.pa_region.specs.Leaves.{EntryLeaves, OwnsChange}
use Rattle.pa_region.specs.Loads.{has_own, has_unclean, after_read}
use Rattle.pa_quarantine.specs.Filling.{poisoned}
use Rattle.pa_quarantine.proofs.Handing.{without_less, without_changed}
use Rattle.pa_test_region.specs.Sharing.{Stays, StaysUser, GaveRef, AreTogether}
use Rattle.pa_region.proofs.SeatStakes.{least_below}

-- after a free, and after a reset
pub freed_stays : EntryLeaves → (t : Title) (word : ℕ) (v w : View) → HasStake v →
    w ≡ after_count Free t word (poisoned t v) → unclean_of v ≡ 0 → Stays v w
freed_stays law t word v w has e clean =
    let a : unclean_of w ≡ sum_by (λ (o : OwnTitle). one (is_unclean o.state))
    (without (is_own_of t) (changed (is_own_of t) (poisoned_to (content_count t)) v.owns)) = ap unclean_of e in
    let b : sum_by (λ (o : OwnTitle). one (is_unclean o.state))
    (without (is_own_of t) (changed (is_own_of t) (poisoned_to (content_count t)) v.owns)) ≡ sum_by
    (λ (o : OwnTitle). one (is_unclean o.state)) (without (is_own_of t) v.owns) = ap
    (λ os. sum_by (λ (o : OwnTitle). one (is_unclean o.state)) os)
    (without_changed t (poisoned_to (content_count t)) (λ o. refl) v.owns) in
    let c = without_less (is_own_of t) (λ (o : OwnTitle). one (is_unclean o.state)) v.owns in
    record {
      stakes = (law (Counted t Free word (value_of Free t (poisoned t v))) v w has (ap (λ (x : View). x.stakes) e)).stakes;
      clean = omega arith;
    }

pub released_stays : EntryLeaves → (t : Title) (word : ℕ) (v w : View) → HasStake v →
    w ≡ after_count Reset t word v → unclean_of v ≡ 0 → Stays v w
released_stays law t word v w has e clean = record {
  stakes = (law (Counted t Reset word (value_of Reset t v)) v w has (ap (λ (x : View). x.stakes) e)).stakes;
  clean = ap unclean_of e ∙ clean;
}

-- after a read right after a look
pub read_stays : EntryLeaves → OwnsChange → (t : Title) (word place value : ℕ) (v w : View) → HasStake v →
    w ≡ after_read t place value (after_look t word v) → StaysUser t v w
read_stays law change t word place value v w has e =
    let looked = law (Looked t word) v (after_look t word v) has refl in
    let l = looked.least in
    let done = law (Read t place value (after_look t word v).since (has_own (after_look t word v) t) (has_unclean (after_look t word v) t))
    (after_look t word v) w (omega arith)
    (ap (λ (x : View). x.stakes) e) in
    record {
      refs = ap (λ (x : View). ref_of x t) e;
      budget = ap (λ (x : View). x.budget) e;
      stakes = λ k. done.stakes k ∙ looked.stakes k;
      least = done.least ∙ looked.least;
      clean = ap unclean_of e ∙ change.1 t (idle_if word) (λ (o : OwnTitle). one (is_unclean o.state)) v.owns
          (λ o. same o (eqb (refs_of word) 0));
    }
  where
    same : (o : OwnTitle) (b : Bool) → one (is_unclean (cond b (record o { idle = true }) o).state) ≡ one (is_unclean o.state)
    same o true = refl
    same o false = refl

pub has_stake : (v : View) (k : ℕ) → k < 16 → 0 < stake_of v k → HasStake v
has_stake v k few has = let a = least_below v.stakes k has in omega arith

-- what is given of a Ref, one counted step and a stake
abbrev pub one_ref : Title → ℕ → Parcel
one_ref t stake = parcel_of (Ref t ∷ []) 1 (StakeMark stake ∷ [])

-- of the stakes that pass the mark, each is as often there as before, and no other
marks_is : (t : Title) (stake k : ℕ) → (one_ref t stake).stakes k ≡ eqb stake k
marks_is t stake k = go (eqb stake k)
  where
    go : (b : Bool) → (b || false) ≡ b
    go true = refl
    go false = refl

given_stake : (test : ℕ → Bool) (k : ℕ) → test k ≡ true → (ss : List Stake) →
    sum_by (λ (s : Stake). one (eqb s.number k)) (filter (λ (s : Stake). test s.number) ss) ≡
    sum_by (λ (s : Stake). one (eqb s.number k)) ss
given_stake test k passes [] = refl
given_stake test k passes (s ∷ ss) =
    let again = given_stake test k passes ss in
    let c = sum_by-cons (λ (x : Stake). one (eqb x.number k)) s ss in
    let d = sum_by-cons (λ (x : Stake). one (eqb x.number k)) s (filter (λ (x : Stake). test x.number) ss) in
    elim (cases_Bool (test s.number)) [
      | inl y ↦ rw y (omega arith)
      | inr n ↦ rw n (elim (eqb_tells s.number k) [
        | inl y ↦ cc
        | inr m ↦ let z : one (eqb s.number k) ≡ 0 = ap one m.0 in omega arith
      ])
    ]

other_stake : (test : ℕ → Bool) (k : ℕ) → test k ≡ false → (ss : List Stake) →
    sum_by (λ (s : Stake). one (eqb s.number k)) (filter (λ (s : Stake). test s.number) ss) ≡ 0
other_stake test k fails [] = refl
other_stake test k fails (s ∷ ss) =
    let again = other_stake test k fails ss in
    let d = sum_by-cons (λ (x : Stake). one (eqb x.number k)) s (filter (λ (x : Stake). test x.number) ss) in
    elim (cases_Bool (test s.number)) [
      | inl y ↦ rw y (elim (eqb_tells s.number k) [
        | inl z ↦ cc
        | inr m ↦ let z : one (eqb s.number k) ≡ 0 = ap one m.0 in omega arith
      ])
      | inr n ↦ rw n again
    ]

-- one Ref fewer
ref_out : (t : Title) (us : List Title) → 0 < sum_by (λ u. one (same_title u t)) us →
    sum_by (λ u. one (same_title u t)) (without (is_title_of t) us) + 1 ≡ sum_by (λ u. one (same_title u t)) us
ref_out t [] has = absurd (omega arith)
ref_out t (u ∷ us) has = go (same_title u t) refl (λ more. ref_out t us more)
  where
    go : (b : Bool) → same_title u t ≡ b →
        (0 < sum_by (λ x. one (same_title x t)) us →
        sum_by (λ x. one (same_title x t)) (without (is_title_of t) us) + 1 ≡ sum_by (λ x. one (same_title x t)) us) →
        sum_by (λ x. one (same_title x t)) (cond b us (u ∷ without (is_title_of t) us)) + 1 ≡ sum_by (λ x. one (same_title x t)) (u ∷ us)
    go true y again =
        let z : one (same_title u t) ≡ 1 = ap one y in
        let c = sum_by-cons (λ x. one (same_title x t)) u us in omega arith
    go false n again =
        let z : one (same_title u t) ≡ 0 = ap one n in
        let c = sum_by-cons (λ x. one (same_title x t)) u us in
        let d = sum_by-cons (λ x. one (same_title x t)) u (without (is_title_of t) us) in
        let less = again (omega arith) in omega arith

-- a view that gets them can let go of the Ref
pub given_can : (t : Title) (stake : ℕ) (v w : View) → w ≡ given_after (one_ref t stake) v → stake < 16 →
    0 < stake_of v stake → CanCount Reset t w
given_can t stake v w e few has =
    let a : stake_of w stake ≡ stake_of v stake = ap (λ (x : View). stake_of x stake) e
    ∙ given_stake (one_ref t stake).stakes stake
    (marks_is t stake stake ∙ elim (eqb_tells stake stake) [ inl y ↦ y.0 | inr n ↦ absurd (n.1 refl) ]) v.stakes in
    let r : ref_of w t ≡ 0 + one (same_title t t) = ap (λ (x : View). ref_of x t) e in
    let s : one (same_title t t) ≡ 1 = ap one (title_self t) in
    let b : w.budget ≡ 1 = ap (λ (x : View). x.budget) e in
    (omega arith, has_stake w stake few (omega arith), omega arith, tt)

pub gave_ref : (t : Title) (stake : ℕ) (v l w : View) → l ≡ left_after (one_ref t stake) v →
    w ≡ given_after (one_ref t stake) v → IsParted v l w →
    0 < ref_of v t → 0 < v.budget → GaveRef t stake v l w
gave_ref t stake v l w e f parted refs budget =
    let left : l.budget ≡ v.budget - 1 = ap (λ (x : View). x.budget) e in
    record {
      owns = ap (λ (x : View). x.owns) e;
      refs = ap (λ (x : View). ref_of x t + 1) e ∙ ref_out t v.refs refs;
      budget = omega arith;
      stakes = parted.stakes;
      others = λ k ne.
          let none : stake_of w k ≡ 0 = ap (λ (x : View). stake_of x k) f
          ∙ other_stake (one_ref t stake).stakes k
          (marks_is t stake k ∙ elim (eqb_tells stake k) [ inl y ↦ absurd (ne (sym y.1)) | inr n ↦ n.0 ]) v.stakes in
          let p = parted.stakes k in omega arith;
    }

-- what two have together
pub are_together : (v w u : View) → IsParted u v w → unclean_of v ≡ 0 → unclean_of w ≡ 0 → AreTogether v w u
are_together v w u parted clean other = record {
  stakes = λ k. sym (parted.stakes k);
  clean = let e = parted.unclean in omega arith;
}
