-- A view with every stake knows of all reads, since nobody else has a stake, nor an Own that isn't clean.
use Rattle.std.proofs.Common.{◌≡◌, ℕ, ◌<◌, ◌≤◌, Bool, true, false, ◌&&◌, List, [], ◌∷◌, refl, sym, ◌∙◌, arith, inl, inr, eqb, ltb}
use Rattle.std.specs.Prelude.{if◌then◌else◌, nat_lt}
use Rattle.std.specs.List.{sum_by}
use Rattle.std.proofs.lemmas.List.Sums.{sum_by-cons, sum_by-le-sum_by}
use Rattle.std.proofs.lemmas.Bool.{cases_lt, cases_Bool, eq-eqb, lt-ltb}
use Rattle.std.proofs.lemmas.Bool.Decides.{eqb_tells}
use mathlib.Core.Option.{some}
use lib.ListN.{get_elem?}
use Rattle.pa_slot.specs.declared.title.Title.{Title}
use Rattle.pa_slot.specs.declared.title.OwnState.{OwnState}
use Rattle.pa_slot.specs.declared.title.OwnState.TheVariants.{Clean, Dirty, Poisoned}
use Rattle.pa_slot.specs.Count.{held_of}
use Rattle.pa_slot.specs.Titles.{same_title, poison}
use Rattle.pa_slot.specs.Holdings.{one}
use Rattle.pa_slot.proofs.Same.{title_self}
use Rattle.pa_region.specs.declared.view.Deeds.{Deeds}
use Rattle.pa_region.specs.declared.view.OwnTitle.{OwnTitle}
use Rattle.pa_region.specs.declared.view.Entry.{Entry}
use Rattle.pa_region.specs.declared.view.Entry.TheVariants.{Looked, Read}
use Rattle.pa_region.specs.declared.view.Stake.{Stake}
use Rattle.pa_region.specs.declared.view.View.{View}
use Rattle.pa_region.specs.Views.{least_stake, stake_of, stakes_in, counted_at, HasEveryStake}
use Rattle.pa_region.specs.History.{Done}
use Rattle.pa_region.specs.Pairs.{pairs, amount_by, paired_of, paired_in, paired_of_by}
use Rattle.pa_region.specs.Waiting.{is_quiet, is_poisoned, is_unclean, poisoned_of, unclean_of, poisoned_apart, gave_no_poison, quiet_read, Reads}
use Rattle.pa_region.specs.AllReads.{HasReads, AreReadsRight}
use Rattle.pa_region.proofs.Adding.{sum_alone, sum_part, one_lt, one_eq, sum_pair}
use Rattle.pa_region.proofs.Entering.{least_there}
use Rattle.pa_region.proofs.PairSums.{pair_at, by_none}

-- no stake of any number has an amount
pub any_none : (amount : List Entry → ℕ) (ss : List Stake) → ((k : ℕ) → sum_by (λ (s : Stake). one (eqb s.number k)) ss ≡ 0) →
    sum_by (λ (s : Stake). amount s.log) ss ≡ 0
any_none amount [] none = refl
any_none amount (s ∷ ss) none =
    let c = sum_by-cons (λ (x : Stake). one (eqb x.number s.number)) s ss in
    let z = none s.number in
    elim (one_eq s.number s.number) [ inl y ↦ let a = y.0 in absurd (omega arith) | inr n ↦ absurd (n.1 refl) ]

-- a view that has every stake leaves none to another
pub others_none : (views : List View) (i : ℕ) (v : View) → get_elem? views i ≡ some v → HasEveryStake v →
    ((k : ℕ) → stakes_in views k ≡ one (nat_lt k 16)) →
    (j : ℕ) (u : View) → get_elem? views j ≡ some u → (j ≡ i → ⊥) → (k : ℕ) → stake_of u k ≡ 0
others_none views i v at_i every each j u at_j ne k =
    let all = each k in
    let two = sum_pair (λ w. stake_of w k) views i j v u at_i at_j ne in
    elim (one_lt k 16) [
      | inl y ↦ let a = y.0 in let mine = every k y.1 in omega arith
      | inr n ↦ let a = n.0 in omega arith
    ]

-- what all views' stakes have, those of a view with every stake have
pub all_of : (amount : Stake → ℕ) (views : List View) (i : ℕ) (v : View) → get_elem? views i ≡ some v → HasEveryStake v →
    ((k : ℕ) → stakes_in views k ≡ one (nat_lt k 16)) →
    ((u : View) → ((k : ℕ) → stake_of u k ≡ 0) → sum_by amount u.stakes ≡ 0) →
    sum_by (λ (u : View). sum_by amount u.stakes) views ≡ sum_by amount v.stakes
all_of amount views i v at_i every each none =
    sum_alone (λ (u : View). sum_by amount u.stakes) views i v at_i
    (λ j u at_j ne. none u (others_none views i v at_i every each j u at_j ne))

-- a poisoned Own isn't clean
pub poisoned_unclean : (v : View) (t : Title) → poisoned_of v t ≤ unclean_of v
poisoned_unclean v t =
    sum_by-le-sum_by (λ (o : OwnTitle). one (same_title o.title t && is_poisoned o.state))
    (λ (o : OwnTitle). one (is_unclean o.state)) v.owns
    (λ o. go (same_title o.title t) o.state)
  where
    go : (b : Bool) (a : OwnState) → one (b && is_poisoned a) ≤ one (is_unclean a)
    go true Clean = omega arith
    go true Dirty = omega arith
    go true (Poisoned j) = omega arith
    go false a = omega arith

-- a view without a stake has no least one
pub no_least : (u : View) → ((k : ℕ) → stake_of u k ≡ 0) → least_stake u.stakes < 16 → ⊥
no_least u none has = let there = least_there u.stakes has in let z = none (least_stake u.stakes) in absurd (omega arith)

-- no view has an Own poisoned apart from a stake that the view with every stake has
none_apart : (history : Title → List Done) (words : List ℕ) (views : List View) (i : ℕ) (v : View) → Reads history words views →
    get_elem? views i ≡ some v →
    HasEveryStake v → ((k : ℕ) → stakes_in views k ≡ one (nat_lt k 16)) → (t : Title) (r : ℕ) → 0 < stake_of v r →
    poisoned_apart views t r ≡ 0
none_apart history words views i v reads at_i every each t r mine =
    sum_alone (λ u. if ltb 0 (stake_of u r) then 0 else poisoned_of u t) views i v at_i
    (λ j u at_j ne. other j u at_j (others_none views i v at_i every each j u at_j ne))
    ∙ rw (lt-ltb 0 (stake_of v r) mine) refl
  where
    other : (j : ℕ) (u : View) → get_elem? views j ≡ some u → ((k : ℕ) → stake_of u k ≡ 0) →
        (if ltb 0 (stake_of u r) then 0 else poisoned_of u t) ≡ 0
    other j u at_j none =
        let p = poisoned_unclean u t in
        let z : poisoned_of u t ≡ 0 = elim (cases_lt 0 (unclean_of u)) [
          | inl y ↦ absurd (no_least u none ((reads.each_view j u at_j).stake y))
          | inr n ↦ omega arith
        ] in
        elim (cases_Bool (ltb 0 (stake_of u r))) [ inl y ↦ rw y refl | inr n ↦ rw n z ]

-- what the rule says of reads, to a view with every stake
pub whole_reads : (history : Title → List Done) (words : List ℕ) (views : List View) (i : ℕ) (v : View) → Reads history words views →
    get_elem? views i ≡ some v →
    HasEveryStake v → ((k : ℕ) → stakes_in views k ≡ one (nat_lt k 16)) → HasReads history v
whole_reads history words views i v reads at_i every each = record {
  freed = sym (paired gave_no_poison) ∙ reads.right.freed;
  own = λ t found value set some_pair.
      let e = paired (quiet_read true t found value) in
      reads.right.own t found value set (omega arith);
  ref = λ r t found value set some_pair.
      let e = all_of (amount_by r (pairs (quiet_read false t found value))) views i v at_i every each
      (λ u none. by_none (pairs (quiet_read false t found value)) r u.stakes (none r)) in
      elim (reads.right.ref r t found value set (omega arith)) [
        | inl y ↦ inl y
        | inr f ↦ inr (
          f.0,
          elim f.1 [
            | inl free ↦
                let n = free.0 in
                let l = all_of (amount_by r (sum_by (counted_at t n))) views i v at_i every each
                (λ u none. by_none (sum_by (counted_at t n)) r u.stakes (none r)) in
                let z = free.2 in
                (n, free.1, omega arith)
            | inr own ↦
                let z = none_apart history words views i v reads at_i every each t r (mine r (quiet_read false t found value) some_pair) in
                let p = own.1 in
                absurd (omega arith)
          ],
        )
      ];
}
  where
    paired : (weight : Entry → Entry → ℕ) → paired_in views weight ≡ paired_of v weight
    paired weight = all_of (λ (s : Stake). pairs weight s.log) views i v at_i every each (λ u none. any_none (pairs weight) u.stakes none)

    mine : (r : ℕ) (weight : Entry → Entry → ℕ) → 0 < paired_of_by v r weight → 0 < stake_of v r
    mine r weight some_pair = elim (cases_lt 0 (stake_of v r)) [
      | inl y ↦ y
      | inr n ↦ let z = by_none (pairs weight) r v.stakes (omega arith) in absurd (omega arith)
    ]

-- the pair of a look and a read of its title, if the read is quiet
quiet_pair : (own : Bool) (t : Title) (found place value : ℕ) (since : Deeds) (owned unclean : Bool) → is_quiet since ≡ true →
    unclean ≡ false → owned ≡ own →
    quiet_read own t found value (Looked t found) (Read t place value since owned unclean) ≡ 1
quiet_pair true t found place value since owned unclean quiet clean owner =
    rw (title_self t, eq-eqb found found refl, eq-eqb value value refl, quiet, clean, owner) refl
quiet_pair false t found place value since owned unclean quiet clean owner =
    rw (title_self t, eq-eqb found found refl, eq-eqb value value refl, quiet, clean, owner) refl

-- a look that found the bit 0 and a read after it that gave another value than poison weigh 1
freed_pair : (t : Title) (found place value : ℕ) (since : Deeds) (owned unclean : Bool) → held_of found ≡ 0 → since.handed ≡ false →
    eqb value poison ≡ false →
    gave_no_poison (Looked t found) (Read t place value since owned unclean) ≡ 1
freed_pair t found place value since owned unclean low kept other = rw (title_self t, eq-eqb (held_of found) 0 low, kept, other) refl

-- the reads by their places in the logs
pub reads_by_place : (history : Title → List Done) (v : View) → HasReads history v → AreReadsRight history v
reads_by_place history v reads i s before later t found place value since owned unclean at_i log =
    let here : (weight : Entry → Entry → ℕ) → weight (Looked t found) (Read t place value since owned unclean) ≤ pairs weight s.log =
    λ weight. rw log (pair_at weight before (Looked t found) (Read t place value since owned unclean) later) in
    let within : (weight : Entry → Entry → ℕ) → pairs weight s.log ≤ paired_of v weight =
    λ weight. sum_part (λ (x : Stake). pairs weight x.log) v.stakes i s at_i in
    record {
      freed = λ low kept. elim (eqb_tells value poison) [
        | inl y ↦ y.1
        | inr n ↦
            let p = freed_pair t found place value since owned unclean low kept n.0 in
            let a = here gave_no_poison in let b = within gave_no_poison in let z = reads.freed in
            absurd (omega arith)
      ];
      own = λ set quiet clean owner.
          let p = quiet_pair true t found place value since owned unclean quiet clean owner in
          let a = here (quiet_read true t found value) in let b = within (quiet_read true t found value) in
          reads.own t found value set (omega arith);
      ref = λ set quiet clean. elim (cases_Bool owned) [
        | inl owner ↦
            let p = quiet_pair true t found place value since owned unclean quiet clean owner in
            let a = here (quiet_read true t found value) in let b = within (quiet_read true t found value) in
            inl (reads.own t found value set (omega arith))
        | inr other ↦
            let p = quiet_pair false t found place value since owned unclean quiet clean other in
            let a = here (quiet_read false t found value) in
            let c = sum_part (amount_by s.number (pairs (quiet_read false t found value))) v.stakes i s at_i in
            let d : amount_by s.number (pairs (quiet_read false t found value)) s ≡ pairs (quiet_read false t found value) s.log =
            rw (eq-eqb s.number s.number refl) refl in
            reads.ref s.number t found value set (omega arith)
      ];
    }
