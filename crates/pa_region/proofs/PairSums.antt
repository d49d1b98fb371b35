-- Pairs in a log, and sums over the logs of one stake number, when a log gains an entry.
use Rattle.std.proofs.Common.{◌≡◌, ℕ, ◌+◌, ◌<◌, ◌≤◌, Bool, true, false, List, [], ◌∷◌, ◌++◌, Some, set, refl, ap, arith, inl, inr, eqb}
use Rattle.std.specs.Prelude.{if◌then◌else◌}
use Rattle.std.specs.List.{sum_by}
use Rattle.std.proofs.lemmas.List.Sums.{sum_by-cons, sum_by_push, sum_by-le-sum_by}
use Rattle.std.proofs.lemmas.Bool.Decides.{eqb_tells}
use Rattle.std.proofs.lemmas.Bool.{ne_eqb}
use mathlib.Core.Option.{some}
use lib.ListN.{get_elem?}
use Rattle.pa_slot.specs.Holdings.{one}
use Rattle.pa_region.specs.declared.view.Entry.{Entry}
use Rattle.pa_region.specs.declared.view.Stake.{Stake}
use Rattle.pa_region.specs.declared.view.View.{View}
use Rattle.pa_region.specs.Views.{least_stake, logged_of, logged_in}
use Rattle.pa_region.specs.Pairs.{pairs, last_entry, weight_after, paired_of, paired_in, amount_by, paired_of_by, paired_by, logged_of_by, logged_by, log_among, least_log}
use Rattle.pa_region.specs.Moves.{noted, changed}
use Rattle.pa_region.proofs.Adding.{sum_set, one_eq}
use Rattle.pa_region.proofs.Entering.{least_there, with_entry_last}

-- one more entry makes one pair more, with the entry that was the last
pub pairs_more : (weight : Entry → Entry → ℕ) (log : List Entry) (e : Entry) →
    pairs weight (log ++ e ∷ []) ≡ pairs weight log + weight_after weight (last_entry log) e
pairs_more weight [] e = refl
pairs_more weight (a ∷ []) e = omega arith
pairs_more weight (a ∷ b ∷ log) e = let again = pairs_more weight (b ∷ log) e in omega arith

-- an entry that is put at the end of a log is its last one
pub last_more : (log : List Entry) (e : Entry) → last_entry (log ++ e ∷ []) ≡ Some e
last_more [] e = refl
last_more (a ∷ []) e = refl
last_more (a ∷ b ∷ log) e = last_more (b ∷ log) e

-- a stake of this number and log
abbrev pub stake_with : ℕ → List Entry → Stake
stake_with k log = record { number = k; log = log }

-- a sum over stakes, when the first of a number gains an entry
sum_noted_at : (f : Stake → ℕ) (e : Entry) (k : ℕ) (ss : List Stake) → 0 < sum_by (λ (s : Stake). one (eqb s.number k)) ss →
    sum_by f (changed (λ (s : Stake). eqb s.number k) (with_entry_last e) ss) + f (stake_with k (log_among k ss)) ≡
    sum_by f ss + f (stake_with k (log_among k ss ++ e ∷ []))
sum_noted_at f e k [] there = absurd (omega arith)
sum_noted_at f e k (s ∷ ss) there = elim (eqb_tells s.number k) [
  | inl y ↦
      let was : f s ≡ f (stake_with k s.log) = ap (λ n. f (stake_with n s.log)) y.1 in
      let now : f (with_entry_last e s) ≡ f (stake_with k (s.log ++ e ∷ [])) = ap (λ n. f (stake_with n (s.log ++ e ∷ []))) y.1 in
      rw y.0 (omega (arith, sum_by-cons f s ss, sum_by-cons f (with_entry_last e s) ss))
  | inr n ↦
      let c = sum_by-cons (λ (x : Stake). one (eqb x.number k)) s ss in
      let z : one (eqb s.number k) ≡ 0 = ap one n.0 in
      let again = sum_noted_at f e k ss (omega arith) in
      rw n.0 (omega (arith, sum_by-cons f s ss, sum_by-cons f s (changed (λ (x : Stake). eqb x.number k) (with_entry_last e) ss)))
]

-- a sum over a view's stakes after an entry
pub sum_noted : (f : Stake → ℕ) (e : Entry) (ss : List Stake) → least_stake ss < 16 →
    sum_by f (noted e ss) + f (stake_with (least_stake ss) (least_log ss)) ≡ sum_by f ss + f
    (stake_with (least_stake ss) (least_log ss ++ e ∷ []))
sum_noted f e ss has = sum_noted_at f e (least_stake ss) ss (least_there ss has)

-- the pairs after an entry
pub noted_pairs : (e : Entry) (ss : List Stake) (weight : Entry → Entry → ℕ) → least_stake ss < 16 →
    sum_by (λ (s : Stake). pairs weight s.log) (noted e ss) ≡ sum_by (λ (s : Stake). pairs weight s.log) ss + weight_after weight
    (last_entry (least_log ss)) e
noted_pairs e ss weight has =
    let c = sum_noted (λ (s : Stake). pairs weight s.log) e ss has in
    let p = pairs_more weight (least_log ss) e in
    omega arith

-- an amount of the logs of one number after an entry in such a log, and in another
pub noted_by : (amount : List Entry → ℕ) (r more : ℕ) (e : Entry) (ss : List Stake) → least_stake ss < 16 →
    amount (least_log ss ++ e ∷ []) ≡ amount (least_log ss) + more →
    sum_by (amount_by r amount) (noted e ss) ≡ sum_by (amount_by r amount) ss + (if eqb (least_stake ss) r then more else 0)
noted_by amount r more e ss has grows =
    let c = sum_noted (amount_by r amount) e ss has in
    elim (eqb_tells (least_stake ss) r) [
      | inl y ↦ let d = rw y.0 at c in rw y.0 (omega arith)
      | inr n ↦ let d = rw n.0 at c in rw n.0 (omega arith)
    ]

-- If one view's least log gains an entry, over all views: the pairs,
pub paired_set : (views : List View) (i : ℕ) (v w : View) (e : Entry) → get_elem? views i ≡ some v → w.stakes ≡ noted e v.stakes →
    least_stake v.stakes < 16 →
    (weight : Entry → Entry → ℕ) →
    paired_in (set views i w) weight ≡ paired_in views weight + weight_after weight (last_entry (least_log v.stakes)) e
paired_set views i v w e at_i stakes has weight =
    let c = sum_set (λ u. paired_of u weight) views i v w at_i in
    let m : paired_of w weight ≡ paired_of v weight + weight_after weight (last_entry (least_log v.stakes)) e =
    rw stakes (noted_pairs e v.stakes weight has) in
    omega arith

-- the pairs by number,
pub paired_by_set : (views : List View) (i : ℕ) (v w : View) (e : Entry) → get_elem? views i ≡ some v → w.stakes ≡ noted e v.stakes →
    least_stake v.stakes < 16 →
    (r : ℕ) (weight : Entry → Entry → ℕ) →
    paired_by (set views i w) r weight ≡ paired_by views r
    weight + (if eqb (least_stake v.stakes) r then weight_after weight (last_entry (least_log v.stakes)) e else 0)
paired_by_set views i v w e at_i stakes has r weight =
    let c = sum_set (λ u. paired_of_by u r weight) views i v w at_i in
    let m : paired_of_by w r weight ≡ paired_of_by v r
    weight + (if eqb (least_stake v.stakes) r then weight_after weight (last_entry (least_log v.stakes)) e else 0) =
    rw stakes (noted_by (pairs weight) r (weight_after weight (last_entry (least_log v.stakes)) e) e v.stakes has
    (pairs_more weight (least_log v.stakes) e)) in
    omega arith

-- what one more entry adds to the entries of a stake number
pub logged_by_set : (views : List View) (i : ℕ) (v w : View) (e : Entry) → get_elem? views i ≡ some v → w.stakes ≡ noted e v.stakes →
    least_stake v.stakes < 16 →
    (r : ℕ) (weight : Entry → ℕ) →
    logged_by (set views i w) r weight ≡ logged_by views r weight + (if eqb (least_stake v.stakes) r then weight e else 0)
logged_by_set views i v w e at_i stakes has r weight =
    let c = sum_set (λ u. logged_of_by u r weight) views i v w at_i in
    let m : logged_of_by w r weight ≡ logged_of_by v r weight + (if eqb (least_stake v.stakes) r then weight e else 0) =
    rw stakes (noted_by (sum_by weight) r (weight e) e v.stakes has (sum_by_push weight (least_log v.stakes) e)) in
    omega arith

-- if no view's stakes change, none of them does
pub by_same : (amount : Stake → ℕ) (views : List View) (i : ℕ) (v w : View) → get_elem? views i ≡ some v → w.stakes ≡ v.stakes →
    sum_by (λ (u : View). sum_by amount u.stakes) (set views i w) ≡ sum_by (λ (u : View). sum_by amount u.stakes) views
by_same amount views i v w at_i stakes =
    let c = sum_set (λ (u : View). sum_by amount u.stakes) views i v w at_i in
    let m : sum_by amount w.stakes ≡ sum_by amount v.stakes = ap (sum_by amount) stakes in
    omega arith

-- the amount by one number is within that of all
pub by_within : (r : ℕ) (amount : List Entry → ℕ) (s : Stake) → amount_by r amount s ≤ amount s.log
by_within r amount s = go (eqb s.number r)
  where
    go : (b : Bool) → (if b then amount s.log else 0) ≤ amount s.log
    go true = omega arith
    go false = omega arith

pub logged_by_within : (views : List View) (r : ℕ) (weight : Entry → ℕ) → logged_by views r weight ≤ logged_in views weight
logged_by_within views r weight =
    sum_by-le-sum_by (λ v. logged_of_by v r weight) (λ v. logged_of v weight) views
    (λ v. sum_by-le-sum_by (amount_by r (sum_by weight)) (λ (s : Stake). sum_by weight s.log) v.stakes (by_within r (sum_by weight)))

-- the pairs of one stake number are within those of all
pub paired_by_within : (views : List View) (r : ℕ) (weight : Entry → Entry → ℕ) → paired_by views r weight ≤ paired_in views weight
paired_by_within views r weight =
    sum_by-le-sum_by (λ v. paired_of_by v r weight) (λ v. paired_of v weight) views
    (λ v. sum_by-le-sum_by (amount_by r (pairs weight)) (λ (s : Stake). pairs weight s.log) v.stakes (by_within r (pairs weight)))

-- a view without stake r has no amount of its logs
pub by_none : (amount : List Entry → ℕ) (r : ℕ) (ss : List Stake) → sum_by (λ (s : Stake). one (eqb s.number r)) ss ≡ 0 →
    sum_by (amount_by r amount) ss ≡ 0
by_none amount r [] none = refl
by_none amount r (s ∷ ss) none =
    let c = sum_by-cons (λ (x : Stake). one (eqb x.number r)) s ss in
    let d = sum_by-cons (amount_by r amount) s ss in
    elim (one_eq s.number r) [
      | inl y ↦ let a = y.0 in absurd (omega arith)
      | inr n ↦
          let again = by_none amount r ss (omega arith) in
          let z : amount_by r amount s ≡ 0 = rw (ne_eqb s.number r n.1) refl in
          omega arith
    ]

-- a log with its entries at these places has this pair
pub pair_at : (weight : Entry → Entry → ℕ) (before : List Entry) (a b : Entry) (later : List Entry) →
    weight a b ≤ pairs weight (before ++ a ∷ b ∷ later)
pair_at weight [] a b later = omega arith
pair_at weight (x ∷ []) a b later = omega arith
pair_at weight (x ∷ y ∷ before) a b later = let again = pair_at weight (y ∷ before) a b later in omega arith
