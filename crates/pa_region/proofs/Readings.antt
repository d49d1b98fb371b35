-- That reads gave what they should stays true: when logs gain an entry, and when histories and Owns go on.
use Rattle.std.proofs.Common.{◌≡◌, ℕ, ◌+◌, ◌<◌, ◌≤◌, Bool, true, false, ◌&&◌, List, [], ◌∷◌, Some, None, Option, refl, ◌∙◌, arith, inl, inr, eqb}
use Rattle.std.specs.List.{sum_by}
use Rattle.std.proofs.lemmas.List.Sums.{sum_by-cons, sum_by-le-sum_by}
use Rattle.std.proofs.lemmas.Bool.{cases_lt, true≢false}
use Rattle.pa_slot.specs.declared.title.Title.{Title}
use Rattle.pa_slot.specs.Count.{number_of}
use Rattle.pa_slot.specs.Titles.{same_title}
use Rattle.pa_slot.specs.Holdings.{one}
use Rattle.pa_region.specs.declared.view.Entry.{Entry}
use Rattle.pa_region.specs.declared.view.Entry.TheVariants.{Counted, Looked, Read, Added, Entered, Uncut}
use Rattle.pa_region.specs.declared.view.Stake.{Stake}
use Rattle.pa_region.specs.declared.view.View.{View}
use Rattle.pa_region.specs.Views.{counted_at, looked_at, logged_of, logged_in}
use Rattle.pa_region.specs.History.{Done}
use Rattle.pa_region.specs.Pairs.{pairs, weight_after, paired_in}
use Rattle.pa_region.specs.Waiting.{gave_no_poison, quiet_read, IsFreeing, AreRight}
use Rattle.pa_region.proofs.Adding.{one_small}

-- the entry is a read
abbrev pub is_read : Entry → Bool
is_read (Counted t step found value) = false
is_read (Looked t found) = false
is_read (Read t place value since owned unclean) = true
is_read (Added word bytes) = false
is_read (Entered keeper numbers) = false
is_read (Uncut again) = false

-- another entry makes no such pair with what is before it
gave_none : (a e : Entry) → is_read e ≡ false → gave_no_poison a e ≡ 0
gave_none (Looked t found) (Counted u step word value) other = refl
gave_none (Looked t found) (Looked u word) other = refl
gave_none (Looked t found) (Read u place value since owned unclean) other = absurd (true≢false other)
gave_none (Looked t found) (Added word bytes) other = refl
gave_none (Looked t found) (Entered keeper numbers) other = refl
gave_none (Looked t found) (Uncut again) other = refl
gave_none (Counted t step found value) e other = refl
gave_none (Read t place value since owned unclean) e other = refl
gave_none (Added word bytes) e other = refl
gave_none (Entered keeper numbers) e other = refl
gave_none (Uncut again) e other = refl

quiet_none : (own : Bool) (t : Title) (found value : ℕ) (a e : Entry) → is_read e ≡ false → quiet_read own t found value a e ≡ 0
quiet_none own t found value (Looked u word) (Counted x step w v) other = refl
quiet_none own t found value (Looked u word) (Looked x w) other = refl
quiet_none own t found value (Looked u word) (Read x place v since owned unclean) other = absurd (true≢false other)
quiet_none own t found value (Looked u word) (Added w bytes) other = refl
quiet_none own t found value (Looked u word) (Entered keeper numbers) other = refl
quiet_none own t found value (Looked u word) (Uncut again) other = refl
quiet_none own t found value (Counted u step w v) e other = refl
quiet_none own t found value (Read u place v since owned unclean) e other = refl
quiet_none own t found value (Added w bytes) e other = refl
quiet_none own t found value (Entered keeper numbers) e other = refl
quiet_none own t found value (Uncut again) e other = refl

-- nor as a log's last entry
pub gave_none_after : (last : Option Entry) (e : Entry) → is_read e ≡ false → weight_after gave_no_poison last e ≡ 0
gave_none_after None e other = refl
gave_none_after (Some a) e other = gave_none a e other

pub quiet_none_after : (own : Bool) (t : Title) (found value : ℕ) (last : Option Entry) (e : Entry) → is_read e ≡ false →
    weight_after (quiet_read own t found value) last e ≡ 0
quiet_none_after own t found value None e other = refl
quiet_none_after own t found value (Some a) e other = quiet_none own t found value a e other

-- a quiet read has its look
quiet_looked : (own : Bool) (t : Title) (found value : ℕ) (a b : Entry) → quiet_read own t found value a b ≤ looked_at t found a
quiet_looked own t found value (Looked u word) (Counted x step w v) = omega arith
quiet_looked own t found value (Looked u word) (Looked x w) = omega arith
quiet_looked own t found value (Looked u word) (Read x place given since owned unclean) =
    go (same_title u t) (same_title x t) (eqb word found) (eqb given value) _
  where
    go : (a b c d e : Bool) → one ((a && b) && ((c && d) && e)) ≤ one (a && c)
    go true true true d e = one_small (d && e)
    go true true false d e = omega arith
    go true false c d e = omega arith
    go false b c d e = omega arith
quiet_looked own t found value (Looked u word) (Added w bytes) = omega arith
quiet_looked own t found value (Looked u word) (Entered keeper numbers) = omega arith
quiet_looked own t found value (Looked u word) (Uncut again) = omega arith
quiet_looked own t found value (Counted u step w v) b = omega arith
quiet_looked own t found value (Read u place v since owned unclean) b = omega arith
quiet_looked own t found value (Added w bytes) b = omega arith
quiet_looked own t found value (Entered keeper numbers) b = omega arith
quiet_looked own t found value (Uncut again) b = omega arith

-- pairs that weigh at most their first entry
pairs_first : (weight : Entry → Entry → ℕ) (f : Entry → ℕ) → ((a b : Entry) → weight a b ≤ f a) → (log : List Entry) →
    pairs weight log ≤ sum_by f log
pairs_first weight f less [] = omega arith
pairs_first weight f less (a ∷ []) = omega arith
pairs_first weight f less (a ∷ b ∷ log) =
    let again = pairs_first weight f less (b ∷ log) in
    let here = less a b in
    omega (arith, sum_by-cons f a (b ∷ log))

-- over all views
pub paired_looked : (views : List View) (own : Bool) (t : Title) (found value : ℕ) →
    paired_in views (quiet_read own t found value) ≤ logged_in views (looked_at t found)
paired_looked views own t found value =
    sum_by-le-sum_by (λ (v : View). sum_by (λ (s : Stake). pairs (quiet_read own t found value) s.log) v.stakes)
    (λ v. logged_of v (looked_at t found)) views
    (λ v. sum_by-le-sum_by (λ (s : Stake). pairs (quiet_read own t found value) s.log)
    (λ (s : Stake). sum_by (looked_at t found) s.log) v.stakes
    (λ s. pairs_first (quiet_read own t found value) (looked_at t found) (quiet_looked own t found value) s.log))

-- what two sums of pairs gave is right together
pub right_both : (history : Title → List Done) (p q pairs : (Entry → Entry → ℕ) → ℕ) (p_by q_by pairs_by : ℕ → (Entry → Entry → ℕ) → ℕ)
    (logs_by : ℕ → (Entry → ℕ) → ℕ) (poisoned : Title → ℕ → ℕ) → AreRight history p p_by logs_by poisoned →
    AreRight history q q_by logs_by poisoned →
    ((weight : Entry → Entry → ℕ) → pairs weight ≡ p weight + q weight) →
    ((r : ℕ) (weight : Entry → Entry → ℕ) → pairs_by r weight ≡ p_by r weight + q_by r weight) →
    AreRight history pairs pairs_by logs_by poisoned
right_both history p q pairs p_by q_by pairs_by logs_by poisoned a b sums sums_by = record {
  freed = let x = a.freed in let y = b.freed in let s = sums gave_no_poison in omega arith;
  own = λ t found value set some_pair.
      let s = sums (quiet_read true t found value) in
      elim (cases_lt 0 (p (quiet_read true t found value)))
      [ inl y ↦ a.own t found value set y | inr n ↦ b.own t found value set (omega arith) ];
  ref = λ r t found value set some_pair.
      let s = sums_by r (quiet_read false t found value) in
      elim (cases_lt 0 (p_by r (quiet_read false t found value)))
      [ inl y ↦ a.ref r t found value set y | inr n ↦ b.ref r t found value set (omega arith) ];
}

-- no pairs are right
pub right_none : (history : Title → List Done) (pairs : (Entry → Entry → ℕ) → ℕ) (pairs_by : ℕ → (Entry → Entry → ℕ) → ℕ)
    (logs_by : ℕ → (Entry → ℕ) → ℕ) (poisoned : Title → ℕ → ℕ) →
    pairs gave_no_poison ≡ 0 → ((own : Bool) (t : Title) (found value : ℕ) → pairs (quiet_read own t found value) ≡ 0) →
    ((r : ℕ) (own : Bool) (t : Title) (found value : ℕ) → pairs_by r (quiet_read own t found value) ≡ 0) →
    AreRight history pairs pairs_by logs_by poisoned
right_none history pairs pairs_by logs_by poisoned freed none none_by = record {
  freed = freed;
  own = λ t found value set some_pair. let z = none true t found value in absurd (omega arith);
  ref = λ r t found value set some_pair. let z = none_by r false t found value in absurd (omega arith);
}

-- the reason stays, if no counted step was made and no Own got clean
pub freeing_same : (logs_by after_by : ℕ → (Entry → ℕ) → ℕ) (poisoned later : Title → ℕ → ℕ) (history : List Done) (t : Title) (r k : ℕ) →
    ((n : ℕ) → after_by r (counted_at t n) ≡ logs_by r (counted_at t n)) → (0 < poisoned t r → 0 < later t r) →
    IsFreeing logs_by poisoned history t r k → IsFreeing after_by later history t r k
freeing_same logs_by after_by poisoned later history t r k same grows (inl f) = inl (f.0, f.1, same f.0 ∙ f.2)
freeing_same logs_by after_by poisoned later history t r k same grows (inr f) = inr (f.0, grows f.1)

-- reads right after looks stay right if the numbers of such reads and of counted steps stay, and no poisoned Own is lost
pub right_same : (history : Title → List Done) (pairs after : (Entry → Entry → ℕ) → ℕ) (pairs_by after_by : ℕ → (Entry → Entry → ℕ) → ℕ)
    (logs_by logs_after : ℕ → (Entry → ℕ) → ℕ) (poisoned later : Title → ℕ → ℕ) → AreRight history pairs pairs_by logs_by poisoned →
    (after gave_no_poison ≡ pairs gave_no_poison) →
    ((own : Bool) (t : Title) (found value : ℕ) → after (quiet_read own t found value) ≡ pairs (quiet_read own t found value)) →
    ((r : ℕ) (own : Bool) (t : Title) (found value : ℕ) →
    after_by r (quiet_read own t found value) ≡ pairs_by r (quiet_read own t found value)) →
    ((r : ℕ) (t : Title) (n : ℕ) → logs_after r (counted_at t n) ≡ logs_by r (counted_at t n)) →
    ((t : Title) (r : ℕ) → 0 < poisoned t r → 0 < later t r) →
    AreRight history after after_by logs_after later
right_same history pairs after pairs_by after_by logs_by logs_after poisoned later a gave quiet quiet_by logs grows = record {
  freed = gave ∙ a.freed;
  own = λ t found value set some_pair. let z = quiet true t found value in a.own t found value set (omega arith);
  ref = λ r t found value set some_pair.
      let z = quiet_by r false t found value in
      elim (a.ref r t found value set (omega arith)) [
        | inl y ↦ inl y
        | inr f ↦ inr (f.0, freeing_same logs_by logs_after poisoned later (history t) t r (number_of found) (logs r t) (grows t r) f.1)
      ];
}
