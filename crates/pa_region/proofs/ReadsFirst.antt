-- At the start no log has an entry, and no view an Own.
use Rattle.std.proofs.Common.{◌≡◌, ℕ, zero, suc, List, [], ◌∷◌, None, Some, refl, sym, ◌∙◌, ap, subst, arith, inl, inr, eqb}
use Rattle.std.specs.List.{sum_by}
use Rattle.std.proofs.lemmas.List.Sums.{sum_by-cons}
use Rattle.std.proofs.lemmas.Bool.{cases_Bool}
use mathlib.Core.Option.{some, some-injective, some-ne-none}
use lib.ListN.{get_elem?}
use Rattle.pa_region.specs.declared.view.Entry.{Entry}
use Rattle.pa_region.specs.declared.view.Entry.TheVariants.{Looked}
use Rattle.pa_region.specs.declared.view.Stake.{Stake}
use Rattle.pa_region.specs.declared.view.View.{View}
use Rattle.pa_region.specs.Views.{least_stake}
use Rattle.pa_region.specs.Start.{stakes_from, first_view}
use Rattle.pa_region.specs.Pairs.{pairs, amount_by, log_among, least_log, last_entry, paired_in, paired_by, logged_by}
use Rattle.pa_region.specs.Waiting.{gave_no_poison, quiet_read, poisoned_apart, IsReader, Reads}
use Rattle.pa_region.proofs.Readings.{right_none}

-- logs without entries
pub first_log : (k from count : ℕ) → log_among k (stakes_from from count) ≡ []
first_log k from zero = refl
first_log k from (suc count) = elim (cases_Bool (eqb from k)) [ inl y ↦ rw y refl | inr n ↦ rw n (first_log k (suc from) count) ]

first_sum : (amount : Stake → ℕ) (from count : ℕ) → ((n : ℕ) → amount (record { number = n; log = [] }) ≡ 0) →
    sum_by amount (stakes_from from count) ≡ 0
first_sum amount from zero none = refl
first_sum amount from (suc count) none =
    let again = first_sum amount (suc from) count none in
    let here = none from in
    omega (arith, sum_by-cons amount (record { number = from; log = [] }) (stakes_from (suc from) count))

-- over all views
pub first_all : (amount : Stake → ℕ) (words budget : ℕ) → ((n : ℕ) → amount (record { number = n; log = [] }) ≡ 0) →
    sum_by (λ (v : View). sum_by amount v.stakes) (first_view words budget ∷ []) ≡ 0
first_all amount words budget none =
    let z = first_sum amount 0 16 none in
    omega (arith, sum_by-cons (λ (v : View). sum_by amount v.stakes) (first_view words budget) [])

-- an amount of no entry
pub no_amount : (r n : ℕ) (amount : List Entry → ℕ) → amount [] ≡ 0 → amount_by r amount (record { number = n; log = [] }) ≡ 0
no_amount r n amount none = elim (cases_Bool (eqb n r)) [ inl y ↦ rw y none | inr m ↦ rw m refl ]

-- in a new region there is no read, so reads are right
pub reads_first : (words budget : ℕ) (bytes : List ℕ) → Reads (λ t. []) bytes (first_view words budget ∷ [])
reads_first words budget bytes = record {
  right = right_none (λ t. []) (paired_in views) (paired_by views) (logged_by views) (poisoned_apart views)
      (first_all (λ (s : Stake). pairs gave_no_poison s.log) words budget (λ n. refl))
      (λ own t found value. first_all (λ (s : Stake). pairs (quiet_read own t found value) s.log) words budget (λ n. refl))
      (λ r own t found value. first_all (amount_by r (pairs (quiet_read own t found value))) words budget
      (λ n. no_amount r n (pairs (quiet_read own t found value)) refl));
  each_view = λ i v at_i. subst (λ (u : View). IsReader (λ t. []) bytes u) (only i v at_i) first;
}
  where
    views : List View
    views = first_view words budget ∷ []

    only : (i : ℕ) (v : View) → get_elem? views i ≡ some v → first_view words budget ≡ v
    only zero v at_i = some-injective (first_view words budget) v at_i
    only (suc i) v at_i = absurd (some-ne-none v (sym at_i))

    first : IsReader (λ t. []) bytes (first_view words budget)
    first = record {
      waits = λ t found is quiet.
          let none : last_entry (least_log (stakes_from 0 16)) ≡ None = ap last_entry (first_log (least_stake (stakes_from 0 16)) 0 16) in
          let no_look : Some (Looked t found) ≡ None = sym is ∙ none in
          absurd (cc);
      stake = λ some_own. absurd (omega arith);
    }
