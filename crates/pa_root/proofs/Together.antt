-- What the seat of a root has that took in a note and then made entries.
use Rattle.std.proofs.Common.{◌≡◌, ℕ, ◌+◌, ◌<◌, List, [], ◌∷◌, length, refl, sym, ◌∙◌, ap, subst, arith}
use Rattle.std.specs.List.{sum_by}
use Rattle.std.proofs.lemmas.List.Sums.{sum_by-cons}
use Rattle.pa_slot.specs.declared.title.Title.{Title}
use Rattle.pa_slot.specs.Titles.{same_title, IsWellFormed}
use Rattle.pa_slot.specs.Holdings.{FreeTitle, OwnOf, RefOf, one}
use Rattle.pa_slot.proofs.Same.{title_self}
use Rattle.pa_region.specs.declared.view.OwnTitle.{OwnTitle}
use Rattle.pa_region.specs.declared.view.View.{View}
use Rattle.pa_region.specs.Views.{free_of, own_of, ref_of, low_of, seen_of, stake_of}
use Rattle.pa_region.specs.Waiting.{is_unclean, unclean_of}
use Rattle.pa_region.specs.Lists.{list_of, lease_of, IsBeginning}
use Rattle.pa_region.specs.Hands.{united}
use Rattle.pa_region.specs.Lending.{Keeps, HostsKeeper}
use Rattle.pa_region.specs.Aware.{IsAware}
use Rattle.pa_region.proofs.Pieces.{frees_have, owns_have, refs_have}
use Rattle.pa_region.proofs.JoinStep.{united_parts}
use Rattle.pa_region.proofs.TakeLaws.{left_begins, left_number, right_number}
use Rattle.pa_region.proofs.LendBack.{begins_on, kept_number}
use Rattle.pa_shelf.specs.Moving.{Rewritten}
use Rattle.pa_root.proofs.Seeing.{free_kept, handles_kept}

-- a seat that has no Own has none that isn't clean
pub no_own_clean : (v : View) → ((t : Title) → own_of v t ≡ 0) → unclean_of v ≡ 0
no_own_clean v none = by_owns v.owns none
  where
    by_owns : (os : List OwnTitle) → ((t : Title) → sum_by (λ (o : OwnTitle). one (same_title o.title t)) os ≡ 0) →
        sum_by (λ (o : OwnTitle). one (is_unclean o.state)) os ≡ 0
    by_owns [] h = refl
    by_owns (o ∷ os) h =
        let c = sum_by-cons (λ (y : OwnTitle). one (same_title y.title o.title)) o os in
        let n = h o.title in
        let k : one (same_title o.title o.title) ≡ 1 = ap one (title_self o.title) in
        absurd (omega arith)

-- ---- the two together

pub free_both : (v w : View) (t : Title) → free_of (united v w) t ≡ free_of v t + free_of w t
free_both v w t =
    let e = (united_parts v w).things (FreeTitle t) in
    let a = frees_have (united v w) t in
    let b = frees_have v t in
    let c = frees_have w t in
    omega arith

pub handles_both : (v w : View) (t : Title) →
    own_of (united v w) t + ref_of (united v w) t ≡ own_of v t + ref_of v t + (own_of w t + ref_of w t)
handles_both v w t =
    let e = (united_parts v w).things (OwnOf t) in
    let f = (united_parts v w).things (RefOf t) in
    let a = owns_have (united v w) t in
    let b = owns_have v t in
    let c = owns_have w t in
    let a' = refs_have (united v w) t in
    let b' = refs_have v t in
    let c' = refs_have w t in
    omega arith

-- a seat with a keeper that may be lent a stake still may
pub hosts_both : (p : ℕ) (v w : View) → HostsKeeper p v → ((k : ℕ) → stake_of w k ≡ 0) → unclean_of w ≡ 0 → HostsKeeper p (united v w)
hosts_both p v w ((none, clean), has) stakes unclean =
    let parts = united_parts v w in (
      (
        (λ k. let e = parts.stakes k in let a = none k in let b = stakes k in omega arith),
        (let e = parts.unclean in omega arith),
      ),
      (let e = parts.keepers p in omega arith),
    )

-- ---- after it wrote records and links, and what it kept since

module _ (v w y x : View) (wrote : Rewritten (united v w) y) (keeps : Keeps y x) where
  pub free_now : (t : Title) → free_of x t ≡ free_of v t + free_of w t
  free_now t = free_kept y x t keeps ∙ ap (λ z. free_of z t) wrote.rest ∙ free_both v w t

  pub handles_now : (t : Title) → own_of x t + ref_of x t ≡ own_of v t + ref_of v t + (own_of w t + ref_of w t)
  handles_now t = handles_kept y x t keeps ∙ ap (λ z. own_of z t + ref_of z t) wrote.rest ∙ handles_both v w t

  pub low_now : (b n : ℕ) → 0 < low_of v b n → 0 < low_of x b n
  low_now b n some =
      let e = (united_parts v w).floors b n in
      let k = keeps.floors b n in
      let r : low_of y b n ≡ low_of (united v w) b n = ap (λ z. low_of z b n) wrote.rest in
      omega arith

  pub lease_now : (n : ℕ) → 0 < lease_of v n → 0 < lease_of x n
  lease_now n some =
      let e = (united_parts v w).leases n in
      let k = keeps.leases n in
      let r : lease_of y n ≡ lease_of (united v w) n = ap (λ z. lease_of z n) wrote.rest in
      omega arith

  pub budget_now : x.budget ≡ v.budget + w.budget
  budget_now = let e = (united_parts v w).budget in keeps.budget ∙ ap (λ (z : View). z.budget) wrote.rest ∙ sym e

  pub lists_now : (k : ℕ) → list_of k y ≡ list_of k (united v w)
  lists_now k = ap (list_of k) wrote.rest

  pub pool_begins : IsAware (united v w) → IsBeginning (list_of 4 v) (list_of 4 x)
  pool_begins both =
      begins_on (list_of 4 v) (list_of 4 (united v w)) (list_of 4 x) (left_begins v w 4 both)
      (subst (λ l. IsBeginning l (list_of 4 x)) (lists_now 4) (keeps.lists 4))

  -- it has seen the same number of each title as the seat that held it free
  number_now : (n : ℕ) (t : Title) → IsAware y → IsAware x → IsWellFormed n t → 0 < free_of (united v w) t →
      seen_of x t ≡ seen_of (united v w) t
  number_now n t there now well free =
      kept_number y x n t there now keeps well (subst (λ z. 0 < free_of z t) (sym wrote.rest) free) ∙ ap (λ z. seen_of z t) wrote.rest

  pub left_now : (n : ℕ) (t : Title) → IsAware v → IsAware (united v w) → IsAware y → IsAware x → length v.words ≡ length w.words →
      IsWellFormed n t →
      0 < free_of v t → seen_of x t ≡ seen_of v t
  left_now n t aware both there now long well free =
      let e = free_both v w t in
      number_now n t there now well (omega arith) ∙ left_number v w n t aware both long well free

  pub right_now : (n : ℕ) (t : Title) → IsAware w → IsAware (united v w) → IsAware y → IsAware x → length v.words ≡ length w.words →
      IsWellFormed n t →
      0 < free_of w t → seen_of x t ≡ seen_of w t
  right_now n t aware both there now long well free =
      let e = free_both v w t in
      number_now n t there now well (omega arith) ∙ right_number v w n t aware both long well free
