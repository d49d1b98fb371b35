-- The view of a seat that cut some titles one after the other.
use Rattle.std.proofs.Common.{◌≡◌, ℕ, ◌+◌, ◌<◌, ◌≤◌, List, [], ◌∷◌, refl, ◌∙◌, subst, arith, ◌⊎◌, inl, inr}
use Rattle.std.specs.Prelude.{Contains, AllPairs, ◌≢◌}
use Rattle.std.proofs.lemmas.List.Sums.{sum_by-cons}
use Rattle.pa_slot.specs.declared.title.Title.{Title}
use Rattle.pa_slot.specs.Titles.{same_title, Covers}
use Rattle.pa_slot.specs.Holdings.{one}
use Rattle.pa_slot.proofs.Same.{title_one}
use Rattle.pa_region.specs.declared.view.View.{View}
use Rattle.pa_region.specs.Views.{free_of, own_of, ref_of, low_of, stake_of, undone_of, seen_of}
use Rattle.pa_region.specs.Waiting.{unclean_of}
use Rattle.pa_region.specs.Lists.{list_of, lease_of, keeper_of}
use Rattle.pa_region.specs.Cuts.{CanCut, after_cut}
use Rattle.pa_region.proofs.CutLaws.{cut_leaves_others, cut_next}
use Rattle.pa_record.specs.Sound.{TitlesApart}
use Rattle.pa_lists.proofs.Members.{not_in_none, first_in, later_in, in_cases}
use Rattle.pa_lists.proofs.Pairs.{pairs_head, pairs_tail}
use Rattle.pa_root.specs.Filling.{CanCutAll, after_cuts}

-- ---- what it leaves

-- nothing but raw bytes and free titles changes
pub record IsBesideCuts (v x : View) : Type 0 where
  pub handles : (t : Title) → own_of x t + ref_of x t ≡ own_of v t + ref_of v t
  pub budget : x.budget ≡ v.budget
  pub stakes : (k : ℕ) → stake_of x k ≡ stake_of v k
  pub unclean : unclean_of x ≡ unclean_of v
  pub keepers : (k : ℕ) → keeper_of x k ≡ keeper_of v k
  pub leases : (n : ℕ) → lease_of x n ≡ lease_of v n
  pub seen : (t : Title) → seen_of x t ≡ seen_of v t
  pub lists : (k : ℕ) → list_of k x ≡ list_of k v
  pub undone : (t : Title) → undone_of x t ≡ undone_of v t

pub beside_cuts : (ts : List Title) (v : View) → IsBesideCuts v (after_cuts ts v)
beside_cuts [] v = record {
  handles = λ t. refl;
  budget = refl;
  stakes = λ k. refl;
  unclean = refl;
  keepers = λ k. refl;
  leases = λ n. refl;
  seen = λ t. refl;
  lists = λ k. refl;
  undone = λ t. refl;
}
beside_cuts (t ∷ ts) v =
    let b = beside_cuts ts (after_cut t v) in
    record {
      handles = b.handles;
      budget = b.budget;
      stakes = b.stakes;
      unclean = b.unclean;
      keepers = b.keepers;
      leases = b.leases;
      seen = b.seen;
      lists = b.lists;
      undone = b.undone;
    }

-- what was free stays free, what was cut is free, and nothing else
free_first : (t u : Title) (v : View) → free_of (after_cut t v) u ≡ one (same_title t u) + free_of v u
free_first t u v = sum_by-cons (λ x. one (same_title x u)) t v.frees

pub free_stays : (ts : List Title) (v : View) (u : Title) → free_of v u ≤ free_of (after_cuts ts v) u
free_stays [] v u = omega arith
free_stays (t ∷ ts) v u =
    let e = free_first t u v in
    let s = free_stays ts (after_cut t v) u in
    omega arith

pub free_cut : (ts : List Title) (v : View) (u : Title) → Contains ts u → 0 < free_of (after_cuts ts v) u
free_cut [] v u among = absurd (not_in_none u among)
free_cut (t ∷ ts) v u among = elim (in_cases t u ts among) [
  | inl here ↦
      let s = free_stays ts (after_cut t v) u in
      let e = free_first t u v in
      elim (title_one t u) [ inl y ↦ let k = y.0 in omega arith | inr n ↦ absurd (n.1 here) ]
  | inr later ↦ free_cut ts (after_cut t v) u later
]

pub free_only : (ts : List Title) (v : View) (u : Title) → 0 < free_of (after_cuts ts v) u → (0 < free_of v u) ⊎ Contains ts u
free_only [] v u free = inl free
free_only (t ∷ ts) v u free = elim (free_only ts (after_cut t v) u free) [
  | inl before ↦
      let e = free_first t u v in
      elim (title_one t u) [
        | inl y ↦ inr (subst (λ x. Contains (t ∷ ts) x) y.1 (first_in t ts))
        | inr n ↦ let k = n.0 in inl (omega arith)
      ]
  | inr later ↦ inr (later_in t u ts later)
]

-- a byte that lies in none of them has its floors
pub low_stays : (ts : List Title) (v : View) (b n : ℕ) → ((t : Title) → Contains ts t → Covers t b → ⊥) →
    low_of (after_cuts ts v) b n ≡ low_of v b n
low_stays [] v b n away = refl
low_stays (t ∷ ts) v b n away =
    low_stays ts (after_cut t v) b n (λ u among. away u (later_in t u ts among)) ∙ cut_leaves_others t v b n (away t (first_in t ts))

-- ---- what can be cut

pub can_cut_all : (ts : List Title) (v : View) → ((t : Title) → Contains ts t → CanCut t v) →
    ((t u : Title) → Contains ts t → Contains ts u → t ≢ u → TitlesApart t u) → AllPairs ◌≢◌ ts → CanCutAll ts v
can_cut_all [] v each apart once = tt
can_cut_all (t ∷ ts) v each apart once =
    let R : Title → Title → Type 0 = λ a b. a ≢ b in (
      each t (first_in t ts),
      can_cut_all ts (after_cut t v)
          (λ u among. cut_next t u v (each u (later_in t u ts among))
          (apart t u (first_in t ts) (later_in t u ts among) (pairs_head R t u ts once among)))
          (λ a b has has'. apart a b (later_in t a ts has) (later_in t b ts has'))
          (pairs_tail R t ts once),
    )
