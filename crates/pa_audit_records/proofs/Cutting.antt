-- Lists whose members are of phases that rise, and where each phase ends.
use Rattle.std.proofs.Common.{◌≡◌, ℕ, zero, suc, ◌+◌, ◌<◌, ◌≤◌, List, [], ◌∷◌, ◌++◌, length, take, get_or, map, Some, refl, sym, ◌∙◌, ap, subst, arith, inl, inr}
use Rattle.std.specs.Prelude.{Contains, AllPairs, slice_get, nat_le}
use Rattle.std.proofs.lemmas.Bool.{cases_lt, cases_eq, le-leb, lt-leb}
use Rattle.std.proofs.lemmas.List.{length-append, length-map}
use Rattle.std.proofs.lemmas.Option.{slice_get_within, get_or_from_slice_get, slice_get-get_or}
use Rattle.pa_lists.proofs.Joined.{map_cases}
use Rattle.pa_lists.proofs.Members.{not_some, of_some}
use Rattle.pa_lists.proofs.Pairs.{pairs_cons, pairs_head, pairs_none, pairs_tail}
use Rattle.pa_record.proofs.Filtered.{filter_none}
use Rattle.pa_rules.specs.declared.played.Played.{Played}
use Rattle.pa_rules.specs.Report.{until}
use Rattle.pa_audit_records.specs.Cuts.{HasEach, IsCut, IsLow, RiseByPhase}

-- ---- places

pub each_none : {A : Type 0} (R : ℕ → A → Type 0) → HasEach R []
each_none R i x at = absurd (not_some x at)

pub each_push : {A : Type 0} (R : ℕ → A → Type 0) (xs : List A) (y : A) → HasEach R xs → R (length xs) y → HasEach R (xs ++ y ∷ [])
each_push R [] y h here zero x at = subst (λ z. R 0 z) (of_some y x at) here
each_push R [] y h here (suc i) x at = absurd (not_some x at)
each_push R (z ∷ zs) y h here zero x at = h zero x at
each_push R (z ∷ zs) y h here (suc i) x at = each_push (λ k. R (suc k)) zs y (λ k u at'. h (suc k) u at') here i x at

pub each_next : {A : Type 0} (R : ℕ → A → Type 0) (xs ys : List A) (y : A) (n : ℕ) → ys ≡ xs ++ y ∷ [] → length xs ≡ n →
    HasEach R xs → R n y → HasEach R ys
each_next R xs ys y n is long h here = subst (λ zs. HasEach R zs) (sym is) (each_push R xs y h (subst (λ k. R k y) (sym long) here))

pub long_next : {A : Type 0} (xs ys : List A) (y : A) (n : ℕ) → ys ≡ xs ++ y ∷ [] → length xs ≡ n → length ys ≡ n + 1
long_next xs ys y n is long = let a = length-append xs (y ∷ []) in ap length is ∙ a ∙ ap (λ k. k + 1) long

-- ---- cuts

pub low_none : (phases : List ℕ) (phase : ℕ) → IsLow phases phase 0
low_none phases phase = record { within = omega arith; low = λ k n at less. absurd (omega (arith, less)) }

pub low_more : (phases : List ℕ) (n end x : ℕ) → slice_get phases end ≡ Some x → x ≤ n → IsLow phases n end → IsLow phases n (end + 1)
low_more phases n end x at few h =
    let inside = slice_get_within phases end x at in
    record {
      within = omega arith;
      low = λ k y there less. elim (cases_lt k end) [
        | inl before ↦ h.low k y there before
        | inr least ↦
            let same : k ≡ end = omega (arith, less, least) in
            let one : y ≡ x = of_some y x (sym there ∙ ap (λ z. slice_get phases z) same ∙ at) in
            omega arith
      ];
    }

pub cut_here : (phases : List ℕ) (n end : ℕ) → AllPairs ◌≤◌ phases → IsLow phases n end →
    ((m : ℕ) → slice_get phases end ≡ Some m → n < m) → IsCut phases n end
cut_here phases n end rising low stop = record {
  front = low;
  high = λ k m at more. elim (cases_eq k end) [
    | inl same ↦ stop m (ap (λ z. slice_get phases z) (sym same) ∙ at)
    | inr other ↦
        let inside = slice_get_within phases k m at in
        let below : end < k = omega arith in
        let first : ℕ = get_or phases end 0 in
        let there : slice_get phases end ≡ Some (get_or phases end 0) = slice_get-get_or phases end 0 (omega arith) in
        let up = stop (get_or phases end 0) there in
        let last : get_or phases k 0 ≡ m = get_or_from_slice_get phases k m 0 at in
        let step = rising end k 0 below inside in
        omega (arith, up, step, last)
  ];
}

pub cut_order : (phases : List ℕ) (n m from end : ℕ) → n ≤ m → IsLow phases n from → IsCut phases m end → from ≤ end
cut_order phases n m from end up low cut = elim (cases_lt end from) [
  | inl less ↦
      let inside = low.within in
      let there : slice_get phases end ≡ Some (get_or phases end 0) = slice_get-get_or phases end 0 (omega arith) in
      let a = low.low end (get_or phases end 0) there less in
      let b = cut.high end (get_or phases end 0) there (omega arith) in
      absurd (omega (arith, a, b, up))
  | inr more ↦ more
]

pub cut_tail : (x : ℕ) (xs : List ℕ) (n end : ℕ) → IsCut (x ∷ xs) n (suc end) → IsCut xs n end
cut_tail x xs n end h =
    let inside = h.front.within in
    record {
      front = record { within = omega arith; low = λ k m at less. h.front.low (suc k) m at (omega arith) };
      high = λ k m at more. h.high (suc k) m at (omega arith);
    }

-- ---- records

all_past : (ps : List Played) (n : ℕ) → IsCut (map (λ (x : Played). x.phase) ps) n 0 → (x : Played) → Contains ps x → n < x.phase
all_past ps n h x (i, below, is) =
    let there : slice_get (map (λ (y : Played). y.phase) ps) i ≡ Some x.phase =
    at_phase ps i x (slice_get-get_or ps i x below ∙ ap Some is) in
    h.high i x.phase there (omega arith)
  where
    at_phase : (ys : List Played) (k : ℕ) (y : Played) → slice_get ys k ≡ Some y →
        slice_get (map (λ (z : Played). z.phase) ys) k ≡ Some y.phase
    at_phase [] k y at = absurd (not_some y at)
    at_phase (z ∷ zs) zero y at = ap (λ (u : Played). Some u.phase) (of_some z y at)
    at_phase (z ∷ zs) (suc k) y at = at_phase zs k y at

-- the records up to a cut are those until the end of its phase
pub until_is : (ps : List Played) (n end : ℕ) → IsCut (map (λ (x : Played). x.phase) ps) n end → take end ps ≡ until n ps
until_is [] n zero h = refl
until_is [] n (suc end) h = refl
until_is (x ∷ ps) n zero h =
    sym (filter_none (λ (y : Played). nat_le y.phase n) (x ∷ ps) (λ y among. lt-leb y.phase n (all_past (x ∷ ps) n h y among)))
until_is (x ∷ ps) n (suc end) h =
    let few : x.phase ≤ n = h.front.low 0 x.phase refl (omega arith) in
    rw (le-leb x.phase n few) (ap (λ ys. x ∷ ys) (until_is ps n end (cut_tail x.phase (map (λ (y : Played). y.phase) ps) n end h)))

pub within_records : (ps : List Played) (n end : ℕ) → IsCut (map (λ (x : Played). x.phase) ps) n end → end ≤ length ps
within_records ps n end h = let a = h.front.within in let b = length-map ps (λ (x : Played). x.phase) in omega arith

-- the phases of records that rise are a list that rises
pub phases_sorted : (ps : List Played) → RiseByPhase ps → AllPairs ◌≤◌ (map (λ (x : Played). x.phase) ps)
phases_sorted [] h = pairs_none ◌≤◌
phases_sorted (x ∷ xs) h =
    pairs_cons ◌≤◌ x.phase (map (λ (y : Played). y.phase) xs)
    (λ n among.
    let (y, member, is) = map_cases (λ (y : Played). y.phase) xs n among in
    let up = pairs_head (λ (u v : Played). u.phase ≤ v.phase) x y xs h member in
    subst (λ k. x.phase ≤ k) is up)
    (phases_sorted xs (pairs_tail (λ (u v : Played). u.phase ≤ v.phase) x xs h))
