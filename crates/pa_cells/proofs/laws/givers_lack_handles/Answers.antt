use Rattle.std.proofs.Common.{◌≡◌, ℕ, ◌+◌, ◌<◌, Bool, true, false, List, [], ◌∷◌, refl, sym, ◌∙◌, ap, subst, arith}
use Rattle.std.specs.Prelude.{not, ◌&&◌, if◌then◌else◌}
use Rattle.std.specs.List.{filter, sum_by}
use Rattle.std.proofs.Common.{inl, inr}
use Rattle.std.proofs.lemmas.Bool.{and_parts}
use Rattle.std.proofs.lemmas.List.Sums.{sum_by-cons}
use Rattle.pa_slot.specs.declared.title.Title.{Title}
use Rattle.pa_slot.specs.declared.title.OwnState.{OwnState}
use Rattle.pa_slot.specs.declared.title.OwnState.TheVariants.{Clean}
use Rattle.pa_slot.specs.Titles.{same_title, same_state}
use Rattle.pa_slot.specs.Holdings.{one}
use Rattle.pa_slot.proofs.Same.{state_tells}
use Rattle.pa_region.specs.declared.view.OwnTitle.{OwnTitle}
use Rattle.pa_region.specs.declared.view.Stake.{Stake}
use Rattle.pa_region.specs.Views.{least_stake}
use Rattle.pa_region.specs.Moves.{without, is_title_of}
use Rattle.pa_region.specs.Waiting.{is_unclean}
use Rattle.pa_region.specs.Hands.{is_clean_of, first_sealed}
use Rattle.pa_region.specs.Marks.{marked_stake}
use Rattle.pa_region.proofs.Pieces.{found_title}
use Rattle.pa_cells.proofs.laws.givers_lack_handles.Goals as goal

-- a sum without the first member that passes a test, if the amount of each that passes is the same
sum_without : {A : Type 0} (test : A → Bool) (f : A → ℕ) (amount : ℕ) (xs : List A) → ((x : A) → test x ≡ true → f x ≡ amount)
    → 0 < sum_by (λ x. one (test x)) xs → sum_by f (without test xs) + amount ≡ sum_by f xs
sum_without test f amount [] is there = absurd (omega arith)
sum_without {A} test f amount (x ∷ xs) is there =
    go (test x) refl (let e = sum_by-cons (λ y. one (test y)) x xs in omega arith) (λ has. sum_without test f amount xs is has) ∙
    sym (sum_by-cons f x xs)
  where
    go : (b : Bool) → test x ≡ b → 0 < one b + sum_by (λ y. one (test y)) xs
        → (0 < sum_by (λ y. one (test y)) xs → sum_by f (without test xs) + amount ≡ sum_by f xs)
        → sum_by f (if b then xs else x ∷ without test xs) + amount ≡ f x + sum_by f xs
    go true passes has later = let e = is x passes in omega arith
    go false fails has later =
        let e = later (omega arith) in
        let first = sum_by-cons f x (without test xs) in
        let both : sum_by f (x ∷ without test xs) + amount ≡ f x + sum_by f xs = omega arith in
        both

state_is : (a b : OwnState) → same_state a b ≡ true → a ≡ b
state_is a b e = elim (state_tells a b) [ inl y ↦ y.1 | inr n ↦ cc ]

-- each Own that passes is of the title, and clean
own_is : (t : Title) (o : OwnTitle) → is_clean_of t o ≡ true → (o.title ≡ t) × (o.state ≡ Clean)
own_is t o e =
    let both = and_parts (same_title o.title t) (same_state o.state Clean) e in (
      found_title t o.title both.0,
      state_is o.state Clean both.1,
    )

-- the sealed Owns without the first clean one, by whether that one is sealed
seals_without : (t u : Title) (os : List OwnTitle) → 0 < sum_by (λ (o : OwnTitle). one (is_clean_of t o)) os →
    sum_by (λ (o : OwnTitle). one (same_title o.title u && o.sealed)) (without (is_clean_of t) os)
    + one (same_title t u && first_sealed (is_clean_of t) os) ≡ sum_by (λ (o : OwnTitle). one (same_title o.title u && o.sealed)) os
seals_without t u [] there = absurd (omega arith)
seals_without t u (o ∷ os) there =
    go (is_clean_of t o) refl (let e = sum_by-cons (λ (x : OwnTitle). one (is_clean_of t x)) o os in omega arith) (seals_without t u os)
  where
    seal : OwnTitle → ℕ
    seal x = one (same_title x.title u && x.sealed)

    go : (b : Bool) → is_clean_of t o ≡ b → 0 < one b + sum_by (λ (x : OwnTitle). one (is_clean_of t x)) os
        → (0 < sum_by (λ (x : OwnTitle). one (is_clean_of t x)) os →
        sum_by seal (without (is_clean_of t) os) + one (same_title t u && first_sealed (is_clean_of t) os) ≡ sum_by seal os)
        → sum_by seal (if b then os else o ∷ without (is_clean_of t) os)
        + one (same_title t u && (if b then o.sealed else first_sealed (is_clean_of t) os)) ≡ sum_by seal (o ∷ os)
    go true passes has later =
        let e : seal o ≡ one (same_title t u && o.sealed) = ap (λ (w : Title). one (same_title w u && o.sealed)) (own_is t o passes).0 in
        omega (arith, sum_by-cons seal o os)
    go false fails has later =
        let e = later (omega arith) in
        omega (arith, sum_by-cons seal o os, sum_by-cons seal o (without (is_clean_of t) os))

-- no stake is marked, so all stay
all_stay : (stakes : List Stake) → filter (λ (s : Stake). not (marked_stake [] s.number)) stakes ≡ stakes
all_stay [] = refl
all_stay (s ∷ stakes) = ap (λ (ss : List Stake). s ∷ ss) (all_stay stakes)

pub returns : goal.returns
returns c true t budget v holds = record {
  owns = λ u. sum_without (is_clean_of t) (λ (o : OwnTitle). one (same_title o.title u)) (one (same_title t u)) v.owns
      (λ o is. ap (λ (w : Title). one (same_title w u)) (own_is t o is).0) holds;
  sealed = λ u. seals_without t u v.owns holds;
  refs = λ u. omega arith;
  frees = λ u. refl;
  stakes = all_stay v.stakes;
  lends = λ can. (
    subst (λ (ss : List Stake). least_stake ss < 16) (sym (all_stay v.stakes)) can.0,
    (let same = sum_without (is_clean_of t) (λ (o : OwnTitle). one (is_unclean o.state)) 0 v.owns
        (λ o is. ap (λ (s : OwnState). one (is_unclean s)) (own_is t o is).1) holds in let clean = can.1 in omega arith),
  );
}
returns c false t budget v holds = record {
  owns = λ u. omega arith;
  sealed = λ u. omega arith;
  refs = λ u. sum_without (is_title_of t) (λ (w : Title). one (same_title w u)) (one (same_title t u)) v.refs
      (λ w is. ap (λ (x : Title). one (same_title x u)) (found_title t w is)) holds;
  frees = λ u. refl;
  stakes = all_stay v.stakes;
  lends = λ can. (subst (λ (ss : List Stake). least_stake ss < 16) (sym (all_stay v.stakes)) can.0, can.1);
}
