-- A list without a part of its middle, and what stays of it.
use Rattle.std.proofs.Common.{◌≡◌, ℕ, zero, suc, ◌-◌, ◌≤◌, List, [], ◌∷◌, ◌++◌, length, take, drop, refl, sym, ◌∙◌, ap, arith}
use Rattle.std.specs.Prelude.{All, AllPairs}
use Rattle.std.proofs.lemmas.List.{length-drop}
use Rattle.std.proofs.lemmas.List.Elements.{All-take}
use Rattle.std.proofs.lemmas.List.Kept.{AllPairs-cons}
use Rattle.pa_lists.proofs.Pairs.{pairs_tail}

-- the list without its titles from k on, up to m
abbrev pub outside : {X : Type 0} → ℕ → ℕ → List X → List X
outside k m xs = take k xs ++ drop m xs

module _ {X : Type 0} where
  -- the first k members outside are those of the list
  pub first_stay : (k m : ℕ) (xs : List X) → k ≤ m → take k (outside k m xs) ≡ take k xs
  first_stay zero m xs le = refl
  first_stay (suc k) zero xs le = absurd (omega arith)
  first_stay (suc k) (suc m) [] le = refl
  first_stay (suc k) (suc m) (x ∷ xs) le = ap (λ ys. x ∷ ys) (first_stay k m xs (omega arith))

  pub later_stay : (k m : ℕ) (xs : List X) → k ≤ m → drop k (outside k m xs) ≡ drop m xs
  later_stay zero m xs le = refl
  later_stay (suc k) zero xs le = absurd (omega arith)
  later_stay (suc k) (suc m) [] le = refl
  later_stay (suc k) (suc m) (x ∷ xs) le = later_stay k m xs (omega arith)

  -- how many are after the first k
  pub later_count : (k m : ℕ) (xs : List X) → k ≤ m → length (outside k m xs) - k ≡ length xs - m
  later_count k m xs le = sym (length-drop k (outside k m xs)) ∙ ap length (later_stay k m xs le) ∙ length-drop m xs

  -- what holds of all pairs does of those at the front, and of those after them
  pairs_head : (R : X → X → Type 0) (x : X) (xs : List X) → AllPairs R (x ∷ xs) → All (R x) xs
  pairs_head R x xs all = λ k d within. all 0 (suc k) d (omega arith) (omega arith)

  pub pairs_take : (R : X → X → Type 0) (n : ℕ) (xs : List X) → AllPairs R xs → AllPairs R (take n xs)
  pairs_take R zero xs all = λ i j d less within. absurd (omega arith)
  pairs_take R (suc n) [] all = all
  pairs_take R (suc n) (x ∷ xs) all =
      AllPairs-cons R x (take n xs) (All-take (R x) n xs (pairs_head R x xs all)) (pairs_take R n xs (pairs_tail R x xs all))

  pub pairs_drop : (R : X → X → Type 0) (n : ℕ) (xs : List X) → AllPairs R xs → AllPairs R (drop n xs)
  pairs_drop R zero xs all = all
  pairs_drop R (suc n) [] all = all
  pairs_drop R (suc n) (x ∷ xs) all = pairs_drop R n xs (pairs_tail R x xs all)

  -- what is outside isn't longer than the list
  pub outside_short : (k m : ℕ) (xs : List X) → k ≤ m → length (outside k m xs) ≤ length xs
  outside_short zero m xs le = omega (arith, length-drop m xs)
  outside_short (suc k) zero xs le = absurd (omega arith)
  outside_short (suc k) (suc m) [] le = omega arith
  outside_short (suc k) (suc m) (x ∷ xs) le = let s = outside_short k m xs (omega arith) in omega arith
