-- Sums over a list in which members change.
use Rattle.std.proofs.Common.{◌≡◌, ℕ, zero, suc, ◌+◌, ◌-◌, ◌<◌, List, [], ◌∷◌, length, get_or, refl, arith}
use Rattle.std.specs.List.{sum_by}
use Rattle.std.proofs.lemmas.List.Sums.{sum_by-cons}

-- a function of the index, added up over the places of a list
abbrev pub spread : {A : Type 0} → (ℕ → ℕ) → List A → ℕ
spread f [] = 0
spread f (x ∷ xs) = f 0 + spread (λ i. f (suc i)) xs

pub spread-zero : {A : Type 0} (xs : List A) (f : ℕ → ℕ) → ((i : ℕ) → f i ≡ 0) → spread f xs ≡ 0
spread-zero [] f h = refl
spread-zero (x ∷ xs) f h = let e = spread-zero xs (λ i. f (suc i)) (λ i. h (suc i)) in
    let e0 = h 0 in omega arith

-- a function that is 0 but at one place
pub spread-one : {A : Type 0} (xs : List A) (f : ℕ → ℕ) (a v : ℕ) → f a ≡ v → ((i : ℕ) → (i ≡ a → ⊥) → f i ≡ 0) → a < length xs →
    spread f xs ≡ v
spread-one [] f a v h z l = absurd (omega arith)
spread-one (x ∷ xs) f zero v h z l =
    let e = spread-zero xs (λ i. f (suc i)) (λ i. z (suc i) (λ q. omega arith)) in omega arith
spread-one (x ∷ xs) f (suc a) v h z l =
    let e = spread-one xs (λ i. f (suc i)) a v h (λ i ne. z (suc i) (λ q. ne (omega arith))) (omega arith) in
    let e0 = z 0 (λ q. omega arith) in omega arith

-- if each member's amount with what is lost is the old one with what is gained, the sums are so too
pub sum-exchange : {A : Type 0} (f : A → ℕ) (d : A) (xs ys : List A) (l g : ℕ → ℕ) → length ys ≡ length xs
    → ((i : ℕ) → i < length xs → f (get_or ys i d) + l i ≡ f (get_or xs i d) + g i)
    → sum_by f ys + spread l xs ≡ sum_by f xs + spread g xs
sum-exchange f d [] [] l g e h = refl
sum-exchange f d [] (y ∷ ys) l g e h = absurd (omega arith)
sum-exchange f d (x ∷ xs) [] l g e h = absurd (omega arith)
sum-exchange f d (x ∷ xs) (y ∷ ys) l g e h =
    let again = sum-exchange f d xs ys (λ i. l (suc i)) (λ i. g (suc i)) (omega arith) (λ i below. h (suc i) (omega arith)) in
    let here = h 0 (omega arith) in
    let left = sum_by-cons f y ys in
    let right = sum_by-cons f x xs in
    omega arith
