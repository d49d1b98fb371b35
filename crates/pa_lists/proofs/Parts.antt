-- The parts of a list: what comes before a member and after it, and pairs across two parts.
use Rattle.std.proofs.Common.{◌≡◌, List, [], ◌∷◌, ◌++◌, map, refl, ◌∙◌, ap, subst, inl, inr}
use Rattle.std.specs.Prelude.{Contains, AllPairs}
use Rattle.std.proofs.lemmas.List.Elements.{Contains-append_right}
use Rattle.pa_lists.proofs.Members.{not_in_none, in_cases}
use Rattle.pa_lists.proofs.Pairs.{pairs_head, pairs_tail}

pub pairs_across : {A : Type 0} (R : A → A → Type 0) (xs ys : List A) (x y : A) → AllPairs R (xs ++ ys) → Contains xs x → Contains ys y →
    R x y
pairs_across R [] ys x y h first second = absurd (not_in_none x first)
pairs_across R (z ∷ xs) ys x y h first second = elim (in_cases z x xs first) [
  | inl e ↦ subst (λ u. R u y) e (pairs_head R z y (xs ++ ys) h (Contains-append_right xs ys y second))
  | inr rest ↦ pairs_across R xs ys x y (pairs_tail R z (xs ++ ys) h) rest second
]

pub pairs_after : {A : Type 0} (R : A → A → Type 0) (xs ys : List A) → AllPairs R (xs ++ ys) → AllPairs R ys
pairs_after R [] ys h = h
pairs_after R (x ∷ xs) ys h = pairs_after R xs ys (pairs_tail R x (xs ++ ys) h)

pub map_parts : {A B : Type 0} (f : A → B) (xs : List A) (ys : List B) (y : B) (zs : List B) → map f xs ≡ ys ++ y ∷ zs →
    (before : List A) × (x : A) × (after : List A) × (xs ≡ before ++ x ∷ after) × (map f before ≡ ys) × (f x ≡ y)
map_parts f [] [] y zs e = absurd cc
map_parts f [] (w ∷ ys) y zs e = absurd cc
map_parts f (x ∷ xs) [] y zs e = ([], x, xs, refl, refl, cc)
map_parts f (x ∷ xs) (w ∷ ys) y zs e =
    let head : f x ≡ w = cc in
    let rest : map f xs ≡ ys ++ y ∷ zs = cc in
    let (before, z, after, parts, same, is) = map_parts f xs ys y zs rest in
    (x ∷ before, z, after, ap (λ us. x ∷ us) parts, ap (λ v. v ∷ map f before) head ∙ ap (λ vs. w ∷ vs) same, is)

pub parts_at : {A : Type 0} (xs : List A) (x : A) → Contains xs x → (before rest : List A) × (xs ≡ before ++ x ∷ rest)
parts_at [] x among = absurd (not_in_none x among)
parts_at (y ∷ ys) x among = elim (in_cases y x ys among) [
  | inl e ↦ ([], ys, ap (λ z. z ∷ ys) e)
  | inr later ↦ let (before, rest, parts) = parts_at ys x later in (y ∷ before, rest, ap (λ zs. y ∷ zs) parts)
]
