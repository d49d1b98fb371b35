-- Texts that are joined of parts.
use Rattle.std.proofs.Common.{◌≡◌, ℕ, List, [], ◌∷◌, ◌++◌, length, drop, sym, subst, ap, ◌∙◌}
use Rattle.std.proofs.lemmas.List.{append_assoc, take-append-drop}
use Rattle.std.proofs.Math.Seq.{take-append_seam}
use Rattle.std.specs.Io.{StartsWith}

-- a text with more after it starts with that text
pub starts_more : (xs ys : List ℕ) → StartsWith (xs ++ ys) xs
starts_more xs ys = take-append_seam xs ys

-- a name is its start, a dot and its born
pub slot_joined : (before start born : List ℕ)
    → (before ++ start) ++ 46 ∷ [] ++ born ≡ before ++ (start ++ 46 ∷ born)
slot_joined before start born = simp append_assoc

-- a text that starts with two parts starts with the first
pub starts_before : (xs before more : List ℕ) → StartsWith xs (before ++ more) → StartsWith xs before
starts_before xs before more h =
    let n = length (before ++ more) in
    let e : xs ≡ before ++ (more ++ drop n xs) =
    sym (take-append-drop n xs) ∙ ap (λ ys. ys ++ drop n xs) h ∙ append_assoc before more (drop n xs) in
    subst (λ ys. StartsWith ys before) (sym e) (starts_more before (more ++ drop n xs))
