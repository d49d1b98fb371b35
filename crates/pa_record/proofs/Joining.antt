-- Texts that start with other texts.
use Rattle.std.proofs.Common.{◌≡◌, ℕ, List, ◌++◌, length, drop, sym, subst, ap, ◌∙◌}
use Rattle.std.proofs.lemmas.List.{take-append-drop}
use Rattle.std.specs.Io.{StartsWith}
use Rattle.pa_text.proofs.Joining.{starts_before}

-- what starts with a text also starts with what that one starts with
pub starts_through : (xs ys zs : List ℕ) → StartsWith zs ys → StartsWith ys xs → StartsWith zs xs
starts_through xs ys zs later earlier =
    let n = length xs in
    let e : ys ≡ xs ++ drop n ys = sym (take-append-drop n ys) ∙ ap (λ ts. ts ++ drop n ys) earlier in
    starts_before zs xs (drop n ys) (subst (λ ts. StartsWith zs ts) e later)
