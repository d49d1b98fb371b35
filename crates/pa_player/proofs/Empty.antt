-- Tables before the first line.
use Rattle.std.proofs.Common.{◌≡◌, ℕ, zero, suc, inl, inr, List, [], length, get_or, replicate, refl, ap, ◌∙◌, arith}
use Rattle.std.specs.List.{All}
use Rattle.std.proofs.lemmas.Bool.{cases_lt}
use Rattle.std.proofs.lemmas.List.{get_or_past}
use Rattle.pa_record.specs.Root.{Root, new_root}
use Rattle.pa_rules.specs.declared.register.Register.{Register}
use Rattle.pa_rules.specs.declared.register.Register.TheVariants.{Empty}
use Rattle.pa_player.specs.Begun.{AreClear, AreNew}

pub empties : {X : Type 0} (xs : List (List X)) → All (λ h. h ≡ []) xs → (i : ℕ) → get_or xs i [] ≡ []
empties xs h i = elim (cases_lt i (length xs)) [
  | inl lt ↦ h i [] lt
  | inr le ↦ get_or_past xs i [] le
]

-- that many roots without a span
pub are_new : (n : ℕ) (xs : List Root) → length xs ≡ n → All (λ r. r ≡ new_root) xs → AreNew n xs
are_new n xs many h = record {
  count = many;
  new = λ q. elim (cases_lt q (length xs)) [
    | inl lt ↦ h q new_root lt
    | inr le ↦ get_or_past xs q new_root le
  ];
}

pub clear_at : (n r : ℕ) → get_or {A = Register ℕ} (replicate n Empty) r Empty ≡ Empty
clear_at zero r = get_or_past [] r Empty (omega arith)
clear_at (suc n) zero = refl
clear_at (suc n) (suc r) = clear_at n r

pub are_clear : (n : ℕ) (xs : List (List (Register ℕ))) → length xs ≡ n → All (λ row. row ≡ replicate 64 Empty) xs → AreClear n xs
are_clear n xs many h = record {
  count = many;
  sixty_four = λ t lt. ap length (h t [] (omega (arith, lt, many)));
  clear = λ t r. elim (cases_lt t (length xs)) [
    | inl lt ↦ ap (λ (row : List (Register ℕ)). get_or row r Empty) (h t [] lt) ∙ clear_at 64 r
    | inr le ↦ ap (λ (row : List (Register ℕ)). get_or row r Empty) (get_or_past xs t [] le) ∙ get_or_past [] r Empty (omega arith)
  ];
}
