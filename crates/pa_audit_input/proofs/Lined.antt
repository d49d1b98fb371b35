-- Lines of a text that is cut into parts.
use Rattle.std.proofs.Common.{◌≡◌, ◌∙◌, ℕ, List, [], ◌∷◌, ◌++◌, length, ◌⊎◌, inl, inr, refl, sym, ap, subst, arith}
use Rattle.std.proofs.lemmas.Bool.{cases_eq}
use Rattle.std.proofs.lemmas.List.{length-append}
use Rattle.pa_trace.specs.Faults.{with_front, lines_of}
use Rattle.pa_trace.proofs.Cuts.{no_lines, lf_front, other_front}
use Rattle.pa_run_reader.proofs.TextLines.{lines_joined}
use Rattle.pa_audit_input.specs.Cutting.{joined}

-- two texts are the same, or they aren't
pub same_or : (a b : List ℕ) → (a ≡ b) ⊎ (a ≡ b → ⊥)
same_or [] [] = inl refl
same_or [] (y ∷ b) = inr (λ e. cc)
same_or (x ∷ a) [] = inr (λ e. cc)
same_or (x ∷ a) (y ∷ b) =
    elim (cases_eq x y) [
      | inl first ↦ elim (same_or a b) [
        | inl rest ↦ inl (ap (λ (z : ℕ). z ∷ a) first ∙ ap (λ (z : List ℕ). y ∷ z) rest)
        | inr other ↦ inr (λ e. other (cc))
      ]
      | inr other ↦ inr (λ e. other (cc))
    ]

-- ---- the first lines of a text are the lines of a text, and so are the others

abbrev AreCut : List (List ℕ) → List (List ℕ) → Type 0
AreCut xs ys = (lines_of (joined xs) ≡ xs) × (lines_of (joined ys) ≡ ys)

none_taken : (bytes : List ℕ) (ys : List (List ℕ)) → lines_of bytes ≡ ys → AreCut [] ys
none_taken bytes ys e = (no_lines, ap lines_of (ap joined (sym e) ∙ lines_joined bytes) ∙ e)

lf_taken : (lines : List (List ℕ)) (x : List ℕ) (xs ys : List (List ℕ)) → with_front 10 lines ≡ x ∷ xs ++ ys →
    (x ≡ 10 ∷ []) × (lines ≡ xs ++ ys)
lf_taken lines x xs ys e = let split : (10 ∷ []) ∷ lines ≡ x ∷ xs ++ ys = sym (lf_front lines) ∙ e in (cc, cc)

-- if the lines of a text can be cut before the lines ys, they still can with a byte other than LF in front of the text
other_taken : (b : ℕ) (lines : List (List ℕ)) (x : List ℕ) (xs ys : List (List ℕ)) → (b ≡ 10 → ⊥) → with_front b lines ≡ x ∷ xs ++ ys
    → ((zs : List (List ℕ)) → lines ≡ zs ++ ys → AreCut zs ys) → AreCut (x ∷ xs) ys
unfolding lines_of
other_taken b [] x [] [] other e cut =
    let first : x ≡ b ∷ [] = cc in
    (rw first refl, no_lines)
other_taken b [] x [] (y ∷ ys) other e cut = absurd cc
other_taken b [] x (w ∷ xs) ys other e cut = absurd cc
other_taken b (line ∷ lines) x xs ys other e cut =
    let split : (b ∷ line) ∷ lines ≡ x ∷ xs ++ ys = sym (other_front b line lines other) ∙ e in
    let first : x ≡ b ∷ line = cc in
    let rest = cut (line ∷ xs) (ap (λ (z : List (List ℕ)). line ∷ z) (cc)) in
    (rw first (ap (with_front b) rest.0 ∙ other_front b line xs other), rest.1)

-- the cut of a text is that of the text with a byte at the start, if the texts of one line less are cut so
byte_taken : (b : ℕ) (bytes : List ℕ) (lines : List (List ℕ)) (x : List ℕ) (xs ys : List (List ℕ)) → with_front b lines ≡ x ∷ xs ++ ys
    → ((zs : List (List ℕ)) → lines ≡ zs ++ ys → AreCut zs ys) → AreCut (x ∷ xs) ys
unfolding lines_of
byte_taken b bytes lines x xs ys e cut =
    elim (cases_eq b 10) [
      | inl lf ↦
          let parts = lf_taken lines x xs ys (subst (λ (c : ℕ). with_front c lines ≡ x ∷ xs ++ ys) lf e) in
          let rest = cut xs parts.1 in
          (rw parts.0 (lf_front (lines_of (joined xs)) ∙ ap (λ (z : List (List ℕ)). (10 ∷ []) ∷ z) rest.0), rest.1)
      | inr other ↦ other_taken b lines x xs ys other e cut
    ]

pub lines_taken : (bytes : List ℕ) (xs ys : List (List ℕ)) → lines_of bytes ≡ xs ++ ys → AreCut xs ys
unfolding lines_of
lines_taken bytes [] ys e = none_taken bytes ys e
lines_taken [] (x ∷ xs) ys e = absurd cc
lines_taken (b ∷ bytes) (x ∷ xs) ys e = byte_taken b bytes (lines_of bytes) x xs ys e (λ zs same. lines_taken bytes zs ys same)

-- ---- a text that ends with its line may have any text after it

-- a byte that is no LF before all of them
other_cut : (x : ℕ) (L M N C : List (List ℕ)) (line : List ℕ) (lines : List (List ℕ)) → (x ≡ 10 → ⊥) → (L ≡ [] → M ≡ line ∷ lines)
    → with_front x M ≡ with_front x L ++ line ∷ lines → (M ≡ L ++ line ∷ lines → N ≡ L ++ C) → with_front x N ≡ with_front x L ++ C
other_cut x [] [] N C line lines other none e cut = absurd cc
other_cut x [] (m ∷ M) N C line lines other none e cut =
    let split : (x ∷ m) ∷ M ≡ (x ∷ []) ∷ line ∷ lines = sym (other_front x m M other) ∙ e in
    let same : m ∷ M ≡ line ∷ lines = none refl in
    let less : M ≡ line ∷ lines = cc in
    let equal : M ≡ lines = cc in
    let long = ap length less in
    let short = ap length equal in
    absurd (omega (arith, long, short))
other_cut x (l ∷ L) [] N C line lines other none e cut =
    let split : (x ∷ []) ∷ [] ≡ (x ∷ l) ∷ L ++ line ∷ lines = e ∙ ap (λ (z : List (List ℕ)). z ++ line ∷ lines) (other_front x l L other) in
    let long = ap length split in
    absurd (omega (arith, long, length-append L (line ∷ lines)))
other_cut x (l ∷ L) (m ∷ M) N C line lines other none e cut =
    let split : (x ∷ m) ∷ M ≡ (x ∷ l) ∷ L ++ line ∷ lines =
    sym (other_front x m M other) ∙ e ∙ ap (λ (z : List (List ℕ)). z ++ line ∷ lines) (other_front x l L other) in
    let first : m ≡ l = cc in
    let rest : M ≡ L ++ line ∷ lines = cc in
    let there = cut (ap (λ (z : List ℕ). z ∷ M) first ∙ ap (λ (z : List (List ℕ)). l ∷ z) rest) in
    ap (with_front x) there ∙ other_front x l (L ++ C) other ∙ ap (λ (z : List (List ℕ)). z ++ C) (sym (other_front x l L other))

no_bytes : (a : List ℕ) → lines_of a ≡ [] → a ≡ []
no_bytes a e = sym (lines_joined a) ∙ ap joined e

-- a text whose lines come before those of some bytes has them before those of any
pub lines_cut : (a b c : List ℕ) (line : List ℕ) (lines : List (List ℕ)) → lines_of b ≡ line ∷ lines →
    lines_of (a ++ b) ≡ lines_of a ++ line ∷ lines
    → lines_of (a ++ c) ≡ lines_of a ++ lines_of c
unfolding lines_of
lines_cut [] b c line lines some e = refl
lines_cut (x ∷ a) b c line lines some e =
    elim (cases_eq x 10) [
      | inl lf ↦
          let parts : (10 ∷ []) ∷ lines_of (a ++ b) ≡ (10 ∷ []) ∷ lines_of a ++ line ∷ lines =
          sym (lf_front (lines_of (a ++ b))) ∙
          subst (λ (y : ℕ). with_front y (lines_of (a ++ b)) ≡ with_front y (lines_of a) ++ line ∷ lines) lf e
          ∙ ap (λ (z : List (List ℕ)). z ++ line ∷ lines) (lf_front (lines_of a)) in
          let rest : lines_of (a ++ c) ≡ lines_of a ++ lines_of c = lines_cut a b c line lines some (cc) in
          rw lf (lf_front (lines_of (a ++ c)) ∙ ap (λ (z : List (List ℕ)). (10 ∷ []) ∷ z) rest ∙
          ap (λ (z : List (List ℕ)). z ++ lines_of c) (sym (lf_front (lines_of a))))
      | inr other ↦
          other_cut x (lines_of a) (lines_of (a ++ b)) (lines_of (a ++ c)) (lines_of c) line lines other
          (λ none. ap (λ (z : List ℕ). lines_of (z ++ b)) (no_bytes a none) ∙ some) e (λ there. lines_cut a b c line lines some there)
    ]
