-- Lists of lines that grow at their end.
use Rattle.std.proofs.Common.{◌≡◌, ℕ, zero, suc, ◌+◌, ◌<◌, List, [], ◌∷◌, ◌++◌, length, get_or, set, refl, sym, ap, ◌∙◌, append_assoc, append-nil, arith}
use Rattle.std.specs.List.{AllByRecursion, flat_map}
use Rattle.pa_record.specs.Text.{lines_from}
use Rattle.pa_record.proofs.Lists.{nested}

-- ---- facts about all members

pub all_set : {A : Type 0} (P : A → Type 0) (xs : List A) (i : ℕ) (x : A) → AllByRecursion P xs → P x → AllByRecursion P (set xs i x)
all_set P [] i x all one = tt
all_set P (y ∷ xs) zero x all one = (one, all.1)
all_set P (y ∷ xs) (suc i) x all one = (all.0, all_set P xs i x all.1 one)

pub all_at : {A : Type 0} (P : A → Type 0) (xs : List A) (i : ℕ) (d : A) → AllByRecursion P xs → P d → P (get_or xs i d)
all_at P [] i d all one = one
all_at P (y ∷ xs) zero d all one = all.0
all_at P (y ∷ xs) (suc i) d all one = all_at P xs i d all.1 one

-- ---- lines

pub flat_push : {A : Type 0} (f : A → List ℕ) (xs : List A) (x : A) → flat_map f (xs ++ x ∷ []) ≡ flat_map f xs ++ f x
flat_push f [] x = append-nil (f x)
flat_push f (y ∷ xs) x = ap (λ (w : List ℕ). f y ++ w) (flat_push f xs x) ∙ sym (append_assoc (f y) (flat_map f xs) (f x))

pub lines_push : {A : Type 0} (f : ℕ → A → List ℕ) (n k : ℕ) (xs : List A) (x : A) → k ≡ n + length xs →
    lines_from f n (xs ++ x ∷ []) ≡ lines_from f n xs ++ f k x
lines_push f n k [] x e =
    let same : n ≡ k = omega (arith, e) in
    append-nil (f n x) ∙ ap (λ (m : ℕ). f m x) same
lines_push f n k (y ∷ xs) x e =
    ap (λ (w : List ℕ). f n y ++ w) (lines_push f (n + 1) k xs x (omega (arith, e))) ∙
    sym (append_assoc (f n y) (lines_from f (n + 1) xs) (f k x))

-- ---- lists of lists

pub nested_none : {A : Type 0} (f : ℕ → ℕ → A → List ℕ) (s : ℕ) (lists : List (List A)) → ((q : ℕ) → get_or lists q [] ≡ []) →
    nested f s lists ≡ []
nested_none f s [] none = refl
nested_none f s (xs ∷ lists) none =
    ap (λ z. lines_from (f s) 0 z ++ nested f (s + 1) lists) (none 0) ∙ nested_none f (s + 1) lists (λ q. none (suc q))

nested_step : {A : Type 0} (f : ℕ → ℕ → A → List ℕ) (s p t : ℕ) (lists : List (List A)) (x : A) → p < length lists → t ≡ s + p →
    ((q : ℕ) → p < q → get_or lists q [] ≡ [])
    → nested f s (set lists p (get_or lists p [] ++ x ∷ [])) ≡ nested f s lists ++ f t (length (get_or lists p [])) x
nested_step f s p t [] x lt e none = absurd (omega arith)
nested_step f s zero t (xs ∷ lists) x lt e none =
    let same : s ≡ t = omega (arith, e) in
    let behind : nested f (s + 1) lists ≡ [] = nested_none f (s + 1) lists (λ q. none (suc q) (omega arith)) in
    rw behind (append-nil (lines_from (f s) 0 (xs ++ x ∷ [])) ∙ lines_push (f s) 0 (length xs) xs x (omega arith)
    ∙ ap (λ (m : ℕ). lines_from (f s) 0 xs ++ f m (length xs) x) same ∙
    ap (λ (w : List ℕ). w ++ f t (length xs) x) (sym (append-nil (lines_from (f s) 0 xs))))
nested_step f s (suc p) t (xs ∷ lists) x lt e none =
    ap (λ (w : List ℕ). lines_from (f s) 0 xs ++ w)
    (nested_step f (s + 1) p t lists x (omega arith) (omega (arith, e)) (λ q order. none (suc q) (omega (arith, order))))
    ∙ sym (append_assoc (lines_from (f s) 0 xs) (nested f (s + 1) lists) (f t (length (get_or lists p [])) x))

-- one more in list p, after which no list has anything
pub nested_push : {A : Type 0} (f : ℕ → ℕ → A → List ℕ) (p j : ℕ) (lists : List (List A)) (x : A) → p < length lists →
    length (get_or lists p []) ≡ j → ((q : ℕ) → p < q → get_or lists q [] ≡ [])
    → nested f 0 (set lists p (get_or lists p [] ++ x ∷ [])) ≡ nested f 0 lists ++ f p j x
nested_push f p j lists x lt e none =
    nested_step f 0 p p lists x lt (omega arith) none ∙ ap (λ (m : ℕ). nested f 0 lists ++ f p m x) e
