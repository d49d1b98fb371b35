-- The lines of lists determine the lists, if each line determines what it is printed of.
use Rattle.std.proofs.Common.{◌≡◌, ℕ, zero, suc, ◌+◌, ◌<◌, ◌≤◌, ◌^◌, List, [], ◌∷◌, ◌++◌, length, get_or, refl, sym, ap, ◌∙◌, append_assoc, arith}
use Rattle.std.specs.List.{AllByRecursion, flat_map}
use Rattle.pa_record.specs.Text.{lines_from}
use Rattle.pa_lists.proofs.Elements.{same_cons}

-- a first part, and what follows it
behind_first : (a r x b q y : List ℕ) → (a ++ r) ++ x ≡ (b ++ q) ++ y → a ++ (r ++ x) ≡ b ++ (q ++ y)
behind_first a r x b q y e = sym (append_assoc a r x) ∙ e ∙ append_assoc b q y

-- ---- letters at the start

-- the text doesn't begin with this letter and a space
abbrev pub Avoids : ℕ → List ℕ → Type 0
Avoids c text = (rest : List ℕ) → text ≡ c ∷ 32 ∷ rest → ⊥

-- each line begins with this letter and a space
abbrev pub Begins : {A : Type 0} → ℕ → (ℕ → A → List ℕ) → Type 0
Begins {A} c f = (n : ℕ) (a : A) → (rest : List ℕ) × (f n a ≡ c ∷ 32 ∷ rest)

-- no line comes before such a text
abbrev pub Ends : {A : Type 0} → (A → List ℕ) → List ℕ → Type 0
Ends {A} f text = (a : A) (rest : List ℕ) → text ≡ f a ++ rest → ⊥

ends_at : {A : Type 0} (c : ℕ) (f : ℕ → A → List ℕ) (n : ℕ) (u : List ℕ) → Begins c f → Avoids c u → Ends (f n) u
ends_at c f n u begins avoids a rest e =
    let b = begins n a in
    avoids (b.0 ++ rest) (e ∙ ap (λ (w : List ℕ). w ++ rest) b.1)

other_letter : (c d : ℕ) (t more u rest : List ℕ) → (c ≡ d → ⊥) → ((d ∷ t) ++ more) ++ u ≡ c ∷ rest → ⊥
other_letter c d t more u rest other e = other (sym (ap (λ (w : List ℕ). get_or w 0 0) e))

pub avoid_lines : {A : Type 0} (c d : ℕ) (f : ℕ → A → List ℕ) (n : ℕ) (xs : List A) (u : List ℕ) → (c ≡ d → ⊥) → Begins d f → Avoids c u →
    Avoids c (lines_from f n xs ++ u)
avoid_lines c d f n [] u other begins avoids = avoids
avoid_lines c d f n (x ∷ xs) u other begins avoids = λ rest e.
    let b = begins n x in
    other_letter c d (32 ∷ b.0) (lines_from f (n + 1) xs) u (32 ∷ rest) other
    (sym (ap (λ (w : List ℕ). (w ++ lines_from f (n + 1) xs) ++ u) b.1) ∙ e)

-- ---- lines with their places

-- a line of f determines what it is printed of
abbrev pub Splits : {A : Type 0} → (A → Type 0) → (A → List ℕ) → Type 0
Splits {A} P f = (a b : A) (x y : List ℕ) → P a → P b → f a ++ x ≡ f b ++ y → (a ≡ b) × (x ≡ y)

pub split_lines : {A : Type 0} (P : A → Type 0) (f : ℕ → A → List ℕ) (n : ℕ) (xs ys : List A) (u v : List ℕ) → ((k : ℕ) → Splits P (f k)) →
    ((k : ℕ) → Ends (f k) u) → ((k : ℕ) → Ends (f k) v)
    → AllByRecursion P xs → AllByRecursion P ys → lines_from f n xs ++ u ≡ lines_from f n ys ++ v → (xs ≡ ys) × (u ≡ v)
split_lines P f n [] [] u v splits eu ev hx hy e = (refl, e)
split_lines P f n [] (b ∷ ys) u v splits eu ev hx hy e =
    absurd (eu n b (lines_from f (n + 1) ys ++ v) (e ∙ append_assoc (f n b) (lines_from f (n + 1) ys) v))
split_lines P f n (a ∷ xs) [] u v splits eu ev hx hy e =
    absurd (ev n a (lines_from f (n + 1) xs ++ u) (sym e ∙ append_assoc (f n a) (lines_from f (n + 1) xs) u))
split_lines P f n (a ∷ xs) (b ∷ ys) u v splits eu ev hx hy e =
    let head = splits n a b (lines_from f (n + 1) xs ++ u) (lines_from f (n + 1) ys ++ v) hx.0 hy.0
    (behind_first (f n a) (lines_from f (n + 1) xs) u (f n b) (lines_from f (n + 1) ys) v e) in
    let tail = split_lines P f (n + 1) xs ys u v splits eu ev hx.1 hy.1 head.1 in
    (same_cons a b xs ys head.0 tail.0, tail.1)

-- lines without their places
flat_lines : {A : Type 0} (f : A → List ℕ) (n : ℕ) (xs : List A) → lines_from (λ _. f) n xs ≡ flat_map f xs
flat_lines f n [] = refl
flat_lines f n (x ∷ xs) = ap (λ (w : List ℕ). f x ++ w) (flat_lines f (n + 1) xs)

pub avoid_flat : {A : Type 0} (c d : ℕ) (f : A → List ℕ) (xs : List A) (u : List ℕ) → (c ≡ d → ⊥) → Begins d (λ _. f) → Avoids c u →
    Avoids c (flat_map f xs ++ u)
avoid_flat c d f xs u other begins avoids = λ rest e.
    avoid_lines c d (λ _. f) 0 xs u other begins avoids rest (ap (λ (w : List ℕ). w ++ u) (flat_lines f 0 xs) ∙ e)

pub split_flat : {A : Type 0} (P : A → Type 0) (c : ℕ) (f : A → List ℕ) (xs ys : List A) (u v : List ℕ) → Splits P f → Begins c (λ _. f) →
    Avoids c u → Avoids c v
    → AllByRecursion P xs → AllByRecursion P ys → flat_map f xs ++ u ≡ flat_map f ys ++ v → (xs ≡ ys) × (u ≡ v)
split_flat P c f xs ys u v splits begins au av hx hy e =
    split_lines P (λ _. f) 0 xs ys u v (λ _. splits) (λ k. ends_at c (λ _. f) k u begins au) (λ k. ends_at c (λ _. f) k v begins av) hx hy
    (ap (λ (w : List ℕ). w ++ u) (flat_lines f 0 xs) ∙ e ∙ sym (ap (λ (w : List ℕ). w ++ v) (flat_lines f 0 ys)))

pub split_placed : {A : Type 0} (P : A → Type 0) (c : ℕ) (f : ℕ → A → List ℕ) (xs ys : List A) (u v : List ℕ) → ((k : ℕ) → Splits P (f k)) →
    Begins c f → Avoids c u → Avoids c v
    → AllByRecursion P xs → AllByRecursion P ys → lines_from f 0 xs ++ u ≡ lines_from f 0 ys ++ v → (xs ≡ ys) × (u ≡ v)
split_placed P c f xs ys u v splits begins au av hx hy e =
    split_lines P f 0 xs ys u v splits (λ k. ends_at c f k u begins au) (λ k. ends_at c f k v begins av) hx hy e

-- ---- lists of lists

-- the lines of the lists from place p on
abbrev pub nested : {A : Type 0} → (ℕ → ℕ → A → List ℕ) → ℕ → List (List A) → List ℕ
nested f p lists = lines_from (λ q. lines_from (f q) 0) p lists

-- what is known of the lines of lists: each line gives its element if the place is the same, it gives its place, and it begins
-- with its letter
pub record AreNested {A : Type 0} (P : A → Type 0) (c : ℕ) (f : ℕ → ℕ → A → List ℕ) : Type 0 where
  pub splits : (p j : ℕ) → Splits P (f p j)
  pub place : (p q j i : ℕ) (a b : A) (x y : List ℕ) → p < 2 ^ 64 → q < 2 ^ 64 → f p j a ++ x ≡ f q i b ++ y → p ≡ q
  pub begins : (p : ℕ) → Begins c (f p)

pub avoid_nested : {A : Type 0} (c d : ℕ) (P : A → Type 0) (f : ℕ → ℕ → A → List ℕ) (p : ℕ) (lists : List (List A)) (u : List ℕ)
    → (c ≡ d → ⊥) → AreNested P d f → Avoids c u → Avoids c (nested f p lists ++ u)
avoid_nested c d P f p [] u other known avoids = avoids
avoid_nested c d P f p (xs ∷ lists) u other known avoids = λ rest e.
    avoid_lines c d (f p) 0 xs (nested f (p + 1) lists ++ u) other (known.begins p)
    (avoid_nested c d P f (p + 1) lists u other known avoids) rest
    (sym (append_assoc (lines_from (f p) 0 xs) (nested f (p + 1) lists) u) ∙ e)

-- no line of a place comes before the lines of later places
later : {A : Type 0} (P : A → Type 0) (c : ℕ) (f : ℕ → ℕ → A → List ℕ) (p q : ℕ) (lists : List (List A)) (u : List ℕ) → AreNested P c f →
    Avoids c u → p < q → q + length lists ≤ 100
    → (j : ℕ) → Ends (f p j) (nested f q lists ++ u)
later P c f p q [] u known avoids order few j = ends_at c (f p) j u (known.begins p) avoids
later P c f p q ([] ∷ lists) u known avoids order few j = later P c f p (q + 1) lists u known avoids (omega arith) (omega arith) j
later P c f p q ((x ∷ xs) ∷ lists) u known avoids order few j = λ a rest e.
    let cut = sym (append_assoc (f q 0 x) (lines_from (f q) 1 xs ++ nested f (q + 1) lists) u)
    ∙ ap (λ (w : List ℕ). w ++ u) (sym (append_assoc (f q 0 x) (lines_from (f q) 1 xs) (nested f (q + 1) lists))) ∙ e in
    let same : q ≡ p = known.place q p 0 j x a _ rest (omega arith) (omega arith) cut in
    absurd (omega arith)

empty_at : {A : Type 0} (xs : List (List A)) → ((i : ℕ) → get_or xs i [] ≡ []) → (i : ℕ) → get_or ([] ∷ xs) i [] ≡ []
empty_at xs h zero = refl
empty_at xs h (suc i) = h i

-- lists that have no lines
no_lines : {A : Type 0} (P : A → Type 0) (c : ℕ) (f : ℕ → ℕ → A → List ℕ) (p : ℕ) (lists : List (List A)) (u v : List ℕ) → AreNested P c f →
    Avoids c u
    → u ≡ nested f p lists ++ v → ((i : ℕ) → get_or lists i [] ≡ []) × (u ≡ v)
no_lines P c f p [] u v known avoids e = (λ i. refl, e)
no_lines P c f p ([] ∷ lists) u v known avoids e =
    let rest = no_lines P c f (p + 1) lists u v known avoids e in
    (empty_at lists rest.0, rest.1)
no_lines P c f p ((x ∷ xs) ∷ lists) u v known avoids e =
    absurd (ends_at c (f p) 0 u (known.begins p) avoids x ((lines_from (f p) 1 xs ++ nested f (p + 1) lists) ++ v)
    (e ∙ ap (λ (w : List ℕ). w ++ v) (append_assoc (f p 0 x) (lines_from (f p) 1 xs) (nested f (p + 1) lists)) ∙
    append_assoc (f p 0 x) (lines_from (f p) 1 xs ++ nested f (p + 1) lists) v))

same_at : {A : Type 0} (x y : List A) (xs ys : List (List A)) → x ≡ y → ((i : ℕ) → get_or xs i [] ≡ get_or ys i []) → (i : ℕ) →
    get_or (x ∷ xs) i [] ≡ get_or (y ∷ ys) i []
same_at x y xs ys e h zero = e
same_at x y xs ys e h (suc i) = h i

-- two lists of lists with the same lines have the same lists, if one that isn't there is empty
pub split_nested : {A : Type 0} (P : A → Type 0) (c : ℕ) (f : ℕ → ℕ → A → List ℕ) (p : ℕ) (xs ys : List (List A)) (u v : List ℕ) →
    AreNested P c f → Avoids c u → Avoids c v
    → AllByRecursion (AllByRecursion P) xs → AllByRecursion (AllByRecursion P) ys → p + length xs ≤ 100 → p + length ys ≤ 100
    → nested f p xs ++ u ≡ nested f p ys ++ v → ((i : ℕ) → get_or xs i [] ≡ get_or ys i []) × (u ≡ v)
split_nested P c f p [] ys u v known au av hx hy fx fy e =
    let none = no_lines P c f p ys u v known au e in
    (λ i. sym (none.0 i), none.1)
split_nested P c f p (x ∷ xs) [] u v known au av hx hy fx fy e =
    let none = no_lines P c f p (x ∷ xs) v u known av (sym e) in
    (none.0, sym none.1)
split_nested P c f p (x ∷ xs) (y ∷ ys) u v known au av hx hy fx fy e =
    let head = split_lines P (f p) 0 x y (nested f (p + 1) xs ++ u) (nested f (p + 1) ys ++ v) (known.splits p)
    (later P c f p (p + 1) xs u known au (omega arith) (omega arith))
    (later P c f p (p + 1) ys v known av (omega arith) (omega arith)) hx.0 hy.0
    (behind_first (lines_from (f p) 0 x) (nested f (p + 1) xs) u (lines_from (f p) 0 y) (nested f (p + 1) ys) v e) in
    let tail = split_nested P c f (p + 1) xs ys u v known au av hx.1 hy.1 (omega arith) (omega arith) head.1 in
    (same_at x y xs ys head.0 tail.0, tail.1)

-- lists of lists that are the same in this way have the same lines
pub same_nested : {A : Type 0} (f : ℕ → ℕ → A → List ℕ) (p : ℕ) (xs ys : List (List A)) → ((i : ℕ) → get_or xs i [] ≡ get_or ys i []) →
    nested f p xs ≡ nested f p ys
same_nested f p [] [] h = refl
same_nested f p [] (y ∷ ys) h =
    same_nested f (p + 1) [] ys (λ i. h (suc i)) ∙ ap (λ z. lines_from (f p) 0 z ++ nested f (p + 1) ys) (h 0)
same_nested f p (x ∷ xs) [] h =
    ap (λ z. lines_from (f p) 0 z ++ nested f (p + 1) xs) (h 0) ∙ same_nested f (p + 1) xs [] (λ i. h (suc i))
same_nested f p (x ∷ xs) (y ∷ ys) h =
    ap (λ z. lines_from (f p) 0 z ++ nested f (p + 1) xs) (h 0)
    ∙ ap (λ (w : List ℕ). lines_from (f p) 0 y ++ w) (same_nested f (p + 1) xs ys (λ i. h (suc i)))
