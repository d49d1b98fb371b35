-- Several queues served one after the other: what comes out of each is the queue.
use Rattle.std.proofs.Common.{◌≡◌, ℕ, eqb, cond, List, [], ◌∷◌, ◌++◌, map, filter, take, drop, refl, sym, ◌∙◌, ap, subst, inl, inr}
use Rattle.std.specs.Prelude.{Contains, AllPairs}
use Rattle.std.proofs.lemmas.Bool.{cases_Bool, cases_eq, eq-eqb, ne_eqb}
use Rattle.pa_lists.proofs.Members.{first_in, later_in}
use Rattle.pa_lists.proofs.Pairs.{pairs_none, pairs_cons, pairs_tail, pairs_head}
use Rattle.pa_lists.proofs.Joined.{filter_in}

-- the queues without the first of one of them
abbrev pub served : {A : Type 0} → ℕ → (ℕ → List A) → ℕ → List A
served q queues k = cond (eqb k q) (drop 1 (queues k)) (queues k)

module _ {A B : Type 0} (queue_of : B → ℕ) where
  -- the next of each turn's queue
  abbrev pub in_turn : (ℕ → List A) → List B → List A
  in_turn queues [] = []
  in_turn queues (b ∷ bs) = take 1 (queues (queue_of b)) ++ in_turn (served (queue_of b) queues) bs

  module _ {E : Type 0} (says : A → E) (is : B → E) where
    -- each queue is what its turns say
    abbrev pub Fits : (ℕ → List A) → List B → Type 0
    Fits queues bs = (k : ℕ) → map says (queues k) ≡ map is (filter (λ b. eqb (queue_of b) k) bs)

    -- the turn's queue has a first, which says what the turn does
    first_of : (xs : List A) (e : E) (es : List E) → map says xs ≡ e ∷ es → (x : A) × (rest : List A) × (xs ≡ x ∷ rest) × (says x ≡ e) ×
        (map says rest ≡ es)
    first_of [] e es same = absurd cc
    first_of (x ∷ xs) e es same = (x, xs, refl, cc, cc)

    front : (queues : ℕ → List A) (b : B) (bs : List B) → Fits queues (b ∷ bs) →
        (x : A) × (rest : List A) × (queues (queue_of b) ≡ x ∷ rest) × (says x ≡ is b) ×
        (map says rest ≡ map is (filter (λ c. eqb (queue_of c) (queue_of b)) bs))
    front queues b bs fits =
        let here = eq-eqb (queue_of b) (queue_of b) refl in
        first_of (queues (queue_of b)) (is b) (map is (filter (λ c. eqb (queue_of c) (queue_of b)) bs)) (rw here at (fits (queue_of b)))

    rest_fits : (queues : ℕ → List A) (b : B) (bs : List B) → Fits queues (b ∷ bs) → Fits (served (queue_of b) queues) bs
    rest_fits queues b bs fits k = elim (cases_eq k (queue_of b)) [
      | inl same ↦
          let (x, rest, parts, says_it, left) = front queues b bs fits in
          let mine : drop 1 (queues k) ≡ rest = ap (λ n. drop 1 (queues n)) same ∙ ap (drop 1) parts in
          rw (eq-eqb k (queue_of b) same) (ap (map says) mine ∙ left ∙ ap (λ n. map is (filter (λ c. eqb (queue_of c) n) bs)) (sym same))
      | inr other ↦
          rw (ne_eqb k (queue_of b) other) (rw (ne_eqb (queue_of b) k (λ e. other (sym e))) at (fits k))
    ]

    -- what comes out of queues that fit says what the turns do
    pub turns_say : (queues : ℕ → List A) (bs : List B) → Fits queues bs → map says (in_turn queues bs) ≡ map is bs
    turns_say queues [] fits = refl
    turns_say queues (b ∷ bs) fits =
        let (x, rest, parts, says_it, left) = front queues b bs fits in
        let again = turns_say (served (queue_of b) queues) bs (rest_fits queues b bs fits) in
        ap (λ xs. map says (take 1 xs ++ in_turn (served (queue_of b) queues) bs)) parts ∙
        ap (λ e. e ∷ map says (in_turn (served (queue_of b) queues) bs)) says_it ∙ ap (λ es. is b ∷ es) again

    -- of each queue, what comes out is the queue
    pub queues_stay : (of : A → ℕ) (queues : ℕ → List A) (bs : List B) → Fits queues bs →
        ((k : ℕ) (x : A) → Contains (queues k) x → of x ≡ k) →
        (k : ℕ) → filter (λ x. eqb (of x) k) (in_turn queues bs) ≡ queues k
    queues_stay of queues [] fits mine k = none (queues k) (fits k)
      where
        none : (xs : List A) → map says xs ≡ [] → [] ≡ xs
        none [] e = refl
        none (x ∷ xs) e = absurd cc
    queues_stay of queues (b ∷ bs) fits mine k =
        let q = queue_of b in
        let (x, rest, parts, says_it, left) = front queues b bs fits in
        let x_of : of x ≡ q = mine q x (subst (λ xs. Contains xs x) (sym parts) (first_in x rest)) in
        let again = queues_stay of (served q queues) bs (rest_fits queues b bs fits) (served_mine queues q mine) k in
        let tail = in_turn (served q queues) bs in
        let whole : filter (λ z. eqb (of z) k) (take 1 (queues q) ++ tail) ≡ filter (λ z. eqb (of z) k) (x ∷ tail) =
        ap (λ xs. filter (λ z. eqb (of z) k) (take 1 xs ++ tail)) parts in
        elim (cases_eq k q) [
          | inl same ↦
              let rest_is : served q queues k ≡ rest = rw (eq-eqb k q same) (ap (λ n. drop 1 (queues n)) same ∙ ap (drop 1) parts) in
              let kept : filter (λ z. eqb (of z) k) (x ∷ tail) ≡ x ∷ filter (λ z. eqb (of z) k) tail =
              rw (eq-eqb (of x) k (x_of ∙ sym same)) refl in
              whole ∙ kept ∙ ap (λ zs. x ∷ zs) (again ∙ rest_is) ∙ sym (ap queues same ∙ parts)
          | inr other ↦
              let kept : filter (λ z. eqb (of z) k) (x ∷ tail) ≡ filter (λ z. eqb (of z) k) tail =
              rw (ne_eqb (of x) k (λ e. other (sym e ∙ x_of))) refl in
              let same : served q queues k ≡ queues k = rw (ne_eqb k q other) refl in
              whole ∙ kept ∙ again ∙ same
        ]
      where
        dropped : (n : ℕ) (xs : List A) (x : A) → Contains (drop 1 xs) x → Contains xs x
        dropped n [] x among = among
        dropped n (y ∷ xs) x among = later_in y x xs among

        served_mine : (queues : ℕ → List A) (q : ℕ) → ((k : ℕ) (x : A) → Contains (queues k) x → of x ≡ k) → (k : ℕ) (x : A) →
            Contains (served q queues k) x → of x ≡ k
        served_mine queues q mine k x among = elim (cases_Bool (eqb k q)) [
          | inl here ↦ mine k x (dropped k (queues k) x (rw here at among))
          | inr other ↦ mine k x (rw other at among)
        ]

-- what holds of each two of a queue holds of each two members of one queue
pub by_queues : {A : Type 0} (of : A → ℕ) (R : A → A → Type 0) (xs : List A) → ((k : ℕ) → AllPairs R (filter (λ x. eqb (of x) k) xs)) →
    AllPairs (λ x y. of x ≡ of y → R x y) xs
by_queues of R [] each = pairs_none (λ x y. of x ≡ of y → R x y)
by_queues of R (x ∷ xs) each =
    pairs_cons (λ u v. of u ≡ of v → R u v) x xs
    (λ y among same.
    let mine = rw (eq-eqb (of x) (of x) refl) at (each (of x)) in
    pairs_head R x y (filter (λ z. eqb (of z) (of x)) xs) mine
    (filter_in (λ z. eqb (of z) (of x)) xs y among (eq-eqb (of y) (of x) (sym same))))
    (by_queues of R xs (λ k. elim (cases_Bool (eqb (of x) k)) [
      | inl here ↦ pairs_tail R x (filter (λ z. eqb (of z) k) xs) (rw here at (each k))
      | inr other ↦ rw other at (each k)
    ]))
