-- Lists of different numbers.
use Rattle.std.proofs.Common.{◌≡◌, ◌≢◌, ℕ, zero, suc, ◌+◌, ◌<◌, ◌≤◌, Bool, true, false, ◌||◌, cond, eqb, List, [], ◌∷◌, length, refl, sym, ap, subst, arith, inl, inr}
use Rattle.std.specs.Prelude.{Contains, AllPairs}
use Rattle.std.proofs.lemmas.Bool.{cases_Bool, cases_eq, eq-eqb, ne_eqb, or_left, or_cases, eqb-true, false_from_ne_true, false≢true}
use Rattle.pa_lists.proofs.Members.{not_in_none, first_in, later_in, in_cases, has}
use Rattle.pa_lists.proofs.Pairs.{pairs_none, pairs_cons, pairs_tail, pairs_head}
use Rattle.pa_lists.specs.Numbers.{numbers}

-- `count` numbers from one on: how many they are, which they are, and that they differ
pub numbers_length : (from count : ℕ) → length (numbers from count) ≡ count
numbers_length from zero = refl
numbers_length from (suc count) = ap suc (numbers_length (from + 1) count)

pub numbers_in : (from count n : ℕ) → Contains (numbers from count) n → (from ≤ n) × (n < from + count)
numbers_in from zero n among = absurd (not_in_none n among)
numbers_in from (suc count) n among = elim (in_cases from n (numbers (from + 1) count) among) [
  | inl same ↦ (omega arith, omega arith)
  | inr rest ↦ let (p, q) = numbers_in (from + 1) count n rest in (omega arith, omega arith)
]

pub numbers_has : (from count n : ℕ) → from ≤ n → n < from + count → Contains (numbers from count) n
numbers_has from zero n low high = absurd (omega arith)
numbers_has from (suc count) n low high = elim (cases_eq from n) [
  | inl same ↦ subst (λ k. Contains (numbers from (suc count)) k) same (first_in from (numbers (from + 1) count))
  | inr other ↦ later_in from n (numbers (from + 1) count) (numbers_has (from + 1) count n (omega arith) (omega arith))
]

pub numbers_once : (from count : ℕ) → AllPairs ◌≢◌ (numbers from count)
numbers_once from zero = pairs_none (λ (a b : ℕ). a ≢ b)
numbers_once from (suc count) =
    pairs_cons (λ (a b : ℕ). a ≢ b) from (numbers (from + 1) count)
    (λ n among e. let (p, q) = numbers_in (from + 1) count n among in omega arith)
    (numbers_once (from + 1) count)

-- how many numbers below n pass a test
abbrev pub passing : (ℕ → Bool) → ℕ → ℕ
passing test zero = 0
passing test (suc n) = cond (test n) 1 0 + passing test n

pub passing_most : (test : ℕ → Bool) (n : ℕ) → passing test n ≤ n
passing_most test zero = omega arith
passing_most test (suc n) =
    let ih = passing_most test n in
    elim (cases_Bool (test n)) [ inl hit ↦ rw hit (omega arith) | inr miss ↦ rw miss (omega arith) ]

-- if one below n doesn't pass, fewer than n do
pub passing_less : (test : ℕ → Bool) (n k : ℕ) → k < n → test k ≡ false → passing test n < n
passing_less test zero k below fails = absurd (omega arith)
passing_less test (suc n) k below fails = elim (cases_eq k n) [
  | inl same ↦
      let e : test n ≡ false = subst (λ i. test i ≡ false) same fails in
      let most = passing_most test n in
      rw e (omega arith)
  | inr other ↦
      let ih = passing_less test n k (omega arith) fails in
      elim (cases_Bool (test n)) [ inl hit ↦ rw hit (omega arith) | inr miss ↦ rw miss (omega arith) ]
]

-- tests that agree below n
pub passing_same : (f g : ℕ → Bool) (n : ℕ) → ((k : ℕ) → k < n → f k ≡ g k) → passing f n ≡ passing g n
passing_same f g zero h = refl
passing_same f g (suc n) h =
    let ih = passing_same f g n (λ k below. h k (omega arith)) in
    rw (h n (omega arith), ih) refl

-- tests that agree but at one number
pub passing_one_more : (f g : ℕ → Bool) (n k : ℕ) → k < n → f k ≡ false → g k ≡ true → ((i : ℕ) → (i ≡ k → ⊥) → f i ≡ g i) →
    passing g n ≡ passing f n + 1
passing_one_more f g zero k below p q h = absurd (omega arith)
passing_one_more f g (suc n) k below p q h = elim (cases_eq k n) [
  | inl same ↦
      let p' : f n ≡ false = subst (λ i. f i ≡ false) same p in
      let q' : g n ≡ true = subst (λ i. g i ≡ true) same q in
      let rest = passing_same f g n (λ i less. h i (λ e. omega arith)) in
      rw (p', q') (omega arith)
  | inr other ↦
      let ih = passing_one_more f g n k (omega arith) p q h in
      let e = h n (λ e. other (sym e)) in
      rw e (omega arith)
]

or_second : (a b : Bool) → a ≡ false → (a || b) ≡ b
or_second a b e = rw e refl

-- a number that the test finds is one of the list
pub has_some : (n : ℕ) (xs : List ℕ) → has n xs ≡ true → Contains xs n
has_some n [] h = absurd (false≢true h)
has_some n (x ∷ xs) h = elim (or_cases _ _ h) [
  | inl here ↦ subst (λ z. Contains (x ∷ xs) z) (sym (eqb-true _ _ here)) (first_in x xs)
  | inr rest ↦ later_in x n xs (has_some n xs rest)
]

not_twice : (x : ℕ) (xs : List ℕ) → AllPairs ◌≢◌ (x ∷ xs) → has x xs ≡ false
not_twice x xs once = false_from_ne_true _ (λ hit. pairs_head (λ (a b : ℕ). a ≢ b) x x xs once (has_some x xs hit) refl)

passing_none : (n : ℕ) → passing (λ k. false) n ≡ 0
passing_none zero = refl
passing_none (suc n) = let ih = passing_none n in omega arith

-- a list of different numbers below n is as long as there are numbers below n in it
pub length_is : (xs : List ℕ) (n : ℕ) → AllPairs ◌≢◌ xs → ((k : ℕ) → Contains xs k → k < n) → length xs ≡ passing (λ k. has k xs) n
length_is [] n once below = sym (passing_none n)
length_is (x ∷ xs) n once below =
    let ih = length_is xs n (pairs_tail (λ (a b : ℕ). a ≢ b) x xs once) (λ k among. below k (later_in x k xs among)) in
    let more = passing_one_more (λ k. has k xs) (λ k. has k (x ∷ xs)) n x (below x (first_in x xs)) (not_twice x xs once)
    (or_left _ _ (eq-eqb x x refl)) (λ i ne. sym (or_second (eqb i x) (has i xs) (ne_eqb i x ne))) in
    omega arith

-- if one number below n isn't in it, it is shorter
pub length_less : (xs : List ℕ) (n k : ℕ) → AllPairs ◌≢◌ xs → ((i : ℕ) → Contains xs i → i < n) → k < n → (Contains xs k → ⊥) →
    length xs < n
length_less xs n k once below less away =
    let e = length_is xs n once below in
    let fewer = passing_less (λ i. has i xs) n k less (false_from_ne_true _ (λ hit. away (has_some k xs hit))) in
    omega arith
