-- Lists of a region's words: there are such as have given words at one place, and 0 elsewhere.
use Rattle.std.proofs.Common.{◌≡◌, ℕ, zero, suc, ◌+◌, ◌<◌, ◌≤◌, List, [], ◌∷◌, ◌++◌, length, refl, ◌∙◌, ap, arith}
use Rattle.std.specs.Prelude.{slice_index}

-- this many words that are 0
abbrev zeros : ℕ → List ℕ
zeros zero = []
zeros (suc n) = 0 ∷ zeros n

-- a number of words that are 0, some words, and again words that are 0
pub between : ℕ → List ℕ → ℕ → List ℕ
between zero mid back = mid ++ zeros back
between (suc n) mid back = 0 ∷ between n mid back

zeros-length : (n : ℕ) → length (zeros n) ≡ n
zeros-length zero = refl
zeros-length (suc n) = let ih = zeros-length n in omega arith

front-length : (mid : List ℕ) (back : ℕ) → length (mid ++ zeros back) ≡ length mid + back
front-length [] back = let ih = zeros-length back in omega arith
front-length (x ∷ mid) back = let ih = front-length mid back in omega arith

pub between-length : (n : ℕ) (mid : List ℕ) (back : ℕ) → length (between n mid back) ≡ n + (length mid + back)
unfolding between
between-length zero mid back = let ih = front-length mid back in omega arith
between-length (suc n) mid back = let ih = between-length n mid back in omega arith

all_zero : (n i : ℕ) → slice_index (zeros n) i ≡ 0
all_zero zero i = refl
all_zero (suc n) zero = refl
all_zero (suc n) (suc i) = all_zero n i

mid_in : (mid : List ℕ) (back i : ℕ) → i < length mid → slice_index (mid ++ zeros back) i ≡ slice_index mid i
mid_in [] back i low = absurd (omega arith)
mid_in (x ∷ mid) back zero low = refl
mid_in (x ∷ mid) back (suc i) low = mid_in mid back i (omega arith)

mid_past : (mid : List ℕ) (back i : ℕ) → length mid ≤ i → slice_index (mid ++ zeros back) i ≡ 0
mid_past [] back i low = all_zero back i
mid_past (x ∷ mid) back zero low = absurd (omega arith)
mid_past (x ∷ mid) back (suc i) low = mid_past mid back i (omega arith)

pub between-in : (n : ℕ) (mid : List ℕ) (back i : ℕ) → i < length mid → slice_index (between n mid back) (n + i) ≡ slice_index mid i
unfolding between
between-in zero mid back i low = let e : 0 + i ≡ i = omega arith in ap (λ k. slice_index (mid ++ zeros back) k) e ∙ mid_in mid back i low
between-in (suc n) mid back i low = let e : suc n + i ≡ suc (n + i) = omega arith in ap (λ k. slice_index (0 ∷ between n mid back) k) e ∙
    between-in n mid back i low

pub between-before : (n : ℕ) (mid : List ℕ) (back i : ℕ) → i < n → slice_index (between n mid back) i ≡ 0
unfolding between
between-before zero mid back i low = absurd (omega arith)
between-before (suc n) mid back zero low = refl
between-before (suc n) mid back (suc i) low = between-before n mid back i (omega arith)

pub between-past : (n : ℕ) (mid : List ℕ) (back i : ℕ) → n + length mid ≤ i → slice_index (between n mid back) i ≡ 0
unfolding between
between-past zero mid back i low = mid_past mid back i (omega arith)
between-past (suc n) mid back zero low = absurd (omega arith)
between-past (suc n) mid back (suc i) low = between-past n mid back i (omega arith)
