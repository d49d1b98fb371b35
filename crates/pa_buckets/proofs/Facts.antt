-- What holds of each class, by going through the table once.
use Rattle.std.proofs.Common.{◌≡◌, ℕ, zero, suc, ◌+◌, ◌*◌, ◌/◌, ◌%◌, ◌<◌, ◌≤◌, max, inl, inr, refl, arith}
use Rattle.std.proofs.lemmas.Bool.{cases_eq, le-leb, lt-leb}
use Rattle.pa_buckets.specs.Table.{rows, row_of, slot_of, pages_of, system_of, slots_of, waste_of}
use Rattle.pa_buckets.specs.Bands.{limit_of, fill_of, limit_for, fill_for}
use Rattle.pa_buckets.specs.Laws.{IsRow, IsRowIn}
use Rattle.pa_buckets.proofs.Tests.{equal_below, equal_from, at_most_below, at_most_from}

-- a class's bounds
pub IsRow-of : (c : ℕ) → c < 170 → IsRow c
unfolding rows row_of slot_of pages_of system_of slots_of waste_of limit_of fill_of
IsRow-of c real = record {
  sixteens = equal_below (λ k. slot_of k % 16) (λ _. 0) 170 refl c real;
  least_slot = at_most_below (λ _. 16) slot_of 170 refl c real;
  greatest_slot = at_most_below slot_of (λ _. 983040) 170 refl c real;
  some_slots = at_most_below (λ _. 1) slots_of 170 refl c real;
  few_slots = at_most_below slots_of (λ _. 1024) 170 refl c real;
  filled = equal_below (λ k. slots_of k * slot_of k + waste_of k) (λ k. 4096 * system_of k) 170 refl c real;
  little_waste = at_most_below waste_of (λ _. 2048) 170 refl c real;
  some_pages = at_most_below (λ _. 1) pages_of 170 refl c real;
  few_pages = at_most_below pages_of (λ _. 60) 170 refl c real;
  used = at_most_below system_of (λ k. 4 * pages_of k) 170 refl c real;
  inside = at_most_below (λ k. slots_of k * slot_of k) (λ k. 16384 * pages_of k) 170 refl c real;
  some_fill = at_most_below (λ _. 1) fill_of 170 refl c real;
  few_fill = at_most_below fill_of (λ _. 8) 170 refl c real;
  few_kept = at_most_below limit_of (λ _. 64) 170 refl c real;
}

-- the bounds that are less in version 1
small_slots : (c : ℕ) → c < 59 → slot_of c ≤ 917504
unfolding rows row_of slot_of
small_slots c real = at_most_below slot_of (λ _. 917504) 59 refl c real

little_waste : (c : ℕ) → c < 59 → waste_of c ≤ 64
unfolding rows row_of waste_of
little_waste c real = at_most_below waste_of (λ _. 64) 59 refl c real

few_pages : (c : ℕ) → c < 59 → pages_of c ≤ 56
unfolding rows row_of pages_of
few_pages c real = at_most_below pages_of (λ _. 56) 59 refl c real

-- a class's bounds in version 1
pub IsRow_1-of : (c : ℕ) → c < 59 → IsRowIn 1 c
IsRow_1-of c real =
    let h = IsRow-of c (omega arith) in
    record {
      sixteens = h.sixteens;
      least_slot = h.least_slot;
      greatest_slot = small_slots c real;
      some_slots = h.some_slots;
      few_slots = h.few_slots;
      filled = h.filled;
      little_waste = little_waste c real;
      some_pages = h.some_pages;
      few_pages = few_pages c real;
      used = h.used;
      inside = h.inside;
      some_fill = h.some_fill;
      few_fill = h.few_fill;
      few_kept = h.few_kept;
    }

-- the next class has greater slots
slot_of-next : (c : ℕ) → c < 58 → slot_of c + 1 ≤ slot_of (c + 1)
unfolding rows row_of slot_of
slot_of-next c below = at_most_below (λ k. slot_of k + 1) (λ k. slot_of (k + 1)) 58 refl c below

-- a greater class has greater slots
pub slot_of-rises : (c d : ℕ) → c < d → d < 59 → slot_of c < slot_of d
slot_of-rises c zero below real = absurd (omega arith)
slot_of-rises c (suc d) below real =
    let e : suc d ≡ d + 1 = omega arith in
    let next : slot_of d < slot_of (suc d) = rw e (omega (arith, slot_of-next d (omega arith))) in
    elim (cases_eq c d) [
      | inl same ↦ rw same next
      | inr other ↦ omega (arith, slot_of-rises c d (omega arith) (omega arith), next)
    ]

-- each class of version 2 but the last has smaller slots than the next one
slot_of-next_2 : (c : ℕ) → 59 ≤ c → c < 169 → slot_of c + 1 ≤ slot_of (c + 1)
unfolding rows row_of slot_of
slot_of-next_2 c low below = at_most_from (λ k. slot_of k + 1) (λ k. slot_of (k + 1)) 59 110 refl c low below

pub slot_of-rises_2 : (c d : ℕ) → 59 ≤ c → c < d → d < 170 → slot_of c < slot_of d
slot_of-rises_2 c zero low below real = absurd (omega arith)
slot_of-rises_2 c (suc d) low below real =
    let e : suc d ≡ d + 1 = omega arith in
    let next : slot_of d < slot_of (suc d) = rw e (omega (arith, slot_of-next_2 d (omega arith) (omega arith))) in
    elim (cases_eq c d) [
      | inl same ↦ rw same next
      | inr other ↦ omega (arith, slot_of-rises_2 c d low (omega arith) (omega arith), next)
    ]

-- a class that isn't above another has no greater slots
pub slot_of-in_order : (c d : ℕ) → c ≤ d → d < 59 → slot_of c ≤ slot_of d
slot_of-in_order c d order real =
    elim (cases_eq c d) [
      | inl same ↦ rw same (omega arith)
      | inr other ↦ omega (arith, slot_of-rises c d (omega arith) real)
    ]

pub slot_of-in_order_2 : (c d : ℕ) → 59 ≤ c → c ≤ d → d < 170 → slot_of c ≤ slot_of d
slot_of-in_order_2 c d low order real =
    elim (cases_eq c d) [
      | inl same ↦ rw same (omega arith)
      | inr other ↦ omega (arith, slot_of-rises_2 c d low (omega arith) real)
    ]

-- the least slot size that the rule doesn't count as small
pub slot_of-36 : slot_of 36 ≡ 20480
unfolding rows row_of slot_of
slot_of-36 = refl

-- the greatest slots
pub slot_of-58 : slot_of 58 ≡ 917504
unfolding rows row_of slot_of
slot_of-58 = refl

pub slot_of-169 : slot_of 169 ≡ 983040
unfolding rows row_of slot_of
slot_of-169 = refl

-- the cache limit and the fill count of each class
pub limit_of-first : (c : ℕ) → c ≤ 7 → limit_of c ≡ 64
unfolding rows row_of limit_of
limit_of-first c high = equal_below limit_of (λ _. 64) 8 refl c (omega arith)

pub limit_of-second : (c : ℕ) → 7 < c → c ≤ 19 → limit_of c ≡ 32
unfolding rows row_of limit_of
limit_of-second c low high = equal_from limit_of (λ _. 32) 8 12 refl c (omega arith) (omega arith)

pub limit_of-third : (c : ℕ) → 19 < c → c ≤ 39 → limit_of c ≡ 16
unfolding rows row_of limit_of
limit_of-third c low high = equal_from limit_of (λ _. 16) 20 20 refl c (omega arith) (omega arith)

pub limit_of-last : (c : ℕ) → 39 < c → c < 59 → limit_of c ≡ 0
unfolding rows row_of limit_of
limit_of-last c low high = equal_from limit_of (λ _. 0) 40 19 refl c (omega arith) (omega arith)

pub fill_of-limit : (c : ℕ) → c < 170 → fill_of c ≡ max (limit_of c / 8) 1
unfolding rows row_of limit_of fill_of
fill_of-limit c real = equal_below fill_of (λ k. max (limit_of k / 8) 1) 170 refl c real

-- they go by the slot size
pub limit_of-size : (c : ℕ) → c < 170 → limit_of c ≡ limit_for (slot_of c)
unfolding rows row_of slot_of limit_of
limit_of-size c real = equal_below limit_of (λ k. limit_for (slot_of k)) 170 refl c real

pub fill_of-size : (c : ℕ) → c < 170 → fill_of c ≡ fill_for (slot_of c)
unfolding rows row_of slot_of fill_of
fill_of-size c real = equal_below fill_of (λ k. fill_for (slot_of k)) 170 refl c real

-- in bands
pub limit_for-first : (s : ℕ) → s ≤ 128 → limit_for s ≡ 64
limit_for-first s small = rw (le-leb s 128 small) refl

pub limit_for-second : (s : ℕ) → 128 < s → s ≤ 1024 → limit_for s ≡ 32
limit_for-second s large small = rw (lt-leb s 128 large, le-leb s 1024 small) refl

pub limit_for-third : (s : ℕ) → 1024 < s → s ≤ 32768 → limit_for s ≡ 16
limit_for-third s large small = rw (lt-leb s 128 (omega arith), lt-leb s 1024 large, le-leb s 32768 small) refl

pub limit_for-last : (s : ℕ) → 32768 < s → s ≤ 983040 → limit_for s ≡ 0
limit_for-last s large small =
    rw (lt-leb s 128 (omega arith), lt-leb s 1024 (omega arith), lt-leb s 32768 large, le-leb s 983040 small) refl

pub sixteen_bytes : slot_of 0 ≡ 16
unfolding rows row_of slot_of
sixteen_bytes = refl
