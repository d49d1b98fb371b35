-- A span stays sound when it is provisioned, gives a slot, takes one back and is decommitted.
use Rattle.std.proofs.Common.{◌≡◌, ◌≢◌, ℕ, zero, suc, ◌+◌, ◌-◌, ◌*◌, ◌/◌, ◌<◌, ◌≤◌, min, max, eqb, List, [], ◌∷◌, length, refl, sym, ap, subst, arith, ◌⊎◌, inl, inr}
use Rattle.std.specs.Prelude.{Contains, AllPairs}
use Rattle.std.proofs.lemmas.Bool.{cases_Bool, cases_lt, eqb-true, eqb-false}
use Rattle.std.proofs.lemmas.Nat.{le-div}
use Rattle.std.proofs.Math.Nat.{mul-le-mul_left}
use Rattle.pa_buckets.specs.Table.{slot_of, system_of, slots_of}
use Rattle.pa_buckets.proofs.Facts.{IsRow-of}
use Rattle.pa_record.specs.Spans.{Span, more_pages, more_slots, provisioned_more, with_list, with_free, without_front, with_front, without_pages, state_in_use, state_back}
use Rattle.pa_record.specs.Sound.{StateSays, IsCounted}
use Rattle.pa_lists.proofs.Members.{not_in_none, later_in, in_cases}
use Rattle.pa_lists.proofs.Pairs.{pairs_none, pairs_cons, pairs_tail}
use Rattle.pa_lists.proofs.Different.{numbers_length, numbers_in, numbers_once, length_less}
use Rattle.pa_lists.specs.Numbers.{numbers}

-- a span of at most 983040 bytes has at most 241 pages after one slot more
pub pages_most : (committed bytes : ℕ) → committed ≤ 240 → bytes ≤ 983040 → max (committed + 1) ((bytes + 4095) / 4096) ≤ 241
pages_most committed bytes low less = omega arith

-- as many pages as one slot more needs
enough_pages : (size committed provisioned : ℕ) →
    size * (provisioned + 1) ≤ 4096 * max (committed + 1) ((size * (provisioned + 1) + 4095) / 4096)
enough_pages size committed provisioned = omega arith

-- if not all slots are provisioned, not all pages are committed
some_pages : (size slots system committed provisioned : ℕ) → 0 < size → slots * size ≤ 4096 * system → provisioned < slots →
    provisioned ≡ min (4096 * committed / size) slots → committed + 1 ≤ system
some_pages size slots system committed provisioned some fit below is = elim (cases_lt committed system) [
  | inl less ↦ omega arith
  | inr more ↦
      let all : slots ≤ 4096 * committed / size = le-div slots (4096 * committed) size some (omega arith) in
      absurd (omega arith)
]

-- one slot more fits into the span's pages
fits_within : (size slots system provisioned : ℕ) → slots * size ≤ 4096 * system → provisioned < slots →
    (size * (provisioned + 1) + 4095) / 4096 ≤ system
fits_within size slots system provisioned fit below =
    let up : size * (provisioned + 1) ≤ size * slots = mul-le-mul_left size (omega arith) in
    let sides : slots * size ≡ size * slots = omega arith in
    omega arith

-- the numbers of a class
pub size_some : (c : ℕ) → c < 170 → 0 < slot_of c
size_some c real = let b = IsRow-of c real in let p = b.least_slot in omega arith

size_fits : (c : ℕ) → c < 170 → slots_of c * slot_of c ≤ 4096 * system_of c
size_fits c real = let b = IsRow-of c real in let p = b.filled in omega arith

-- if not all slots are provisioned, one more is after it
pub more_than : (s : Span) → IsCounted s → s.provisioned < slots_of s.class → s.provisioned + 1 ≤ more_slots s
more_than s h below =
    let size = slot_of s.class in
    let enough = enough_pages size s.committed s.provisioned in
    let sides : (s.provisioned + 1) * size ≡ size * (s.provisioned + 1) = omega arith in
    let fit : s.provisioned + 1 ≤ 4096 * more_pages s / size =
    le-div (s.provisioned + 1) (4096 * more_pages s) size (size_some s.class h.class) (omega arith) in
    omega arith

more_within : (s : Span) → IsCounted s → s.provisioned < slots_of s.class → more_pages s ≤ system_of s.class
more_within s h below =
    let size = slot_of s.class in
    let one = some_pages size (slots_of s.class) (system_of s.class) s.committed s.provisioned (size_some s.class h.class)
    (size_fits s.class h.class) below h.provisioned in
    let slot = fits_within size (slots_of s.class) (system_of s.class) s.provisioned (size_fits s.class h.class) below in
    omega arith

provisioned_counted : (s : Span) → IsCounted s → s.free ≡ [] → s.allocated < slots_of s.class → IsCounted (provisioned_more s)
provisioned_counted s h e below =
    let all : s.allocated ≡ s.provisioned = let p = h.listed in let q = ap length e in omega arith in
    let more = more_than s h (omega arith) in
    record {
      class = h.class;
      listed = let p = numbers_length s.provisioned (more_slots s - s.provisioned) in omega arith;
      numbers = λ n among. let (p, q) = numbers_in s.provisioned (more_slots s - s.provisioned) n among in omega arith;
      once = numbers_once s.provisioned (more_slots s - s.provisioned);
      provisioned = refl;
      committed = more_within s h (omega arith);
      made = omega arith;
      most = let p = h.most in omega arith;
    }

-- a span of which not all slots are out is sound after it was provisioned where it has to be, and has a front
pub record HasFront (s : Span) : Type 0 where
  pub counted : IsCounted s
  pub number : ℕ
  pub rest : List ℕ
  pub free : s.free ≡ number ∷ rest

front_of_numbers : (from count : ℕ) → 0 < count → (rest : List ℕ) × (numbers from count ≡ from ∷ rest)
front_of_numbers from zero some = absurd (omega arith)
front_of_numbers from (suc count) some = (numbers (from + 1) count, refl)

pub list_cases : (xs : List ℕ) → (xs ≡ []) ⊎ ((x : ℕ) × (rest : List ℕ) × (xs ≡ x ∷ rest))
list_cases [] = inl refl
list_cases (x ∷ xs) = inr (x, xs, refl)

pub with_free_front : (s : Span) → IsCounted s → s.allocated < slots_of s.class → HasFront (with_free s)
with_free_front s h below = elim (list_cases s.free) [
  | inl none ↦
      let counted = provisioned_counted s h none below in
      let all : s.allocated ≡ s.provisioned = let p = h.listed in let q = ap length none in omega arith in
      let more = more_than s h (omega arith) in
      let (rest, e) = front_of_numbers s.provisioned (more_slots s - s.provisioned) (omega arith) in
      let p : with_free s ≡ provisioned_more s = ap (λ xs. with_list xs s) none in
      subst (λ z. HasFront z) (sym p) (record { counted = counted; number = s.provisioned; rest = rest; free = e })
  | inr some ↦
      let (x, rest, e) = some in
      let p : with_free s ≡ s = ap (λ xs. with_list xs s) e in
      subst (λ z. HasFront z) (sym p) (record { counted = h; number = x; rest = rest; free = e })
]

pub without_front_counted : (s : Span) (number : ℕ) (rest : List ℕ) → IsCounted s → s.free ≡ number ∷ rest →
    IsCounted (without_front rest s)
without_front_counted s number rest h e = record {
  class = h.class;
  listed = let p = h.listed in let q = ap length e in omega arith;
  numbers = λ n among. h.numbers n (subst (λ xs. Contains xs n) (sym e) (later_in number n rest among));
  once = pairs_tail (λ (a b : ℕ). a ≢ b) number rest (subst (λ xs. AllPairs ◌≢◌ xs) e h.once);
  provisioned = h.provisioned;
  committed = h.committed;
  made = h.made;
  most = h.most;
}

-- if one of its slots is out, some are
pub some_out : (s : Span) (number : ℕ) → IsCounted s → number < s.provisioned → (Contains s.free number → ⊥) → 1 ≤ s.allocated
some_out s number h below out =
    let less = length_less s.free s.provisioned number h.once h.numbers below out in
    let p = h.listed in
    omega arith

pub with_front_counted : (s : Span) (number : ℕ) → IsCounted s → number < s.provisioned → (Contains s.free number → ⊥) →
    IsCounted (with_front number s)
with_front_counted s number h below out =
    let some = some_out s number h below out in
    record {
      class = h.class;
      listed = let p = h.listed in omega arith;
      numbers = λ n among. elim (in_cases number n s.free among) [
        | inl same ↦ omega arith
        | inr rest ↦ h.numbers n rest
      ];
      once = pairs_cons (λ (a b : ℕ). a ≢ b) number s.free (λ n among e. out (subst (λ z. Contains s.free z) (sym e) among)) h.once;
      provisioned = h.provisioned;
      committed = h.committed;
      made = h.made;
      most = h.most;
    }

pub no_pages : (size slots : ℕ) → 0 ≡ min (4096 * 0 / size) slots
no_pages size slots = omega arith

pub without_pages_counted : (s : Span) → IsCounted s → s.allocated ≡ 0 → IsCounted (without_pages s)
without_pages_counted s h none = record {
  class = h.class;
  listed = omega arith;
  numbers = λ n among. absurd (not_in_none n among);
  once = pairs_none (λ (a b : ℕ). a ≢ b);
  provisioned = no_pages (slot_of s.class) (slots_of s.class);
  committed = omega arith;
  made = omega arith;
  most = h.most;
}

-- the state after a take, and after a return
pub says_in_use : (s : Span) → 1 ≤ s.allocated → s.allocated ≤ slots_of s.class → StateSays (state_in_use s) s
says_in_use s some most = elim (cases_Bool (eqb s.allocated (slots_of s.class))) [
  | inl all ↦ rw all (eqb-true _ _ all)
  | inr not_all ↦ rw not_all (some, let ne = eqb-false _ _ not_all in omega arith)
]

pub says_back : (s : Span) → s.allocated < slots_of s.class → StateSays (state_back s) s
says_back s less = elim (cases_Bool (eqb s.allocated 0)) [
  | inl none ↦ rw none (eqb-true _ _ none)
  | inr some ↦ rw some (let ne = eqb-false _ _ some in omega arith, less)
]
