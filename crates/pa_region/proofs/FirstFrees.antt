-- The first Free from a number on.
use Rattle.std.proofs.Common.{◌≡◌, ℕ, ◌+◌, ◌<◌, ◌≤◌, Bool, true, false, ◌&&◌, List, [], ◌∷◌, length, refl, sym, ◌∙◌, ap, arith, inl, inr, leb}
use Rattle.std.proofs.lemmas.Bool.{cases_lt, cases_Bool, le-leb, lt-leb, lt-ltb}
use Rattle.pa_slot.specs.declared.word.Step.{Step}
use Rattle.pa_slot.specs.declared.word.Step.TheVariants.{Issue, Copy, Reset, Free, Write}
use Rattle.pa_slot.specs.Count.{CanStep, stepped, held_of}
use Rattle.pa_slot.specs.Holdings.{one}
use Rattle.pa_slot.proofs.Arith.{stepped_is}
use Rattle.pa_region.specs.History.{Done, reached, IsLegal}
use Rattle.pa_region.specs.Contents.{word_at_number}
use Rattle.pa_region.specs.Frees.{is_free, frees_from, IsFirstFree}
use Rattle.pa_region.proofs.AtNumber.{up_to_more}

-- a test that is passed for sure leaves the other
and_true : (a b : Bool) → b ≡ true → one (a && b) ≡ one a
and_true true b e = rw e refl
and_true false b e = refl

-- a conjunction with false weighs nothing
and_false : (a b : Bool) → b ≡ false → one (a && b) ≡ 0
and_false true b e = rw e refl
and_false false b e = refl

-- one more step counts if it is a Free and the number is within
pub frees_more : (k : ℕ) (d : Done) (history : List Done) → k ≤ length history →
    frees_from k (d ∷ history) ≡ one (is_free d.step) + frees_from k history
frees_more k d history within = let a = and_true (is_free d.step) (leb k (length history)) (le-leb k (length history) within) in omega arith

-- a step counts nothing if the number is past it
frees_less : (k : ℕ) (d : Done) (history : List Done) → length history < k → frees_from k (d ∷ history) ≡ frees_from k history
frees_less k d history past = let a = and_false (is_free d.step) (leb k (length history)) (lt-leb k (length history) past) in omega arith

-- no Free found a number past the history
pub frees_past : (k : ℕ) (history : List Done) → length history ≤ k → frees_from k history ≡ 0
frees_past k [] past = refl
frees_past k (d ∷ older) past =
    let again = frees_past k older (omega arith) in
    let less = frees_less k d older (omega arith) in
    omega arith

-- fewer found a greater number
pub frees_fewer : (a b : ℕ) (history : List Done) → a ≤ b → frees_from b history ≤ frees_from a history
frees_fewer a b [] h = omega arith
frees_fewer a b (d ∷ older) h =
    let again = frees_fewer a b older h in
    elim (cases_lt (length older) b) [
      | inl y ↦ let less = frees_less b d older y in omega arith
      | inr n ↦
          let p = frees_more a d older (omega arith) in
          let q = frees_more b d older n in
          omega arith
    ]

-- the first Free is one of the history's steps
pub first_within : (history : List Done) (k n : ℕ) → IsFirstFree history k n → n < length history
first_within history k n first = elim (cases_lt n (length history)) [
  | inl y ↦ y
  | inr past ↦ let z = frees_past n history past in let h = first.here in absurd (omega arith)
]

-- a first Free stays the first under a later step
pub first_stays : (d : Done) (history : List Done) (k n : ℕ) → IsFirstFree history k n → IsFirstFree (d ∷ history) k n
first_stays d history k n first =
    let within = first_within history k n first in
    let behind = first.behind in let before = first.none_before in let here = first.here in
    let p = frees_more k d history (omega arith) in
    let q = frees_more n d history (omega arith) in
    let r = frees_more (n + 1) d history (omega arith) in
    record { behind = behind; none_before = omega arith; here = omega arith }

-- a Free is the first if there was none
pub first_now : (d : Done) (history : List Done) (k : ℕ) → k ≤ length history → frees_from k history ≡ 0 → is_free d.step ≡ true →
    IsFirstFree (d ∷ history) k (length history)
first_now d history k within none free =
    let n = length history in
    let z = frees_past n history (omega arith) in
    let z1 = frees_past (n + 1) history (omega arith) in
    let p = frees_more k d history within in
    let q = frees_more n d history (omega arith) in
    let r = frees_less (n + 1) d history (omega arith) in
    let o : one (is_free d.step) ≡ 1 = ap one free in
    record { behind = within; none_before = omega arith; here = omega arith }

-- if there are some, there is a first
pub has_first : (k : ℕ) (history : List Done) → 0 < frees_from k history → (n : ℕ) × IsFirstFree history k n
has_first k [] some_free = absurd (omega arith)
has_first k (d ∷ older) some_free =
    elim (cases_lt 0 (frees_from k older)) [
      | inl y ↦ let again = has_first k older y in (again.0, first_stays d older k again.0 again.1)
      | inr none ↦
          elim (cases_lt (length older) k) [
            | inl past ↦ let less = frees_less k d older past in absurd (omega arith)
            | inr within ↦
                let more = frees_more k d older within in
                elim (cases_Bool (is_free d.step)) [
                  | inl free ↦ (length older, first_now d older k within (omega arith) free)
                  | inr other ↦ let z : one (is_free d.step) ≡ 0 = ap one other in absurd (omega arith)
                ]
          ]
    ]

-- there is only one first Free from a number on
pub one_first : (history : List Done) (k n m : ℕ) → IsFirstFree history k n → IsFirstFree history k m → n ≡ m
one_first history k n m first other =
    let a = first.none_before in let b = first.here in
    let c = other.none_before in let d = other.here in
    elim (cases_lt n m) [
      | inl less ↦ let f = frees_fewer (n + 1) m history (omega arith) in absurd (omega arith)
      | inr more ↦ elim (cases_lt m n) [
        | inl less ↦ let f = frees_fewer (m + 1) n history (omega arith) in absurd (omega arith)
        | inr same ↦ omega arith
      ]
    ]

-- a step that is no Free leaves the bit set
bit_kept : (step : Step) (word : ℕ) → CanStep step word → one (is_free step) ≡ 0 → held_of word ≡ 1 → held_of (stepped step word) ≡ 1
bit_kept Issue word can other set = (stepped_is Issue word can).1
bit_kept Copy word can other set = let s = stepped_is Copy word can in s.1 ∙ set
bit_kept Reset word can other set = let s = stepped_is Reset word can in s.1 ∙ set
bit_kept Free word can other set = absurd (omega arith)
bit_kept Write word can other set = let s = stepped_is Write word can in s.1 ∙ set

-- the bit that was set at a number is set at the end, if no Free came since
pub bit_unfreed : (k : ℕ) (history : List Done) → IsLegal history → k ≤ length history → held_of (word_at_number k history) ≡ 1 →
    frees_from k history ≡ 0 → held_of (reached history) ≡ 1
bit_unfreed k [] legal within set none = set
bit_unfreed k (d ∷ older) legal within set none = elim (cases_lt (length older) k) [
  | inl last ↦ rw (lt-ltb (length older) k last) at set
  | inr inside ↦
      let more = frees_more k d older inside in
      let was : held_of (word_at_number k older) ≡ 1 = sym (ap held_of (ap reached (up_to_more k d older inside))) ∙ set in
      bit_kept d.step (reached older) legal.0 (omega arith) (bit_unfreed k older legal.1 inside was (omega arith))
]
