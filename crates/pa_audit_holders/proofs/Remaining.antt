-- Lists that are gone through until no slot is left in those after.
use Rattle.std.proofs.Common.{◌≡◌, ℕ, zero, suc, ◌+◌, ◌-◌, ◌<◌, ◌≤◌, List, [], length, refl, sym, ◌∙◌, ap, arith, inl, inr}
use Rattle.std.proofs.lemmas.Bool.{cases_eq, cases_lt}
use Rattle.std.proofs.lemmas.List.{nil_from_length}
use Rattle.pa_record.specs.declared.numbered.Numbered.{Numbered}
use Rattle.pa_rules.specs.Caches.{listed_slots}
use Rattle.pa_rules.proofs.Sums.{slots_of_none}

-- the lists from class k on, up to an end, have that many slots
abbrev pub AreLeft : (ℕ → List Numbered) → ℕ → ℕ → ℕ → Type 0
AreLeft lists end k rest = rest ≡ listed_slots lists k (end - k)

-- the slots from class k on are those of its list and those of the lists after it
slots_next : (lists : ℕ → List Numbered) (end k : ℕ) → k < end
    → listed_slots lists k (end - k) ≡ length (lists k) + listed_slots lists (k + 1) (end - (k + 1))
unfolding listed_slots
slots_next lists end k less = let one_more : end - k ≡ suc (end - (k + 1)) = omega (arith, less) in ap (listed_slots lists k) one_more

-- if there are slots there is a list
pub left_some : (lists : ℕ → List Numbered) (end k rest : ℕ) → AreLeft lists end k rest → 0 < rest → k < end
left_some lists end k rest left some = elim (cases_lt k end) [
  | inl less ↦ less
  | inr past ↦
      let over : end - k ≡ 0 = omega (arith, past) in
      let none : listed_slots lists k (end - k) ≡ 0 = ap (listed_slots lists k) over ∙ slots_of_none lists k in
      absurd (omega (arith, left, none, some))
]

-- after the next list its slots are gone from them
pub left_more : (lists : ℕ → List Numbered) (end k rest len : ℕ) → AreLeft lists end k rest → 0 < rest → len ≡ length (lists k)
    → AreLeft lists end (k + 1) (rest - len)
left_more lists end k rest len left some is =
    let next = slots_next lists end k (left_some lists end k rest left some) in
    omega (arith, left, next, is)

-- the next list's slots are among them
pub left_part : (lists : ℕ → List Numbered) (end k rest len : ℕ) → AreLeft lists end k rest → 0 < rest → len ≡ length (lists k) → len ≤ rest
left_part lists end k rest len left some is =
    let next = slots_next lists end k (left_some lists end k rest left some) in
    omega (arith, left, next, is)

none_from : (lists : ℕ → List Numbered) (k n : ℕ) → listed_slots lists k n ≡ 0 → (c : ℕ) → k ≤ c → c < k + n → lists c ≡ []
unfolding listed_slots
none_from lists k zero none c low high = absurd (omega (arith, low, high))
none_from lists k (suc n) none c low high =
    let here : length (lists k) + listed_slots lists (k + 1) n ≡ 0 = none in
    elim (cases_eq c k) [
      | inl same ↦ ap lists same ∙ nil_from_length (lists k) (omega (arith, here))
      | inr other ↦ none_from lists (k + 1) n (omega (arith, here)) c (omega (arith, low, other)) (omega (arith, high))
    ]

-- if no slot is left the lists are empty
pub left_none : (lists : ℕ → List Numbered) (end k rest c : ℕ) → AreLeft lists end k rest → rest ≡ 0 → k ≤ c → c < end → lists c ≡ []
left_none lists end k rest c left none low high = none_from lists k (end - k) (sym left ∙ none) c low (omega (arith, low, high))

-- lists that are the same from two classes on have as many slots
pub slots_shifted : (f g : ℕ → List Numbered) (a b n : ℕ) → ((c d i : ℕ) → c ≡ a + i → d ≡ b + i → i < n → f c ≡ g d)
    → listed_slots f a n ≡ listed_slots g b n
unfolding listed_slots
slots_shifted f g a b zero same = refl
slots_shifted f g a b (suc n) same =
    let head = ap length (same a b 0 (omega arith) (omega arith) (omega arith)) in
    let tail = slots_shifted f g (a + 1) (b + 1) n
    (λ c d i e k less. same c d (i + 1) (omega (arith, e)) (omega (arith, k)) (omega (arith, less))) in
    omega (arith, head, tail)
