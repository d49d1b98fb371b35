-- Which interval has a byte, and that no other has.
use Rattle.std.proofs.Common.{◌≡◌, ℕ, ◌<◌, ◌≤◌, inl, inr, refl, arith, Contains, lit<}
use Rattle.std.proofs.lemmas.List.Elements.{All-contains, All-from_recursion}
use Rattle.std.proofs.lemmas.Bool.{cases_lt}
use Rattle.pa_layout.specs.declared.bytes.Kind.TheVariants.{Guard, Metadata, Payload}
use Rattle.pa_layout.specs.SuperPage.{Interval, interval, intervals, LiesIn, IsOfKind}
use Rattle.pa_layout.specs.Laws.{IsTheInterval}

-- the bytes of each interval are of its kind
pub first_guard : (x : ℕ) → x ≤ 4095 → IsOfKind x Guard
first_guard x to = (interval 0 4095 Guard, (0, lit< tt, refl), (omega arith, to), refl)

pub metadata : (x : ℕ) → 4096 ≤ x → x ≤ 8191 → IsOfKind x Metadata
metadata x from to = (interval 4096 8191 Metadata, (1, lit< tt, refl), (from, to), refl)

pub second_guard : (x : ℕ) → 8192 ≤ x → x ≤ 16383 → IsOfKind x Guard
second_guard x from to = (interval 8192 16383 Guard, (2, lit< tt, refl), (from, to), refl)

pub payload : (x : ℕ) → 16384 ≤ x → x ≤ 2080767 → IsOfKind x Payload
payload x from to = (interval 16384 2080767 Payload, (3, lit< tt, refl), (from, to), refl)

pub last_guard : (x : ℕ) → 2080768 ≤ x → x ≤ 2097151 → IsOfKind x Guard
last_guard x from to = (interval 2080768 2097151 Guard, (4, lit< tt, refl), (from, to), refl)

-- what holds of each of the five intervals holds of an interval of the list
pub each_of_five : (P : Interval → Type 0) →
    P (interval 0 4095 Guard) → P (interval 4096 8191 Metadata) → P (interval 8192 16383 Guard) →
    P (interval 16384 2080767 Payload) → P (interval 2080768 2097151 Guard) →
    (i : Interval) → Contains intervals i → P i
each_of_five P a b c d e i among = All-contains P intervals i (All-from_recursion P intervals (a, (b, (c, (d, (e, tt)))))) among

-- no other interval has a byte of this one
pub in_first_guard : (x : ℕ) → x ≤ 4095 → IsTheInterval x (interval 0 4095 Guard)
in_first_guard x to = record {
  among = (0, lit< tt, refl);
  lies = (omega arith, to);
  only = each_of_five (λ j. LiesIn x j → j ≡ interval 0 4095 Guard)
      (λ _. refl) (λ l. absurd (omega arith)) (λ l. absurd (omega arith)) (λ l. absurd (omega arith)) (λ l. absurd (omega arith));
}

pub in_metadata : (x : ℕ) → 4096 ≤ x → x ≤ 8191 → IsTheInterval x (interval 4096 8191 Metadata)
in_metadata x from to = record {
  among = (1, lit< tt, refl);
  lies = (from, to);
  only = each_of_five (λ j. LiesIn x j → j ≡ interval 4096 8191 Metadata)
      (λ l. absurd (omega arith)) (λ _. refl) (λ l. absurd (omega arith)) (λ l. absurd (omega arith)) (λ l. absurd (omega arith));
}

pub in_second_guard : (x : ℕ) → 8192 ≤ x → x ≤ 16383 → IsTheInterval x (interval 8192 16383 Guard)
in_second_guard x from to = record {
  among = (2, lit< tt, refl);
  lies = (from, to);
  only = each_of_five (λ j. LiesIn x j → j ≡ interval 8192 16383 Guard)
      (λ l. absurd (omega arith)) (λ l. absurd (omega arith)) (λ _. refl) (λ l. absurd (omega arith)) (λ l. absurd (omega arith));
}

pub in_payload : (x : ℕ) → 16384 ≤ x → x ≤ 2080767 → IsTheInterval x (interval 16384 2080767 Payload)
in_payload x from to = record {
  among = (3, lit< tt, refl);
  lies = (from, to);
  only = each_of_five (λ j. LiesIn x j → j ≡ interval 16384 2080767 Payload)
      (λ l. absurd (omega arith)) (λ l. absurd (omega arith)) (λ l. absurd (omega arith)) (λ _. refl) (λ l. absurd (omega arith));
}

pub in_last_guard : (x : ℕ) → 2080768 ≤ x → x ≤ 2097151 → IsTheInterval x (interval 2080768 2097151 Guard)
in_last_guard x from to = record {
  among = (4, lit< tt, refl);
  lies = (from, to);
  only = each_of_five (λ j. LiesIn x j → j ≡ interval 2080768 2097151 Guard)
      (λ l. absurd (omega arith)) (λ l. absurd (omega arith)) (λ l. absurd (omega arith)) (λ l. absurd (omega arith)) (λ _. refl);
}

-- each byte of a super page lies in one interval, and in no other
pub the_interval : (x : ℕ) → x < 2097152 → (i : Interval) × IsTheInterval x i
the_interval x below =
    elim (cases_lt x 4096) [
      | inl h ↦ (_, in_first_guard x (omega arith))
      | inr a ↦ elim (cases_lt x 8192) [
        | inl h ↦ (_, in_metadata x a (omega arith))
        | inr b ↦ elim (cases_lt x 16384) [
          | inl h ↦ (_, in_second_guard x b (omega arith))
          | inr c ↦ elim (cases_lt x 2080768) [
            | inl h ↦ (_, in_payload x c (omega arith))
            | inr d ↦ (_, in_last_guard x d (omega arith))
          ]
        ]
      ]
    ]

-- a byte of the kind payload lies in the fourth interval
pub payload_bounds : (x : ℕ) → IsOfKind x Payload → (16384 ≤ x) × (x ≤ 2080767)
payload_bounds x (i, among, lies, kind) =
    each_of_five (λ j. LiesIn x j → j.kind ≡ Payload → (16384 ≤ x) × (x ≤ 2080767))
    (λ _ e. absurd (cc)) (λ _ e. absurd (cc)) (λ _ e. absurd (cc)) (λ l _. l) (λ _ e. absurd (cc)) i among lies kind
