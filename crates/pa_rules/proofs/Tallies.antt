-- What a thread's lists of each partition have together, when one of them changes.
use Rattle.std.proofs.Common.{◌≡◌, ℕ, zero, suc, ◌+◌, ◌-◌, ◌*◌, ◌<◌, ◌≤◌, List, [], ◌∷◌, length, get_or, set, refl, sym, ◌∙◌, ap, subst, arith, inl, inr}
use Rattle.std.proofs.lemmas.Bool.{cases_eq}
use Rattle.std.proofs.lemmas.List.{get_or-set_same, get_or-set_other, length-set}
use Rattle.std.proofs.lemmas.Nat.{mul-le}
use Rattle.pa_buckets.specs.Table.{slot_of}
use Rattle.pa_buckets.proofs.Facts.{IsRow-of}
use Rattle.pa_record.specs.declared.numbered.Numbered.{Numbered}
use Rattle.pa_record.specs.declared.report.Tally.{Tally}
use Rattle.pa_rules.specs.Caches.{Cache}
use Rattle.pa_rules.specs.Lists.{AreTalliesOf, HasPart, IsTallyOf, changed_by, no_tally}
use Rattle.pa_rules.proofs.Sums.{bytes_none, bytes_summed, slots_none, slots_summed, summed_changed, summed_most, summed_part}

-- the slots of one of some lists, and their bytes
abbrev slots_at : (ℕ → List Numbered) → ℕ → ℕ
slots_at lists c = length (lists c)

abbrev bytes_at : (ℕ → List Numbered) → ℕ → ℕ
bytes_at lists c = slot_of c * length (lists c)

-- lists with at most so many slots each have no more than this
pub most_slots : (lists : ℕ → List Numbered) (most : ℕ) (t : Tally) → ((c : ℕ) → length (lists c) ≤ most) → IsTallyOf lists t →
    t.slots ≤ 170 * most
most_slots lists most t few by =
    let all = summed_most (slots_at lists) most 0 170 (λ c real. few c) in
    let is = slots_summed lists 0 170 in
    omega (arith, all, is, by.slots)

pub most_bytes : (lists : ℕ → List Numbered) (most : ℕ) (t : Tally) → ((c : ℕ) → length (lists c) ≤ most) → IsTallyOf lists t →
    t.bytes ≤ 170 * (983040 * most)
most_bytes lists most t few by =
    let all = summed_most (bytes_at lists) (983040 * most) 0 170
    (λ c real. mul-le (slot_of c) (length (lists c)) 983040 most (IsRow-of c real).greatest_slot (few c)) in
    let is = bytes_summed (λ c. length (lists c)) 0 170 in
    omega (arith, all, is, by.bytes)

-- a list is counted among them
pub part_of : (lists : ℕ → List Numbered) (class now : ℕ) (t : Tally) → class < 170 → ((c : ℕ) → length (lists c) ≤ 72) → now ≤ 72 →
    IsTallyOf lists t → HasPart t class (length (lists class)) now
part_of lists class now t real few short by =
    let a = summed_part (slots_at lists) class 0 170 (omega arith) (omega (arith, real)) in
    let b = summed_part (bytes_at lists) class 0 170 (omega arith) (omega (arith, real)) in
    let c = slots_summed lists 0 170 in
    let d = bytes_summed (λ k. length (lists k)) 0 170 in
    let e = by.slots in
    let f = by.bytes in
    record {
      slots = omega (arith, a, c, e);
      bytes = omega (arith, b, d, f);
      few = let m = most_slots lists 72 t few by in omega (arith, m);
      small = let m = most_bytes lists 72 t few by in omega (arith, m);
      short = few class;
      short_too = short;
    }

-- the tally of lists of which one changed
tally_changed : (lists next : ℕ → List Numbered) (class : ℕ) (t after : Tally) → class < 170 →
    ((c : ℕ) → (c ≡ class → ⊥) → next c ≡ lists c) →
    IsTallyOf lists t → after ≡ changed_by t class (length (lists class)) (length (next class)) → IsTallyOf next after
tally_changed lists next class t after real others by is = record {
  slots =
      let a = summed_changed (slots_at next) (slots_at lists) class 0 170 (omega arith) (omega (arith, real))
      (λ c ne. ap length (others c ne)) in
      let b = summed_part (slots_at lists) class 0 170 (omega arith) (omega (arith, real)) in
      let c = slots_summed next 0 170 in
      let d = slots_summed lists 0 170 in
      let e = by.slots in
      let f : after.slots ≡ t.slots - length (lists class) + length (next class) = ap (λ (z : Tally). z.slots) is in
      omega (arith, a, b, c, d, e, f);
  bytes =
      let a = summed_changed (bytes_at next) (bytes_at lists) class 0 170 (omega arith) (omega (arith, real))
      (λ c ne. ap (λ (xs : List Numbered). slot_of c * length xs) (others c ne)) in
      let b = summed_part (bytes_at lists) class 0 170 (omega arith) (omega (arith, real)) in
      let c = bytes_summed (λ k. length (next k)) 0 170 in
      let d = bytes_summed (λ k. length (lists k)) 0 170 in
      let e = by.bytes in
      let f : after.bytes ≡ t.bytes - slot_of class * length (lists class) + slot_of class * length (next class) =
      ap (λ (z : Tally). z.bytes) is in
      omega (arith, a, b, c, d, e, f);
}

-- ---- the sums of all partitions

-- the sums after one of a partition's lists changed
pub sums_changed : (cache next : Cache) (sums : List Tally) (p class : ℕ) (after : Tally) → p < 4 → class < 170 →
    ((q c : ℕ) → ((q ≡ p) × (c ≡ class) → ⊥) → next q c ≡ cache q c) → AreTalliesOf cache sums →
    after ≡ changed_by (get_or sums p no_tally) class (length (cache p class)) (length (next p class)) →
    AreTalliesOf next (set sums p after)
sums_changed cache next sums p class after low real others h is = record { four = length-set sums p after ∙ h.four; each = each }
  where
    each : (q : ℕ) → q < 4 → IsTallyOf (next q) (get_or (set sums p after) q no_tally)
    each q small = elim (cases_eq q p) [
      | inl same ↦
          let there : get_or (set sums p after) q no_tally ≡ after =
          ap (λ k. get_or (set sums p after) k no_tally) same ∙
          get_or-set_same sums p after no_tally (omega (arith, h.four, low)) in
          subst (λ k. IsTallyOf (next k) (get_or (set sums p after) q no_tally)) (sym same)
          (subst (IsTallyOf (next p)) (sym there)
          (tally_changed (cache p) (next p) class (get_or sums p no_tally) after real (λ c ne. others p c (λ e. ne e.1)) (h.each p low)
          is))
      | inr other ↦
          subst (IsTallyOf (next q)) (sym (get_or-set_other sums p q after no_tally other))
          (subst (λ lists. IsTallyOf lists (get_or sums q no_tally)) (λ i c. sym (others q c (λ e. other e.0)) i) (h.each q small))
    ]

four_none : (q : ℕ) → get_or (no_tally ∷ no_tally ∷ no_tally ∷ no_tally ∷ []) q no_tally ≡ no_tally
four_none zero = refl
four_none (suc zero) = refl
four_none (suc (suc zero)) = refl
four_none (suc (suc (suc zero))) = refl
four_none (suc (suc (suc (suc q)))) = refl

-- the sums of lists that are all empty
pub sums_none : (cache : Cache) (sums : List Tally) → ((p c : ℕ) → cache p c ≡ []) →
    sums ≡ no_tally ∷ no_tally ∷ no_tally ∷ no_tally ∷ [] → AreTalliesOf cache sums
sums_none cache sums none are = subst (AreTalliesOf cache) (sym are) (record {
  four = refl;
  each = λ p low. subst (IsTallyOf (cache p)) (sym (four_none p)) (record {
    slots = sym (slots_none (cache p) 0 170 (λ c from below. none p c));
    bytes = sym (bytes_none (cache p) 0 170 (λ c from below. none p c));
  });
})
