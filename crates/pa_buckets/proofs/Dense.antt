-- The classes of version 2 beside those of version 1.
use Rattle.std.proofs.Common.{◌≡◌, ℕ, ◌+◌, ◌*◌, ◌<◌, ◌≤◌, Bool, true, ◌&&◌, leb, ltb, eqb, refl, sym, ap, ◌∙◌, subst, arith}
use Rattle.std.specs.Prelude.{nat_lt, if◌then◌else◌}
use Rattle.std.proofs.lemmas.Bool.{and_parts, eqb-true, leb-true, ltb-true}
use Rattle.pa_buckets.specs.Table.{rows, row_of, slot_of, span_shape_of}
use Rattle.pa_buckets.specs.Bands.{limit_for, fill_for}
use Rattle.pa_buckets.specs.Laws.{dense_size, AreAlike}
use Rattle.pa_buckets.specs.Rule.{FollowsRule}
use Rattle.pa_buckets.proofs.Tests.{each_below, equal_below}
use Rattle.pa_buckets.proofs.Facts.{limit_of-size, fill_of-size}
use Rattle.pa_buckets.proofs.SpanRule.{FollowsRule-of, FollowsRule-unique}

-- the sizes of version 2
pub dense_sizes : (k : ℕ) → 59 + k < 170 → slot_of (59 + k) ≡ dense_size k
unfolding rows row_of slot_of
dense_sizes k below = equal_below (λ i. slot_of (59 + i)) dense_size 111 refl k (omega arith)

-- version 2's class with the slot size of a class of version 1: of its four to a doubling each second of eight
abbrev kept_as : ℕ → ℕ
kept_as c = if nat_lt c 8 then 59 + c else 52 + 2 * c

-- whether it is one of version 2 and has that size
abbrev is_kept : ℕ → Bool
is_kept c = leb 59 (kept_as c) && (ltb (kept_as c) 170 && eqb (slot_of (kept_as c)) (slot_of c))

is_kept-true : (c : ℕ) → c < 59 → is_kept c ≡ true
unfolding rows row_of slot_of
is_kept-true c real = each_below is_kept 59 refl c real

pub sizes_kept : (c : ℕ) → c < 59 → (d : ℕ) × (59 ≤ d) × (d < 170) × (slot_of d ≡ slot_of c)
sizes_kept c real =
    let (low, rest) = and_parts _ _ (is_kept-true c real) in
    let (high, same) = and_parts _ _ rest in
    (kept_as c, leb-true _ _ low, ltb-true _ _ high, eqb-true _ _ same)

-- classes with one slot size are alike
pub classes_alike : (c d : ℕ) → c < 59 → 59 ≤ d → d < 170 → slot_of c ≡ slot_of d → AreAlike c d
classes_alike c d real low high same = record {
  shape = FollowsRule-unique (slot_of d) (span_shape_of c) (span_shape_of d)
      (subst (λ s. FollowsRule s (span_shape_of c)) same (FollowsRule-of c (omega arith))) (FollowsRule-of d high);
  limit = limit_of-size c (omega arith) ∙ ap (λ s. limit_for s) same ∙ sym (limit_of-size d high);
  fill = fill_of-size c (omega arith) ∙ ap (λ s. fill_for s) same ∙ sym (fill_of-size d high);
}
