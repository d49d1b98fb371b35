-- The table of the code, and a binary search in it.
use Rattle.std.proofs.Common.{◌≡◌, ℕ, ◌+◌, ◌-◌, ◌<◌, ◌≤◌, true, false, List, ltb, refl, subst, arith, slice_index_or, slice_range}
use Rattle.std.specs.List.Sorted.{IsPartitionPoint, IsPartitionedBy, IsNonDecreasingBy}
use Rattle.std.proofs.lemmas.List.Sorted.{IsPartitionedBy-ltb}
use Rattle.std.proofs.lemmas.Bool.{ltb-true, ltb-false}
use Rattle.pa_buckets.specs.declared.table.Row.{Row}
use Rattle.pa_buckets.specs.declared.table.TheConstants.{ROWS}
use Rattle.pa_buckets.specs.Table.{rows, row_of, slot_of, pages_of, system_of, slots_of, waste_of, span_shape_of}
use Rattle.pa_buckets.specs.Classes.{IsClassOf, IsClassIn}
use Rattle.pa_buckets.proofs.Tests.{equal_below}
use Rattle.pa_buckets.proofs.Facts.{IsRow-of, IsRow_1-of, slot_of-in_order, slot_of-in_order_2, slot_of-58, slot_of-169}
use Rattle.pa_buckets.proofs.SpanRule.{same_span}

-- a row of zeros, in place of an element that isn't there
zeros : Row
zeros = record { slot = 0; span = record { pages = 0; system_pages = 0; slots = 0; waste = 0 } }

-- an element of the code's table is the class's row
pub table_slot : (c : ℕ) (d : Row) → c < 170 → (slice_index_or ROWS c d).slot ≡ slot_of c
unfolding rows row_of slot_of
table_slot c d real = equal_below (λ k. (slice_index_or ROWS k d).slot) slot_of 170 refl c real

pub table_span : (c : ℕ) (d : Row) → c < 170 → (slice_index_or ROWS c d).span ≡ span_shape_of c
unfolding rows row_of pages_of system_of slots_of waste_of
table_span c d real =
    same_span _ _
    (equal_below (λ k. (slice_index_or ROWS k d).span.pages) pages_of 170 refl c real)
    (equal_below (λ k. (slice_index_or ROWS k d).span.system_pages) system_of 170 refl c real)
    (equal_below (λ k. (slice_index_or ROWS k d).span.slots) slots_of 170 refl c real)
    (equal_below (λ k. (slice_index_or ROWS k d).span.waste) waste_of 170 refl c real)

-- the rows of a version's classes
abbrev pub sparse : List Row
sparse = slice_range ROWS 0 59

abbrev pub dense : List Row
dense = slice_range ROWS 59 170

sparse_slot : (i : ℕ) (d : Row) → i < 59 → (slice_index_or sparse i d).slot ≡ slot_of i
unfolding rows row_of slot_of
sparse_slot i d real = equal_below (λ k. (slice_index_or sparse k d).slot) slot_of 59 refl i real

dense_slot : (i : ℕ) (d : Row) → i < 111 → (slice_index_or dense i d).slot ≡ slot_of (59 + i)
unfolding rows row_of slot_of
dense_slot i d real = equal_below (λ k. (slice_index_or dense k d).slot) (λ k. slot_of (59 + k)) 111 refl i real

-- the code's slot sizes don't fall in a version
in_order : IsNonDecreasingBy (λ r. r.slot) sparse
in_order i j d order real =
    omega (arith, sparse_slot i d (omega arith), sparse_slot j d real, slot_of-in_order i j order real)

in_order_2 : IsNonDecreasingBy (λ r. r.slot) dense
in_order_2 i j d order real =
    omega (
      arith,
      dense_slot i d (omega arith),
      dense_slot j d real,
      slot_of-in_order_2 (59 + i) (59 + j) (omega arith) (omega arith) (omega arith),
    )

-- in a table, the rows whose slots are below a raw size come before the others
pub table_parted : (raw : ℕ) → IsPartitionedBy (λ r. ltb r.slot raw) sparse
table_parted raw = IsPartitionedBy-ltb (λ r. r.slot) sparse raw in_order

pub table_parted_2 : (raw : ℕ) → IsPartitionedBy (λ r. ltb r.slot raw) dense
table_parted_2 raw = IsPartitionedBy-ltb (λ r. r.slot) dense raw in_order_2

-- the point of the rows where they end
abbrev pub IsPoint : ℕ → List Row → ℕ → Type 0
IsPoint raw rs i = IsPartitionPoint (λ r. ltb r.slot raw ≡ true) (λ r. ltb r.slot raw ≡ false) rs i

-- the class of the raw size is there
pub class_at : (raw i : ℕ) → IsPoint raw sparse i → i < 59 → IsClassOf raw i
class_at raw i point real = record {
  from = omega arith;
  real = real;
  fits = omega (arith, ltb-false _ _ (point.1 i zeros (omega arith) real), sparse_slot i zeros real);
  least = λ d from below. omega (arith, ltb-true _ _ (point.0 d zeros (omega arith) below), sparse_slot d zeros (omega arith));
}

pub class_at_2 : (raw i : ℕ) → IsPoint raw dense i → 59 + i < 170 → IsClassIn 2 raw (59 + i)
class_at_2 raw i point real = record {
  from = omega arith;
  real = real;
  fits = omega (arith, ltb-false _ _ (point.1 i zeros (omega arith) (omega arith)), dense_slot i zeros (omega arith));
  least = dense_least raw i point real;
}
  where
    dense_least : (raw i : ℕ) → IsPoint raw dense i → 59 + i < 170 → (d : ℕ) → 59 ≤ d → d < 59 + i → slot_of d < raw
    dense_least raw i point real d from below =
        let back : 59 + (d - 59) ≡ d = omega arith in
        subst (λ k. slot_of k < raw) back
        (omega (arith, ltb-true _ _ (point.0 (d - 59) zeros (omega arith) (omega arith)), dense_slot (d - 59) zeros (omega arith)))

-- a raw size that has a class isn't above the greatest slot
pub class_in_range : (raw c : ℕ) → IsClassOf raw c → raw ≤ 917504
class_in_range raw c class = omega (arith, class.fits, (IsRow_1-of c class.real).greatest_slot)

pub class_in_range_2 : (raw c : ℕ) → IsClassIn 2 raw c → raw ≤ 983040
class_in_range_2 raw c class = omega (arith, class.fits, (IsRow-of c class.real).greatest_slot)

-- if all are below it, it is above the greatest slot
pub no_class_at : (raw i : ℕ) → IsPoint raw sparse i → 59 ≤ i → 917504 < raw
no_class_at raw i point past =
    omega (arith, ltb-true _ _ (point.0 58 zeros (omega arith) (omega arith)), sparse_slot 58 zeros (omega arith), slot_of-58)

pub no_class_at_2 : (raw i : ℕ) → IsPoint raw dense i → 170 ≤ 59 + i → 983040 < raw
no_class_at_2 raw i point past =
    omega (arith, ltb-true _ _ (point.0 110 zeros (omega arith) (omega arith)), dense_slot 110 zeros (omega arith), slot_of-169)
