-- The laws of the classes.
use Rattle.std.specs.Prelude.{◌≡◌, ℕ, ◌+◌, ◌-◌, ◌*◌, ◌/◌, ◌%◌, ◌^◌, ◌<◌, ◌≤◌, nat_lt, if◌then◌else◌}
use Rattle.pa_buckets.specs.declared.spans.SpanShape.{SpanShape}
use Rattle.pa_buckets.specs.Limits.{class_count, sparse_count, greatest_raw, most_pages, most_waste}
use Rattle.pa_buckets.specs.Table.{slot_of, pages_of, system_of, slots_of, waste_of, span_shape_of}
use Rattle.pa_buckets.specs.Bands.{limit_of, fill_of}
use Rattle.pa_buckets.specs.Rule.{IsFirstTight, FollowsRule}

-- Each class's spans follow the rule. In version 1, for slots of at most 16,384 bytes some pair leaves at most 64 bytes over, so no class
-- there needs the least waste.
pub record RowsFollowTheRule : Type 0 where
  pub follows : (c : ℕ) → c < class_count → FollowsRule (slot_of c) (span_shape_of c)
  pub tight : (c : ℕ) → c < sparse_count → slot_of c ≤ 16384 → IsFirstTight (slot_of c) (pages_of c) (system_of c)

-- two spans that follow the rule for one slot size are one
abbrev pub RuleGivesOneSpan : Type 0
RuleGivesOneSpan = (s : ℕ) (x y : SpanShape) → FollowsRule s x → FollowsRule s y → x ≡ y

-- the bounds of the numbers of a class of the version
pub record IsRowIn (version c : ℕ) : Type 0 where
  pub sixteens : slot_of c % 16 ≡ 0
  pub least_slot : 16 ≤ slot_of c
  pub greatest_slot : slot_of c ≤ greatest_raw version
  pub some_slots : 1 ≤ slots_of c
  pub few_slots : slots_of c ≤ 1024
  pub filled : slots_of c * slot_of c + waste_of c ≡ 4096 * system_of c
  pub little_waste : waste_of c ≤ most_waste version
  pub some_pages : 1 ≤ pages_of c
  pub few_pages : pages_of c ≤ most_pages version
  pub used : system_of c ≤ 4 * pages_of c
  pub inside : slots_of c * slot_of c ≤ 16384 * pages_of c
  pub some_fill : 1 ≤ fill_of c
  pub few_fill : fill_of c ≤ 8
  pub few_kept : limit_of c ≤ 64

-- those of version 2, which a class of version 1 has too
abbrev pub IsRow : ℕ → Type 0
IsRow = IsRowIn 2

-- each class has these bounds, one of version 1 tighter ones, and of one version a greater class has greater slots
pub record RowsHaveBounds : Type 0 where
  pub bounds : (c : ℕ) → c < class_count → IsRow c
  pub bounds_1 : (c : ℕ) → c < sparse_count → IsRowIn 1 c
  pub rising : (c d : ℕ) → c < d → d < sparse_count → slot_of c < slot_of d
  pub rising_2 : (c d : ℕ) → sparse_count ≤ c → c < d → d < class_count → slot_of c < slot_of d

-- The slot size of version 2's k-th class: in steps of 16 to 128, then in eight steps to each doubling, to 983,040.
abbrev pub dense_size : ℕ → ℕ
dense_size k =
    if nat_lt k 8 then 16 * (k + 1) else
    if nat_lt k 104 then (9 + k % 8) * 16 * 2 ^ (k / 8 - 1) else
    524288 + 65536 * (k - 103)

-- the classes are alike in all but their numbers
pub record AreAlike (c d : ℕ) : Type 0 where
  pub shape : span_shape_of c ≡ span_shape_of d
  pub limit : limit_of c ≡ limit_of d
  pub fill : fill_of c ≡ fill_of d

-- Version 2's classes have these sizes. Each size of version 1 is one of them, and of a class of either version with one
-- slot size the spans, the limit and the fill count are the same.
pub record ClassesAreDense : Type 0 where
  pub sizes : (k : ℕ) → sparse_count + k < class_count → slot_of (sparse_count + k) ≡ dense_size k
  pub kept : (c : ℕ) → c < sparse_count → (d : ℕ) × (sparse_count ≤ d) × (d < class_count) × (slot_of d ≡ slot_of c)
  pub alike : (c d : ℕ) → c < sparse_count → sparse_count ≤ d → d < class_count → slot_of c ≡ slot_of d → AreAlike c d
