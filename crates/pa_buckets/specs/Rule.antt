-- The rule that gives the shape of a span for a slot size.
use Rattle.std.specs.Prelude.{◌≡◌, ℕ, ◌+◌, ◌-◌, ◌*◌, ◌/◌, ◌%◌, ◌<◌, ◌≤◌, ◌⊎◌}
use Rattle.pa_buckets.specs.declared.spans.SpanShape.{SpanShape}

-- The pairs that the rule tries: n partition pages, 1 to 4, of which slots use the first c system pages. They leave
-- unused at most as many system pages as the half of n, rounded down.
pub record IsTried (n c : ℕ) : Type 0 where
  pub from_one : 1 ≤ n
  pub to_four : n ≤ 4
  pub at_most_all : c ≤ 4 * n
  pub nearly_all : 4 * n - n / 2 ≤ c

-- the pair (m, d) is tried before (n, c): it has fewer partition pages, or as many and more system pages
abbrev pub IsBefore : ℕ → ℕ → ℕ → ℕ → Type 0
IsBefore m d n c = (m < n) ⊎ ((m ≡ n) × (c < d))

-- the bytes that slots of s bytes leave over in c system pages
abbrev pub left_over : ℕ → ℕ → ℕ
left_over s c = 4096 * c % s

-- (n, c) is the first pair that leaves at most 64 bytes over
pub record IsFirstTight (s n c : ℕ) : Type 0 where
  pub tried : IsTried n c
  pub tight : left_over s c ≤ 64
  pub first : (m d : ℕ) → IsTried m d → IsBefore m d n c → 64 < left_over s d

-- c system pages leave a smaller part of themselves over than d do, by cross products
abbrev pub WastesLess : ℕ → ℕ → ℕ → Type 0
WastesLess s c d = left_over s c * (4096 * d) < left_over s d * (4096 * c)

-- c system pages and d system pages leave the same part of themselves over
abbrev pub WastesAlike : ℕ → ℕ → ℕ → Type 0
WastesAlike s c d = left_over s c * (4096 * d) ≡ left_over s d * (4096 * c)

-- no pair leaves at most 64 bytes over, and of those that leave the least part over (n, c) is the first
pub record IsLeastWaste (s n c : ℕ) : Type 0 where
  pub tried : IsTried n c
  pub none_tight : (m d : ℕ) → IsTried m d → 64 < left_over s d
  pub least : (m d : ℕ) → IsTried m d →
      WastesLess s c d ⊎ (WastesAlike s c d × ¬ IsBefore m d n c)

-- a span of one slot, with as many system pages as that needs
pub record IsOneSlot (s : ℕ) (span : SpanShape) : Type 0 where
  pub system_pages : span.system_pages ≡ (s + 4095) / 4096
  pub pages : span.pages ≡ (span.system_pages + 3) / 4
  pub one : span.slots ≡ 1

-- the span has the shape that the rule gives for slots of s bytes
pub record FollowsRule (s : ℕ) (span : SpanShape) : Type 0 where
  pub small : s ≤ 16384 →
      IsFirstTight s span.pages span.system_pages ⊎ IsLeastWaste s span.pages span.system_pages
  pub large : 16384 < s → IsOneSlot s span
  pub slots : span.slots ≡ 4096 * span.system_pages / s
  pub waste : span.waste ≡ left_over s span.system_pages
