-- What a map has at the keys between two bounds.
use Rattle.std.specs.Prelude.{◌≡◌, ℕ, ◌+◌, ◌<◌, ◌≤◌, Option, Some, None}

-- no key from `low` on and below `high` is there
abbrev pub HasNoKey : (ℕ → Option ℕ) → ℕ → ℕ → Type 0
HasNoKey at low high = (q : ℕ) → low ≤ q → q < high → at q ≡ None

-- q is the greatest key that is there between the bounds, and v is its value
pub record IsGreatest (at : ℕ → Option ℕ) (low high q v : ℕ) : Type 0 where
  pub from : low ≤ q
  pub below : q < high
  pub here : at q ≡ Some v
  pub last : HasNoKey at (q + 1) high

-- q is the least key that is there between the bounds, and v is its value
pub record IsLeast (at : ℕ → Option ℕ) (low high q v : ℕ) : Type 0 where
  pub from : low ≤ q
  pub below : q < high
  pub here : at q ≡ Some v
  pub first : HasNoKey at low q
