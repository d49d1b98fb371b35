-- The class of a raw size.
use Rattle.std.specs.Prelude.{ℕ, ◌<◌, ◌≤◌}
use Rattle.pa_buckets.specs.Limits.{first_class, past_class}
use Rattle.pa_buckets.specs.Table.{slot_of}

-- c is the version's least class whose slot size is at least the raw size
pub record IsClassIn (version raw c : ℕ) : Type 0 where
  pub from : first_class version ≤ c
  pub real : c < past_class version
  pub fits : raw ≤ slot_of c
  pub least : (d : ℕ) → first_class version ≤ d → d < c → slot_of d < raw

-- that of version 1
abbrev pub IsClassOf : ℕ → ℕ → Type 0
IsClassOf = IsClassIn 1
