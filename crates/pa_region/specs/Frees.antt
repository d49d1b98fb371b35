-- The Frees of a title's history that found a number not below some number, and the first of them.
use Rattle.std.specs.Prelude.{◌≡◌, ℕ, ◌+◌, ◌≤◌, List, [], ◌∷◌, Bool, true, false, ◌&&◌, nat_le, length}
use Rattle.pa_slot.specs.declared.word.Step.{Step}
use Rattle.pa_slot.specs.declared.word.Step.TheVariants.{Issue, Copy, Reset, Free, Write}
use Rattle.pa_slot.specs.Holdings.{one}
use Rattle.pa_region.specs.History.{Done}

-- the step is a Free
abbrev pub is_free : Step → Bool
is_free Issue = false
is_free Copy = false
is_free Reset = false
is_free Free = true
is_free Write = false

-- How many Frees of the history found a number of at least k. The number that a step found is how many steps are older than it.
abbrev pub frees_from : ℕ → List Done → ℕ
frees_from k [] = 0
frees_from k (d ∷ older) = one (is_free d.step && nat_le k (length older)) + frees_from k older

-- The history's first Free that found a number of at least k found the number n: a Free found n, and no Free found a
-- number from k on that is below n.
pub record IsFirstFree (history : List Done) (k n : ℕ) : Type 0 where
  pub behind : k ≤ n
  pub none_before : frees_from k history ≡ frees_from n history
  pub here : frees_from n history ≡ frees_from (n + 1) history + 1
