-- Consecutive entries of a log, and sums over the logs of one stake number.
use Rattle.std.specs.Prelude.{ℕ, ◌+◌, List, [], ◌∷◌, ◌==◌, Option, Some, None, if◌then◌else◌}
use Rattle.std.specs.List.{sum_by}
use Rattle.pa_region.specs.declared.view.Entry.{Entry}
use Rattle.pa_region.specs.declared.view.Stake.{Stake}
use Rattle.pa_region.specs.declared.view.View.{View}
use Rattle.pa_region.specs.Views.{least_stake}

-- the sum of a weight over all pairs of consecutive entries of a log
abbrev pub pairs : (Entry → Entry → ℕ) → List Entry → ℕ
pairs weight [] = 0
pairs weight (a ∷ []) = 0
pairs weight (a ∷ b ∷ log) = weight a b + pairs weight (b ∷ log)

-- the last entry of a log
abbrev pub last_entry : List Entry → Option Entry
last_entry [] = None
last_entry (a ∷ []) = Some a
last_entry (a ∷ b ∷ log) = last_entry (b ∷ log)

-- the weight of an entry with the one right before it, if there is one
abbrev pub weight_after : (Entry → Entry → ℕ) → Option Entry → Entry → ℕ
weight_after weight None e = 0
weight_after weight (Some a) e = weight a e

-- the sum over the pairs of consecutive entries in the logs of a view's stakes
abbrev pub paired_of : View → (Entry → Entry → ℕ) → ℕ
paired_of v weight = sum_by (λ (s : Stake). pairs weight s.log) v.stakes

-- the sum over the pairs of consecutive entries in the logs of all these views
abbrev pub paired_in : List View → (Entry → Entry → ℕ) → ℕ
paired_in views weight = sum_by (λ v. paired_of v weight) views

-- an amount of a stake's log if the stake's number is r, and 0 otherwise
abbrev pub amount_by : ℕ → (List Entry → ℕ) → Stake → ℕ
amount_by r amount s = if s.number == r then amount s.log else 0

-- the sum over the pairs of consecutive entries in the logs of a view's stakes of number r
abbrev pub paired_of_by : View → ℕ → (Entry → Entry → ℕ) → ℕ
paired_of_by v r weight = sum_by (amount_by r (pairs weight)) v.stakes

-- the sum over the pairs of consecutive entries in the logs of all these views' stakes of number r
abbrev pub paired_by : List View → ℕ → (Entry → Entry → ℕ) → ℕ
paired_by views r weight = sum_by (λ v. paired_of_by v r weight) views

-- the sum over the entries in the logs of a view's stakes of number r
abbrev pub logged_of_by : View → ℕ → (Entry → ℕ) → ℕ
logged_of_by v r weight = sum_by (amount_by r (sum_by weight)) v.stakes

-- the sum over the entries in the logs of all these views' stakes of number r
abbrev pub logged_by : List View → ℕ → (Entry → ℕ) → ℕ
logged_by views r weight = sum_by (λ v. logged_of_by v r weight) views

-- the log of the first stake with the number k
abbrev pub log_among : ℕ → List Stake → List Entry
log_among k [] = []
log_among k (s ∷ ss) = if s.number == k then s.log else log_among k ss

-- the log that gets a view's next entry: that of its least stake
abbrev pub least_log : List Stake → List Entry
least_log stakes = log_among (least_stake stakes) stakes
