-- What the rule says of one view.
use Rattle.std.specs.Prelude.{◌≡◌, ℕ, ◌+◌, ◌<◌, ◌≤◌}
use Rattle.core.specs.List.{AllByRecursion as Each}
use Rattle.pa_slot.specs.declared.title.Title.{Title}
use Rattle.pa_slot.specs.Count.{number_of}
use Rattle.pa_slot.specs.Titles.{Covers, count_word}
use Rattle.pa_slot.specs.Holdings.{RawByte}
use Rattle.pa_region.specs.declared.view.View.{View}
use Rattle.pa_region.specs.Views.{held_of_view, free_of, own_of, ref_of, uncut_of, undone_of, stake_of, seen_of, unseen_of, logged_of, counted_on, HasTitle, HasEveryStake}
use Rattle.pa_region.specs.Lists.{keeper_of, lease_of, list_of, made_with, entered_in, IsBeginning, IsKnownTo, Rises, HasSeenHandles}
use Rattle.pa_region.specs.Pairs.{logged_of_by}
use Rattle.pa_region.specs.AllReads.{HasAllLogs}
use Rattle.pa_region.specs.Totals.{added_as, owes_as}
use Rattle.pa_region.specs.Order.{HasOneOrder}

-- The view has each thing, stake, keeper and lease at most once. A free title isn't used besides, its titles share no byte, and none
-- is raw or was uncut, by its logs or its own list. It has seen what its own logs say, the number of each title it holds free, and
-- the issue of each title that it has a handle of. Each note of a keeper's list is a beginning of what it has seen of the list, and
-- its own keepers' lists are all of it. What its stakes made there is what their logs entered. Each entry there was made with a
-- stake. What the makers had seen rises along the list, and the view has seen it too. By its logs no stake added more bytes to the
-- totals words of a kind than its steps of that kind weigh. If it has every stake, its logs are all logs, all that they and the lists
-- say is of one order, and it has seen no more than they say.
pub record IsAware (v : View) : Type 0 where
  pub raw_once : (b : ℕ) → held_of_view v (RawByte b) ≤ 1
  pub free_once : (t : Title) → free_of v t ≤ 1
  pub own_once : (t : Title) → own_of v t ≤ 1
  pub stake_once : (k : ℕ) → stake_of v k ≤ 1
  pub stake_small : (k : ℕ) → 0 < stake_of v k → k < 16
  pub keeper_once : (k : ℕ) → keeper_of v k ≤ 1
  pub lease_once : (n : ℕ) → lease_of v n ≤ 1
  pub free_alone : (t : Title) → 0 < free_of v t → own_of v t + ref_of v t ≡ 0
  pub apart : (t u : Title) (b : ℕ) → HasTitle v t → HasTitle v u → Covers t b → Covers u b → t ≡ u
  pub raw_apart : (t : Title) (b : ℕ) → HasTitle v t → Covers t b → held_of_view v (RawByte b) ≡ 0
  pub gone : (t : Title) → 0 < uncut_of v t → HasTitle v t → ⊥
  pub undone : (t : Title) → 0 < undone_of v t → HasTitle v t → ⊥
  pub own_logs : unseen_of v ≡ 0
  pub free_seen : (t : Title) → 0 < free_of v t → number_of (count_word v.words t) ≡ seen_of v t
  pub notes : Each (λ n. IsBeginning n.entries (list_of n.keeper v)) v.seen_lists
  pub own_lists : Each (λ q. q.entries ≡ list_of q.number v) v.keepers
  pub entered : (k : ℕ) → Each (λ s. made_with s.number (list_of k v) ≡ entered_in k s.log) v.stakes
  pub rises : (k : ℕ) → Rises (list_of k v)
  pub makers : (k : ℕ) → Each (λ m. m.stake < 16) (list_of k v)
  pub follows : (k : ℕ) → Each (λ m. IsKnownTo v.seen m) (list_of k v)
  pub handles : HasSeenHandles v
  pub covered : (r q : ℕ) → logged_of_by v r (added_as q) ≤ logged_of_by v r (owes_as q)
  pub all_logs : HasEveryStake v → HasAllLogs v
  pub one_order : HasEveryStake v → HasOneOrder v
  pub all_seen : HasEveryStake v → (t : Title) → seen_of v t ≤ logged_of v (counted_on t)
