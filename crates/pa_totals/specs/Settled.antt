-- What a settling adds to the totals words, when a seat may make it, and what was added to a word.
use Rattle.std.specs.Prelude.{◌≡◌, ℕ, zero, suc, ◌+◌, ◌*◌, ◌<◌, ◌≤◌, ◌==◌, List, [], ◌∷◌, ◌++◌, if◌then◌else◌, slice_index_or}
use Rattle.std.specs.List.{sum_by}
use Rattle.pa_region.specs.declared.view.Entry.{Entry}
use Rattle.pa_region.specs.declared.view.Entry.TheVariants.{Added}
use Rattle.pa_region.specs.declared.view.View.{View}
use Rattle.pa_region.specs.declared.view.Stake.{Stake}
use Rattle.pa_region.specs.declared.view.Deeds.{Deeds}
use Rattle.pa_region.specs.Moves.{noted, no_deeds}
use Rattle.pa_region.specs.Views.{least_stake, stake_of, HasStake, logged_of}
use Rattle.pa_region.specs.Pairs.{least_log}
use Rattle.pa_region.specs.Takes.{log_of}
use Rattle.pa_region.specs.Totals.{owes_as, added_as, added_to}
use Rattle.pa_totals.specs.declared.owed.Owed.{Owed}

-- nothing is owed
abbrev pub nothing_owed : Owed
nothing_owed = record { issued = 0; freed = 0; entered = 0; left = 0 }

-- what is owed to the word of kind q
abbrev pub owed_to : ℕ → Owed → ℕ
owed_to q o = if q == 0 then o.issued else (if q == 1 then o.freed else (if q == 2 then o.entered else (if q == 3 then o.left else 0)))

-- A seat with this view may settle what is owed to the words of partition p: it has a stake,
-- and of each kind the least stake's log owes as much.
pub record CanSettle (p : ℕ) (o : Owed) (v : View) : Type 0 where
  pub partition : p < 4
  pub stake : HasStake v
  pub covered : (q : ℕ) → sum_by (added_as q) (least_log v.stakes) + owed_to q o ≤ sum_by (owes_as q) (least_log v.stakes)

-- the stakes after this many bytes were added to totals word number k: the least has an entry of it, unless no byte was added
abbrev pub stakes_with : ℕ → ℕ → List Stake → List Stake
stakes_with k zero stakes = stakes
stakes_with k (suc n) stakes = noted (Added k (suc n)) stakes

-- what was done since the last entry, after this many bytes were added
abbrev pub deeds_after : ℕ → Deeds → Deeds
deeds_after zero since = since
deeds_after (suc n) since = no_deeds

-- the view after this many bytes were added to totals word number k: as after an addition, unless no byte was added
abbrev pub after_owed : ℕ → ℕ → View → View
after_owed k bytes v = record v { stakes = stakes_with k bytes v.stakes; since = deeds_after bytes v.since }

-- the view after what is owed to partition p was settled: added to the partition's words, in the order of the kinds
abbrev pub after_settle : ℕ → Owed → View → View
after_settle p o v =
    after_owed (4 * p + 3) o.left (after_owed (4 * p + 2) o.entered (after_owed (4 * p + 1) o.freed (after_owed (4 * p) o.issued v)))

-- what was added to word number k, in all logs of the view
abbrev pub added_in : View → ℕ → ℕ
added_in v k = logged_of v (added_to k)

-- an addition to word number k as the entry of a log, none if no byte was added
abbrev pub addition : ℕ → ℕ → List Entry
addition k zero = []
addition k (suc n) = Added k (suc n) ∷ []

-- the additions of a settling of one partition, at most four, as entries of a log
abbrev pub four_added : ℕ → Owed → List Entry
four_added p o =
    addition (4 * p) o.issued ++ (addition (4 * p + 1) o.freed ++ (addition (4 * p + 2) o.entered ++ addition (4 * p + 3) o.left))

-- What a settling of one partition leaves of logs: the least stake's log ends with its additions,
-- the others are as before, and so are the stakes.
pub record LeavesSettle (p : ℕ) (o : Owed) (v w : View) : Type 0 where
  pub least : least_stake w.stakes ≡ least_stake v.stakes
  pub log : log_of (least_stake v.stakes) w ≡ log_of (least_stake v.stakes) v ++ four_added p o
  pub other_logs : (k : ℕ) → (k ≡ least_stake v.stakes → ⊥) → log_of k w ≡ log_of k v
  pub stakes : (k : ℕ) → stake_of w k ≡ stake_of v k

-- every settling of a partition that a view allows leaves this of logs
abbrev pub SettleLeaves : Type 0
SettleLeaves = (p : ℕ) (o : Owed) (v : View) → CanSettle p o v → LeavesSettle p o v (after_settle p o v)

-- ---- the words of all four partitions

-- what is owed to the words of partition p
abbrev pub owed_at : List Owed → ℕ → Owed
owed_at owed p = slice_index_or owed p nothing_owed

-- nothing is owed to the words of any partition
abbrev pub none_owed : List Owed
none_owed = nothing_owed ∷ nothing_owed ∷ nothing_owed ∷ nothing_owed ∷ []

-- what is owed to the words of kind q, of all partitions
abbrev pub owed_in : ℕ → List Owed → ℕ
owed_in q owed =
    owed_to q (owed_at owed 0) + (owed_to q (owed_at owed 1) + (owed_to q (owed_at owed 2) + owed_to q (owed_at owed 3)))

-- A seat with this view may settle what is owed to all four partitions: it has a stake,
-- and of each kind the least stake's log owes as much.
pub record CanSettleAll (owed : List Owed) (v : View) : Type 0 where
  pub stake : HasStake v
  pub covered : (q : ℕ) → sum_by (added_as q) (least_log v.stakes) + owed_in q owed ≤ sum_by (owes_as q) (least_log v.stakes)

-- the view after all that is owed was settled, one partition after the other
abbrev pub after_settle_all : List Owed → View → View
after_settle_all owed v =
    after_settle 3 (owed_at owed 3) (after_settle 2 (owed_at owed 2) (after_settle 1 (owed_at owed 1) (after_settle 0 (owed_at owed 0) v)))

-- the additions of a settling of all four partitions, at most sixteen, as entries of a log
abbrev pub all_added : List Owed → List Entry
all_added owed =
    four_added 0 (owed_at owed 0) ++ (four_added 1 (owed_at owed 1) ++ (four_added 2 (owed_at owed 2) ++ four_added 3 (owed_at owed 3)))

-- What a settling of all four partitions leaves of logs. The least stake's log ends with its additions, and added no more than it owes.
-- The other logs are as before, and so are the stakes. To each of the sixteen words was added what was owed to it.
pub record LeavesSettleAll (owed : List Owed) (v w : View) : Type 0 where
  pub least : least_stake w.stakes ≡ least_stake v.stakes
  pub log : log_of (least_stake v.stakes) w ≡ log_of (least_stake v.stakes) v ++ all_added owed
  pub other_logs : (k : ℕ) → (k ≡ least_stake v.stakes → ⊥) → log_of k w ≡ log_of k v
  pub stakes : (k : ℕ) → stake_of w k ≡ stake_of v k
  pub covered : (q : ℕ) → sum_by (added_as q) (least_log w.stakes) ≤ sum_by (owes_as q) (least_log w.stakes)
  pub adds : (p q : ℕ) → p < 4 → q < 4 → sum_by (added_to (4 * p + q)) (all_added owed) ≡ owed_to q (owed_at owed p)

-- every settling of all four partitions that a view allows leaves this of logs
abbrev pub SettleAllLeaves : Type 0
SettleAllLeaves = (owed : List Owed) (v : View) → CanSettleAll owed v → LeavesSettleAll owed v (after_settle_all owed v)
