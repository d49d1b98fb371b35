-- The totals words: to which kind of steps each belongs, what was added to it, and what stakes owe to the words of a kind. The kinds
-- are issued 0, freed 1, entered the quarantine 2 and left it 3. The word of number 4 p + q is of kind q.
use Rattle.std.specs.Prelude.{◌≡◌, ℕ, ◌+◌, ◌-◌, ◌*◌, ◌%◌, ◌<◌, ◌≤◌, List, Bool, ◌==◌, ◌&&◌, nat_lt, length, slice_index, if◌then◌else◌}
use Rattle.std.specs.List.{sum_by}
use Rattle.pa_slot.specs.declared.word.Step.{Step}
use Rattle.pa_slot.specs.Kinds.{issues, frees, enters, leaves}
use Rattle.pa_region.specs.declared.view.Entry.{Entry}
use Rattle.pa_region.specs.declared.view.Entry.TheVariants.{Counted, Added}
use Rattle.pa_region.specs.declared.view.View.{View}
use Rattle.pa_region.specs.Views.{HasStake, counted}
use Rattle.pa_region.specs.Moves.{noted, no_deeds}
use Rattle.pa_region.specs.Pairs.{least_log}

-- whether a step that found this word is of kind q
abbrev pub is_of_kind : ℕ → Step → ℕ → Bool
is_of_kind q step found =
    if q == 0
    then issues step found
    else (if q == 1 then frees step found else (if q == 2 then enters step found else (q == 3) && leaves step found))

-- the weight of an entry by what it owes: for a counted step of kind q the bytes of its title, else 0
abbrev pub owes_as : ℕ → Entry → ℕ
owes_as q (Counted t step found value) = if is_of_kind q step found then t.len else 0
owes_as q other = 0

-- the bytes that an entry added to a word of kind q, 0 if it added none
abbrev pub added_as : ℕ → Entry → ℕ
added_as q (Added word bytes) = if nat_lt word 16 && (word % 4 == q) then bytes else 0
added_as q other = 0

-- the bytes that an entry added to word number k, 0 if it added none
abbrev pub added_to : ℕ → Entry → ℕ
added_to k (Added word bytes) = if word == k then bytes else 0
added_to k other = 0

-- where totals word number k is among the region's words: right after the words of its bytes
abbrev pub total_place : List ℕ → ℕ → ℕ
total_place words k = (length words - 16) + k

-- The sixth part of the rule. There are 16 totals words. Each is the sum of the additions to it in all logs. What the logs of one
-- stake number owe to the words of a kind is never below what they added.
-- The region is so small that no sum passes 2^27 bytes for each counted step.
pub record Totals (words : List ℕ) (logs : (Entry → ℕ) → ℕ) (logs_by : ℕ → (Entry → ℕ) → ℕ) : Type 0 where
  pub wide : 16 ≤ length words
  pub small : length words ≤ 16777232
  pub sums : (k : ℕ) → k < 16 → slice_index words (total_place words k) ≡ logs (added_to k)
  pub covered : (r q : ℕ) → logs_by r (added_as q) ≤ logs_by r (owes_as q)
  pub bounded : (q : ℕ) → logs (owes_as q) ≤ 134217728 * logs counted

-- the view after an addition to totals word number k: it is in the log of the least stake
abbrev pub after_add : ℕ → ℕ → View → View
after_add k bytes v = record v { stakes = noted (Added k bytes) v.stakes; since = no_deeds }

-- a seat with this view may add this many bytes to word number k: its least stake owes as much to the words of that kind
abbrev pub CanAdd : ℕ → ℕ → View → Type 0
CanAdd k bytes v =
    (k < 16) × HasStake v
    × (sum_by (added_as (k % 4)) (least_log v.stakes) + bytes ≤ sum_by (owes_as (k % 4)) (least_log v.stakes))
