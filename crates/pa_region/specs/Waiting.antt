-- What reads gave, and what a look ensures for the read that may follow it.
use Rattle.std.specs.Prelude.{◌≡◌, ℕ, ◌<◌, ◌≤◌, ◌⊎◌, List, Bool, true, false, not, ◌==◌, ◌&&◌, nat_lt, Some, if◌then◌else◌}
use Rattle.std.specs.List.{sum_by}
use mathlib.Core.Option.{some}
use lib.ListN.{get_elem?}
use Rattle.pa_slot.specs.declared.title.Title.{Title}
use Rattle.pa_slot.specs.declared.title.OwnState.{OwnState}
use Rattle.pa_slot.specs.declared.title.OwnState.TheVariants.{Clean, Dirty, Poisoned}
use Rattle.pa_slot.specs.Count.{number_of, held_of}
use Rattle.pa_slot.specs.Titles.{same_title, count_word, poison}
use Rattle.pa_slot.specs.Holdings.{one}
use Rattle.pa_region.specs.declared.view.Deeds.{Deeds}
use Rattle.pa_region.specs.declared.view.OwnTitle.{OwnTitle}
use Rattle.pa_region.specs.declared.view.Entry.{Entry}
use Rattle.pa_region.specs.declared.view.Entry.TheVariants.{Looked, Read}
use Rattle.pa_region.specs.declared.view.View.{View}
use Rattle.pa_region.specs.Views.{stake_of, counted_at, HasTitle, HasStake}
use Rattle.pa_region.specs.History.{Done, content_of}
use Rattle.pa_region.specs.Contents.{content_at_number}
use Rattle.pa_region.specs.Frees.{frees_from, IsFirstFree}
use Rattle.pa_region.specs.Pairs.{last_entry, least_log, paired_in, paired_by, logged_by}

-- nothing was handed over, stored or poisoned
abbrev pub is_quiet : Deeds → Bool
is_quiet d = not d.handed && (not d.stored && not d.poisoned)

-- The weight 1 if a look found the bit 0, and a read of the same title right after it, with nothing handed over between the two, gave
-- a value other than poison, else 0.
abbrev pub gave_no_poison : Entry → Entry → ℕ
gave_no_poison (Looked t found) (Read u place value since owned unclean) =
    one (same_title t u && ((held_of found == 0) && (not since.handed && not (value == poison))))
gave_no_poison before e = 0

-- The weight 1 if a look at this title found this word, and a read of it right after that gave this value, quietly, else 0. Nothing
-- was handed over, stored or poisoned between the two, and the reader had the title's Own clean, or, if `own` is false, not at all.
abbrev pub quiet_read : Bool → Title → ℕ → ℕ → Entry → Entry → ℕ
quiet_read own t found value (Looked u word) (Read x place given since owned unclean) =
    one (
    (same_title u t && same_title x t)
    && (((word == found) && (given == value)) && ((is_quiet since && not unclean) && (if own then owned else not owned)))
    )
quiet_read own t found value before e = 0

-- the state is one of those of an Own that is being poisoned, or is filled with poison
abbrev pub is_poisoned : OwnState → Bool
is_poisoned Clean = false
is_poisoned Dirty = false
is_poisoned (Poisoned j) = true

-- the state isn't clean
abbrev pub is_unclean : OwnState → Bool
is_unclean Clean = false
is_unclean Dirty = true
is_unclean (Poisoned j) = true

-- how many times a view has the title's Own poisoned
abbrev pub poisoned_of : View → Title → ℕ
poisoned_of v t = sum_by (λ (o : OwnTitle). one (same_title o.title t && is_poisoned o.state)) v.owns

-- how many of a view's Owns are poisoned, of whatever title
abbrev pub poisoned_owns : View → ℕ
poisoned_owns v = sum_by (λ (o : OwnTitle). one (is_poisoned o.state)) v.owns

-- how many of a view's Owns aren't clean
abbrev pub unclean_of : View → ℕ
unclean_of v = sum_by (λ (o : OwnTitle). one (is_unclean o.state)) v.owns

-- how many times the views that don't have stake r have the title's Own poisoned
abbrev pub poisoned_apart : List View → Title → ℕ → ℕ
poisoned_apart views t r = sum_by (λ v. if nat_lt 0 (stake_of v r) then 0 else poisoned_of v t) views

-- a log of another stake number than r has the title's first Free that found a number of at least k
abbrev pub IsFreedElsewhere : (ℕ → (Entry → ℕ) → ℕ) → List Done → Title → ℕ → ℕ → Type 0
IsFreedElsewhere logs_by history t r k = (n : ℕ) × IsFirstFree history k n × (logs_by r (counted_at t n) ≡ 0)

-- Why a read with stake r, after a look that found the bit set at number k, may give poison. Another log has the title's first Free
-- from there on, or no such Free came yet, and a view without stake r has the Own poisoned.
abbrev pub IsFreeing : (ℕ → (Entry → ℕ) → ℕ) → (Title → ℕ → ℕ) → List Done → Title → ℕ → ℕ → Type 0
IsFreeing logs_by poisoned history t r k = IsFreedElsewhere logs_by history t r k ⊎ ((frees_from k history ≡ 0) × (0 < poisoned t r))

-- Each read right after a look gave what it should. If the look found the bit 0, it gave poison. If it found the bit set, a quiet
-- read through a clean Own gave the content at the look's number. One through a Ref gave that, or poison while another thread freed.
pub record AreRight (history : Title → List Done) (pairs : (Entry → Entry → ℕ) → ℕ) (pairs_by : ℕ → (Entry → Entry → ℕ) → ℕ)
    (logs_by : ℕ → (Entry → ℕ) → ℕ) (poisoned : Title → ℕ → ℕ) : Type 0 where
  pub freed : pairs gave_no_poison ≡ 0
  pub own : (t : Title) (found value : ℕ) → held_of found ≡ 1 → 0 < pairs (quiet_read true t found value) →
      value ≡ content_at_number (number_of found) (history t)
  pub ref : (r : ℕ) (t : Title) (found value : ℕ) → held_of found ≡ 1 → 0 < pairs_by r (quiet_read false t found value) →
      (value ≡ content_at_number (number_of found) (history t))
      ⊎ ((value ≡ poison) × IsFreeing logs_by poisoned (history t) t r (number_of found))

-- A view's last entry is a look at a title, which found this word, and it handed nothing over since. It still has the title. The
-- content is that at the look's number, and its log has no step from there on. If the bit was 0, it is 0.
pub record Waits (history : Title → List Done) (words : List ℕ) (v : View) (t : Title) (found : ℕ) : Type 0 where
  pub has : HasTitle v t
  pub content : content_of (history t) ≡ content_at_number (number_of found) (history t)
  pub none_later : (n : ℕ) → number_of found ≤ n → sum_by (counted_at t n) (least_log v.stakes) ≡ 0
  pub bit : held_of found ≡ 0 → held_of (count_word words t) ≡ 0

-- a look of the view waits with what the next read needs, and the view has an unclean Own only if it has a stake
pub record IsReader (history : Title → List Done) (words : List ℕ) (v : View) : Type 0 where
  pub waits : (t : Title) (found : ℕ) → last_entry (least_log v.stakes) ≡ Some (Looked t found) → v.since.handed ≡ false →
      Waits history words v t found
  pub stake : 0 < unclean_of v → HasStake v

-- what holds of reads, by what all views' logs say and what each view waits with
pub record Reads (history : Title → List Done) (words : List ℕ) (views : List View) : Type 0 where
  pub right : AreRight history (paired_in views) (paired_by views) (logged_by views) (poisoned_apart views)
  pub each_view : (i : ℕ) (v : View) → get_elem? views i ≡ some v → IsReader history words v
