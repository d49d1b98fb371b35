-- How a take changes a view: laws of two views that are put together.
use Rattle.std.specs.Prelude.{◌≡◌, ℕ, ◌<◌, ◌≤◌, ◌⊎◌, List, length, max, slice_index}
use Rattle.pa_slot.specs.declared.title.Title.{Title}
use Rattle.pa_slot.specs.Titles.{IsWellFormed}
use Rattle.pa_region.specs.declared.view.Entry.{Entry}
use Rattle.pa_region.specs.declared.view.Made.{Made}
use Rattle.pa_region.specs.declared.view.View.{View}
use Rattle.pa_region.specs.Views.{Knows, free_of, seen_of, stake_of}
use Rattle.pa_region.specs.Pairs.{log_among}
use Rattle.pa_region.specs.Lists.{keeper_of, list_of, made_with, entered_in, IsBeginning}
use Rattle.pa_region.specs.Hands.{united}
use Rattle.pa_region.specs.Aware.{IsAware}

-- the log of a view's stake with this number
abbrev pub log_of : ℕ → View → List Entry
log_of r v = log_among r v.stakes

-- whole is the longer one of the lists a and b
pub record IsLongest (whole a b : List Made) : Type 0 where
  pub either : (whole ≡ a) ⊎ (whole ≡ b)
  pub first : length a ≤ length whole
  pub second : length b ≤ length whole

-- two views together have seen the greater number of each title
abbrev pub SeenJoins : Type 0
SeenJoins = (v w : View) (t : Title) → seen_of (united v w) t ≡ max (seen_of v t) (seen_of w t)

-- two views together have seen the longer beginning of each keeper's list
abbrev pub ListsJoin : Type 0
ListsJoin = (v w : View) (k : ℕ) → IsLongest (list_of k (united v w)) (list_of k v) (list_of k w)

-- what each of two views has seen of a list is a beginning of what both together have
abbrev pub BeginningsJoin : Type 0
BeginningsJoin =
    (v w : View) (k : ℕ) → IsAware (united v w) →
    IsBeginning (list_of k v) (list_of k (united v w)) × IsBeginning (list_of k w) (list_of k (united v w))

-- Of two beginnings of one list the shorter is a beginning of the longer. A beginning that is as long as the list is the list.
abbrev pub BeginningsAreOrdered : Type 0
BeginningsAreOrdered =
    ((a b l : List Made) → IsBeginning a l → IsBeginning b l → length a ≤ length b → IsBeginning a b) ×
    ((a l : List Made) → IsBeginning a l → length l ≤ length a → a ≡ l)

-- a view that has a keeper has its whole list, so a take adds no entry to it
abbrev pub KeepersHaveAll : Type 0
KeepersHaveAll =
    (v w : View) (k : ℕ) → IsAware v → IsAware w → IsAware (united v w) →
    (0 < keeper_of v k → list_of k (united v w) ≡ list_of k v) × (0 < keeper_of w k → list_of k (united v w) ≡ list_of k w)

-- if the lists of words of two views are equally long, both together have each word that one of them knows
abbrev pub KnownWordsJoin : Type 0
KnownWordsJoin =
    (v w : View) (q : ℕ) → IsAware (united v w) → length v.words ≡ length w.words →
    (Knows v q → slice_index (united v w).words q ≡ slice_index v.words q) ×
    (Knows w q → slice_index (united v w).words q ≡ slice_index w.words q)

-- a view that holds a title free has seen its number, so a take brings no greater one
abbrev pub FreeNumbersStay : Type 0
FreeNumbersStay =
    (v w : View) (n : ℕ) (t : Title) → IsAware v → IsAware w → IsAware (united v w) → length v.words ≡ length w.words → IsWellFormed n t →
    (0 < free_of v t → seen_of (united v w) t ≡ seen_of v t) × (0 < free_of w t → seen_of (united v w) t ≡ seen_of w t)

-- what a view's stake made, of a list that the view has seen, is in order what its log entered there
abbrev pub StakesMadeTheirs : Type 0
StakesMadeTheirs = (v : View) (r k : ℕ) → IsAware v → 0 < stake_of v r → made_with r (list_of k v) ≡ entered_in k (log_of r v)
