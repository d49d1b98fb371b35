-- Keepers' lists: what a view has of them, and how lists, logs and what was seen fit together.
use Rattle.std.specs.Prelude.{◌≡◌, ℕ, ◌+◌, ◌<◌, ◌≤◌, List, [], ◌∷◌, ◌++◌, ◌==◌, nat_lt, nat_le, length, if◌then◌else◌}
use Rattle.std.specs.List.{sum_by}
use Rattle.core.specs.List.{AllByRecursion as Each}
use mathlib.Core.Option.{some}
use lib.ListN.{get_elem?}
use Rattle.pa_slot.specs.declared.title.Title.{Title}
use Rattle.pa_slot.specs.Count.{number_of}
use Rattle.pa_slot.specs.Titles.{count_word}
use Rattle.pa_slot.specs.Holdings.{one}
use Rattle.pa_region.specs.declared.view.Entry.{Entry}
use Rattle.pa_region.specs.declared.view.Entry.TheVariants.{Entered}
use Rattle.pa_region.specs.declared.view.Made.{Made}
use Rattle.pa_region.specs.declared.view.Keeper.{Keeper}
use Rattle.pa_region.specs.declared.view.SeenNumber.{SeenNumber}
use Rattle.pa_region.specs.declared.view.SeenList.{SeenList}
use Rattle.pa_region.specs.declared.view.View.{View}
use Rattle.pa_region.specs.Views.{seen_among, seen_of, free_of, own_of, ref_of}

-- how many times a view has keeper k
abbrev pub keeper_of : View → ℕ → ℕ
keeper_of v k = sum_by (λ (q : Keeper). one (q.number == k)) v.keepers

-- how many times all views together have keeper k
abbrev pub keepers_in : List View → ℕ → ℕ
keepers_in views k = sum_by (λ v. keeper_of v k) views

-- how many times a view has lease n: among its single ones, and among those from some number on
abbrev pub lease_of : View → ℕ → ℕ
lease_of v n = sum_by (λ l. one (l == n)) v.leases.single + sum_by (λ f. one (nat_le f n)) v.leases.from

-- how many times all views together have lease n
abbrev pub leases_in : List View → ℕ → ℕ
leases_in views n = sum_by (λ v. lease_of v n) views

-- the longer of two lists, or the first if they are equally long
abbrev pub longer : List Made → List Made → List Made
longer a b = if nat_lt (length a) (length b) then b else a

-- the longest list of keeper k among these notes
abbrev pub list_among : ℕ → List SeenList → List Made
list_among k [] = []
list_among k (n ∷ ns) = if n.keeper == k then longer n.entries (list_among k ns) else list_among k ns

-- what a view has seen of the list of keeper k, its own keepers' too
abbrev pub list_of : ℕ → View → List Made
list_of k v = list_among k v.seen_lists

-- the entries that were made with stake r, in order
abbrev pub made_with : ℕ → List Made → List Made
made_with r [] = []
made_with r (m ∷ ms) = if m.stake == r then m ∷ made_with r ms else made_with r ms

-- what an entry of a log puts into the list of keeper k
abbrev pub entry_in : ℕ → Entry → List Made
entry_in k (Entered keeper made) = if keeper == k then made ∷ [] else []
entry_in k other = []

-- what a log entered in the list of keeper k, in order
abbrev pub entered_in : ℕ → List Entry → List Made
entered_in k [] = []
entered_in k (e ∷ log) = entry_in k e ++ entered_in k log

-- the first list is a beginning of the second
abbrev pub IsBeginning : List Made → List Made → Type 0
IsBeginning begun list = (rest : List Made) × (list ≡ begun ++ rest)

-- these notes have seen all that the entry's maker had seen
abbrev pub IsKnownTo : List SeenNumber → Made → Type 0
IsKnownTo notes m = (t : Title) → seen_among t m.seen ≤ seen_among t notes

-- what the makers had seen grows along the list
abbrev pub Rises : List Made → Type 0
Rises [] = Unit {0}
Rises (m ∷ ms) = Each (λ later. IsKnownTo later.seen m) ms × Rises ms

-- a view with a handle of a title has seen a number of at least 1: that of its issue
abbrev pub HasSeenHandles : View → Type 0
HasSeenHandles v = (t : Title) → 0 < own_of v t + ref_of v t → 1 ≤ seen_of v t

-- What one view knows of the keepers' lists. What it has seen of a list is a beginning of it, and the whole list if it has the
-- keeper, since the list goes with the keeper. What a stake of the view made is, in order, what its log entered, in the whole list
-- and in what the view has seen of it. The view has seen all that the makers of what it has seen had seen, and the issue of each
-- title that it has a handle of.
pub record IsListed (list : ℕ → List Made) (v : View) : Type 0 where
  pub beginnings : Each (λ n. IsBeginning n.entries (list n.keeper)) v.seen_lists
  pub whole : (k : ℕ) → 0 < keeper_of v k → list_of k v ≡ list k
  pub kept : Each (λ q. q.entries ≡ list q.number) v.keepers
  pub made : (k : ℕ) → Each (λ s. made_with s.number (list k) ≡ entered_in k s.log) v.stakes
  pub noticed : (k : ℕ) → Each (λ s. made_with s.number (list_of k v) ≡ entered_in k s.log) v.stakes
  pub follows : (k : ℕ) → Each (λ m. IsKnownTo v.seen m) (list_of k v)
  pub handles : HasSeenHandles v

-- a view that holds a title free has seen its number
abbrev pub HasSeenFree : View → Type 0
HasSeenFree v = (t : Title) → 0 < free_of v t → number_of (count_word v.words t) ≤ seen_of v t

-- The fifth part: each of the 6 keepers is in exactly one view, and so is each lease. What makers had seen grows along each list, and
-- each entry was made with a stake. Each view knows the lists as it should, and has seen the number of each title that it holds free.
pub record Lists (list : ℕ → List Made) (views : List View) : Type 0 where
  pub each_keeper : (k : ℕ) → keepers_in views k ≡ one (nat_lt k 6)
  pub each_lease : (n : ℕ) → leases_in views n ≡ 1
  pub rises : (k : ℕ) → Rises (list k)
  pub makers : (k : ℕ) → Each (λ m. m.stake < 16) (list k)
  pub each_view : (i : ℕ) (v : View) → get_elem? views i ≡ some v → IsListed list v
  pub free_seen : (i : ℕ) (v : View) → get_elem? views i ≡ some v → HasSeenFree v
