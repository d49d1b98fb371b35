-- How each step changes its view, for callers: laws over any view.
use Rattle.std.specs.Prelude.{◌≡◌, ℕ, ◌+◌, ◌-◌, ◌/◌, ◌<◌, ◌≤◌, ◌⊎◌, List, [], ◌∷◌, ◌++◌, Bool, true, false, ◌&&◌, length, max, Some, slice_index, if◌then◌else◌}
use Rattle.std.specs.List.{sum_by}
use Rattle.pa_slot.specs.declared.title.Title.{Title}
use Rattle.pa_slot.specs.declared.title.OwnState.{OwnState}
use Rattle.pa_slot.specs.declared.title.OwnState.TheVariants.{Clean}
use Rattle.pa_slot.specs.declared.word.Step.{Step}
use Rattle.pa_slot.specs.declared.word.Step.TheVariants.{Issue, Copy, Reset, Free, Write}
use Rattle.pa_slot.specs.Count.{stepped, number_of}
use Rattle.pa_slot.specs.Run.{IsReturning}
use Rattle.pa_slot.specs.Titles.{same_title, content_place, count_word, count_place}
use Rattle.pa_slot.specs.Holdings.{one}
use Rattle.pa_region.specs.declared.view.OwnTitle.{OwnTitle}
use Rattle.pa_region.specs.declared.view.Entry.{Entry}
use Rattle.pa_region.specs.declared.view.Entry.TheVariants.{Counted, Looked, Added, Entered}
use Rattle.pa_region.specs.declared.view.View.{View}
use Rattle.pa_region.specs.Views.{free_of, own_of, own_as, unsealed_as, sealed_of, ref_of, idle_of, stake_of, seen_of, logged_of, least_stake, HasStake}
use Rattle.pa_region.specs.Moves.{HasHandle, CanCount, is_back, is_own_of, changed, filled_with, noted, value_of, after_count, after_sealed, after_look}
use Rattle.pa_region.specs.Hands.{is_clean_of, first_sealed}
use Rattle.pa_region.specs.Pairs.{last_entry, least_log}
use Rattle.pa_region.specs.Lists.{keeper_of, list_of}
use Rattle.pa_region.specs.Stores.{after_store, after_poison}
use Rattle.pa_region.specs.Entries.{new_entry, CanEnter, after_enter}
use Rattle.pa_region.specs.Shares.{Share, IsStepMade}
use Rattle.pa_region.specs.Start.{blank}
use Rattle.pa_region.specs.Takes.{log_of}
use Rattle.pa_region.specs.Totals.{after_add, CanAdd}

-- How an entry changes logs: the least stake's log has it at its end, the others are as before, and so are the stakes.
pub record LeavesEntry (e : Entry) (v w : View) : Type 0 where
  pub logs : (weight : Entry → ℕ) → logged_of w weight ≡ logged_of v weight + weight e
  pub least : least_stake w.stakes ≡ least_stake v.stakes
  pub log : log_of (least_stake v.stakes) w ≡ log_of (least_stake v.stakes) v ++ e ∷ []
  pub other_logs : (k : ℕ) → (k ≡ least_stake v.stakes → ⊥) → log_of k w ≡ log_of k v
  pub last : last_entry (least_log w.stakes) ≡ Some e
  pub stakes : (k : ℕ) → stake_of w k ≡ stake_of v k

-- an entry leaves this of logs, from a view that has a stake to one that has the same stakes with the entry noted
abbrev pub EntryLeaves : Type 0
EntryLeaves = (e : Entry) (v w : View) → HasStake v → w.stakes ≡ noted e v.stakes → LeavesEntry e v w

-- whether a step takes its title from the free ones: only an issue does
abbrev pub takes_free : Step → Bool
takes_free Issue = true
takes_free Copy = false
takes_free Reset = false
takes_free Free = false
takes_free Write = false

-- whether a step takes the title's Own: only a free does
abbrev pub takes_own : Step → Bool
takes_own Issue = false
takes_own Copy = false
takes_own Reset = false
takes_own Free = true
takes_own Write = false

-- whether a step takes a Ref of the title: only a reset does
abbrev pub takes_ref : Step → Bool
takes_ref Issue = false
takes_ref Copy = false
takes_ref Reset = true
takes_ref Free = false
takes_ref Write = false

-- whether a step makes a Ref of the title: only a copy does
abbrev pub makes_ref : Step → Bool
makes_ref Issue = false
makes_ref Copy = true
makes_ref Reset = false
makes_ref Free = false
makes_ref Write = false

-- whether a step that leaves this word gives the title back
abbrev pub gives_back : Step → ℕ → Bool
gives_back Issue left = false
gives_back Copy left = false
gives_back Reset left = is_back left
gives_back Free left = is_back left
gives_back Write left = false

-- How a counted step that found this word changes the view. It changes how many times each title is held free, as Own and as Ref.
-- There is one more entry in logs, one step less in the budget, and the number that the step leaves is seen. No known word outside
-- the title changes, and none at all if the title isn't given back. If it is, its count word is then known.
pub record LeavesCount (step : Step) (t : Title) (word : ℕ) (v w : View) : Type 0 where
  pub raws : w.raws ≡ v.raws
  pub frees : (u : Title) →
      free_of w u + one (takes_free step && same_title t u) ≡ free_of v u + one (gives_back step (stepped step word) && same_title t u)
  pub owns : (u : Title) → own_of w u + one (takes_own step && same_title t u) ≡ own_of v u + one (takes_free step && same_title t u)
  pub refs : (u : Title) → ref_of w u + one (takes_ref step && same_title t u) ≡ ref_of v u + one (makes_ref step && same_title t u)
  pub budget : w.budget ≡ v.budget - 1
  pub entry : LeavesEntry (Counted t step word (value_of step t v)) v w
  pub seen : (u : Title) → seen_of w u ≡ (if same_title t u then max (number_of word + 1) (seen_of v u) else seen_of v u)
  pub known : gives_back step (stepped step word) ≡ false → w.words ≡ v.words
  pub others : (q : ℕ) → (q < t.start / 8) ⊎ (count_place t < q) → slice_index w.words q ≡ slice_index v.words q
  pub count : gives_back step (stepped step word) ≡ true → count_place t < length v.words → count_word w.words t ≡ stepped step word
  pub keepers : w.keepers ≡ v.keepers
  pub leases : w.leases ≡ v.leases
  pub lists : w.seen_lists ≡ v.seen_lists
  pub uncut : w.uncut ≡ v.uncut

-- every counted step that a view allows changes it so, whatever word the step found
abbrev pub CountLeaves : Type 0
CountLeaves = (step : Step) (t : Title) (word : ℕ) (v : View) → CanCount step t v → LeavesCount step t word v (after_count step t word v)

-- an issue of a sealed Own changes the view as an issue does, and there is one sealed Own of the title more, and of no other
abbrev pub SealedLeaves : Type 0
SealedLeaves =
    (t : Title) (word : ℕ) (v : View) → CanCount Issue t v →
    LeavesCount Issue t word v (after_sealed t word v) ×
    ((u : Title) → sealed_of (after_sealed t word v) u ≡ sealed_of v u + one (same_title t u))

-- after a reset or a free the seat holds the title free, once, if and only if the step returned it
abbrev pub ReleaseLeaves : Type 0
ReleaseLeaves =
    (step : Step) (t : Title) (word : ℕ) (before after : Share) → (step ≡ Reset) ⊎ (step ≡ Free) → HasHandle step t before.view →
    IsStepMade step t word before after →
    (IsReturning step word → free_of after.view t ≡ 1) × ((IsReturning step word → ⊥) → free_of after.view t ≡ 0)

-- w holds each title as many times as v does, each Own in its state too, and sealed or not as it was
pub record HoldsSame (v w : View) : Type 0 where
  pub frees : (u : Title) → free_of w u ≡ free_of v u
  pub owns : (u : Title) → own_of w u ≡ own_of v u
  pub states : (u : Title) (a : OwnState) → own_as w u a ≡ own_as v u a
  pub sealed : (u : Title) → sealed_of w u ≡ sealed_of v u
  pub refs : (u : Title) → ref_of w u ≡ ref_of v u

-- a look changes nothing that is held, and adds one entry to the logs
abbrev pub LookLeaves : Type 0
LookLeaves =
    (t : Title) (word : ℕ) (v : View) → HasStake v →
    HoldsSame v (after_look t word v) × LeavesEntry (Looked t word) v (after_look t word v)

-- a store and a poisoning don't change how many times each title is held, in whatever state
abbrev pub StoreLeaves : Type 0
StoreLeaves =
    ((at_byte value : ℕ) (v : View) (u : Title) → own_of (after_store at_byte value v) u ≡ own_of v u) ×
    ((at_byte value : ℕ) (v : View) (u : Title) → idle_of (after_store at_byte value v) u ≡ idle_of v u) ×
    ((t : Title) (j : ℕ) (v : View) (u : Title) → own_of (after_poison t j v) u ≡ own_of v u)

-- After an entry in a keeper's list, the list and the log of the least stake have it at their end. Other lists and logs,
-- and the keepers, are as before.
pub record LeavesEnter (k : ℕ) (numbers : List ℕ) (v w : View) : Type 0 where
  pub list : list_of k w ≡ list_of k v ++ new_entry numbers v ∷ []
  pub other_lists : (q : ℕ) → (q ≡ k → ⊥) → list_of q w ≡ list_of q v
  pub keepers : (q : ℕ) → keeper_of w q ≡ keeper_of v q
  pub entry : LeavesEntry (Entered k (new_entry numbers v)) v w

-- every entry in a keeper's list that a view allows changes it so
abbrev pub EnterLeaves : Type 0
EnterLeaves = (k : ℕ) (numbers : List ℕ) (v : View) → CanEnter k v → LeavesEnter k numbers v (after_enter k numbers v)

-- an addition to a totals word leaves one entry in the least stake's log, and all else but what was done since
abbrev pub AddLeaves : Type 0
AddLeaves = (k bytes : ℕ) (v : View) → CanAdd k bytes v → LeavesEntry (Added k bytes) v (after_add k bytes v)

-- an Own in some state is an Own
abbrev pub StatesAreOwns : Type 0
StatesAreOwns = (v : View) (t : Title) (a : OwnState) → own_as v t a ≤ own_of v t

-- an Own in some state is sealed or not, and if it is sealed, it is known that no Ref of it is left
abbrev pub OwnsAreSealedOrNot : Type 0
OwnsAreSealedOrNot =
    (v : View) (t : Title) (a : OwnState) →
    (unsealed_as v t a ≤ own_as v t a) × (own_as v t a ≤ unsealed_as v t a + sealed_of v t) × (sealed_of v t ≤ idle_of v t)

-- if a view has one Own of a title, which is clean, a hand of it gives a sealed Own exactly if the view's is sealed
abbrev pub HandsKeepSeals : Type 0
HandsKeepSeals =
    (v : View) (t : Title) → own_of v t ≤ 1 → 0 < own_as v t Clean → sealed_of v t ≡ one (first_sealed (is_clean_of t) v.owns)

-- if there are Owns of a title, changing the first one replaces the amount of one of them in each sum
pub record OneOwnChanged (t : Title) (change : OwnTitle → OwnTitle) (os : List OwnTitle) (o : OwnTitle) : Type 0 where
  pub is_own : same_title o.title t ≡ true
  pub within : (f : OwnTitle → ℕ) → f o ≤ sum_by f os
  pub replaced : (f : OwnTitle → ℕ) → sum_by f (changed (is_own_of t) change os) + f o ≡ sum_by f os + f (change o)

-- If a list has Owns of a title, one of them is changed by a change of the first. A change that leaves an amount of every Own as it
-- is leaves the sum of that amount too.
abbrev pub OwnsChange : Type 0
OwnsChange =
    ((t : Title) (change : OwnTitle → OwnTitle) (os : List OwnTitle) → 0 < sum_by (λ (o : OwnTitle). one (same_title o.title t)) os →
    (o : OwnTitle) × OneOwnChanged t change os o) ×
    ((t : Title) (change : OwnTitle → OwnTitle) (f : OwnTitle → ℕ) (os : List OwnTitle) → ((o : OwnTitle) → f (change o) ≡ f o) →
    sum_by f (changed (is_own_of t) change os) ≡ sum_by f os)

-- content words that were set have the value, and the others are as before
abbrev pub FilledWords : Type 0
FilledWords =
    (value : ℕ) (t : Title) (n : ℕ) (words : List ℕ) →
    ((i : ℕ) → i < n → content_place t i < length words → slice_index (filled_with value t n words) (content_place t i) ≡ value) ×
    ((q : ℕ) → (q < t.start / 8) ⊎ (content_place t n ≤ q) → slice_index (filled_with value t n words) q ≡ slice_index words q)

-- the words of a new region are 0
abbrev pub NewWordsAreZero : Type 0
NewWordsAreZero = (n q : ℕ) → slice_index (blank n) q ≡ 0
