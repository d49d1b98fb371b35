-- What the rule says, for any number of seats.
use Rattle.std.specs.Prelude.{◌≡◌, ℕ, ◌+◌, ◌/◌, ◌%◌, ◌<◌, ◌≤◌, List, [], ◌∷◌, ◌++◌, slice_index, slice_set, length, replicate}
use mathlib.Core.Option.{some}
use lib.ListN.{get_elem?}
use Rattle.pa_slot.specs.declared.title.Title.{Title}
use Rattle.pa_slot.specs.declared.word.Step.{Step}
use Rattle.pa_slot.specs.declared.word.Step.TheVariants.{Issue}
use Rattle.pa_slot.specs.Count.{CanStep, stepped, number_of}
use Rattle.pa_slot.specs.Titles.{IsWellFormed, count_place, count_word, content_count, content_place, content_at, poison}
use Rattle.pa_slot.specs.Holdings.{IsTitleHeld}
use Rattle.pa_machine.specs.declared.event.Event.{Event}
use Rattle.pa_machine.specs.declared.event.Event.TheVariants.{Count, Sealed, Store, Poison, Load, Cut, Uncut}
use Rattle.pa_machine.specs.Events.{total_of, IsEnabled, Happens}
use Rattle.pa_machine.specs.Trail.{IsGoodState}
use Rattle.pa_region.specs.declared.view.View.{View}
use Rattle.pa_region.specs.Views.{byte_words, shown, logged_in, counted_on, counted_at, names, uncut_in, seen_of, HasTitle, HasStake}
use Rattle.pa_region.specs.Rule.{IsKept}
use Rattle.pa_region.specs.Moves.{CanCount, IsFound, after_count, after_sealed, after_look}
use Rattle.pa_region.specs.Stores.{after_store, CanStore, after_poison, CanPoison}
use Rattle.pa_region.specs.Entries.{CanEnter, after_enter}
use Rattle.pa_region.specs.Cuts.{CanCut, titled, CanUncut, after_uncut}
use Rattle.pa_region.specs.Hands.{Parcel, CanHand, CanTake, IsParted, left_after, given_after, united, spent_of}
use Rattle.pa_region.specs.Shares.{IsUser, count_offset}
use Rattle.pa_region.specs.Loads.{after_read, content_offset, IsPlain}
use Rattle.pa_region.specs.Start.{first_view}
use Rattle.pa_region.specs.Totals.{owes_as, added_as, total_place, after_add, CanAdd}

-- the word that is shown for a title
abbrev pub word_shown : List ℕ → Title → ℕ
word_shown words t = count_word (byte_words words) t

-- A counted step by any one seat keeps the rule. It is enabled at the word that it finds, which is one that its view could find, and
-- it changes this word and this view alone.
abbrev pub CountKeeps : Type 0
CountKeeps =
    (step : Step) (t : Title) (words : List ℕ) (views : List View) (i : ℕ) (v : View) →
    IsKept words views → get_elem? views i ≡ some v → CanCount step t v →
    CanStep step (word_shown words t) × IsFound t (word_shown words t) v ×
    IsKept (slice_set words (count_place t) (stepped step (word_shown words t)))
    (slice_set views i (after_count step t (word_shown words t) v))

-- from one list of words and one list of views to the next, this event was enabled in the core that is shown, and happened
abbrev pub IsEventOf : Event → List ℕ → List View → List ℕ → List View → Type 0
IsEventOf e words views words_after views_after =
    IsEnabled e (shown words views) × Happens e (shown words views) (shown words_after views_after)

-- a counted step of view number i is the event of the core's actor i
abbrev pub CountIsEvent : Type 0
CountIsEvent =
    (step : Step) (t : Title) (words : List ℕ) (views : List View) (i : ℕ) (v : View) →
    IsKept words views → get_elem? views i ≡ some v → CanCount step t v →
    IsEventOf (Count i t step) words views
    (slice_set words (count_place t) (stepped step (word_shown words t))) (slice_set views i (after_count step t (word_shown words t) v))

-- An issue of a sealed Own by any one seat keeps the rule. It is enabled at the word that it finds, which is one that its view could
-- find, and it changes this word and this view alone.
abbrev pub SealedKeeps : Type 0
SealedKeeps =
    (t : Title) (words : List ℕ) (views : List View) (i : ℕ) (v : View) →
    IsKept words views → get_elem? views i ≡ some v → CanCount Issue t v →
    CanStep Issue (word_shown words t) × IsFound t (word_shown words t) v ×
    IsKept (slice_set words (count_place t) (stepped Issue (word_shown words t)))
    (slice_set views i (after_sealed t (word_shown words t) v))

-- an issue of a sealed Own by view number i is that event of the core's actor i
abbrev pub SealedIsEvent : Type 0
SealedIsEvent =
    (t : Title) (words : List ℕ) (views : List View) (i : ℕ) (v : View) →
    IsKept words views → get_elem? views i ≡ some v → CanCount Issue t v →
    IsEventOf (Sealed i t) words views
    (slice_set words (count_place t) (stepped Issue (word_shown words t))) (slice_set views i (after_sealed t (word_shown words t) v))

-- a look by any one seat keeps the rule, and changes the view of this seat alone
abbrev pub LookKeeps : Type 0
LookKeeps =
    (t : Title) (words : List ℕ) (views : List View) (i : ℕ) (v : View) →
    IsKept words views → get_elem? views i ≡ some v → HasTitle v t → HasStake v →
    IsFound t (word_shown words t) v × IsKept words (slice_set views i (after_look t (word_shown words t) v))

-- a look is a load of the count word
abbrev pub LookIsLoad : Type 0
LookIsLoad =
    (t : Title) (words : List ℕ) (views : List View) (i : ℕ) (v : View) →
    IsKept words views → get_elem? views i ≡ some v → HasTitle v t →
    IsEventOf (Load i (count_offset t)) words views words (slice_set views i (after_look t (word_shown words t) v))

-- a store by view number i is a store by the core's actor i, and keeps the rule
abbrev pub StoreKeeps : Type 0
StoreKeeps =
    (at_byte value : ℕ) (words : List ℕ) (views : List View) (i : ℕ) (v : View) →
    IsKept words views → get_elem? views i ≡ some v → CanStore at_byte v →
    IsEventOf (Store i at_byte value) words views (slice_set words (at_byte / 8) value) (slice_set views i (after_store at_byte value v)) ×
    IsKept (slice_set words (at_byte / 8) value) (slice_set views i (after_store at_byte value v))

-- the poisoning of the next content word by view number i is a poisoning by the core's actor i, and keeps the rule
abbrev pub PoisonKeeps : Type 0
PoisonKeeps =
    (t : Title) (j : ℕ) (words : List ℕ) (views : List View) (i : ℕ) (v : View) →
    IsKept words views → get_elem? views i ≡ some v → CanPoison t j v →
    IsEventOf (Poison i t) words views (slice_set words (content_place t j) poison) (slice_set views i (after_poison t j v)) ×
    IsKept (slice_set words (content_place t j) poison) (slice_set views i (after_poison t j v))

-- a load of a plain word is a load by the core's actor, which changes nothing
abbrev pub PlainIsLoad : Type 0
PlainIsLoad =
    (at_byte : ℕ) (words : List ℕ) (views : List View) (i : ℕ) (v : View) →
    IsKept words views → get_elem? views i ≡ some v → at_byte % 8 ≡ 0 → IsPlain v at_byte →
    IsEventOf (Load i at_byte) words views words views

-- a read of view number i, which gives the word that is there, is a load by the core's actor i, and keeps the rule
abbrev pub ReadKeeps : Type 0
ReadKeeps =
    (t : Title) (place : ℕ) (words : List ℕ) (views : List View) (i : ℕ) (v : View) →
    IsKept words views → get_elem? views i ≡ some v → IsUser t v → HasStake v → place < content_count t →
    IsEventOf (Load i (content_offset t place)) words views words
    (slice_set views i (after_read t place (content_at (byte_words words) t place) v)) ×
    IsKept words (slice_set views i (after_read t place (content_at (byte_words words) t place) v))

-- the rule holds for a new region's words, which are 0 and at most 16,777,216 beside the totals words, and the first seat's view
abbrev pub StartKeeps : Type 0
StartKeeps =
    (words budget : ℕ) → words ≤ 16777216 → budget ≤ 65536 → IsKept (replicate (words + 16) 0) (first_view words budget ∷ [])

-- under the rule the core that is shown is good
abbrev pub ShowsGood : Type 0
ShowsGood = (words : List ℕ) (views : List View) → IsKept words views → IsGoodState (shown words views)

-- Under the rule each number below a held title's was found by exactly one counted step in all logs, and no log has a
-- step that found another number.
abbrev pub FindsEachNumberOnce : Type 0
FindsEachNumberOnce =
    (words : List ℕ) (views : List View) (t : Title) → IsKept words views → IsTitleHeld (total_of (shown words views)) t →
    ((k : ℕ) → k < number_of (word_shown words t) → logged_in views (counted_at t k) ≡ 1) ×
    ((k : ℕ) → number_of (word_shown words t) ≤ k → logged_in views (counted_at t k) ≡ 0)

-- under the rule a held title that no log names has the word 0
abbrev pub UnnamedIsNew : Type 0
UnnamedIsNew =
    (words : List ℕ) (views : List View) (t : Title) → IsKept words views → IsTitleHeld (total_of (shown words views)) t →
    logged_in views (counted_on t) ≡ 0 → word_shown words t ≡ 0

-- a hand by any one seat keeps the rule: its view is parted in two, and the second is a new one
abbrev pub HandKeeps : Type 0
HandKeeps =
    (p : Parcel) (words : List ℕ) (views : List View) (i : ℕ) (v : View) → IsKept words views → get_elem? views i ≡ some v → CanHand p v →
    IsParted v (left_after p v) (given_after p v) × IsKept words (slice_set views i (left_after p v) ++ given_after p v ∷ [])

-- a join of any two seats keeps the rule: one has all that both had, and the other is left with nothing
abbrev pub JoinKeeps : Type 0
JoinKeeps =
    (words : List ℕ) (views : List View) (i j : ℕ) (v w : View) →
    IsKept words views → get_elem? views i ≡ some v → get_elem? views j ≡ some w → (j ≡ i → ⊥) → CanTake v w →
    IsParted (united v w) v w × IsKept words (slice_set (slice_set views i (united v w)) j (spent_of w))

-- an entry in a keeper's list by any one seat that has the keeper and a stake keeps the rule
abbrev pub EnterKeeps : Type 0
EnterKeeps =
    (k : ℕ) (numbers : List ℕ) (words : List ℕ) (views : List View) (i : ℕ) (v : View) → IsKept words views → get_elem? views i ≡ some v →
    CanEnter k v →
    IsKept words (slice_set views i (after_enter k numbers v))

-- An addition to a totals word by any one seat that has a stake which owes as much keeps the rule. The word is then the sum, which
-- fits 64 bits, and no other word changes.
abbrev pub AddKeeps : Type 0
AddKeeps =
    (k bytes : ℕ) (words : List ℕ) (views : List View) (i : ℕ) (v : View) → IsKept words views → get_elem? views i ≡ some v →
    CanAdd k bytes v →
    (slice_index words (total_place words k) + bytes < 18446744073709551616) ×
    IsKept (slice_set words (total_place words k) (slice_index words (total_place words k) + bytes))
    (slice_set views i (after_add k bytes v))

-- Under the rule the four totals words of a kind are together what all logs added to words of that kind, which isn't above the
-- bytes of the steps of that kind in all logs.
abbrev pub KindsAreOwed : Type 0
KindsAreOwed =
    (words : List ℕ) (views : List View) (q : ℕ) → IsKept words views → q < 4 →
    (slice_index words (total_place words q) + slice_index words (total_place words (4 + q))
    + slice_index words (total_place words (8 + q)) + slice_index words (total_place words (12 + q)) ≡ logged_in views (added_as q)) ×
    (logged_in views (added_as q) ≤ logged_in views (owes_as q))

-- A cut by view number i, of a title with a count word that it knows to be 0, is a cut by the core's actor i, and keeps the rule. The
-- view has seen no step on the title.
abbrev pub CutKeeps : Type 0
CutKeeps =
    (t : Title) (words : List ℕ) (views : List View) (i : ℕ) (v : View) →
    IsKept words views → get_elem? views i ≡ some v → CanCut t v → count_word v.words t ≡ 0 →
    IsEventOf (Cut i t) words views words (slice_set views i (titled t v)) ×
    IsKept words (slice_set views i (titled t v)) × (seen_of v t ≡ 0)

-- an uncut of a free title is an uncut by the core's actor i, and keeps the rule
abbrev pub UncutKeeps : Type 0
UncutKeeps =
    (t : Title) (words : List ℕ) (views : List View) (i : ℕ) (v : View) → IsKept words views → get_elem? views i ≡ some v → CanUncut t v →
    IsEventOf (Uncut i t) words views words (slice_set views i (after_uncut t v)) × IsKept words (slice_set views i (after_uncut t v))

-- Under the rule each title that some log names is well formed. Two of them with one start and one `born` are the same, and one that
-- no log says was uncut is held.
abbrev pub NamedAreOne : Type 0
NamedAreOne =
    (words : List ℕ) (views : List View) (t : Title) → IsKept words views → 0 < logged_in views (names t) →
    IsWellFormed (length (byte_words words)) t ×
    ((u : Title) → 0 < logged_in views (names u) → t.start ≡ u.start → t.born ≡ u.born → t ≡ u) ×
    (uncut_in views t ≡ 0 → IsTitleHeld (total_of (shown words views)) t)
