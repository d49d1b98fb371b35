-- One order of all that logs say, the seventh part of the rule, and one of the poisonings of content words with it.
use Rattle.std.specs.Prelude.{◌≡◌, ℕ, ◌+◌, ◌<◌, ◌⊎◌, List, [], ◌∷◌, ◌++◌, Bool, false, ◌&&◌, map, ◌==◌, Some, if◌then◌else◌}
use Rattle.std.specs.List.{sum_by}
use Rattle.core.specs.List.{AllByRecursion as Each}
use mathlib.Core.Option.{some}
use lib.ListN.{get_elem?}
use Rattle.pa_slot.specs.declared.title.Title.{Title}
use Rattle.pa_slot.specs.declared.word.Step.{Step}
use Rattle.pa_slot.specs.declared.word.Step.TheVariants.{Issue, Copy, Reset, Free, Write}
use Rattle.pa_slot.specs.Count.{number_of}
use Rattle.pa_slot.specs.Titles.{same_title, content_count, poison}
use Rattle.pa_slot.specs.Holdings.{one}
use Rattle.pa_region.specs.declared.view.Deeds.{Deeds}
use Rattle.pa_region.specs.declared.view.Entry.{Entry}
use Rattle.pa_region.specs.declared.view.Entry.TheVariants.{Counted, Looked, Read}
use Rattle.pa_region.specs.declared.view.Made.{Made}
use Rattle.pa_region.specs.declared.view.Stake.{Stake}
use Rattle.pa_region.specs.declared.view.View.{View}
use Rattle.pa_region.specs.Views.{counted_on}
use Rattle.pa_region.specs.History.{content_by}
use Rattle.pa_region.specs.Frees.{is_free}
use Rattle.pa_region.specs.Pairs.{last_entry}
use Rattle.pa_region.specs.Waiting.{poisoned_of}
use Rattle.pa_region.specs.Lists.{list_of, entered_in}

-- what was logged, and with which stake
pub record Stamped : Type 0 where
  pub stake : ℕ
  pub entry : Entry

-- what was logged with stake r, in order
abbrev pub by_stake : ℕ → List Stamped → List Entry
by_stake r [] = []
by_stake r (m ∷ all) = if m.stake == r then m.entry ∷ by_stake r all else by_stake r all

-- how many counted steps of the title there are
abbrev pub steps_on : Title → List Stamped → ℕ
steps_on t all = sum_by (λ (m : Stamped). counted_on t m.entry) all

-- the entry is a counted step of the title, or a look at it, that found this word
abbrev pub Touches : Entry → Title → ℕ → Type 0
Touches (Counted u step found value) t word = (u ≡ t) × (found ≡ word)
Touches (Looked u found) t word = (u ≡ t) × (found ≡ word)
Touches other t word = ⊥

-- each log of the view is what its stake did there
abbrev pub IsLoggedIn : List Stamped → View → Type 0
IsLoggedIn all v = Each (λ (s : Stake). s.log ≡ by_stake s.number all) v.stakes

-- The seventh part: one order of all that logs say. Each entry was made with one of the 16 stakes, each log is what its stake did
-- there, and each keeper's list is what was entered there. A counted step or a look
-- found the number of counted steps of its title before it.
pub record InOneOrder (all : List Stamped) (list : ℕ → List Made) (views : List View) : Type 0 where
  pub stakes : Each (λ (m : Stamped). m.stake < 16) all
  pub logs : (i : ℕ) (v : View) → get_elem? views i ≡ some v → IsLoggedIn all v
  pub lists : (k : ℕ) → list k ≡ entered_in k (map (λ (m : Stamped). m.entry) all)
  pub found : (before after : List Stamped) (m : Stamped) (t : Title) (word : ℕ) → all ≡ before ++ m ∷ after → Touches m.entry t word →
      number_of word ≡ steps_on t before

-- ---- with the poisonings

-- one step: an entry was logged, or the content word of a title with this index became poison
pub data OneStep : Type 0 where
  Logged : Stamped → OneStep
  Spoiled : Title → ℕ → OneStep

-- what was logged among these steps, in the order in which it happened, though the steps are listed the latest first
abbrev pub logged_among : List OneStep → List Stamped
logged_among [] = []
logged_among (Logged m ∷ older) = logged_among older ++ m ∷ []
logged_among (Spoiled t place ∷ older) = logged_among older

-- the entry is a free of the title
abbrev pub is_free_of : Title → Entry → Bool
is_free_of t (Counted u step found value) = same_title u t && is_free step
is_free_of t other = false

-- how many poisonings of the title there are since its last free
abbrev pub spoiled : Title → List OneStep → ℕ
spoiled t [] = 0
spoiled t (Logged m ∷ older) = if is_free_of t m.entry then 0 else spoiled t older
spoiled t (Spoiled u place ∷ older) = one (same_title u t) + spoiled t older

-- what an entry leaves in each content word of the title: an issue 0, a write its value, and any other what was there
abbrev pub left_by : Title → Entry → ℕ → ℕ
left_by t (Counted u step found value) before = if same_title u t then content_by step value before else before
left_by t other before = before

-- the title's content word `place` after the steps, 0 at first
abbrev pub content_in : Title → ℕ → List OneStep → ℕ
content_in t place [] = 0
content_in t place (Logged m ∷ older) = left_by t m.entry (content_in t place older)
content_in t place (Spoiled u word ∷ older) = if same_title u t && (word == place) then poison else content_in t place older

-- the entry doesn't issue or write the title
abbrev pub DoesNotFill : Title → Entry → Type 0
DoesNotFill t (Counted u Issue found value) = u ≡ t → ⊥
DoesNotFill t (Counted u Write found value) = u ≡ t → ⊥
DoesNotFill t other = Unit {0}

-- the title wasn't issued or written since the last entry of stake r
abbrev pub IsCalm : ℕ → Title → List OneStep → Type 0
IsCalm r t [] = Unit {0}
IsCalm r t (Logged m ∷ older) = (m.stake ≡ r) ⊎ (DoesNotFill t m.entry × IsCalm r t older)
IsCalm r t (Spoiled u place ∷ older) = IsCalm r t older

-- stake r has no entry since the title's first poisoning after its last free
abbrev pub IsAlone : ℕ → Title → List OneStep → Type 0
IsAlone r t [] = Unit {0}
IsAlone r t (Logged m ∷ older) = (spoiled t (Logged m ∷ older) ≡ 0) ⊎ ((m.stake ≡ r → ⊥) × IsAlone r t older)
IsAlone r t (Spoiled u place ∷ older) = IsAlone r t older

-- What the steps before a counted step with stake r are. An issue or a write has no poisoning before it that no free followed. A free
-- has those of all content words before it, and its stake logged nothing since the first of them.
abbrev pub IsCountInPlace : Step → ℕ → Title → List OneStep → Type 0
IsCountInPlace Issue r t older = spoiled t older ≡ 0
IsCountInPlace Copy r t older = Unit {0}
IsCountInPlace Reset r t older = Unit {0}
IsCountInPlace Free r t older = (spoiled t older ≡ content_count t) × IsAlone r t older
IsCountInPlace Write r t older = spoiled t older ≡ 0

-- What a read with stake r gave: but through an unclean Own, what the steps before it left. And if the stake's entry before it
-- is a look at the title, and nothing was handed over since, the title wasn't issued or written between the two.
pub record IsReadInPlace (r : ℕ) (t : Title) (place value : ℕ) (since : Deeds) (unclean : Bool) (older : List OneStep) : Type 0 where
  pub right : unclean ≡ false → value ≡ content_in t place older
  pub calm : (found : ℕ) → last_entry (by_stake r (logged_among older)) ≡ Some (Looked t found) → since.handed ≡ false → IsCalm r t older

-- an entry with stake r, by its kind
abbrev pub IsEntryInPlace : ℕ → Entry → List OneStep → Type 0
IsEntryInPlace r (Counted t step found value) older = IsCountInPlace step r t older
IsEntryInPlace r (Read t place value since owned unclean) older = IsReadInPlace r t place value since unclean older
IsEntryInPlace r other older = Unit {0}

-- a step after the others: the poisonings of a title go word by word, from word 0
abbrev pub IsInPlace : OneStep → List OneStep → Type 0
IsInPlace (Logged m) older = IsEntryInPlace m.stake m.entry older
IsInPlace (Spoiled t place) older = (spoiled t older ≡ place) × (place < content_count t)

-- each step after those before it
abbrev pub AreInPlace : List OneStep → Type 0
AreInPlace [] = Unit {0}
AreInPlace (m ∷ older) = IsInPlace m older × AreInPlace older

-- What a view with every stake knows: all its logs, and the lists as it has seen them, are of one order. With the poisonings each
-- step is in place after those before it. Each poisoning has a free after it, but of an Own that the view has poisoned.
pub record HasOneOrder (v : View) : Type 0 where
  pub all : List Stamped
  pub ordered : InOneOrder all (λ k. list_of k v) (v ∷ [])
  pub steps : List OneStep
  pub logged : logged_among steps ≡ all
  pub placed : AreInPlace steps
  pub freed : (t : Title) → poisoned_of v t ≡ 0 → spoiled t steps ≡ 0
