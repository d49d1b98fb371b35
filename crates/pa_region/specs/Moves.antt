-- How each kind of step changes the stepping seat's view.
use Rattle.std.specs.Prelude.{◌≡◌, ℕ, zero, suc, ◌+◌, ◌-◌, ◌<◌, ◌≤◌, List, [], ◌∷◌, ◌++◌, Bool, true, false, ◌==◌, ◌&&◌, slice_set, if◌then◌else◌}
use Rattle.pa_slot.specs.declared.title.Title.{Title}
use Rattle.pa_slot.specs.declared.title.OwnState.TheVariants.{Clean, Dirty, Poisoned}
use Rattle.pa_slot.specs.declared.word.Step.{Step}
use Rattle.pa_slot.specs.declared.word.Step.TheVariants.{Issue, Copy, Reset, Free, Write}
use Rattle.pa_slot.specs.Count.{stepped, number_of, refs_of, held_of}
use Rattle.pa_slot.specs.Run.{IsFree}
use Rattle.pa_slot.specs.Titles.{same_title, content_count, content_place, content_at, count_place, count_word, HasContentFrom, IsUniform, poison}
use Rattle.pa_region.specs.declared.view.OwnTitle.{OwnTitle}
use Rattle.pa_region.specs.declared.view.Deeds.{Deeds}
use Rattle.pa_region.specs.declared.view.Entry.{Entry}
use Rattle.pa_region.specs.declared.view.Entry.TheVariants.{Counted, Looked}
use Rattle.pa_region.specs.declared.view.Stake.{Stake}
use Rattle.pa_region.specs.declared.view.View.{View}
use Rattle.pa_region.specs.Views.{free_of, own_of, own_as, unsealed_as, ref_of, idle_of, seen_of, least_stake, HasStake}

module _ {A : Type 0} where
  -- the list without the first member that passes the test
  abbrev pub without : (A → Bool) → List A → List A
  without test [] = []
  without test (x ∷ xs) = if test x then xs else x ∷ without test xs

  -- the list with the first member that passes the test changed
  abbrev pub changed : (A → Bool) → (A → A) → List A → List A
  changed test change [] = []
  changed test change (x ∷ xs) = if test x then change x ∷ xs else x ∷ changed test change xs

-- a free title, or a Ref, that is of this title
abbrev pub is_title_of : Title → Title → Bool
is_title_of t u = same_title u t

-- an Own of the title
abbrev pub is_own_of : Title → OwnTitle → Bool
is_own_of t o = same_title o.title t

-- an Own after a copy
abbrev pub busy : OwnTitle → OwnTitle
busy o = record o { idle = false }

-- an Own after a write that found no Ref
abbrev pub written : OwnTitle → OwnTitle
written o = record o { state = Clean; idle = true }

-- an Own after a look that found this word: if the count in it is 0, that is known
abbrev pub idle_if : ℕ → OwnTitle → OwnTitle
idle_if word o = if refs_of word == 0 then record o { idle = true } else o

-- the words with the first n content words of the title set to this value
unfoldable pub filled_with : ℕ → Title → ℕ → List ℕ → List ℕ
filled_with value t zero words = words
filled_with value t (suc n) words = slice_set (filled_with value t n words) (content_place t n) value

-- a step that leaves this word has given the title back
abbrev pub is_back : ℕ → Bool
is_back left = (held_of left == 0) && (refs_of left == 0)

-- What the view holds and knows after a counted step on the title that found this word. If the step gave the title back, the view
-- knows its count word. If it was a reset, the view also knows the content, which is poison, since the slot was quarantined.
abbrev pub moved : Step → Title → ℕ → View → View
moved Issue t word v = record v {
  frees = without (is_title_of t) v.frees;
  owns = record { title = t; state = Clean; idle = true; sealed = false } ∷ v.owns;
}
moved Copy t word v = record v { owns = changed (is_own_of t) busy v.owns; refs = t ∷ v.refs }
moved Reset t word v = record v {
  frees = if is_back (stepped Reset word) then t ∷ v.frees else v.frees;
  refs = without (is_title_of t) v.refs;
  words =
      if is_back (stepped Reset word)
      then slice_set (filled_with poison t (content_count t) v.words) (count_place t) (stepped Reset word)
      else v.words;
}
moved Free t word v = record v {
  frees = if is_back (stepped Free word) then t ∷ v.frees else v.frees;
  owns = without (is_own_of t) v.owns;
  words = if is_back (stepped Free word) then slice_set v.words (count_place t) (stepped Free word) else v.words;
}
moved Write t word v = record v { owns = changed (is_own_of t) written v.owns }

-- the value that a step writes: the first content word, for a write
abbrev pub value_of : Step → Title → View → ℕ
value_of Issue t v = 0
value_of Copy t v = 0
value_of Reset t v = 0
value_of Free t v = 0
value_of Write t v = content_at v.words t 0

-- the log of the least stake gets the entry, at its end
abbrev pub noted : Entry → List Stake → List Stake
noted e stakes =
    changed (λ (s : Stake). s.number == least_stake stakes) (λ (s : Stake). record s { log = s.log ++ e ∷ [] }) stakes

-- nothing was done since the last entry
abbrev pub no_deeds : Deeds
no_deeds = record { handed = false; stored = false; poisoned = false }

-- the view after an entry in its log, with a step number of the title that is now seen
abbrev pub entered : Entry → Title → ℕ → View → View
entered e t number v = record v {
  stakes = noted e v.stakes;
  since = no_deeds;
  seen = record { title = t; number = number } ∷ v.seen;
}

-- The view after a counted step on the title that found this word. It has moved what it holds, has one step less in the budget and
-- the entry in its log, and has seen the number that the step leaves.
abbrev pub after_count : Step → Title → ℕ → View → View
after_count step t word v =
    entered (Counted t step word (value_of step t v)) t (number_of word + 1)
    (record (moved step t word v) { budget = v.budget - 1 })

-- a sealed Own
abbrev pub seal : OwnTitle → OwnTitle
seal o = record o { sealed = true }

-- the view with the title's Own sealed
abbrev pub sealed_at : Title → View → View
sealed_at t v = record v { owns = changed (is_own_of t) seal v.owns }

-- the view after an issue of the title that found this word, if the Own is sealed
abbrev pub after_sealed : Title → ℕ → View → View
after_sealed t word v = sealed_at t (after_count Issue t word v)

-- the view after a look at the title that found this word
abbrev pub after_look : Title → ℕ → View → View
after_look t word v =
    entered (Looked t word) t (number_of word) (record v { owns = changed (is_own_of t) (idle_if word) v.owns })

-- The view has the handle that the step needs: for a copy a Ref, or a clean Own that isn't sealed, for a free the Own with poison in
-- all its content words, for a write a clean or dirty Own of a title that is known to have no Ref left.
abbrev pub HasHandle : Step → Title → View → Type 0
HasHandle Issue t v = 0 < free_of v t
HasHandle Copy t v = 0 < unsealed_as v t Clean + ref_of v t
HasHandle Reset t v = 0 < ref_of v t
HasHandle Free t v = 0 < own_as v t (Poisoned (content_count t))
HasHandle Write t v = (0 < idle_of v t) × (0 < own_as v t Clean + own_as v t Dirty)

-- The view knows the content that the step needs: for an issue 0, and for a write one value in all words. For a free nothing was
-- logged since the view poisoned the title.
abbrev pub HasContent : Step → Title → View → Type 0
HasContent Issue t v = HasContentFrom v.words t 0 0
HasContent Copy t v = Unit {0}
HasContent Reset t v = Unit {0}
HasContent Free t v = v.since.poisoned ≡ true
HasContent Write t v = IsUniform v.words t

-- a seat with this view may make the step
abbrev pub CanCount : Step → Title → View → Type 0
CanCount step t v = HasHandle step t v × HasStake v × (0 < v.budget) × HasContent step t v

-- What a word found on a title implies. Its number isn't below one that the view has seen. The view's handles are among those that
-- the word counts. If it isn't a free word, the view doesn't hold the title free. If the view holds the title free, it is the word
-- that the view knows. Its number and count are small.
pub record IsFound (t : Title) (word : ℕ) (v : View) : Type 0 where
  pub not_older : seen_of v t ≤ number_of word
  pub owns : own_of v t ≤ held_of word
  pub refs : ref_of v t ≤ refs_of word
  pub frees : free_of v t ≤ 1
  pub taken : (IsFree word → ⊥) → free_of v t ≡ 0
  pub known : 0 < free_of v t → word ≡ count_word v.words t
  pub idle : 0 < idle_of v t → refs_of word ≡ 0
  pub few : v.budget + number_of word ≤ 65536
  pub few_refs : refs_of word ≤ number_of word
