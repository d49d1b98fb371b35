-- Chains, as contracts see them: the list of titles that a chain has in a view, and what stores of links leave of a view.
use Rattle.std.specs.Prelude.{◌≡◌, ◌≢◌, ℕ, zero, suc, ◌/◌, ◌^◌, ◌<◌, List, [], ◌∷◌, ◌++◌, length, map, true, IsNone, All, AllPairs, Contains, Option, Some, None, slice_index, slice_set}
use Rattle.std.specs.Option.{option_to_list}
use Rattle.pa_slot.specs.declared.title.Title.{Title}
use Rattle.pa_slot.specs.declared.word.SlotName.{SlotName}
use Rattle.pa_slot.specs.Titles.{IsWellFormed}
use Rattle.pa_slot.specs.Links.{linked_name, first_word, front_of, AreLinked}
use Rattle.pa_record.specs.Spans.{name_of}
use Rattle.pa_region.specs.declared.view.View.{View}
use Rattle.pa_region.specs.Views.{free_of}
use Rattle.pa_region.specs.Aware.{IsAware}
use Rattle.pa_link.specs.declared.chain.ChainParts.{ChainParts}

-- the title of this many bytes that has this name
abbrev pub title_named : ℕ → SlotName → Title
title_named slot_len s = record { start = s.start; len = slot_len; born = s.born }

-- the names of these titles, in their order
abbrev pub slot_names : List Title → List SlotName
slot_names ts = map name_of ts

-- A seat with this view has the chain of these titles: it holds each of them free, no title is there twice, and each has
-- the link to the next one in its first content word.
pub record IsChain (v : View) (c : ChainParts) (ts : List Title) : Type 0 where
  pub many : length ts ≡ c.len
  pub head : c.head ≡ front_of (slot_names ts)
  pub sized : All (λ (t : Title). t.len ≡ c.slot_len) ts
  pub named : All (λ (t : Title). (t.start < 2 ^ 32) × (t.born < 2 ^ 32)) ts
  pub free : All (λ t. 0 < free_of v t) ts
  pub different : AllPairs ◌≢◌ ts
  pub links : AreLinked v.words (slot_names ts)

-- `count` titles came off the front of a list, the last of them this one, and the chain has the rest. The list is those before the
-- last one, the last one, and the rest.
pub record IsSkipped (v : View) (c : ChainParts) (count : ℕ) (last : Option Title) (ts : List Title) : Type 0 where
  pub before : List Title
  pub rest : List Title
  pub parts : ts ≡ (before ++ option_to_list last) ++ rest
  pub counted : length (before ++ option_to_list last) ≡ count
  pub none : IsNone last → count ≡ 0
  pub chain : IsChain v c rest

-- the first n titles along the links in the words, from the front on
unfoldable pub titles_from : List ℕ → ℕ → ℕ → Option SlotName → List Title
titles_from words slot_len zero front = []
titles_from words slot_len (suc n) None = []
titles_from words slot_len (suc n) (Some s) = title_named slot_len s ∷ titles_from words slot_len n (Some (linked_name
    (first_word words s)))

-- the titles of a chain, as the words have them
abbrev pub titles_along : List ℕ → ChainParts → List Title
titles_along words c = titles_from words c.slot_len c.len c.head

-- the view after the store of a link in the title's first content word
abbrev pub after_link : Title → ℕ → View → View
after_link t link v = record v { words = slice_set v.words (t.start / 8) link; since = record v.since { stored = true } }

-- A seat stored links in titles that it holds free: nothing else of its view is another, and no word beside their first ones.
pub record Relinked (v w : View) : Type 0 where
  pub rest : w ≡ record v { words = w.words; since = record v.since { stored = w.since.stored } }
  pub long : length w.words ≡ length v.words
  pub others : (q : ℕ) → ((t : Title) → 0 < free_of v t → t.start / 8 ≡ q → ⊥) → slice_index w.words q ≡ slice_index v.words q

-- beside the first words of these titles, each word is the same in others
abbrev pub SameBeside : List Title → List ℕ → List ℕ → Type 0
SameBeside ts words others = (q : ℕ) → ((t : Title) → Contains ts t → t.start / 8 ≡ q → ⊥) → slice_index others q ≡ slice_index words q

-- a chain's titles are those along the links
abbrev pub ChainsAreListed : Type 0
ChainsAreListed = (v : View) (c : ChainParts) (ts : List Title) → IsChain v c ts → titles_along v.words c ≡ ts

-- a chain is one in another view too that holds its titles free and knows the same first words of them
abbrev pub ChainsStay : Type 0
ChainsStay = (v w : View) (c : ChainParts) (ts : List Title) → All (λ t. 0 < free_of w t) ts →
    All (λ t. first_word w.words (name_of t) ≡ first_word v.words (name_of t)) ts → IsChain v c ts → IsChain w c ts

-- a link that is stored in one free title leaves the first words of the others
abbrev pub LinksElsewhere : Type 0
LinksElsewhere = (words : ℕ) (v : View) (t u : Title) (link : ℕ) → IsAware v → IsWellFormed words t → 0 < u.len → 0 < free_of v t →
    0 < free_of v u →
    (t ≡ u → ⊥) → first_word (after_link t link v).words (name_of u) ≡ first_word v.words (name_of u)
