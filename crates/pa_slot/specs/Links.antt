-- Links: the first content word of a free slot leads to the next free slot of its list.
use Rattle.std.specs.Prelude.{◌≡◌, ℕ, ◌+◌, ◌*◌, ◌/◌, ◌%◌, List, [], ◌∷◌, Option, Some, None, All, slice_index}
use Rattle.std.specs.Int.{swap_bytes, w64}
use Rattle.pa_slot.specs.declared.word.SlotName.{SlotName}

-- the link to a slot: where it starts and its `born` as one number, with the eight bytes in reverse order
unfoldable pub link_number : SlotName → ℕ
link_number s = swap_bytes w64 (s.start + 4294967296 * s.born)

-- the slot to which a link leads
unfoldable pub linked_name : ℕ → SlotName
linked_name link = record { start = swap_bytes w64 link % 4294967296; born = swap_bytes w64 link / 4294967296 }

-- the first content word of the slot
abbrev pub first_word : List ℕ → SlotName → ℕ
first_word words s = slice_index words (s.start / 8)

-- the front of a list of slots, or none if the list is empty
abbrev pub front_of : List SlotName → Option SlotName
front_of [] = None
front_of (s ∷ ss) = Some s

-- the link to a slot, or 0 if there is none
abbrev pub link_to : Option SlotName → ℕ
link_to None = 0
link_to (Some s) = link_number s

-- each slot of the list has the link to the next one, and the last has 0
abbrev pub AreLinked : List ℕ → List SlotName → Type 0
AreLinked words [] = Unit
AreLinked words (s ∷ ss) = (first_word words s ≡ link_to (front_of ss)) × AreLinked words ss

-- a list stays linked if the first word of each of its slots is the same in other words
abbrev pub LinksStay : Type 0
LinksStay = (words others : List ℕ) (ss : List SlotName) → All (λ s. first_word others s ≡ first_word words s) ss →
    AreLinked words ss → AreLinked others ss
