-- How a store and a poisoning change the stepping seat's view, and what they require of it.
use Rattle.std.specs.Prelude.{◌≡◌, ℕ, zero, suc, ◌+◌, ◌/◌, ◌%◌, ◌<◌, ◌≤◌, ◌⊎◌, Bool, ◌==◌, ◌&&◌, nat_lt, nat_le, true, slice_set}
use Rattle.std.specs.List.{sum_by}
use Rattle.pa_slot.specs.declared.title.Title.{Title}
use Rattle.pa_slot.specs.declared.title.OwnState.TheVariants.{Clean, Dirty, Poisoned}
use Rattle.pa_slot.specs.Titles.{same_title, content_count, content_place, IsContentOf, poison, progress}
use Rattle.pa_slot.specs.Holdings.{RawByte, one}
use Rattle.pa_region.specs.declared.view.OwnTitle.{OwnTitle}
use Rattle.pa_region.specs.declared.view.View.{View}
use Rattle.pa_region.specs.Views.{held_of_view, free_of, own_of, own_as, idle_of, HasStake}
use Rattle.pa_region.specs.Moves.{changed, is_own_of}
use Rattle.pa_region.specs.Waiting.{poisoned_owns}

-- the word at the byte offset is a content word of the Own
abbrev pub has_content_at : ℕ → OwnTitle → Bool
has_content_at at_byte o = nat_le o.title.start at_byte && nat_lt (at_byte + 8) (o.title.start + o.title.len)

-- an Own after a store to its content
abbrev pub dirty : OwnTitle → OwnTitle
dirty o = record o { state = Dirty }

-- The view after a store of the value at the byte offset. It has the value there, and the Own with this content, if any, is dirty.
abbrev pub after_store : ℕ → ℕ → View → View
after_store at_byte value v = record v {
  words = slice_set v.words (at_byte / 8) value;
  owns = changed (has_content_at at_byte) dirty v.owns;
  since = record v.since { stored = true };
}

-- the view holds the eight bytes from the offset on as raw
abbrev pub HasRawWord : View → ℕ → Type 0
HasRawWord v at_byte = (b : ℕ) → at_byte ≤ b → b < at_byte + 8 → 0 < held_of_view v (RawByte b)

-- the view holds a title free that has a content word at the byte offset
abbrev pub HasFreeContent : View → ℕ → Type 0
HasFreeContent v at_byte = (t : Title) × (0 < free_of v t) × IsContentOf t at_byte

-- the view has a clean or dirty Own with a content word at the byte offset, knows that no Ref of its title is left, and has a stake
abbrev pub HasIdleContent : View → ℕ → Type 0
HasIdleContent v at_byte = (t : Title) × (0 < idle_of v t) × (0 < own_as v t Clean + own_as v t Dirty) × IsContentOf t at_byte × HasStake v

-- a seat with this view may store at the byte offset
abbrev pub CanStore : ℕ → View → Type 0
CanStore at_byte v = (at_byte % 8 ≡ 0) × (HasRawWord v at_byte ⊎ (HasFreeContent v at_byte ⊎ HasIdleContent v at_byte))

-- How a store changes the view's Owns. A store to a raw word or to the content of a free title changes none. A store to a content
-- word of an Own makes this Own dirty, and changes no other.
pub record StoreTells (at_byte : ℕ) (v after : View) : Type 0 where
  pub plain : HasRawWord v at_byte ⊎ HasFreeContent v at_byte → after.owns ≡ v.owns
  pub own : (t : Title) → 0 < own_of v t → IsContentOf t at_byte → after.owns ≡ changed (is_own_of t) dirty v.owns

-- an Own with this many words poisoned
abbrev pub poisoned_to : ℕ → OwnTitle → OwnTitle
poisoned_to n o = record o { state = Poisoned n }

-- the view after the poisoning of the title's content word number j
abbrev pub after_poison : Title → ℕ → View → View
after_poison t j v = record v {
  words = slice_set v.words (content_place t j) poison;
  owns = changed (is_own_of t) (poisoned_to (j + 1)) v.owns;
  since = record v.since { poisoned = true };
}

-- How many times a view has the title's Own with this many words poisoned. A clean or a dirty Own has 0 words poisoned.
abbrev pub own_to : View → Title → ℕ → ℕ
own_to v t j = sum_by (λ (o : OwnTitle). one (same_title o.title t && (progress o.state == j))) v.owns

-- a seat goes on with word number j: with word 0 it begins while none of its Owns is poisoned,
-- and with a later one nothing was logged since it poisoned
abbrev pub GoesOn : ℕ → View → Type 0
GoesOn zero v = poisoned_owns v ≡ 0
GoesOn (suc j) v = v.since.poisoned ≡ true

-- a seat with this view may poison the title's content word number j: it is the next one
abbrev pub CanPoison : Title → ℕ → View → Type 0
CanPoison t j v = (0 < own_to v t j) × (j < content_count t) × HasStake v × GoesOn j v
