-- What the core shows of a run so far, by the names of slots.
use Rattle.std.specs.Prelude.{◌≡◌, ℕ, ◌+◌, ◌*◌, ◌<◌, ◌≤◌, Bool, if◌then◌else◌, List, length}
use Rattle.pa_slot.specs.declared.word.SlotName.{SlotName}
use Rattle.pa_slot.specs.declared.title.Title.{Title}
use Rattle.pa_slot.specs.declared.title.OwnState.{OwnState}
use Rattle.pa_slot.specs.declared.title.OwnState.TheVariants.{Clean}
use Rattle.pa_slot.specs.Titles.{count_word, HasContentFrom}
use Rattle.pa_slot.specs.Holdings.{Piece, Thing, RawByte, FreeTitle, OwnOf, OwnAs, SealedOwn, RefOf, IsTitleHeld, held_in}
use Rattle.pa_machine.specs.Events.{State, Holds, held_by, total_of}
use Rattle.pa_machine.specs.Trail.{IsGoodState}
use Rattle.pa_record.specs.Spans.{name_of}

-- how many owners, raw_ptrs and free slots of a name each actor is to hold, and the word and the content of each slot
pub record Ledger : Type 0 where
  pub own : ℕ → SlotName → ℕ
  pub ref : ℕ → SlotName → ℕ
  pub free : ℕ → SlotName → ℕ
  pub word : SlotName → ℕ
  pub content : SlotName → ℕ

-- Which titles there are: those that are made at some time of the run, those that exist now, and those that actor 0 has
-- now as free, for the roots. And of which title the slot is in a plain partition.
pub record Titles : Type 1 where
  pub Made : Title → Type 0
  pub There : Title → Type 0
  pub Kept : Title → Type 0
  pub plain : Title → Bool

-- of each title that is plain, each Own among these things is sealed, and of each other title none is
abbrev pub AreSealed : (Title → Bool) → (Thing → ℕ) → Type 0
AreSealed plain amount = (t : Title) → amount (SealedOwn t) ≡ (if plain t then amount (OwnOf t) else 0)

-- The core has that many actors and bytes, and shows the ledger.
--   own, ref: each actor holds at least what it is to hold, of each title that is made
--   free: each thread has at least the free slots that it is to have
--   kept: actor 0 has the free slots of the roots
--   words, contents: the count word of each title that is held is its slot's word, and a clean Own's content is its content
--   clean, sealed: between two records each Own is clean, and it is sealed exactly if its title is plain
--   raw: no thread has raw bytes
--   there: each title that is held exists
pub record IsShown (names : Titles) (actors bytes : ℕ) (b : Ledger) (s : State) : Type 0 where
  pub good : IsGoodState s
  pub many : length s.holdings ≡ actors
  pub long : 8 * length s.words ≡ bytes
  pub own : (k : ℕ) (t : Title) → k < actors → names.Made t → b.own k (name_of t) ≤ held_by s k (OwnOf t)
  pub ref : (k : ℕ) (t : Title) → k < actors → names.Made t → b.ref k (name_of t) ≤ held_by s k (RefOf t)
  pub free : (k : ℕ) (t : Title) → 0 < k → k < actors → names.Made t → b.free k (name_of t) ≤ held_by s k (FreeTitle t)
  pub kept : (t : Title) → names.Kept t → Holds s 0 (FreeTitle t)
  pub words : (t : Title) → IsTitleHeld (total_of s) t → count_word s.words t ≡ b.word (name_of t)
  pub contents : (t : Title) → 0 < total_of s (OwnAs t Clean) → HasContentFrom s.words t 0 (b.content (name_of t))
  pub clean : (t : Title) (a : OwnState) → 0 < total_of s (OwnAs t a) → a ≡ Clean
  pub sealed : (k : ℕ) → k < actors → AreSealed names.plain (held_by s k)
  pub raw : (k byte : ℕ) → 0 < k → k < actors → held_by s k (RawByte byte) ≡ 0
  pub there : (t : Title) → IsTitleHeld (total_of s) t → names.There t

-- After these pieces were lost and gained, each actor is to hold of the titles that are made no more than before, with what was gained
-- and without what was lost. Only the word and the content of one slot change, and its word becomes this.
pub record IsPaid (Made : Title → Type 0) (b next : Ledger) (lost gained : ℕ → List Piece) (t : Title) (word : ℕ) : Type 0 where
  pub own : (k : ℕ) (u : Title) → Made u →
      next.own k (name_of u) + held_in (lost k) (OwnOf u) ≤ b.own k (name_of u) + held_in (gained k) (OwnOf u)
  pub ref : (k : ℕ) (u : Title) → Made u →
      next.ref k (name_of u) + held_in (lost k) (RefOf u) ≤ b.ref k (name_of u) + held_in (gained k) (RefOf u)
  pub free : (k : ℕ) (u : Title) → 0 < k → Made u →
      next.free k (name_of u) + held_in (lost k) (FreeTitle u) ≤ b.free k (name_of u) + held_in (gained k) (FreeTitle u)
  pub word_left : next.word (name_of t) ≡ word
  pub words : (x : SlotName) → (x ≡ name_of t → ⊥) → next.word x ≡ b.word x
  pub contents : (x : SlotName) → (x ≡ name_of t → ⊥) → next.content x ≡ b.content x
