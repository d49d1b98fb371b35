-- What the actors hold, and how it is counted.
use Rattle.std.specs.Prelude.{ℕ, ◌+◌, ◌<◌, List, Bool, true, false, ◌&&◌, nat_lt, nat_le}
use Rattle.std.specs.List.{sum_by}
use Rattle.pa_slot.specs.declared.title.Title.{Title}
use Rattle.pa_slot.specs.declared.title.OwnState.{OwnState}
use Rattle.pa_slot.specs.Titles.{same_title, same_state}

-- one thing that an actor holds: a range of raw bytes, a free title, an Own handle, which is sealed if the Boolean is true, or one
-- Ref handle
pub data Piece : Type 0 where
  RawPiece : (start len : ℕ) → Piece
  FreePiece : Title → Piece
  OwnPiece : Bool → Title → OwnState → Piece
  RefPiece : Title → Piece

-- what can be counted in a holding: how often a byte is raw in it, how often a title is in it as a free title, as
-- an Own, as an Own in this state, as a sealed Own, and as a Ref
pub data Thing : Type 0 where
  RawByte : ℕ → Thing
  FreeTitle : Title → Thing
  OwnOf : Title → Thing
  OwnAs : Title → OwnState → Thing
  SealedOwn : Title → Thing
  RefOf : Title → Thing

-- a test's answer as a number: 1 if it is true, 0 if it is false
abbrev pub one : Bool → ℕ
one true = 1
one false = 0

-- how often a piece counts as the thing
abbrev pub amount : Thing → Piece → ℕ
amount (RawByte b) (RawPiece start len) = one (nat_le start b && nat_lt b (start + len))
amount (RawByte b) (FreePiece t) = 0
amount (RawByte b) (OwnPiece sealed t state) = 0
amount (RawByte b) (RefPiece t) = 0
amount (FreeTitle u) (RawPiece start len) = 0
amount (FreeTitle u) (FreePiece t) = one (same_title t u)
amount (FreeTitle u) (OwnPiece sealed t state) = 0
amount (FreeTitle u) (RefPiece t) = 0
amount (OwnOf u) (RawPiece start len) = 0
amount (OwnOf u) (FreePiece t) = 0
amount (OwnOf u) (OwnPiece sealed t state) = one (same_title t u)
amount (OwnOf u) (RefPiece t) = 0
amount (OwnAs u other) (RawPiece start len) = 0
amount (OwnAs u other) (FreePiece t) = 0
amount (OwnAs u other) (OwnPiece sealed t state) = one (same_title t u && same_state state other)
amount (OwnAs u other) (RefPiece t) = 0
amount (SealedOwn u) (RawPiece start len) = 0
amount (SealedOwn u) (FreePiece t) = 0
amount (SealedOwn u) (OwnPiece sealed t state) = one (same_title t u && sealed)
amount (SealedOwn u) (RefPiece t) = 0
amount (RefOf u) (RawPiece start len) = 0
amount (RefOf u) (FreePiece t) = 0
amount (RefOf u) (OwnPiece sealed t state) = 0
amount (RefOf u) (RefPiece t) = one (same_title t u)

-- how often an actor that holds these pieces holds the thing
abbrev pub held_in : List Piece → Thing → ℕ
held_in pieces x = sum_by (amount x) pieces

-- how often all actors together hold the thing
abbrev pub held_by_all : List (List Piece) → Thing → ℕ
held_by_all holdings x = sum_by (λ pieces. held_in pieces x) holdings

-- some actor holds the title: free, as its Own or as a Ref
abbrev pub IsTitleHeld : (Thing → ℕ) → Title → Type 0
IsTitleHeld total t = 0 < total (FreeTitle t) + total (OwnOf t) + total (RefOf t)
