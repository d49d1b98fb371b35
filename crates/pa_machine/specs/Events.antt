-- The core: its state, the condition of each event, and what it changes.
use Rattle.std.specs.Prelude.{◌≡◌, ℕ, ◌+◌, ◌/◌, ◌%◌, ◌<◌, ◌≤◌, ◌⊎◌, List, [], ◌∷◌, Bool, false, true, ◌==◌, ◌&&◌, length, slice_set, if◌then◌else◌}
use Rattle.std.specs.List.{slice_index_or}
use Rattle.pa_slot.specs.declared.word.Step.{Step}
use Rattle.pa_slot.specs.declared.word.Step.TheVariants.{Issue, Copy, Reset, Free, Write}
use Rattle.pa_slot.specs.declared.title.Title.{Title}
use Rattle.pa_slot.specs.declared.title.OwnState.{OwnState}
use Rattle.pa_slot.specs.declared.title.OwnState.TheVariants.{Clean, Dirty, Poisoned}
use Rattle.pa_machine.specs.declared.event.Item.{Item}
use Rattle.pa_machine.specs.declared.event.Item.TheVariants.{Raw as RawItem, Free as FreeItem, Own as OwnItem, Ref as RefItem}
use Rattle.pa_machine.specs.declared.event.Event.{Event}
use Rattle.pa_machine.specs.declared.event.Event.TheVariants.{Count, Sealed, Store, Poison, Load, Hand, Cut, Uncut}
use Rattle.pa_slot.specs.Count.{CanStep, stepped, refs_of, held_of}
use Rattle.pa_slot.specs.Titles.{Covers, content_count, content_place, count_place, count_word, IsContentOf, HasContentFrom, IsUniform, poison, progress}
use Rattle.pa_slot.specs.Holdings.{Piece, RawPiece, FreePiece, OwnPiece, RefPiece, Thing, RawByte, FreeTitle, OwnAs, SealedOwn, RefOf, one, held_in, held_by_all}

-- the words of the region, and for each actor what it holds
pub record State : Type 0 where
  pub words : List ℕ
  pub holdings : List (List Piece)

-- the core has the actor
abbrev pub HasActor : State → ℕ → Type 0
HasActor s actor = actor < length s.holdings

-- how often the actor holds the thing
abbrev pub held_by : State → ℕ → Thing → ℕ
held_by s actor x = held_in (slice_index_or s.holdings actor []) x

-- the actor holds the thing at least once
abbrev pub Holds : State → ℕ → Thing → Type 0
Holds s actor x = 0 < held_by s actor x

-- how often all actors of the core together hold the thing
abbrev pub total_of : State → Thing → ℕ
total_of s = held_by_all s.holdings

-- the actor holds the range as raw: every byte of it
abbrev pub HoldsRaw : State → ℕ → ℕ → ℕ → Type 0
HoldsRaw s actor start len = (b : ℕ) → start ≤ b → b < start + len → Holds s actor (RawByte b)

-- the actor holds the title's Own clean or dirty
abbrev pub HoldsOpen : State → ℕ → Title → OwnState → Type 0
HoldsOpen s actor t state = ((state ≡ Clean) ⊎ (state ≡ Dirty)) × Holds s actor (OwnAs t state)

-- the actor's Own of the title is sealed, if the Boolean is true, and it has none that is sealed otherwise
abbrev pub IsSealedAs : State → ℕ → Title → Bool → Type 0
IsSealedAs s actor t sealed = held_by s actor (SealedOwn t) ≡ one sealed

-- What a step on the count word requires of the actor that makes it. A sealed Own can't be copied.
abbrev pub CanCount : Step → State → ℕ → Title → Type 0
CanCount Issue s actor t = Holds s actor (FreeTitle t) × HasContentFrom s.words t 0 0
CanCount Copy s actor t = (Holds s actor (OwnAs t Clean) × IsSealedAs s actor t false) ⊎ Holds s actor (RefOf t)
CanCount Reset s actor t = Holds s actor (RefOf t)
CanCount Free s actor t = Holds s actor (OwnAs t (Poisoned (content_count t)))
CanCount Write s actor t =
    ((state : OwnState) × HoldsOpen s actor t state) × (refs_of (count_word s.words t) ≡ 0) × IsUniform s.words t

-- the actor holds as raw the eight bytes of the word at the byte offset `at`
abbrev pub IsRawWord : State → ℕ → ℕ → Type 0
IsRawWord s actor at = HoldsRaw s actor at 8

-- the word at the byte offset `at` is a content word of a free title that the actor holds
abbrev pub IsFreeWord : State → ℕ → ℕ → Type 0
IsFreeWord s actor at = (t : Title) × Holds s actor (FreeTitle t) × IsContentOf t at

-- the word at `at` is a content word of this title, which the actor has as a clean or dirty Own, and to which no Ref points
abbrev pub IsOwnWord : State → ℕ → ℕ → Title → OwnState → Type 0
IsOwnWord s actor at t state =
    HoldsOpen s actor t state × IsContentOf t at × (refs_of (count_word s.words t) ≡ 0)

-- the word at `at` is in a title that the actor holds: free, as its Own in some state, or as a Ref
abbrev pub IsTitleWord : State → ℕ → ℕ → Type 0
IsTitleWord s actor at =
    (t : Title) × Covers t at ×
    (Holds s actor (FreeTitle t) ⊎ (((state : OwnState) × Holds s actor (OwnAs t state)) ⊎ Holds s actor (RefOf t)))

-- the actor holds the item, an Own only if it is clean
abbrev pub HoldsItem : State → ℕ → Item → Type 0
HoldsItem s actor (RawItem start len) = HoldsRaw s actor start len
HoldsItem s actor (FreeItem t) = Holds s actor (FreeTitle t)
HoldsItem s actor (OwnItem t) = Holds s actor (OwnAs t Clean)
HoldsItem s actor (RefItem t) = Holds s actor (RefOf t)

-- the condition of each event
abbrev pub IsEnabled : Event → State → Type 0
IsEnabled (Count actor t step) s = HasActor s actor × CanCount step s actor t × CanStep step (count_word s.words t)
IsEnabled (Sealed actor t) s = HasActor s actor × CanCount Issue s actor t × CanStep Issue (count_word s.words t)
IsEnabled (Store actor at value) s =
    HasActor s actor × (at % 8 ≡ 0) ×
    (IsRawWord s actor at ⊎ (IsFreeWord s actor at ⊎ ((t : Title) × (state : OwnState) × IsOwnWord s actor at t state)))
IsEnabled (Poison actor t) s =
    HasActor s actor × ((state : OwnState) × Holds s actor (OwnAs t state) × (progress state < content_count t))
IsEnabled (Load actor at) s = HasActor s actor × (at % 8 ≡ 0) × (IsRawWord s actor at ⊎ IsTitleWord s actor at)
IsEnabled (Hand from to item) s = HasActor s from × HasActor s to × HoldsItem s from item
IsEnabled (Cut actor t) s =
    HasActor s actor × HoldsRaw s actor t.start t.len ×
    (t.start % 8 ≡ 0) × (t.len % 8 ≡ 0) × (16 ≤ t.len) × (count_word s.words t ≡ 0)
IsEnabled (Uncut actor t) s = HasActor s actor × Holds s actor (FreeTitle t)

-- pieces of an actor, and nothing of any other
abbrev pub of_actor : ℕ → List Piece → ℕ → List Piece
of_actor actor pieces other = if actor == other then pieces else []

-- each actor loses and gains these pieces, and holds all else as before
abbrev pub Exchanges : List (List Piece) → (ℕ → List Piece) → (ℕ → List Piece) → List (List Piece) → Type 0
Exchanges before lost gained after =
    (length after ≡ length before) ×
    ((actor : ℕ) (x : Thing) → actor < length before →
    held_in (slice_index_or after actor []) x + held_in (lost actor) x
    ≡ held_in (slice_index_or before actor []) x + held_in (gained actor) x)

-- one actor loses and gains these pieces, and the words become these
pub record IsAfter (s : State) (actor : ℕ) (lost gained : List Piece) (words_after : List ℕ) (after : State) : Type 0 where
  pub words : after.words ≡ words_after
  pub holdings : Exchanges s.holdings (of_actor actor lost) (of_actor actor gained) after.holdings

-- what an actor gains by a step that leaves the word w: the free title, if bit and count are 0 after it
abbrev pub returned_at : ℕ → Title → List Piece
returned_at w t = if (held_of w == 0) && (refs_of w == 0) then FreePiece t ∷ [] else []

-- the words with the title's count word after a step
abbrev pub words_stepped : Step → State → Title → List ℕ
words_stepped step s t = slice_set s.words (count_place t) (stepped step (count_word s.words t))

-- what a step on the count word changes besides the word
abbrev pub Counts : Step → State → ℕ → Title → State → Type 0
Counts Issue s actor t after = IsAfter s actor (FreePiece t ∷ []) (OwnPiece false t Clean ∷ []) (words_stepped Issue s t) after
Counts Copy s actor t after = IsAfter s actor [] (RefPiece t ∷ []) (words_stepped Copy s t) after
Counts Reset s actor t after =
    IsAfter s actor (RefPiece t ∷ []) (returned_at (stepped Reset (count_word s.words t)) t) (words_stepped Reset s t) after
Counts Free s actor t after =
    (sealed : Bool) × IsSealedAs s actor t sealed ×
    IsAfter s actor (OwnPiece sealed t (Poisoned (content_count t)) ∷ [])
    (returned_at (stepped Free (count_word s.words t)) t) (words_stepped Free s t) after
Counts Write s actor t after =
    (state : OwnState) × (sealed : Bool) × HoldsOpen s actor t state × IsSealedAs s actor t sealed ×
    IsAfter s actor (OwnPiece sealed t state ∷ []) (OwnPiece sealed t Clean ∷ []) (words_stepped Write s t) after

-- the item as a piece of a holding, an Own sealed if the Boolean is true
abbrev pub piece_of : Bool → Item → Piece
piece_of sealed (RawItem start len) = RawPiece start len
piece_of sealed (FreeItem t) = FreePiece t
piece_of sealed (OwnItem t) = OwnPiece sealed t Clean
piece_of sealed (RefItem t) = RefPiece t

-- if the item is an Own, the actor's is sealed or not as the Boolean says
abbrev pub IsItemSealed : State → ℕ → Item → Bool → Type 0
IsItemSealed s actor (RawItem start len) sealed = Unit {0}
IsItemSealed s actor (FreeItem t) sealed = Unit {0}
IsItemSealed s actor (OwnItem t) sealed = IsSealedAs s actor t sealed
IsItemSealed s actor (RefItem t) sealed = Unit {0}

-- What each event changes. None but the two that issue changes whether an Own is sealed.
abbrev pub Happens : Event → State → State → Type 0
Happens (Count actor t step) s after = Counts step s actor t after
Happens (Sealed actor t) s after =
    IsAfter s actor (FreePiece t ∷ []) (OwnPiece true t Clean ∷ []) (words_stepped Issue s t) after
Happens (Store actor at value) s after =
    (((IsRawWord s actor at ⊎ IsFreeWord s actor at) × IsAfter s actor [] [] (slice_set s.words (at / 8) value) after))
    ⊎ ((t : Title) × (state : OwnState) × (sealed : Bool) × IsOwnWord s actor at t state × IsSealedAs s actor t sealed ×
    IsAfter s actor (OwnPiece sealed t state ∷ []) (OwnPiece sealed t Dirty ∷ []) (slice_set s.words (at / 8) value) after)
Happens (Poison actor t) s after =
    (state : OwnState) × (sealed : Bool) × Holds s actor (OwnAs t state) × IsSealedAs s actor t sealed ×
    IsAfter s actor (OwnPiece sealed t state ∷ []) (OwnPiece sealed t (Poisoned (progress state + 1)) ∷ [])
    (slice_set s.words (content_place t (progress state)) poison) after
Happens (Load actor at) s after = after ≡ s
Happens (Hand from to item) s after =
    (after.words ≡ s.words) × ((sealed : Bool) × IsItemSealed s from item sealed ×
    Exchanges s.holdings (of_actor from (piece_of sealed item ∷ [])) (of_actor to (piece_of sealed item ∷ [])) after.holdings)
Happens (Cut actor t) s after = IsAfter s actor (RawPiece t.start t.len ∷ []) (FreePiece t ∷ []) s.words after
Happens (Uncut actor t) s after = IsAfter s actor (FreePiece t ∷ []) (RawPiece t.start t.len ∷ []) s.words after

-- a state has as many words and as many actors as another
abbrev pub IsSameShape : State → State → Type 0
IsSameShape s after = (length after.words ≡ length s.words) × (length after.holdings ≡ length s.holdings)

-- the start: all words are 0, and actor 0 holds every byte as raw
pub record IsStart (bytes actors : ℕ) (s : State) : Type 0 where
  pub count : length s.holdings ≡ actors
  pub words : length s.words ≡ bytes / 8
  pub zero : (i : ℕ) → i < bytes / 8 → slice_index_or s.words i 0 ≡ 0
  pub held : (actor : ℕ) (x : Thing) → actor < actors →
      held_by s actor x ≡ held_in (of_actor 0 (RawPiece 0 bytes ∷ []) actor) x
