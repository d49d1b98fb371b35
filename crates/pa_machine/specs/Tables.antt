-- What the core's tables say: the state that they represent, and what is always true of them.
use Rattle.std.specs.Prelude.{◌≡◌, ℕ, ◌+◌, ◌*◌, ◌/◌, ◌%◌, ◌<◌, ◌≤◌, List, [], ◌∷◌, ◌++◌, Bool, false, ◌==◌, ◌&&◌, ◌⊎◌, Contains, nat_le, nat_lt, Option, Some, None, length, map, slice_index, slice_set, replicate, if◌then◌else◌}
use Rattle.std.specs.List.{slice_index_or, range_with_len, flat_map, swap_remove}
use Rattle.std.specs.Prelude.{Box}
use Rattle.std.specs.Global.{Global}
use Rattle.pa_slot.specs.declared.title.Title.{Title}
use Rattle.pa_slot.specs.declared.title.OwnState.{OwnState}
use Rattle.pa_slot.specs.declared.title.OwnState.TheVariants.{Clean}
use Rattle.pa_slot.specs.declared.word.Step.{Step}
use Rattle.pa_slot.specs.declared.word.Step.TheVariants.{Issue, Copy, Reset, Free, Write}
use Rattle.pa_slot.specs.Count.{refs_of}
use Rattle.pa_machine.specs.declared.slot.Owner.{Owner}
use Rattle.pa_machine.specs.declared.slot.Slot.{Slot}
use Rattle.pa_machine.specs.declared.tables.Tables.{Tables}
use Rattle.pa_slot.specs.Titles.{same_title, count_place, count_word, content_count, progress, IsWellFormed}
use Rattle.pa_slot.specs.Holdings.{Piece, RawPiece, FreePiece, OwnPiece, RefPiece, FreeTitle, OwnAs, IsTitleHeld}
use Rattle.pa_machine.specs.Good.{IsGood}
use Rattle.pa_machine.specs.Events.{State, total_of, Holds, HoldsRaw, HoldsOpen, IsFreeWord, IsOwnWord}

-- an entry of the table of titles
abbrev pub Place : Type 0
Place = Option (Box Slot Global)

-- the test whether the actor is the byte's holder, which fails for a byte without one
abbrev pub is_holder : ℕ → Option ℕ → Bool
is_holder actor None = false
is_holder actor (Some other) = other == actor

-- a piece of one byte for each byte whose holder is the actor, if the list begins with the holder of byte b
abbrev pub raw_pieces : ℕ → ℕ → List (Option ℕ) → List Piece
raw_pieces actor b [] = []
raw_pieces actor b (h ∷ hs) = if is_holder actor h then RawPiece b 1 ∷ raw_pieces actor (b + 1) hs else raw_pieces actor (b + 1) hs

-- the title as a free one, if the actor is the one that holds it free
abbrev pub free_pieces : ℕ → Title → Option ℕ → List Piece
free_pieces actor t None = []
free_pieces actor t (Some other) = if other == actor then FreePiece t ∷ [] else []

-- the title's Own in its state, if the actor is the owner
abbrev pub own_pieces : ℕ → Title → Option Owner → List Piece
own_pieces actor t None = []
own_pieces actor t (Some owner) = if owner.actor == actor then OwnPiece owner.sealed t owner.state ∷ [] else []

-- a Ref for each time that the actor is in the list of those that hold one
abbrev pub ref_pieces : ℕ → Title → List ℕ → List Piece
ref_pieces actor t [] = []
ref_pieces actor t (r ∷ rs) = if r == actor then RefPiece t ∷ ref_pieces actor t rs else ref_pieces actor t rs

-- all that the actor holds of an entry's title: the free title, its Own, and its Refs
abbrev pub slot_pieces : ℕ → Slot → List Piece
slot_pieces actor o = free_pieces actor o.title o.free ++ (own_pieces actor o.title o.own ++ ref_pieces actor o.title o.refs.items)

-- all that the actor holds of the title at a place of the table, and nothing for an empty place
abbrev pub place_pieces : ℕ → Place → List Piece
place_pieces actor None = []
place_pieces actor (Some b) = slot_pieces actor b.value

-- what an actor holds
abbrev pub pieces_of : List (Option ℕ) → List Place → ℕ → List Piece
pieces_of holders slots actor = raw_pieces actor 0 holders ++ flat_map (place_pieces actor) slots

-- what each actor holds, from actor 0 on
abbrev pub holdings_of : List (Option ℕ) → List Place → ℕ → List (List Piece)
holdings_of holders slots actors = map (pieces_of holders slots) (range_with_len 0 actors)

-- the state that the tables represent
abbrev pub state_of : Tables → State
state_of c = record { words = c.words.items; holdings = holdings_of c.holders.items c.slots.items c.actors }

-- the entry that a place of the table has, if it is this title's
abbrev pub kept_as : Title → Place → Option Slot
kept_as t None = None
kept_as t (Some b) = if same_title b.value.title t then Some b.value else None

-- the title's entry in the table, at the index of the title's first word, if it is there
abbrev pub slot_at : List Place → Title → Option Slot
slot_at slots t = kept_as t (slice_index_or slots (t.start / 8) None)

-- the holder of a free title, if there is one, is among the actors
abbrev pub IsHolderWithin : ℕ → Option ℕ → Type 0
IsHolderWithin actors None = Unit {0}
IsHolderWithin actors (Some actor) = actor < actors

-- an owner, if there is one, is among the actors
abbrev pub IsOwnerWithin : ℕ → Option Owner → Type 0
IsOwnerWithin actors None = Unit {0}
IsOwnerWithin actors (Some owner) = owner.actor < actors

-- the actor holds the entry's title in some way: free, as its Own, or as a Ref
abbrev pub IsHeldBy : Slot → ℕ → Type 0
IsHeldBy o actor =
    (o.free ≡ Some actor)
    ⊎ (((state : OwnState) × (sealed : Bool) × (o.own ≡ Some (record { actor = actor; state = state; sealed = sealed })))
    ⊎ Contains o.refs.items actor)

-- the actor owns the entry's title, and has content words left to poison
abbrev pub CanPoison : Slot → ℕ → Type 0
CanPoison o actor =
    (state : OwnState) × (sealed : Bool) × (o.own ≡ Some (record { actor = actor; state = state; sealed = sealed })) ×
    (progress state < content_count o.title)

-- the actor has an Own of the title with content words left to poison
abbrev pub MayPoison : State → ℕ → Title → Type 0
MayPoison s actor t = (state : OwnState) × Holds s actor (OwnAs t state) × (progress state < content_count t)

-- the actor holds a title's bytes as raw, in which it may be cut out
abbrev pub MayCut : State → ℕ → Title → Type 0
MayCut s actor t =
    HoldsRaw s actor t.start t.len ×
    (t.start % 8 ≡ 0) × (t.len % 8 ≡ 0) × (16 ≤ t.len) × (count_word s.words t ≡ 0)

-- the actor may write the title's content: it holds the title free, or as a clean or dirty Own to which no Ref points
abbrev pub MayChange : State → ℕ → Title → Type 0
MayChange s actor t =
    Holds s actor (FreeTitle t) ⊎ (((state : OwnState) × HoldsOpen s actor t state) × (refs_of (count_word s.words t) ≡ 0))

-- the word at the byte offset `at` is a content word of the actor's free title, or of its clean or dirty Own to which no Ref points
abbrev pub MayWrite : State → ℕ → ℕ → Type 0
MayWrite s actor at =
    IsFreeWord s actor at ⊎ ((t : Title) × (state : OwnState) × IsOwnWord s actor at t state)

-- in a region of that many words, an entry is at the first word of its title, which is well formed
abbrev pub IsPlaced : ℕ → ℕ → ℕ → Place → Type 0
IsPlaced words actors i None = Unit {0}
IsPlaced words actors i (Some b) =
    (b.value.title.start ≡ 8 * i) × IsWellFormed words b.value.title × IsHolderWithin actors b.value.free × IsOwnerWithin actors b.value.own

-- the entry that a place of the table has, if its title covers the byte offset `at`
abbrev pub kept_over : ℕ → Place → Option Slot
kept_over at None = None
kept_over at (Some b) = if nat_le b.value.title.start at && nat_lt at (b.value.title.start + b.value.title.len) then Some b.value else None

-- the entry at the index that the table of homes has for the byte's word, if its title covers the byte
abbrev pub slot_over : List ℕ → List Place → ℕ → Option Slot
slot_over homes slots at = kept_over at (slice_index_or slots (slice_index homes (at / 8)) None)

-- What is always true of the tables: their lengths, at which index an entry is,
-- where the words of a held title point, and that the state is good.
pub record AreSound (c : Tables) : Type 0 where
  pub holders : length c.holders.items ≡ 8 * length c.words.items
  pub slots : length c.slots.items ≡ length c.words.items
  pub homes : length c.homes.items ≡ length c.words.items
  pub placed : (i : ℕ) → IsPlaced (length c.words.items) c.actors i (slice_index_or c.slots.items i None)
  pub pointed : (t : Title) (q : ℕ) → IsTitleHeld (total_of (state_of c)) t → t.start / 8 ≤ q → q ≤ count_place t →
      slice_index c.homes.items q ≡ t.start / 8
  pub good : IsGood c.words.items (total_of (state_of c))

-- an entry after another, of the same title
pub record IsNextSlot (old new : Slot) (free : Option ℕ) (own : Option Owner) (refs : List ℕ) : Type 0 where
  pub title : new.title ≡ old.title
  pub is_free : new.free ≡ free
  pub is_own : new.own ≡ own
  pub is_refs : new.refs.items ≡ refs

-- the entry is as before
abbrev pub IsSameSlot : Slot → Slot → Type 0
IsSameSlot old new = IsNextSlot old new old.free old.own old.refs.items

-- whether an entry's Own is sealed, which is false where there is none
abbrev pub is_sealed : Option Owner → Bool
is_sealed None = false
is_sealed (Some owner) = owner.sealed

-- how an entry changes by an issue: the actor has its Own, which is clean, and sealed if the Boolean is true
abbrev pub IsIssuedSlot : Bool → ℕ → Slot → Slot → Type 0
IsIssuedSlot sealed actor old new =
    IsNextSlot old new None (Some (record { actor = actor; state = Clean; sealed = sealed })) old.refs.items

-- how an entry changes when its Own goes to this actor in this state: it stays sealed or not
abbrev pub IsRestatedSlot : ℕ → OwnState → Slot → Slot → Type 0
IsRestatedSlot actor state old new =
    IsNextSlot old new old.free (Some (record { actor = actor; state = state; sealed = is_sealed old.own })) old.refs.items

-- how an entry changes by a step of the actor on the count word, which gives the title back or not
abbrev pub IsSlotStepped : Step → ℕ → Bool → Slot → Slot → Type 0
IsSlotStepped Issue actor back old new = IsIssuedSlot false actor old new
IsSlotStepped Copy actor back old new = IsNextSlot old new old.free old.own (old.refs.items ++ actor ∷ [])
IsSlotStepped Reset actor back old new =
    (k : ℕ) × (k < length old.refs.items) × (slice_index old.refs.items k ≡ actor) ×
    IsNextSlot old new (if back then Some actor else old.free) old.own (swap_remove old.refs.items k 0)
IsSlotStepped Free actor back old new = IsNextSlot old new (if back then Some actor else old.free) None old.refs.items
IsSlotStepped Write actor back old new = IsRestatedSlot actor Clean old new

-- in a table of titles, the entry at an index is replaced by another
abbrev pub IsChangedAt : (Slot → Slot → Type 0) → List Place → ℕ → List Place → Type 0
IsChangedAt R before p after =
    (old : Box Slot Global) × (new : Box Slot Global) × (slice_index_or before p None ≡ Some old)
    × (after ≡ slice_set before p (Some new)) × R old.value new.value

-- there is an entry at the index, and this holds of it
abbrev pub IsEntryAt : (Slot → Type 0) → List Place → ℕ → Type 0
IsEntryAt P slots p = (b : Box Slot Global) × (slice_index_or slots p None ≡ Some b) × P b.value

-- the entries from `start` to before `end` have this value, and the others are as before
pub record IsFilled {A : Type 0} (d : A) (before : List A) (start end : ℕ) (value : A) (after : List A) : Type 0 where
  pub len : length after ≡ length before
  pub within : (i : ℕ) → start ≤ i → i < end → slice_index_or after i d ≡ value
  pub outside : (i : ℕ) → (i < start) ⊎ (end ≤ i) → slice_index_or after i d ≡ slice_index_or before i d

-- the tables at the start
pub record IsStartTables (bytes actors : ℕ) (c : Tables) : Type 0 where
  pub words : c.words.items ≡ replicate (bytes / 8) 0
  pub holders : c.holders.items ≡ replicate bytes (Some 0)
  pub slots : c.slots.items ≡ replicate (bytes / 8) None
  pub homes : c.homes.items ≡ replicate (bytes / 8) 0
  pub count : c.actors ≡ actors
