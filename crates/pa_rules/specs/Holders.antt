-- Who holds a free slot: the root, or a thread.
use Rattle.std.specs.Prelude.{◌≡◌, ℕ, ◌+◌, ◌<◌, ◌==◌, ◌&&◌, ◌⊎◌, Bool, List, [], ◌∷◌, map, Some, Contains, filter, flat_map}
use Rattle.pa_slot.specs.declared.word.SlotName.{SlotName}
use Rattle.pa_slot.specs.declared.word.Step.{Step}
use Rattle.pa_slot.specs.Count.{number_of}
use Rattle.pa_slot.specs.Run.{Mark, IsReturning, same_slot}
use Rattle.pa_record.specs.declared.entry.Seen.{Seen}
use Rattle.pa_record.specs.declared.entry.Answer.TheVariants.{Made}
use Rattle.pa_record.specs.declared.numbered.Numbered.{Numbered}
use Rattle.pa_record.specs.declared.root.RootEntry.{RootEntry}
use Rattle.pa_record.specs.declared.root.RootAct.{RootAct}
use Rattle.pa_record.specs.declared.root.RootAct.TheVariants.{Fill, Map, Full, Give, Unmap, Purge}
use Rattle.pa_rules.specs.declared.played.Played.{Played}
use Rattle.pa_rules.specs.Played.{mark_of}
use Rattle.pa_rules.specs.Roots.{Journals, IsEntry}
use Rattle.pa_rules.specs.Order.{IsOfLine}

-- the holder of a free slot: the root, or the thread with this number
pub data Holder : Type 0 where
  InRoot : Holder
  WithThread : ℕ → Holder

-- a slot leaves the root, or comes back to it
pub data Way : Type 0 where
  Out : Way
  Back : Way

-- what an entry of a journal does with a slot at a number
pub record Move : Type 0 where
  pub line : ℕ
  pub slot : SlotName
  pub number : ℕ
  pub way : Way

-- what an entry of this line does with a slot at its number: out or back
abbrev pub move_of : ℕ → Way → Numbered → Move
move_of line way n = record { line = line; slot = n.slot; number = n.number; way = way }

-- The moves that an entry makes. The slots of a fill and a direct map leave the root, a map at the number 0,
-- and those that are given back come back.
abbrev pub moves_by : ℕ → RootAct → List Move
moves_by line (Fill class asked slots) = map (move_of line Out) slots
moves_by line (Map asked slot len) = record { line = line; slot = slot; number = 0; way = Out } ∷ []
moves_by line (Full class asked) = []
moves_by line (Give slots) = map (move_of line Back) slots
moves_by line (Unmap asked slot) = move_of line Back slot ∷ []
moves_by line Purge = []

-- the test whether a move is of slot s at number k
abbrev pub is_move_of : SlotName → ℕ → Move → Bool
is_move_of s k m = same_slot m.slot s && (m.number == k)

-- what a journal does with slot s at number k, in order
abbrev pub moves_at : List RootEntry → SlotName → ℕ → List Move
moves_at journal s k = filter (is_move_of s k) (flat_map (λ (e : RootEntry). moves_by e.line e.act) journal)

-- the record x returned slot s, and left the number k
abbrev pub IsReturnedBy : List Played → SlotName → ℕ → Played → Type 0
IsReturnedBy ps s k x =
    Contains ps x × (m : Mark) × (step : Step) × (mark_of x ≡ Some m) × (m.slot ≡ s) × (m.step ≡ Some step)
    × IsReturning step m.found × (number_of m.found + 1 ≡ k)

-- A free slot's first holder at a number: the root at 0, else the thread whose step returned it. There is none if the
-- slot isn't free at that number.
abbrev pub IsFirstHolder : List Played → SlotName → ℕ → Holder → Type 0
IsFirstHolder ps s k h = ((k ≡ 0) × (h ≡ InRoot)) ⊎ ((x : Played) × IsReturnedBy ps s k x × (h ≡ WithThread x.thread))

-- the holder that a move makes: the thread of the record if the slot leaves, the root if it comes back
abbrev pub made_by : Way → Played → Holder
made_by Out x = WithThread x.thread
made_by Back x = InRoot

-- the holder that a move needs: the root if the slot leaves, the thread of the record if it comes back
abbrev pub needed_by : Way → Played → Holder
needed_by Out x = InRoot
needed_by Back x = WithThread x.thread

-- the holder after these moves, whether or not they had the one that they need
abbrev pub HolderAfter : List Played → Holder → List Move → Holder → Type 0
HolderAfter ps h [] last = last ≡ h
HolderAfter ps h (m ∷ ms) last = (x : Played) × IsOfLine ps m.line x × HolderAfter ps (made_by m.way x) ms last

-- The slot's holder at the number, after all entries that name it at that number: they are of one journal.
abbrev pub IsHeld : List Played → Journals → SlotName → ℕ → Holder → Type 0
IsHeld ps roots s k last =
    (p : ℕ) × (h : Holder) × ((q : ℕ) → (q ≡ p → ⊥) → moves_at (roots q) s k ≡ []) × IsFirstHolder ps s k h
    × HolderAfter ps h (moves_at (roots p) s k) last

-- each of these moves has the holder that it needs
abbrev pub MovesFit : List Played → Holder → List Move → Type 0
MovesFit ps h [] = Unit {0}
MovesFit ps h (m ∷ ms) = (x : Played) × IsOfLine ps m.line x × (h ≡ needed_by m.way x) × MovesFit ps (made_by m.way x) ms

-- if a journal has the slot at the number, the slot is free there, and each entry has the holder that it needs
abbrev pub HasHolders : List Played → SlotName → ℕ → List Move → Type 0
HasHolders ps s k [] = Unit {0}
HasHolders ps s k (m ∷ ms) = (h : Holder) × IsFirstHolder ps s k h × MovesFit ps h (m ∷ ms)

-- the record x is of slot s, and found this number
abbrev pub IsOfSlot : Played → SlotName → ℕ → Type 0
IsOfSlot x s n = (m : Mark) × (mark_of x ≡ Some m) × (m.slot ≡ s) × (number_of m.found ≡ n)

-- the entry names the slot
abbrev pub NamesSlot : RootEntry → SlotName → Type 0
NamesSlot e s = (m : Move) × Contains (moves_by e.line e.act) m × (m.slot ≡ s)

-- The holders.
--   moves: each entry names a slot at a number at which it is free, and its holder is the one that the entry needs
--   issues: an allocation that made a slot has it, after all entries that name the slot at that number
--   gone: after a direct map went back no entry of its journal names it, and no record found its number or a later one
pub record AreHolders (ps : List Played) (roots : Journals) : Type 0 where
  pub moves : (p : ℕ) (s : SlotName) (k : ℕ) → HasHolders ps s k (moves_at (roots p) s k)
  pub issues : (x : Played) (seen : Seen) (usable : ℕ) → Contains ps x → x.answer ≡ Made seen usable
      → IsHeld ps roots seen.slot (number_of seen.found.0) (WithThread x.thread)
  pub gone_from_journal : (p i j asked : ℕ) (slot : Numbered) (e f : RootEntry) → IsEntry roots p i e → e.act ≡ Unmap asked slot
      → IsEntry roots p j f → i < j → NamesSlot f slot.slot → ⊥
  pub gone_from_records : (p i asked n : ℕ) (slot : Numbered) (e : RootEntry) (x : Played) → IsEntry roots p i e → e.act ≡ Unmap asked slot
      → Contains ps x → IsOfSlot x slot.slot n → n < slot.number
