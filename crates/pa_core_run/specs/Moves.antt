-- Titles that come into the core and leave it, and free slots that go between a thread and the roots: what the lines that make
-- entries of a journal do in the core besides their step.
use Rattle.std.specs.Prelude.{◌≡◌, ℕ, ◌+◌, ◌%◌, ◌<◌, ◌≤◌, Bool, List, [], ◌∷◌, ◌++◌, Contains}
use Rattle.pa_slot.specs.declared.word.SlotName.{SlotName}
use Rattle.pa_slot.specs.declared.title.Title.{Title}
use Rattle.pa_machine.specs.declared.event.Event.{Event}
use Rattle.pa_slot.specs.Holdings.{FreeTitle}
use Rattle.pa_machine.specs.Events.{State, Holds}
use Rattle.pa_machine.specs.Trail.{IsRunTo}
use Rattle.pa_record.specs.Spans.{name_of}
use Rattle.pa_record.specs.Sound.{TitlesApart}
use Rattle.pa_rules.specs.Once.{once}
use Rattle.pa_core_run.specs.Playing.{AreBeside}
use Rattle.pa_core_run.specs.Ledger.{Ledger, Titles, IsShown}

-- the titles that are made have different names
abbrev pub HaveNames : (Title → Type 0) → Type 0
HaveNames Made = (t u : Title) → Made t → Made u → name_of t ≡ name_of u → t ≡ u

-- no title is listed twice, and no two share a byte
abbrev pub StandOnce : List Title → Type 0
StandOnce [] = Unit {0}
StandOnce (t ∷ ts) = (Contains ts t → ⊥) × StandOnce ts

-- each of the titles lies apart from those after it
abbrev pub AllApart : List Title → Type 0
AllApart [] = Unit {0}
AllApart (t ∷ ts) = ((u : Title) → Contains ts u → TitlesApart u t) × AllApart ts

-- how often a name is that of one of these titles
abbrev pub named_in : SlotName → List Title → ℕ
named_in x [] = 0
named_in x (t ∷ ts) = once x (name_of t) + named_in x ts

-- a ledger with other free slots
abbrev pub asking : Ledger → (ℕ → SlotName → ℕ) → Ledger
asking b free = record b { free = free }

-- titles by lists: those that are made at some time, those that exist, and those that actor 0 has for the roots; and which are plain
abbrev pub listed_titles : (Title → Bool) → List Title → List Title → List Title → Titles
listed_titles plain made there kept =
    record { Made = Contains made; There = Contains there; Kept = Contains kept; plain = plain }

-- What is required of a title that is cut: it is none of those that exist, and lies apart from them, well formed in the region.
pub record CanBeCut (names : Titles) (bytes : ℕ) (t : Title) : Type 0 where
  pub apart : (u : Title) → names.There u → TitlesApart t u
  pub start_aligned : t.start % 8 ≡ 0
  pub len_aligned : t.len % 8 ≡ 0
  pub long : 16 ≤ t.len
  pub inside : t.start + t.len ≤ bytes

-- What some events lead to: they are of this actor and of actor 0, none is a step on a count word, and the core shows a ledger then.
pub record IsReached (names : Titles) (actors bytes : ℕ) (b : Ledger) (s : State) (k : ℕ) (after : State) : Type 0 where
  pub events : List Event
  pub run : IsRunTo s events after
  pub beside : AreBeside k events
  pub shown : IsShown names actors bytes b after

-- Titles whose slots' words are 0 can be cut out of raw bytes, one after the other.
abbrev pub TitlesCanBeCut : Type 0
TitlesCanBeCut =
    (plain : Title → Bool) (ts made there kept : List Title) (actors bytes k : ℕ) (b : Ledger) (s : State) →
    IsShown (listed_titles plain made there kept) actors bytes b s → 0 < actors →
    ((t : Title) → Contains ts t → CanBeCut (listed_titles plain made there kept) bytes t × (b.word (name_of t) ≡ 0)) → AllApart ts →
    (after : State) × IsReached (listed_titles plain made (there ++ ts) (kept ++ ts)) actors bytes b s k after

-- A free title that actor 0 has can be uncut: it exists no more, and actor 0 has it for the roots no more.
abbrev pub TitlesCanBeUncut : Type 0
TitlesCanBeUncut =
    (plain : Title → Bool) (t : Title) (made there kept there_then kept_then : List Title) (actors bytes k : ℕ) (b : Ledger)
    (s : State) →
    IsShown (listed_titles plain made there kept) actors bytes b s → 0 < actors → Holds s 0 (FreeTitle t) →
    ((u : Title) → Contains there u → (t ≡ u → ⊥) → Contains there_then u) →
    ((u : Title) → Contains kept_then u → Contains kept u × (t ≡ u → ⊥)) →
    (after : State) × IsReached (listed_titles plain made there_then kept_then) actors bytes b s k after

-- What a ledger loses of a thread's free slots can go to the roots: actor 0 has these titles then.
abbrev pub SlotsCanGoBack : Type 0
SlotsCanGoBack =
    (plain : Title → Bool) (ts made there kept : List Title) (actors bytes k : ℕ) (b : Ledger) (rest : ℕ → SlotName → ℕ) (s : State) →
    0 < k → k < actors → HaveNames (Contains made) → IsShown (listed_titles plain made there kept) actors bytes b s →
    ((t : Title) → Contains ts t → Contains made t) →
    ((x : SlotName) → rest k x + named_in x ts ≤ b.free k x) → ((j : ℕ) (x : SlotName) → (j ≡ k → ⊥) → rest j x ≤ b.free j x) →
    (after : State) × IsReached (listed_titles plain made there (kept ++ ts)) actors bytes (asking b rest) s k after

-- Titles that actor 0 has for the roots can come to a thread.
abbrev pub SlotsCanCome : Type 0
SlotsCanCome =
    (plain : Title → Bool) (ts made there kept kept_then : List Title) (actors bytes k : ℕ) (b : Ledger) (later : ℕ → SlotName → ℕ)
    (s : State) →
    0 < k → k < actors → HaveNames (Contains made) → IsShown (listed_titles plain made there kept) actors bytes b s →
    ((t : Title) → Contains ts t → Contains made t × Contains kept t) → StandOnce ts →
    ((u : Title) → Contains kept_then u → Contains kept u × (Contains ts u → ⊥)) →
    ((x : SlotName) → later k x ≤ b.free k x + named_in x ts) → ((j : ℕ) (x : SlotName) → (j ≡ k → ⊥) → later j x ≤ b.free j x) →
    (after : State) × IsReached (listed_titles plain made there kept_then) actors bytes (asking b later) s k after

-- The four laws of this file hold: titles can be cut and uncut, and free slots can go back and come.
pub record TitlesComeAndGo : Type 0 where
  pub cut : TitlesCanBeCut
  pub uncut : TitlesCanBeUncut
  pub back : SlotsCanGoBack
  pub come : SlotsCanCome
