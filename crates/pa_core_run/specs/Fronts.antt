-- What the core shows before a line of a run in the order of its lines.
use Rattle.std.specs.Prelude.{◌≡◌, ℕ, ◌+◌, ◌*◌, List, [], ◌∷◌, ◌++◌}
use Rattle.pa_slot.specs.declared.word.SlotName.{SlotName}
use Rattle.pa_slot.specs.declared.title.Title.{Title}
use Rattle.pa_slot.specs.Count.{number_of, held_of}
use Rattle.pa_machine.specs.Events.{State}
use Rattle.pa_record.specs.declared.history.Held.TheVariants.{Nothing}
use Rattle.pa_record.specs.Spans.{name_of}
use Rattle.pa_record.specs.Root.{Root}
use Rattle.pa_record.specs.Laws.{IsNameOut}
use Rattle.pa_record.specs.Sound.{IsMade, IsMadeBy}
use Rattle.pa_rules.specs.declared.played.Played.{Played}
use Rattle.pa_rules.specs.Caches.{Caches, CachesTo, no_caches}
use Rattle.pa_rules.specs.Registers.{AllRegs, RowsTo, plain_in}
use Rattle.pa_rules.specs.Contents.{IsContent}
use Rattle.pa_heap_effects.specs.Shared.{IsThere}
use Rattle.pa_one_run.specs.Parts.{Parts, cell_line}
use Rattle.pa_one_run.specs.Before.{word_after, below, root_at, HasRegisters, facts_of, gave_last}
use Rattle.pa_core_run.specs.Playing.{Plays}
use Rattle.pa_core_run.specs.Ledger.{Titles, IsShown}
use Rattle.pa_core_run.specs.Standing.{Standing, ledger_of}

-- one of the journals makes the title at some time
abbrev pub MadeIn : Parts → Title → Type 0
MadeIn a t = (p : ℕ) × IsMadeBy a.pools (a.roots p) t

-- the title exists in one of these roots
abbrev pub ThereIn : (ℕ → Root) → Title → Type 0
ThereIn root t = (p : ℕ) × IsThere (root p) t

-- one of these roots made the title, and its slot isn't out of it
abbrev pub KeptIn : (ℕ → Root) → Title → Type 0
KeptIn root t = (p : ℕ) × IsMade (root p) t × (IsNameOut (root p) (name_of t) → ⊥)

-- The titles of a run: those that its journals make, and those that exist and are kept in these roots. One is plain if the run's
-- records made its slot in a plain partition.
abbrev pub titles_in : Parts → (ℕ → Root) → Titles
titles_in a root =
    record { Made = MadeIn a; There = ThereIn root; Kept = KeptIn root; plain = λ t. plain_in a.ps (name_of t) }

-- The state before line n, after some records and before the rest: the registers and lists to which these records lead and from which the
-- rest goes on, what the last exchange of each cell gave, and the words and contents that the records left.
pub record IsFrontOf (a : Parts) (n : ℕ) (before rest : List Played) (st : Standing) : Type 0 where
  pub registers : HasRegisters a before st.regs
  pub rows : (end : AllRegs) × RowsTo (facts_of a) st.regs rest end
  pub caches : CachesTo a.partitions a.roots no_caches before st.caches
  pub lists : (end : Caches) × CachesTo a.partitions a.roots st.caches rest end
  pub cells : (k : ℕ) → st.held k ≡ gave_last Nothing (below cell_line n (a.cells k))
  pub words : (x : SlotName) → st.word x ≡ word_after before x
  pub contents : (x : SlotName) → held_of (st.word x) ≡ 1 → IsContent a.ps x (number_of (st.word x)) (st.content x)

-- the core shows the state before the line
pub record ShowsFront (a : Parts) (n : ℕ) (before rest : List Played) (s : State) : Type 0 where
  pub st : Standing
  pub front : IsFrontOf a n before rest st
  pub shown : IsShown (titles_in a (root_at a n)) (a.threads + 1) (2097152 * a.supers) (ledger_of a.partitions st) s

-- The next record can be played whenever the core shows the state before it, and leads to the state before the next line.
abbrev pub CanBePlayed : Parts → List Played → Played → List Played → Type 0
CanBePlayed a before x rest =
    (s : State) → ShowsFront a x.line before (x ∷ rest) s →
    (next : State) × Plays (MadeIn a) x s next × ShowsFront a (x.line + 1) (before ++ x ∷ []) rest next
