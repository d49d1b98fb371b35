-- How slots go from the roots to the threads and back, by the entries of the records' lines, wherever a thread keeps them meanwhile.
use Rattle.std.specs.Prelude.{◌≡◌, ℕ, ◌+◌, ◌<◌, ◌≤◌, ◌==◌, ◌&&◌, ◌⊎◌, Bool, not, if◌then◌else◌, List, [], ◌∷◌, ◌++◌, Option, Some, None, Contains, count_by}
use Rattle.pa_slot.specs.declared.word.SlotName.{SlotName}
use Rattle.pa_slot.specs.declared.word.Step.{Step}
use Rattle.pa_slot.specs.Count.{number_of}
use Rattle.pa_slot.specs.Run.{Mark, IsReturning, same_slot}
use Rattle.pa_trace.specs.declared.script.Op.TheVariants.{Alloc}
use Rattle.pa_record.specs.declared.entry.Seen.{Seen}
use Rattle.pa_record.specs.declared.entry.Answer.TheVariants.{Made, Done}
use Rattle.pa_record.specs.declared.numbered.Numbered.{Numbered}
use Rattle.pa_record.specs.declared.pool.PoolEntry.{PoolEntry}
use Rattle.pa_record.specs.declared.root.RootEntry.{RootEntry}
use Rattle.pa_record.specs.declared.root.RootAct.{RootAct}
use Rattle.pa_record.specs.declared.root.RootAct.TheVariants.{Fill, Map, Full, Give, Unmap, Purge}
use Rattle.pa_record.specs.Root.{IsJournal}
use Rattle.pa_rules.specs.declared.played.Played.{Played}
use Rattle.pa_rules.specs.Played.{mark_of, step_of}
use Rattle.pa_rules.specs.Roots.{Journals}
use Rattle.pa_rules.specs.Caches.{acts_of, IsOfClass, IsDirect, AreCaches}
use Rattle.pa_rules.specs.Flow.{is_issue_of, is_return_of, IsOnlyOf}
use Rattle.pa_rules.specs.Holders.{Way, Out, Back}
use Rattle.pa_legal.specs.Turns.{is_out}

-- a direct map that was made was never stepped on before: the word found has the number 0
abbrev pub IsNewMap : Journals → Played → Type 0
IsNewMap roots x = (seen : Seen) (usable p : ℕ) → x.answer ≡ Made seen usable → IsDirect roots seen.slot p → number_of seen.found.0 ≡ 0

-- a direct map that goes back is named at the number that the step which returned it left
abbrev pub UnmapsNext : Journals → Played → Type 0
UnmapsNext roots x =
    (seen : Seen) (p asked : ℕ) (slot : Numbered) (e : RootEntry) →
    x.answer ≡ Done seen → Contains (roots p) e → e.line ≡ x.line → e.act ≡ Unmap asked slot →
    slot.number ≡ number_of seen.found.0 + 1

-- the test whether a slot comes back to the root
abbrev pub is_back : Way → Bool
is_back w = not (is_out w)

-- the slot and the number are those of the numbered slot
abbrev pub hits : SlotName → ℕ → Numbered → Bool
hits s k n = same_slot s n.slot && (n.number == k)

-- how often the slot is among these at the number
abbrev pub at_in : SlotName → ℕ → List Numbered → ℕ
at_in s k xs = count_by (hits s k) xs

-- how often an act moves the slot at the number in such ways
abbrev pub moved : (Way → Bool) → SlotName → ℕ → RootAct → ℕ
moved w s k (Fill class asked slots) = if w Out then at_in s k slots else 0
moved w s k (Map asked slot len) = if w Out then at_in s k (record { slot = slot; number = 0 } ∷ []) else 0
moved w s k (Full class asked) = 0
moved w s k (Give slots) = if w Back then at_in s k slots else 0
moved w s k (Unmap asked slot) = if w Back then at_in s k (slot ∷ []) else 0
moved w s k Purge = 0

-- how often these acts do
abbrev pub moved_in : (Way → Bool) → SlotName → ℕ → List RootAct → ℕ
moved_in w s k [] = 0
moved_in w s k (a ∷ acts) = moved w s k a + moved_in w s k acts

-- a mark that issues the slot at the number
abbrev pub is_issue_at : SlotName → ℕ → Mark → Bool
is_issue_at s k m = is_issue_of s m && (number_of m.found == k)

-- a mark that returns the slot and leaves it at the number
abbrev pub is_return_at : SlotName → ℕ → Mark → Bool
is_return_at s k m = is_return_of s m && (number_of m.found + 1 == k)

-- 1 if there is a mark that passes, else 0
abbrev pub marked : (Mark → Bool) → Option Mark → ℕ
marked test None = 0
marked test (Some m) = if test m then 1 else 0

-- 1 if the record issued the slot at the number, else 0
abbrev pub issues_at : SlotName → ℕ → Played → ℕ
issues_at s k x = marked (is_issue_at s k) (mark_of x)

-- 1 if the record returned the slot and left it at the number, else 0
abbrev pub returns_at : SlotName → ℕ → Played → ℕ
returns_at s k x = marked (is_return_at s k) (mark_of x)

-- how often the entries of a record's line move the slot at the number in partition p's journal
abbrev pub moves_on : (Way → Bool) → SlotName → ℕ → Journals → ℕ → Played → ℕ
moves_on w s k roots p x = moved_in w s k (acts_of roots x.line p)

-- a sum over the records of thread t
abbrev pub over : ℕ → (Played → ℕ) → List Played → ℕ
over t g [] = 0
over t g (x ∷ xs) = (if x.thread == t then g x else 0) + over t g xs

-- The slot that a record made is of the partition from which its op asked for it. A fill of a class gave it,
-- or an entry of the record's line mapped it.
pub record IsMadeFor (roots : Journals) (x : Played) (s : SlotName) : Type 0 where
  pub reg : ℕ
  pub partition : ℕ
  pub size : ℕ
  pub op : x.op ≡ Alloc reg partition size
  pub from :
      ((class : ℕ) × IsOfClass roots s partition class)
      ⊎ ((asked len : ℕ) × (e : RootEntry) × Contains (roots partition) e × (e.line ≡ x.line) × (e.act ≡ Map asked s len))

-- the record returned this slot, a direct map
pub record ReturnsMap (roots : Journals) (x : Played) (s : SlotName) : Type 0 where
  pub seen : Seen
  pub answer : x.answer ≡ Done seen
  pub slot : seen.slot ≡ s
  pub step : Step
  pub steps : step_of x.op ≡ Some step
  pub returning : IsReturning step seen.found.0
  pub partition : ℕ
  pub direct : IsDirect roots s partition

-- What the rows of the caches give to all that is above them, and what rows with queues give too.
--   made: the slot that a record made left the root of the partition from which its op asked for it
--   maps: an entry of a record's line that unmaps a direct map is that of a record which returned it
--   flow: in the first records no thread issued a slot and gave it back at a number more often than it took it out and returned it
--     there, if they are known to make a direct map at the number 0 and to give it back at the number that their step left
pub record SlotsFlow (partitions : ℕ) (roots : Journals) (ps : List Played) : Type 0 where
  pub made : (x : Played) (seen : Seen) (usable : ℕ) → Contains ps x → x.answer ≡ Made seen usable → IsMadeFor roots x seen.slot
  pub maps : (x : Played) (e : RootEntry) (p asked : ℕ) (slot : Numbered) → p < partitions → Contains ps x → Contains (roots p) e →
      e.line ≡ x.line → e.act ≡ Unmap asked slot → ReturnsMap roots x slot.slot
  pub flow : (t p k : ℕ) (s : SlotName) (xs ys : List Played) → ps ≡ xs ++ ys → p < partitions → IsOnlyOf roots p s →
      ((x : Played) → Contains xs x → IsNewMap roots x × UnmapsNext roots x) →
      over t (issues_at s k) xs + over t (moves_on is_back s k roots p) xs
      ≤ over t (moves_on is_out s k roots p) xs + over t (returns_at s k) xs

-- a run's caches give this, if each journal is one of a root
abbrev pub CachesFlow : Type 0
CachesFlow =
    (partitions : ℕ) (ps : List Played) (pools : List PoolEntry) (roots : Journals) → ((p : ℕ) → IsJournal pools (roots p)) →
    AreCaches partitions roots ps → SlotsFlow partitions roots ps
