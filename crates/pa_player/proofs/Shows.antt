-- What an op has to show: its deed, its turn, and the tables after it.
use Rattle.std.proofs.Common.{◌≡◌, ℕ, ◌+◌, ◌<◌, ◌≤◌, ◌⊎◌, List, [], ◌∷◌, ◌++◌, length, Option, Some, None}
use Rattle.std.specs.Prelude.{Bool, if◌then◌else◌, Contains}
use Rattle.pa_slot.specs.declared.word.SlotName.{SlotName}
use Rattle.pa_slot.specs.declared.word.Step.{Step}
use Rattle.pa_slot.specs.Run.{Mark}
use Rattle.pa_trace.specs.declared.script.Op.{Op}
use Rattle.pa_trace.specs.declared.script.Line.{Line}
use Rattle.pa_record.specs.declared.entry.Answer.{Answer}
use Rattle.pa_record.specs.declared.history.CellEntry.{CellEntry}
use Rattle.pa_record.specs.declared.pool.PoolEntry.{PoolEntry}
use Rattle.pa_record.specs.declared.report.Tally.{Tally}
use Rattle.pa_record.specs.declared.root.RootAct.{RootAct}
use Rattle.pa_record.specs.RunText.{NamesSlots}
use Rattle.pa_record.specs.Sound.{IsBornBelow}
use Rattle.pa_rules.specs.Played.{mark_of}
use Rattle.pa_rules.specs.Caches.{Cache, with_cache}
use Rattle.pa_rules.specs.Flow.{at_step}
use Rattle.pa_rules.specs.Report.{cached_slots, cached_bytes}
use Rattle.pa_slot.specs.Kinds.{issues, frees, enters, leaves}
use Rattle.pa_legal.specs.Tallies.{one_of, bytes_of}
use Rattle.pa_heap_effects.specs.Deeds.{Acts, grown, root_at}
use Rattle.pa_heap_effects.specs.Pooled.{pool_at, IsDone}
use Rattle.pa_slot_effects.specs.Shown.{Shown, IsLike}
use Rattle.pa_slot_effects.specs.Turns.{LeadsTo, played_at}
use Rattle.pa_player.specs.declared.table.Slot.{Slot}
use Rattle.pa_player.specs.Player.{Player}
use Rattle.pa_player.specs.Tallies.{tally_at}
use Rattle.pa_player.specs.Told.{history_in}
use Rattle.pa_player.specs.Playing.{shown, journals, caches, root_of, home_in, len_in, rules_at, AreAllSlots, AreShaped, IsPlaying}
use Rattle.pa_player.proofs.Slots.{KeepsSlots, IsPlaceOf}

-- a history has one exchange more at most
abbrev pub IsOneMore : List CellEntry → List CellEntry → Type 0
IsOneMore before after = (after ≡ before) ⊎ ((e : CellEntry) × (after ≡ before ++ e ∷ []))

-- What is reported goes on by these entries of the pool and these acts, on line n: the rest is as before, but for the histories.
pub record TellsMore (p q : Player) (n : ℕ) (more : List PoolEntry) (acts : Acts) : Type 0 where
  pub entries : q.told.entries ≡ p.told.entries
  pub report : q.told.report ≡ p.told.report
  pub line : q.told.line ≡ p.told.line
  pub rules : rules_at q ≡ rules_at p
  pub phase : q.phase ≡ p.phase
  pub pools : q.told.pools ≡ p.told.pools ++ more
  pub journals : (k : ℕ) → journals q k ≡ grown (journals p) n acts k
  pub histories : (k : ℕ) → IsOneMore (history_in p.told k) (history_in q.told k)
  pub few : (k : ℕ) → length (acts k) ≤ 512
  pub printable : (k : ℕ) (a : RootAct) → Contains (acts k) a → NamesSlots a

-- The roots and the pool are those of what is reported then.
pub record HasHeap (region : ℕ) (p q : Player) (n : ℕ) (more : List PoolEntry) (acts : Acts) : Type 0 where
  pub roots : (k : ℕ) → root_of q k ≡ root_at (p.told.pools ++ more) (grown (journals p) n acts) k
  pub plan : q.heap.pool ≡ pool_at region (p.told.pools ++ more)
  pub turns : (k : ℕ) → (root_of q k).turn ≤ (root_of p k).turn + 32768
  pub born : (k : ℕ) → IsBornBelow q.heap.pool.entries (root_of q k)

-- The slots are those that ever left a root, and the slot of the record's mark is one of them.
pub record HasSlots (partitions threads : ℕ) (p q : Player) (n : ℕ) (more : List PoolEntry) (acts : Acts) (o : Option Mark) : Type 0 where
  pub keeps : KeepsSlots p.table q.table
  pub few : length q.table ≤ length p.table + 8
  pub slots : AreAllSlots q.version partitions q.table (p.told.pools ++ more) (grown (journals p) n acts) (root_of q)
  pub shaped : AreShaped partitions threads q
  pub marked : (m : Mark) → o ≡ Some m → (i : ℕ) × IsPlaceOf q.table m.slot i

-- what a mark adds where its step passes the test
abbrev pub gain : (Step → ℕ → Bool) → (SlotName → ℕ) → Option Mark → ℕ
gain test weight None = 0
gain test weight (Some m) = if at_step test m.found m.step then weight m.slot else 0

-- a tally before and after a mark: what goes in and out by it
pub record IsTallyMore (into out : Step → ℕ → Bool) (table : List Slot) (k : ℕ) (o : Option Mark) (before after : Tally) : Type 0 where
  pub slots : after.slots + gain out (one_of (home_in table) k) o ≡ before.slots + gain into (one_of (home_in table) k) o
  pub bytes : after.bytes + gain out (bytes_of (home_in table) (len_in table) k) o ≡ before.bytes + gain into
      (bytes_of (home_in table) (len_in table) k) o

-- the tallies count the mark, and what the lists have
pub record CountsMore (partitions threads : ℕ) (p q : Player) (o : Option Mark) : Type 0 where
  pub live : (k : ℕ) → k < partitions → IsTallyMore issues frees q.table k o (tally_at p.live.of k) (tally_at q.live.of k)
  pub quarantined : (k : ℕ) → k < partitions →
      IsTallyMore enters leaves q.table k o (tally_at p.quarantined.of k) (tally_at q.quarantined.of k)
  pub many : (k : ℕ) → k < partitions → (tally_at q.cached.of k).slots ≡ cached_slots (caches q) k threads
  pub bytes : (k : ℕ) → k < partitions → (tally_at q.cached.of k).bytes ≡ cached_bytes (caches q) k threads

-- An op was played: its deed, its turn, and the tables after it.
pub record IsPlayed (region partitions threads : ℕ) (ls : List Line) (p q : Player) (h : IsPlaying region partitions threads ls p)
    (thread : ℕ) (op : Op) (answer : Answer) : Type 0 where
  pub more : List PoolEntry
  pub acts : Acts
  pub next : Cache
  pub after : Shown
  pub done : IsDone region partitions (length ls + 2) (played_at after.rules ls thread op answer) p.told.pools more (journals p) acts
      (caches p thread) next
  pub turn : LeadsTo threads ls h.ps thread op answer after
  pub like : IsLike after (shown q)
  pub lists : (t k class : ℕ) → caches q t k class ≡ with_cache (caches p) thread next t k class
  pub told : TellsMore p q (length ls + 2) more acts
  pub heap : HasHeap region p q (length ls + 2) more acts
  pub table : HasSlots partitions threads p q (length ls + 2) more acts (mark_of (played_at after.rules ls thread op answer))
  pub counts : CountsMore partitions threads p q (mark_of (played_at after.rules ls thread op answer))
