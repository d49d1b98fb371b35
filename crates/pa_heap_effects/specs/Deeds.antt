-- What a line of a trace does to the roots and the caches: the run so far, and the effect of the line.
use Rattle.std.specs.Prelude.{◌≡◌, ℕ, ◌<◌, ◌≤◌, List, [], ◌∷◌, ◌++◌, map, Some, Contains, AllPairs}
use Rattle.std.specs.List.Sorted.{IsNonDecreasingBy}
use Rattle.pa_slot.specs.declared.word.SlotName.{SlotName}
use Rattle.pa_trace.specs.declared.script.Op.TheVariants as ops
use Rattle.pa_record.specs.declared.entry.Answer.TheVariants as answers
use Rattle.pa_record.specs.declared.pool.PoolEntry.{PoolEntry}
use Rattle.pa_record.specs.declared.root.RootEntry.{RootEntry}
use Rattle.pa_record.specs.declared.root.RootAct.{RootAct}
use Rattle.pa_record.specs.Root.{Root, new_root, root_next, root_replayed, RootActFits, IsJournal, asked_by}
use Rattle.pa_record.specs.Sound.{AsksFrom, least_after, least_after_all}
use Rattle.pa_rules.specs.declared.played.Played.{Played}
use Rattle.pa_rules.specs.Roots.{Journals, IsEntry, MakesEntry, IsFull}
use Rattle.pa_rules.specs.Order.{IsOfLine}
use Rattle.pa_rules.specs.Caches.{Cache, Caches, CacheRow, CachesTo, no_caches}
use Rattle.pa_legal.specs.Numbers.{moves_of, at_end, IsNumbered, AreNumbered}
use Rattle.pa_legal.specs.Flows.{UnmapsNext}

-- the acts of a line, by partition
abbrev pub Acts : Type 0
Acts = ℕ → List RootAct

-- the entries of these acts, all on one line
abbrev pub entries_at : ℕ → List RootAct → List RootEntry
entries_at line acts = map (λ (a : RootAct). record { line = line; act = a }) acts

-- the journals with the acts of a line at the end of each
abbrev pub grown : Journals → ℕ → Acts → Journals
grown roots line acts p = roots p ++ entries_at line (acts p)

-- the root of a partition
abbrev pub root_at : List PoolEntry → Journals → ℕ → Root
root_at pools roots p = root_replayed pools (roots p) new_root

-- the root after these acts
abbrev pub root_after : List PoolEntry → List RootAct → Root → Root
root_after pools [] r = r
root_after pools (a ∷ acts) r = root_after pools acts (root_next pools a r)

-- each act fits the root after those before it, and the entries of the pool that they name rise, from number `least` on
abbrev pub ActsFit : List PoolEntry → ℕ → List RootAct → Root → Type 0
ActsFit pools least [] r = Unit {0}
ActsFit pools least (a ∷ acts) r =
    RootActFits pools a r × AsksFrom least (asked_by a) × ActsFit pools (least_after least (asked_by a)) acts (root_next pools a r)

-- The run before line n.
--   rising, recorded, entered, sorted: records and entries are in the order of their lines, which are below n
--   journals, lines, none_past, refusals: the journals are those of the records
--   caches: the records lead to these lists
--   numbers, unmaps: a root hands each slot out at the number at which it has it, and a direct map that goes back is named at
--     the number that its step left
pub record IsPlacedTo (partitions n : ℕ) (ps : List Played) (pools : List PoolEntry) (roots : Journals) (all : Caches) : Type 0 where
  pub rising : AllPairs (λ (x y : Played). x.line < y.line) ps
  pub recorded : (x : Played) → Contains ps x → x.line < n
  pub entered : (p : ℕ) (e : RootEntry) → Contains (roots p) e → e.line < n
  pub sorted : (p : ℕ) → IsNonDecreasingBy (λ (e : RootEntry). e.line) (roots p)
  pub journals : (p : ℕ) → IsJournal pools (roots p)
  pub lines : (p : ℕ) (e : RootEntry) → Contains (roots p) e → (x : Played) × IsOfLine ps e.line x × MakesEntry pools p e.act x
  pub none_past : (p : ℕ) → partitions ≤ p → roots p ≡ []
  pub refusals : (x : Played) (j reg p size : ℕ) → Contains ps x → x.answer ≡ answers.Full j → x.op ≡ ops.Alloc reg p size
      → (e : RootEntry) × IsEntry roots p j e × (e.line ≡ x.line) × IsFull e.act
  pub caches : CachesTo partitions roots no_caches ps all
  pub numbers : AreNumbered roots
  pub unmaps : (x : Played) → Contains ps x → UnmapsNext roots x

-- The effect of line n, whose record is x: the acts of its partitions, over a pool that got these entries more, and the lists of
-- its thread before and after it.
pub record IsDeed (partitions n : ℕ) (x : Played) (pools more : List PoolEntry) (roots : Journals) (acts : Acts)
    (cache next : Cache) : Type 0 where
  pub line : x.line ≡ n
  pub fits : (p : ℕ) → ActsFit (pools ++ more) (least_after_all 0 (roots p)) (acts p) (root_at pools roots p)
  pub makes : (p : ℕ) (a : RootAct) → Contains (acts p) a → MakesEntry (pools ++ more) p a x
  pub none_past : (p : ℕ) → partitions ≤ p → acts p ≡ []
  pub refusal : (j reg p size : ℕ) → x.answer ≡ answers.Full j → x.op ≡ ops.Alloc reg p size
      → (e : RootEntry) × IsEntry (grown roots n acts) p j e × (e.line ≡ n) × IsFull e.act
  pub row : CacheRow partitions (grown roots n acts) x x.answer cache next
  pub numbers : (p : ℕ) (s : SlotName) → IsNumbered (at_end (Some 0) (moves_of (roots p) s)) (moves_of (entries_at n (acts p)) s)
  pub unmaps : UnmapsNext (grown roots n acts) x
