-- A run in the order of its lines, as its clauses say; and two such runs that agree before a line.
use Rattle.std.proofs.Common.{◌≡◌, ℕ, ◌<◌, List, ◌≤◌, sym, refl}
use Rattle.std.specs.Prelude.{Contains, All, AllPairs}
use Rattle.pa_slot.specs.declared.word.SlotName.{SlotName}
use Rattle.pa_slot.specs.Run.{Slots}
use Rattle.pa_trace.specs.Limits.{IsOpWithin}
use Rattle.pa_record.specs.declared.entry.Seen.{Seen}
use Rattle.pa_record.specs.declared.entry.Answer.{Answer}
use Rattle.pa_record.specs.declared.entry.Answer.TheVariants.{Made, Full, Purged}
use Rattle.pa_rules.specs.declared.played.Played.{Played}
use Rattle.pa_rules.specs.Played.{marks_of}
use Rattle.pa_rules.specs.Cells.{AreCells}
use Rattle.pa_rules.specs.Registers.{AreRegisters}
use Rattle.pa_rules.specs.Sizes.{usable_of}
use Rattle.pa_rules.specs.Roots.{IsPoolOf, AreRoots}
use Rattle.pa_rules.specs.Holders.{AreHolders}
use Rattle.pa_rules.specs.Caches.{AreCaches}
use Rattle.pa_rules.specs.FileOrder.{IsInFileOrder}
use Rattle.pa_one_run.specs.Before.{below}
use Rattle.pa_one_run.specs.Parts.{Parts, entry_line, pool_line, cell_line}
use Rattle.pa_one_run.proofs.lines.Sorting.{below_alike}

-- x's line is less than y's
abbrev pub Earlier : Played → Played → Type 0
Earlier x y = x.line < y.line

-- what is used of a legal run in the order of its lines: of the contents only what that order says
pub record IsFiled (a : Parts) : Type 0 where
  pub rising : AllPairs Earlier a.ps
  pub few : All (λ (x : Played). x.thread < a.threads) a.ps
  pub within : All (λ (x : Played). IsOpWithin a.partitions x.op) a.ps
  pub ruled : (x : Played) → Contains a.ps x → x.rules ≡ a.rules
  pub exchanged : AreCells a.cells a.ps
  pub registers : AreRegisters (usable_of a.rules.version) a.cells a.ps
  pub slots : Slots (marks_of a.ps)
  pub pool : IsPoolOf a.supers a.ps a.pools a.roots
  pub journals : AreRoots a.partitions a.ps a.pools a.roots
  pub holders : AreHolders a.ps a.roots
  pub caches : AreCaches a.partitions a.roots a.ps
  pub order : IsInFileOrder a.ps a.pools a.roots a.cells

-- one of the records made slot s
abbrev pub IsMadeIn : List Played → SlotName → Type 0
IsMadeIn ps s = (q : Played) × (seen : Seen) × (usable : ℕ) × Contains ps q × (q.answer ≡ Made seen usable) × (seen.slot ≡ s)

-- two runs of one trace's head have the same entries and exchanges before line n
pub record Agrees (n : ℕ) (a b : Parts) : Type 0 where
  pub supers : a.supers ≡ b.supers
  pub partitions : a.partitions ≡ b.partitions
  pub rules : a.rules ≡ b.rules
  pub pool : below pool_line n a.pools ≡ below pool_line n b.pools
  pub journals : (p : ℕ) → below entry_line n (a.roots p) ≡ below entry_line n (b.roots p)
  pub cells : (k : ℕ) → below cell_line n (a.cells k) ≡ below cell_line n (b.cells k)

-- what the placement settles of two answers to one op: which slot was made, whether there was room, which entry says that
-- there was none, and how many slots a purge gave back
pub record IsPlacedAlike (x y : Answer) : Type 0 where
  pub made : (seen other : Seen) (u v : ℕ) → x ≡ Made seen u → y ≡ Made other v → seen.slot ≡ other.slot
  pub made_full : (seen : Seen) (u j : ℕ) → x ≡ Made seen u → y ≡ Full j → ⊥
  pub full_made : (seen : Seen) (u j : ℕ) → x ≡ Full j → y ≡ Made seen u → ⊥
  pub full : (i j : ℕ) → x ≡ Full i → y ≡ Full j → i ≡ j
  pub purged : (i j : ℕ) → x ≡ Purged i → y ≡ Purged j → i ≡ j

-- a run agrees with itself, the other with the one, and two before an earlier line
pub agrees_self : (n : ℕ) (a : Parts) → Agrees n a a
agrees_self n a = record { supers = refl; partitions = refl; rules = refl; pool = refl; journals = λ p. refl; cells = λ k. refl }

pub agrees_swap : (n : ℕ) (a b : Parts) → Agrees n a b → Agrees n b a
agrees_swap n a b h = record {
  supers = sym h.supers;
  partitions = sym h.partitions;
  rules = sym h.rules;
  pool = sym h.pool;
  journals = λ p. sym (h.journals p);
  cells = λ k. sym (h.cells k);
}

pub agrees_earlier : (a b : Parts) (m n : ℕ) → m ≤ n → Agrees n a b → Agrees m a b
agrees_earlier a b m n low h = record {
  supers = h.supers;
  partitions = h.partitions;
  rules = h.rules;
  pool = below_alike pool_line m n a.pools b.pools low h.pool;
  journals = λ p. below_alike entry_line m n (a.roots p) (b.roots p) low (h.journals p);
  cells = λ k. below_alike cell_line m n (a.cells k) (b.cells k) low (h.cells k);
}
