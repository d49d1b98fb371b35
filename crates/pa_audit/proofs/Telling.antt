-- What the checkers tell, each of the places of its kind, as told of all places.
use Rattle.std.proofs.Common.{ℕ, ◌<◌, List, Option, Some, None}
use Rattle.std.specs.Option.{option_map}
use Rattle.pa_record.specs.declared.pool.PoolEntry.{PoolEntry}
use Rattle.pa_record.specs.declared.history.CellEntry.{CellEntry}
use Rattle.pa_rules.specs.declared.played.Played.{Played}
use Rattle.pa_rules.specs.declared.verdict.Place.{Place}
use Rattle.pa_rules.specs.declared.verdict.Place.TheVariants as places
use Rattle.pa_rules.specs.Roots.{Journals}
use Rattle.pa_rules.specs.RecordDemands.{CellsDemand, IsAbove}
use Rattle.pa_rules.specs.HeapDemands.{HoldersDemand, PoolDemand, RootsDemand}
use Rattle.pa_rules.specs.Tells.{TellsFirst}
use Rattle.pa_audit_records.specs.Exchanges.{TellsPair}
use Rattle.pa_audit_heap.specs.Tells.{TellsEntry}
use Rattle.pa_audit_holders.specs.Holding.{TellsHolders}
use Rattle.pa_audit.specs.Placed.{Precedes, TellsPlace}

-- ---- by the kind of the place

record AllMeet (Meets : Place → Type 0) : Type 0 where
  records : (i : ℕ) → Meets (places.Record i)
  roots : (p j : ℕ) → Meets (places.Root p j)
  pools : (j : ℕ) → Meets (places.Pool j)
  cells : (k j : ℕ) → Meets (places.Cell k j)
  report : (i : ℕ) → Meets (places.Report i)

all_told : (Meets : Place → Type 0) → AllMeet Meets → TellsPlace Meets None
all_told Meets all (places.Record i) = all.records i
all_told Meets all (places.Root p j) = all.roots p j
all_told Meets all (places.Pool j) = all.pools j
all_told Meets all (places.Cell k j) = all.cells k j
all_told Meets all (places.Report i) = all.report i

above_record : (Meets : Place → Type 0) (i : ℕ) → ((j : ℕ) → j < i → Meets (places.Record j)) → (other : Place) →
    Precedes other (places.Record i) → Meets other
above_record Meets i before (places.Record j) less = before j less
above_record Meets i before (places.Root p j) less = absurd less
above_record Meets i before (places.Pool j) less = absurd less
above_record Meets i before (places.Cell k j) less = absurd less
above_record Meets i before (places.Report j) less = absurd less

above_root : (Meets : Place → Type 0) (p j : ℕ) → ((i : ℕ) → Meets (places.Record i))
    → ((q i : ℕ) → IsAbove q i p j → Meets (places.Root q i)) → (other : Place) → Precedes other (places.Root p j) → Meets other
above_root Meets p j records before (places.Record i) less = records i
above_root Meets p j records before (places.Root q i) less = before q i less
above_root Meets p j records before (places.Pool i) less = absurd less
above_root Meets p j records before (places.Cell k i) less = absurd less
above_root Meets p j records before (places.Report i) less = absurd less

-- ---- pool: of its entries alone

pub pool_told : (supers : ℕ) (ps : List Played) (pools : List PoolEntry) (roots : Journals) (o : Option ℕ) →
    TellsFirst (λ j. PoolDemand supers ps pools roots (places.Pool j)) o →
    TellsPlace (PoolDemand supers ps pools roots) (option_map places.Pool o)
pool_told supers ps pools roots (Some at) (unmet, before) = (unmet, above)
  where
    above : (other : Place) → Precedes other (places.Pool at) → PoolDemand supers ps pools roots other
    above (places.Record i) less = tt
    above (places.Root p j) less = tt
    above (places.Pool j) less = before j less
    above (places.Cell k j) less = absurd less
    above (places.Report i) less = absurd less
pool_told supers ps pools roots None tells = all_told (PoolDemand supers ps pools roots) (record {
  records = λ i. tt;
  roots = λ p j. tt;
  pools = tells;
  cells = λ k j. tt;
  report = λ i. tt;
})

-- ---- cells: of records, and of exchanges after them

pub swap_told : (cells : ℕ → List CellEntry) (ps : List Played) (at : ℕ)
    → TellsFirst (λ i. CellsDemand cells ps (places.Record i)) (Some at) → TellsPlace (CellsDemand cells ps) (Some (places.Record at))
swap_told cells ps at (unmet, before) = (unmet, above_record (CellsDemand cells ps) at before)

pub exchange_told : (cells : ℕ → List CellEntry) (ps : List Played) (k at : ℕ) →
    TellsFirst (λ i. CellsDemand cells ps (places.Record i)) None →
    TellsPair (λ l j. CellsDemand cells ps (places.Cell l j)) (Some (k, at)) → TellsPlace (CellsDemand cells ps) (Some (places.Cell k at))
exchange_told cells ps k at records (unmet, before) = (unmet, above)
  where
    above : (other : Place) → Precedes other (places.Cell k at) → CellsDemand cells ps other
    above (places.Record i) less = records i
    above (places.Root p j) less = tt
    above (places.Pool j) less = tt
    above (places.Cell l j) less = before l j less
    above (places.Report i) less = absurd less

pub exchanges_all : (cells : ℕ → List CellEntry) (ps : List Played) → TellsFirst (λ i. CellsDemand cells ps (places.Record i)) None →
    TellsPair (λ l j. CellsDemand cells ps (places.Cell l j)) None →
    TellsPlace (CellsDemand cells ps) None
exchanges_all cells ps records tells = all_told (CellsDemand cells ps) (record {
  records = records;
  roots = λ p j. tt;
  pools = λ j. tt;
  cells = tells;
  report = λ i. tt;
})

-- ---- roots: of records, and of the journals' entries after them

pub refusal_told : (partitions : ℕ) (ps : List Played) (pools : List PoolEntry) (roots : Journals) (at : ℕ) →
    TellsFirst (λ i. RootsDemand partitions ps pools roots (places.Record i)) (Some at) →
    TellsPlace (RootsDemand partitions ps pools roots) (Some (places.Record at))
refusal_told partitions ps pools roots at (unmet, before) = (unmet, above_record (RootsDemand partitions ps pools roots) at before)

pub entry_told : (partitions : ℕ) (ps : List Played) (pools : List PoolEntry) (roots : Journals) (p at : ℕ) →
    TellsFirst (λ i. RootsDemand partitions ps pools roots (places.Record i)) None →
    TellsEntry (λ q j. RootsDemand partitions ps pools roots (places.Root q j)) (Some (p, at)) →
    TellsPlace (RootsDemand partitions ps pools roots) (Some (places.Root p at))
entry_told partitions ps pools roots p at records (unmet, before) =
    (unmet, above_root (RootsDemand partitions ps pools roots) p at records before)

pub entries_all : (partitions : ℕ) (ps : List Played) (pools : List PoolEntry) (roots : Journals) →
    TellsFirst (λ i. RootsDemand partitions ps pools roots (places.Record i)) None →
    TellsEntry (λ q j. RootsDemand partitions ps pools roots (places.Root q j)) None →
    TellsPlace (RootsDemand partitions ps pools roots) None
entries_all partitions ps pools roots records tells = all_told (RootsDemand partitions ps pools roots) (record {
  records = records;
  roots = tells;
  pools = λ j. tt;
  cells = λ k j. tt;
  report = λ i. tt;
})

-- ---- holders

pub holders_told : (ps : List Played) (roots : Journals) (o : Option Place) → TellsHolders ps roots o →
    TellsPlace (HoldersDemand ps roots) o
holders_told ps roots None tells = tells
holders_told ps roots (Some (places.Record i)) (unmet, before) = (unmet, above_record (HoldersDemand ps roots) i before)
holders_told ps roots (Some (places.Root p j)) (unmet, records, before) = (unmet, above_root (HoldersDemand ps roots) p j records before)
holders_told ps roots (Some (places.Pool j)) tells = absurd tells
holders_told ps roots (Some (places.Cell k j)) tells = absurd tells
holders_told ps roots (Some (places.Report i)) tells = absurd tells
