-- The pairs before they are put in order.
use Rattle.std.specs.Prelude.{◌≡◌, ℕ, ◌+◌, ◌*◌, ◌<◌, List, Some, AllPairs, Contains}
use Rattle.pa_slot.specs.Run.{Mark, IsQuarantined}
use Rattle.pa_record.specs.declared.history.CellEntry.{CellEntry}
use Rattle.pa_rules.specs.declared.played.Played.{Played}
use Rattle.pa_rules.specs.Played.{mark_of}
use Rattle.pa_rules.specs.RecordDemands.{IsRecord}
use Rattle.pa_dangle.specs.declared.found.Pair.{Pair}
use Rattle.pa_dangle.specs.Pairs.{IsPairOf}

-- the record is no use of a slot in quarantine
abbrev pub IsNoUse : Played → Type 0
IsNoUse x = (m : Mark) → mark_of x ≡ Some m → IsQuarantined m.found → ⊥

-- the pair of the use that a record made
pub record IsPairFrom (cells : ℕ → List CellEntry) (ps : List Played) (x : Played) (p : Pair) : Type 0 where
  pub free : Mark
  pub use_mark : Mark
  pub mark : mark_of x ≡ Some use_mark
  pub pair : IsPairOf cells ps free use_mark p
  pub later : p.later ≡ x.line
  pub short : p.later < 4294967296

-- these are the pairs of the uses that the records before record k made, in the order of the uses' lines
pub record AreCollected (cells : ℕ → List CellEntry) (ps : List Played) (pairs : List Pair) (k : ℕ) : Type 0 where
  pub each : (pair : Pair) → Contains pairs pair → (i : ℕ) × (x : Played) × (i < k) × IsRecord ps i x × IsPairFrom cells ps x pair
  pub whole : (i : ℕ) (x : Played) (m : Mark) → i < k → IsRecord ps i x → mark_of x ≡ Some m → IsQuarantined m.found →
      (pair : Pair) × Contains pairs pair × IsPairFrom cells ps x pair
  pub rise : AllPairs (λ (p q : Pair). p.later < q.later) pairs

-- the number by which the pairs are put in order
abbrev pub rank_of : Pair → ℕ
rank_of p = 4294967296 * p.free + p.later
