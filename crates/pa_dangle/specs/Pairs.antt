-- The pairs of a run: a free that found raw_ptrs, and a use of what it freed.
use Rattle.std.specs.Prelude.{◌≡◌, ℕ, ◌<◌, ◌≤◌, ◌⊎◌, ◌==◌, if◌then◌else◌, nat_lt, Bool, false, List, Some, AllPairs, Contains, length, filter, sum_by}
use Rattle.pa_slot.specs.declared.word.SlotName.{SlotName}
use Rattle.pa_slot.specs.declared.word.Step.TheVariants.{Issue}
use Rattle.pa_slot.specs.Count.{number_of, refs_of}
use Rattle.pa_slot.specs.Run.{Mark}
use Rattle.pa_trace.specs.declared.script.Op.{Op}
use Rattle.pa_trace.specs.declared.script.Op.TheVariants as ops
use Rattle.pa_record.specs.declared.entry.Answer.{Answer}
use Rattle.pa_record.specs.declared.entry.Answer.TheVariants.{Done}
use Rattle.pa_record.specs.declared.history.CellEntry.{CellEntry}
use Rattle.pa_rules.specs.declared.played.Played.{Played}
use Rattle.pa_rules.specs.Played.{mark_of, marks_of}
use Rattle.pa_dangle.specs.declared.found.Pair.{Pair}
use Rattle.pa_dangle.specs.declared.found.Use.{Use}
use Rattle.pa_dangle.specs.declared.found.Use.TheVariants.{Copied, WasReset, WasFreed, Written, WasRead}
use Rattle.pa_dangle.specs.Origins.{HasOrigin}
use Rattle.pa_dangle.specs.Uses.{IsUseOf}

-- i is the last issue of the slot below number k
pub record IsLastIssue (ms : List Mark) (s : SlotName) (k : ℕ) (i : Mark) : Type 0 where
  pub among : Contains ms i
  pub slot : i.slot ≡ s
  pub step : i.step ≡ Some Issue
  pub below : number_of i.found < k
  pub last : (j : Mark) → Contains ms j → j.slot ≡ s → j.step ≡ Some Issue → number_of j.found < k →
      number_of j.found ≤ number_of i.found

-- How an op uses the slot of the register that it names first. Allocations,
-- exchanges and purges look at no slot, and count as reads here.
abbrev pub use_by : Op → Use
use_by (ops.Copy from to) = Copied
use_by (ops.Reset reg) = WasReset
use_by (ops.Free reg) = WasFreed
use_by (ops.Write reg value) = Written
use_by op = WasRead

-- The pair is of the free f and its use u, by their lines. It has the line on which the object was made, the op of the use, and the line
-- of the copy from which the raw_ptr of that op came.
pub record IsPairOf (cells : ℕ → List CellEntry) (ps : List Played) (f u : Mark) (pair : Pair) : Type 0 where
  pub uses : IsUseOf (marks_of ps) f u
  pub freed : pair.free ≡ f.line
  pub later : pair.later ≡ u.line
  pub issue : Mark
  pub issued : IsLastIssue (marks_of ps) f.slot (number_of f.found) issue
  pub made : pair.made ≡ issue.line
  pub played : Played
  pub among : Contains ps played
  pub mark : mark_of played ≡ Some u
  pub how : pair.how ≡ use_by played.op
  pub origin : HasOrigin cells ps played pair.origin

-- the record is of a free that found raw_ptrs
abbrev pub keeps_slot : Op → Answer → Bool
keeps_slot (ops.Free reg) (Done seen) = nat_lt 0 (refs_of seen.found.0)
keeps_slot op answer = false

-- pair p is above pair q, by the line of the free and then by that of the use
abbrev pub StandsAbove : Pair → Pair → Type 0
StandsAbove p q = (p.free < q.free) ⊎ ((p.free ≡ q.free) × (p.later ≤ q.later))

-- how many of the pairs have their use on the line
abbrev pub uses_on : ℕ → List Pair → ℕ
uses_on line pairs = sum_by (λ pair. if pair.later == line then 1 else 0) pairs

-- What was found in a run.
--   each: each member is the pair of a free and a use
--   whole: each use of what a free left has its pair
--   order: the pairs are in the order of their frees, and then of their uses
--   once: no line is that of the use of two pairs
--   freed: the number of frees that found raw_ptrs
pub record AreFound (cells : ℕ → List CellEntry) (ps : List Played) (pairs : List Pair) (count : ℕ) : Type 0 where
  pub each : (pair : Pair) → Contains pairs pair → (f : Mark) × (u : Mark) × IsPairOf cells ps f u pair
  pub whole : (f u : Mark) → IsUseOf (marks_of ps) f u → (pair : Pair) × Contains pairs pair × IsPairOf cells ps f u pair
  pub order : AllPairs StandsAbove pairs
  pub once : (line : ℕ) → uses_on line pairs ≤ 1
  pub freed : count ≡ length (filter (λ (x : Played). keeps_slot x.op x.answer) ps)
