-- Records whose lines rise, one by one.
use Rattle.std.proofs.Common.{◌≡◌, ℕ, ◌<◌, List, Some, arith}
use Rattle.std.specs.Prelude.{slice_get}
use Rattle.pa_trace.specs.Rules.{rules_of}
use Rattle.pa_rules.specs.declared.played.Played.{Played}
use Rattle.pa_rules.specs.Told.{records_of}
use Rattle.pa_rules.proofs.Numbering.{lines_rise}
use Rattle.pa_rules.proofs.Recorded.{records_are_lines}
use Rattle.pa_rules.proofs.Within.{records_within}
use Rattle.pa_audit_heap.specs.Laws.{RecordsHaveLines}

-- the first n records rise, their lines are below `least`, and their threads below 16
pub record HaveRisen (ps : List Played) (n least : ℕ) : Type 0 where
  pub below : (i : ℕ) (x : Played) → i < n → slice_get ps i ≡ Some x → (x.line < least) × (x.thread < 16)
  pub rising : (i j : ℕ) (x y : Played) → i < j → j < n → slice_get ps i ≡ Some x → slice_get ps j ≡ Some y → x.line < y.line

-- the records that are due
pub due_have_lines : RecordsHaveLines
due_have_lines = record {
  rising = λ t r due. lines_rise (rules_of t) t.lines (records_of t r) (records_are_lines.lines (rules_of t) t.lines r.entries due);
  threads = λ t r within due x among.
      let below = (records_within t (records_of t r) x within (records_are_lines.lines (rules_of t) t.lines r.entries due) among).0 in
      let few = within.head.2 in
      omega arith;
}
