-- A legal run in the order of the lines, of a trace within the limits, has what the parts of the law use.
use Rattle.std.proofs.Common.{get_or}
use Rattle.std.proofs.lemmas.List.Elements.{Contains-get_or}
use Rattle.pa_trace.specs.declared.script.Trace.{Trace}
use Rattle.pa_trace.specs.Limits.{IsWithinLimits}
use Rattle.pa_trace.specs.Rules.{rules_of}
use Rattle.pa_rules.proofs.Ruling.{told_rules}
use Rattle.pa_rules.specs.Told.{Told, records_of}
use Rattle.pa_rules.specs.Legal.{IsFileTold}
use Rattle.pa_rules.proofs.Recorded.{records_are_lines}
use Rattle.pa_rules.proofs.Numbering.{lines_rise}
use Rattle.pa_rules.proofs.Within.{records_within}
use Rattle.pa_one_run.specs.Parts.{parts_of}
use Rattle.pa_one_run.proofs.Filed.{IsFiled}

pub filed : (t : Trace) (r : Told) → IsWithinLimits t → IsFileTold t r → IsFiled (parts_of t r)
filed t r limits (legal, order) =
    let ps = records_of t r in
    let lines = records_are_lines.lines (rules_of t) t.lines r.entries legal.lines in
    record {
      rising = lines_rise (rules_of t) t.lines ps lines;
      few = λ k d low. (records_within t ps (get_or ps k d) limits lines (Contains-get_or ps k d low)).0;
      within = λ k d low. (records_within t ps (get_or ps k d) limits lines (Contains-get_or ps k d low)).1;
      ruled = told_rules t r;
      exchanged = legal.cells;
      registers = legal.registers;
      slots = legal.slots;
      pool = legal.pool;
      journals = legal.roots;
      holders = legal.holders;
      caches = legal.caches;
      order = order;
    }
