-- A run of which the clauses are known one by one has all that follow from them, and is legal with those of the caches and the report.
use Rattle.pa_trace.specs.declared.script.Trace.{Trace}
use Rattle.pa_trace.specs.Rules.{rules_of}
use Rattle.pa_rules.specs.Told.{Told, records_of}
use Rattle.pa_rules.proofs.Following.{titles_follow}
use Rattle.pa_rules.proofs.Numbering.{lines_rise}
use Rattle.pa_rules.proofs.Recorded.{records_are_lines}
use Rattle.pa_legal.specs.Known.{IsKnown, AreKnown, ClausesFollow, LegalFollows}
use Rattle.pa_legal.proofs.Holdings.{holders_follow}

places_known : (t : Trace) (r : Told) → IsKnown t r (records_of t r) → AreKnown t.region t.partitions (records_of t r) r.pools r.roots
places_known t r known = record {
  rising = lines_rise (rules_of t) t.lines (records_of t r) (records_are_lines.lines (rules_of t) t.lines r.entries known.lines);
  slots = known.slots;
  pool = known.pool;
  journals = known.roots;
  flows = known.flows;
  numbers = known.numbers;
  unmaps = known.unmaps;
  used = known.used;
}

pub clauses_follow : ClausesFollow
clauses_follow t r known = record {
  lines = known.lines;
  cells = known.cells;
  registers = known.registers;
  slots = known.slots;
  contents = known.contents;
  pool = known.pool;
  roots = known.roots;
  titles = titles_follow.titles t.region t.partitions (records_of t r) r.pools r.roots known.roots known.pool;
  holders = holders_follow t.region t.partitions (records_of t r) r.pools r.roots (places_known t r known);
  seen = known.seen;
}

pub legal_follows : LegalFollows
legal_follows t r clauses caches report = record {
  lines = clauses.lines;
  cells = clauses.cells;
  registers = clauses.registers;
  slots = clauses.slots;
  contents = clauses.contents;
  pool = clauses.pool;
  roots = clauses.roots;
  titles = clauses.titles;
  holders = clauses.holders;
  caches = caches;
  seen = clauses.seen;
  report = report;
}
