use Rattle.pa_audit_heap.proofs.Looking.{found_there, none_there}
use Rattle.pa_audit_heap.proofs.lookup.record_of.Goals as goal

pub returns-in-None : goal.returns-in-None
returns-in-None c = record { the_record = none_there c.args.records.now c.args.line c.in-None.ensures.none }

pub returns-in-Some : goal.returns-in-Some
returns-in-Some c = record {
  the_record =
      found_there c.args.records.now c.args.line c.in-Some.at _ c.requires.rising c.in-Some.ensures.some;
}
