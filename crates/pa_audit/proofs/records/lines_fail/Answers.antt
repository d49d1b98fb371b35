use Rattle.std.proofs.Common.{◌≡◌, List, length, sym, ap, subst, arith}
use Rattle.pa_trace.specs.declared.script.Line.{Line}
use Rattle.pa_trace.specs.Rules.{rules_of}
use Rattle.pa_record.specs.declared.entry.Entry.{Entry}
use Rattle.pa_rules.specs.declared.verdict.Clause.TheVariants as clauses
use Rattle.pa_rules.specs.declared.verdict.Place.TheVariants as places
use Rattle.pa_rules.specs.RecordDemands.{LinesDemand}
use Rattle.pa_rules.specs.Tells.{TellsFirst}
use Rattle.pa_audit.specs.Lined.{TellsLine}
use Rattle.pa_audit.proofs.Lining.{line_there, line_told}
use Rattle.pa_audit.proofs.records.lines_fail.Goals as goal

pub record_line-requires : goal.record_line-requires
record_line-requires c =
    let short = c.requires.short in
    let same : length c.entries.result.now ≡ length c.args.run.now.entries.items = ap length c.entries.ensures.entries in
    line_there (rules_of c.args.trace.now) c.as_slice.result.now c.entries.result.now 4294967294 c.lines_meet.result (omega arith)
    (c.lines_meet.ensures (rules_of c.args.trace.now))

pub returns : goal.returns
returns c =
    let t = c.args.trace.now in
    let r = c.args.run.now in
    let o = c.lines_meet.result in
    subst (λ o. TellsLine clauses.Lines t r o) (sym c.record_line.ensures)
    (line_told clauses.Lines t r o tt
    (subst (λ (es : List Entry). TellsFirst (λ i. LinesDemand (rules_of t) t.lines es (places.Record i)) o) c.entries.ensures.entries
    (subst (λ (ls : List Line). TellsFirst (λ i. LinesDemand (rules_of t) ls c.entries.result.now (places.Record i)) o) c.as_slice.ensures
    (c.lines_meet.ensures (rules_of t)))))
