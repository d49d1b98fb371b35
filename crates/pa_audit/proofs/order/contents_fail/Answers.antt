use Rattle.std.proofs.Common.{◌≡◌, ℕ, List, Option, arith, sym, subst}
use Rattle.pa_trace.specs.declared.script.Trace.{Trace}
use Rattle.pa_record.specs.declared.history.CellEntry.{CellEntry}
use Rattle.pa_record.specs.declared.run.Run.{Run}
use Rattle.pa_rules.specs.declared.played.Played.{Played}
use Rattle.pa_rules.specs.declared.verdict.Clause.TheVariants as clauses
use Rattle.pa_rules.specs.declared.verdict.Place.TheVariants as places
use Rattle.pa_rules.specs.Cells.{history_at}
use Rattle.pa_rules.specs.RecordDemands.{ContentsDemand}
use Rattle.pa_rules.specs.Sizes.{usable_of}
use Rattle.pa_rules.specs.Tells.{TellsFirst}
use Rattle.pa_audit_order.specs.Given.{MeetRegisters}
use Rattle.pa_audit.specs.Lined.{CanBeAudited, TellsLine}
use Rattle.pa_audit.proofs.Granted.{all_within, registers_held, slots_held}
use Rattle.pa_audit.proofs.Lining.{first_there, line_told}
use Rattle.pa_audit.proofs.order.contents_fail.Goals as goal

pub contents_meet-requires-clause-within : goal.contents_meet-requires-clause-within
contents_meet-requires-clause-within c = all_within c.args.trace.now c.args.run.now c.args.records.now c.requires.records c.requires.limits

pub contents_meet-requires-clause-slots : goal.contents_meet-requires-clause-slots
contents_meet-requires-clause-slots c =
    slots_held c.args.trace.now c.args.run.now c.args.records.now c.requires.records (c.requires.before clauses.Slots (omega arith))

-- what is told of these records and cells is so by the rules of a version
abbrev IsTold : ℕ → List Played → List (List CellEntry) → Option ℕ → Type 0
IsTold version ps cells at = TellsFirst (λ i. ContentsDemand (usable_of version) (history_at cells) ps (places.Record i)) at

-- it is so by those of the trace's version, as the clause of the registers was tested before
told_first : (t : Trace) (r : Run) (ps : List Played) (cells : List (List CellEntry)) (at : Option ℕ) →
    CanBeAudited clauses.Contents t r ps → cells ≡ r.cells.items
    → ((version : ℕ) → MeetRegisters version (history_at cells) ps → IsTold version ps cells at) → IsTold t.version ps r.cells.items at
told_first t r ps cells at can same told =
    subst (λ (cs : List (List CellEntry)). (version : ℕ) → MeetRegisters version (history_at cs) ps → IsTold version ps cs at)
    same told t.version
    (registers_held t r ps can.records (can.before clauses.Registers (omega arith)))

pub record_line-requires : goal.record_line-requires
record_line-requires c =
    let t = c.args.trace.now in
    let r = c.args.run.now in
    let ps = c.args.records.now in
    let few = c.requires.few in
    first_there ps 4294967294 (λ i. ContentsDemand (usable_of t.version) (history_at r.cells.items) ps (places.Record i)) c.in_ok-at.at
    (omega (arith, few))
    (λ i none x at. absurd (none x at))
    (told_first t r ps c.cells.result.now c.in_ok-at.at c.requires c.cells.ensures.cells c.in_ok-at.ensures)

pub returns : goal.returns
returns c =
    let t = c.args.trace.now in
    let r = c.args.run.now in
    let at = c.in_ok-at.at in
    subst (λ o. TellsLine clauses.Contents t r o) (sym c.record_line.ensures)
    (line_told clauses.Contents t r at tt (subst (λ (ps : List Played). IsTold t.version ps r.cells.items at) c.requires.records
    (told_first t r c.args.records.now c.cells.result.now at c.requires c.cells.ensures.cells c.in_ok-at.ensures)))
