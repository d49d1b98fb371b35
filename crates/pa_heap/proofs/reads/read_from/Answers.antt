use Rattle.std.proofs.Common.{sym, subst}
use Rattle.pa_record.specs.declared.entry.Answer.{Answer}
use Rattle.pa_heap.proofs.Reading.{IsOfRead, far_read_does, looked_of_read, read_op_does}
use Rattle.pa_heap.proofs.reads.read_from.Goals as goal

pub returns-then-place-handle-clause-does : goal.returns-then-place-handle-clause-does
returns-then-place-handle-clause-does g c line =
    far_read_does c.args.stock.now _ c.args.reg c.args.place c.args.handle.now c.kept.ensures.stock c.kept.ensures.aware c.requires.reg
    c.requires.handle c.placed.ensures.well c.if-place-handle.true line

pub returns-clause-does : goal.returns-clause-does
returns-clause-does g c line =
    read_op_does c.looks_leave.ensures c.entries_stand_in_logs.ensures c.owns_change.ensures c.args.stock.now c.read_word-value.new.self _
    c.args.reg c.args.place c.read_word-value.result.1 c.args.handle.now c.read_word-value.result.0
    _ c.kept.ensures.stock c.kept.ensures.aware c.requires.stake c.requires.reg c.requires.handle c.placed.ensures.well
    c.if-place-handle.false c.read_word-value.ensures
    (subst (λ (a : Answer). IsOfRead a c.read_word-value.result.0 c.read_word-value.result.1) (sym c.looked_read.ensures)
    (looked_of_read c.read_word-value.result.0 c.read_word-value.result.1)) line
