use Rattle.std.proofs.Common.{sym, ◌∙◌, ap}
use Rattle.pa_dense.specs.Act.{act_of}
use Rattle.pa_audit_records.specs.ByKeys.{value_at}
use Rattle.pa_legal.specs.Numbers.{all_moves}
use Rattle.pa_rules.specs.Holders.{moves_by}
use Rattle.pa_audit_holders.proofs.Tabling.{entry_fits, owners_grown}
use Rattle.pa_audit_holders.proofs.tables.play.Goals as goal

pub returns-clause-table : goal.returns-clause-table
returns-clause-table c = λ before h.
    let ps = c.args.records.now in
    let e = c.args.entry.now in
    let g = value_at c.move_slots.new.owners in
    let course = c.moves_of-moves.result.course in
    let line = c.line-line.result in
    let is = ap (moves_by e.line) (sym c.act-2.ensures.act) ∙ ap (λ n. moves_by n (act_of c.act-2.result)) (sym c.line-line.ensures.line) ∙
    c.moves_of-moves.ensures line in
    record {
      owners =
          owners_grown ps before e line course c.moves_of-moves.result.slots.now g is
          (c.in_ok-fit.ensures.owners (all_moves before) h.owners);
      gone = c.in_ok-enter_gone.ensures before h.gone;
    }

pub returns-clause-fits : goal.returns-clause-fits
returns-clause-fits c = λ before h.
    let ps = c.args.records.now in
    let e = c.args.entry.now in
    let course = c.moves_of-moves.result.course in
    let line = c.line-line.result in
    let is = ap (moves_by e.line) (sym c.act-2.ensures.act) ∙ ap (λ n. moves_by n (act_of c.act-2.result)) (sym c.line-line.ensures.line) ∙
    c.moves_of-moves.ensures line in
    entry_fits ps before e line course c.moves_of-moves.result.slots.now c.in_ok-fit.fit c.none_gone-stays.result c.both.result is
    (c.in_ok-fit.ensures.fits (all_moves before) h.owners) (c.none_gone-stays.ensures before h.gone) c.both.ensures
