use Rattle.std.proofs.Common.{[], ◌∷◌, sym, ◌∙◌, ap, subst}
use Rattle.pa_region.specs.declared.view.View.{View}
use Rattle.pa_region.specs.Shares.{Share}
use Rattle.pa_root.specs.Handing.{HasOnly}
use Rattle.pa_op_specs.specs.Stocks.{StockValue}
use Rattle.pa_op_specs.specs.Workers.{HasItsStake}
use Rattle.pa_thread_state.proofs.Homing.{part_has, went_home}
use Rattle.pa_thread_state.proofs.Refused.{came_back, kept_is_back}
use Rattle.pa_thread_state.proofs.stock.Stock.send_home.Goals as goal

pub deliver-requires-clause-has : goal.deliver-requires-clause-has
deliver-requires-clause-has g c =
    let h = c.args.handle.now in
    subst (λ (v : View). HasOnly (h.title ∷ []) v) (sym c.part_with-note.ensures.note) (part_has h c.args.self.now.view)

pub take_back-requires-clause-has : goal.take_back-requires-clause-has
take_back-requires-clause-has g c =
    let h = c.args.handle.now in
    let note = ap (λ (n : Share). n.view) c.in-Err.ensures.back ∙ c.part_with-note.ensures.note in
    (h.title ∷ [], subst (λ (v : View). HasOnly (h.title ∷ []) v) (sym note) (part_has h c.args.self.now.view))

pub returns-in-Ok-clause-home : goal.returns-in-Ok-clause-home
returns-in-Ok-clause-home g c =
    went_home c.args.line c.args.handle.now c.args.self.now c.part_with-note.new.self c.deliver.new.self c.part_with-note.result.view
    c.kept.ensures.stock c.kept.ensures.aware c.requires.back
    c.part_with-note.ensures.left c.part_with-note.ensures.note c.kept-2.ensures.aware c.kept-in-Ok.ensures.aware c.in-Ok.ensures.comes
    c.in-Ok.ensures.alone

pub take_back-requires-clause-stake : goal.take_back-requires-clause-stake
take_back-requires-clause-stake g c =
    subst (λ (z : StockValue). HasItsStake z) (sym c.in-Err.ensures.same) c.part_with-note.ensures.stake

pub returns-in-Err-clause-stake : goal.returns-in-Err-clause-stake
returns-in-Err-clause-stake g c =
    record {
      thread = c.take_back.ensures.stake.thread ∙
          (ap (λ (z : StockValue). z.thread) c.in-Err.ensures.same ∙ ap (λ (z : StockValue). z.thread) c.part_with-note.ensures.left);
      stake = c.take_back.ensures.stake.stake;
    }

pub returns-in-Err-clause-keeps : goal.returns-in-Err-clause-keeps
returns-in-Err-clause-keeps g c =
    came_back c.seen_numbers_join.ensures c.seen_lists_join.ensures c.args.handle.now c.args.self.now c.part_with-note.new.self
    c.deliver.new.self
    c.take_back.new.self c.part_with-note.result.view c.in-Err.note.view c.part_with-note.ensures.left c.part_with-note.ensures.note
    c.part_with-note.ensures.parted c.in-Err.ensures.same (ap (λ (n : Share). n.view) c.in-Err.ensures.back) c.take_back.ensures.joined
    c.take_back.ensures.parted

pub returns-in-Err-clause-back : goal.returns-in-Err-clause-back
returns-in-Err-clause-back g c =
    kept_is_back c.slots_stay_seen.ensures c.args.handle.now c.args.self.now c.take_back.new.self c.requires.back
    (came_back c.seen_numbers_join.ensures c.seen_lists_join.ensures c.args.handle.now c.args.self.now c.part_with-note.new.self
    c.deliver.new.self
    c.take_back.new.self c.part_with-note.result.view c.in-Err.note.view c.part_with-note.ensures.left c.part_with-note.ensures.note
    c.part_with-note.ensures.parted c.in-Err.ensures.same (ap (λ (n : Share). n.view) c.in-Err.ensures.back) c.take_back.ensures.joined
    c.take_back.ensures.parted)
