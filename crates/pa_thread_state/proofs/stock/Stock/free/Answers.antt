use Rattle.std.proofs.Common.{refl, inl, inr, ◌∙◌, ap}
use Rattle.pa_slot.proofs.Outcomes.{any_err}
use Rattle.pa_op_specs.specs.Stocks.{StockValue}
use Rattle.pa_thread_state.proofs.Released.{not_last, free_back, free_stake}
use Rattle.pa_thread_state.proofs.stock.Stock.free.Goals as goal

pub bring_back-requires-clause-stake : goal.bring_back-requires-clause-stake
bring_back-requires-clause-stake g c =
    free_stake c.counted_steps_leave.ensures c.owns_change.ensures c.states_are_owns.ensures c.args.self.now c.give_up-fate.new.self
    c.args.reg c.args.handle c.give_up-fate.result.0 c.kept.ensures.stock
    c.requires.stake c.requires.budget c.requires.reg c.requires.handle c.give_up-fate.ensures.gone

pub bring_back-requires-clause-back : goal.bring_back-requires-clause-back
bring_back-requires-clause-back g c =
    free_back c.args.self.now c.give_up-fate.new.self c.args.reg c.args.handle c.give_up-fate.result.0 c.kept.ensures.stock
    c.kept.ensures.aware
    c.requires.reg c.requires.handle c.give_up-fate.ensures.gone (c.give_up-fate.ensures.last c.in-Last.is)

pub returns-in-Kept-clause-releases : goal.returns-in-Kept-clause-releases
returns-in-Kept-clause-releases g c =
    record {
      between = c.give_up-fate.new.self;
      gone = c.give_up-fate.ensures.gone;
      back = inr ((λ back. not_last c.give_up-fate.result.1 (c.give_up-fate.ensures.fate.1 back) c.in-Kept.is), refl);
    }

pub returns-in_ok-bring_back-in-Last-clause-releases : goal.returns-in_ok-bring_back-in-Last-clause-releases
returns-in_ok-bring_back-in-Last-clause-releases g c =
    record {
      between = c.give_up-fate.new.self;
      gone = c.give_up-fate.ensures.gone;
      back = inl (c.give_up-fate.ensures.fate.0 c.in-Last.is, c.in_ok-bring_back-in-Last.ensures.back);
    }

pub returns-in_err-bring_back-in-Last-clause-stake : goal.returns-in_err-bring_back-in-Last-clause-stake
returns-in_err-bring_back-in-Last-clause-stake g c =
    any_err c.from_residual.result _ (record {
      thread = c.in_err-bring_back-in-Last.ensures.stake.thread ∙ ap (λ (z : StockValue). z.thread) c.give_up-fate.ensures.gone.after_is;
      stake = c.in_err-bring_back-in-Last.ensures.stake.stake;
    })

pub returns-in_err-bring_back-in-Last-clause-stops : goal.returns-in_err-bring_back-in-Last-clause-stops
returns-in_err-bring_back-in-Last-clause-stops g c =
    any_err c.from_residual.result _ (record {
      seen = c.give_up-fate.result.0;
      between = c.give_up-fate.new.self;
      gone = c.give_up-fate.ensures.gone;
      last = c.give_up-fate.ensures.fate.0 c.in-Last.is;
      root = c.in_err-bring_back-in-Last.ensures.root;
      left = c.in_err-bring_back-in-Last.ensures.left;
    })
