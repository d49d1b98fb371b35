use Rattle.std.proofs.Common.{refl, inl, inr, ◌∙◌, ap}
use Rattle.pa_slot.proofs.Outcomes.{any_err}
use Rattle.pa_op_specs.specs.Stocks.{StockValue}
use Rattle.pa_thread_state.proofs.Released.{not_last, reset_back, reset_stake}
use Rattle.pa_thread_state.proofs.stock.Stock.reset.Goals as goal

pub bring_back-requires-clause-stake : goal.bring_back-requires-clause-stake
bring_back-requires-clause-stake g c =
    reset_stake c.counted_steps_leave.ensures c.args.self.now c.let_go-fate.new.self c.args.reg c.args.handle c.let_go-fate.result.0
    c.kept.ensures.stock
    c.requires.stake c.requires.budget c.requires.reg c.requires.handle c.let_go-fate.ensures.gone

pub bring_back-requires-clause-back : goal.bring_back-requires-clause-back
bring_back-requires-clause-back g c =
    reset_back c.args.self.now c.let_go-fate.new.self c.args.reg c.args.handle c.let_go-fate.result.0 c.kept.ensures.stock
    c.kept.ensures.aware
    c.requires.reg c.requires.handle c.let_go-fate.ensures.gone (c.let_go-fate.ensures.last c.in-Last.is)

pub returns-in-Kept-clause-releases : goal.returns-in-Kept-clause-releases
returns-in-Kept-clause-releases g c =
    record {
      between = c.let_go-fate.new.self;
      gone = c.let_go-fate.ensures.gone;
      back = inr ((λ back. not_last c.let_go-fate.result.1 (c.let_go-fate.ensures.fate.1 back) c.in-Kept.is), refl);
    }

pub returns-in_ok-bring_back-in-Last-clause-releases : goal.returns-in_ok-bring_back-in-Last-clause-releases
returns-in_ok-bring_back-in-Last-clause-releases g c =
    record {
      between = c.let_go-fate.new.self;
      gone = c.let_go-fate.ensures.gone;
      back = inl (c.let_go-fate.ensures.fate.0 c.in-Last.is, c.in_ok-bring_back-in-Last.ensures.back);
    }

pub returns-in_err-bring_back-in-Last-clause-stake : goal.returns-in_err-bring_back-in-Last-clause-stake
returns-in_err-bring_back-in-Last-clause-stake g c =
    any_err c.from_residual.result _ (record {
      thread = c.in_err-bring_back-in-Last.ensures.stake.thread ∙ ap (λ (z : StockValue). z.thread) c.let_go-fate.ensures.gone.after_is;
      stake = c.in_err-bring_back-in-Last.ensures.stake.stake;
    })

pub returns-in_err-bring_back-in-Last-clause-stops : goal.returns-in_err-bring_back-in-Last-clause-stops
returns-in_err-bring_back-in-Last-clause-stops g c =
    any_err c.from_residual.result _ (record {
      seen = c.let_go-fate.result.0;
      between = c.let_go-fate.new.self;
      gone = c.let_go-fate.ensures.gone;
      last = c.let_go-fate.ensures.fate.0 c.in-Last.is;
      root = c.in_err-bring_back-in-Last.ensures.root;
      left = c.in_err-bring_back-in-Last.ensures.left;
    })
