use Rattle.std.proofs.Common.{◌*◌, ◌+◌, ◌≤◌, length, refl, sym, ◌∙◌, subst, arith}
use Rattle.pa_rules.specs.Sizes.{HasClass}
use Rattle.pa_slot.proofs.Outcomes.{any_err}
use Rattle.pa_op_specs.specs.Stocks.{titles_in}
use Rattle.pa_thread_state.proofs.Tails.{some_none, some_left, some_stake, some_thread, some_more, some_all}
use Rattle.pa_thread_state.proofs.stock.Stock.give_tail.Goals as goal

pub loop-done-init : goal.loop-done-init
loop-done-init g c = record { some = some_none c.args.line c.args.partition c.args.class c.args.keep c.args.self.now; budget = refl }

pub give_batch-requires-clause-stake : goal.give_batch-requires-clause-stake
give_batch-requires-clause-stake g c =
    some_stake c.args.line c.args.partition c.args.class c.args.keep c.loop-done.done c.args.self.now c.loop-done.self
    c.loop-done.invariant.some c.requires.stake

pub give_batch-requires-clause-some : goal.give_batch-requires-clause-some
give_batch-requires-clause-some g c =
    some_left c.args.line c.args.partition c.args.class c.args.keep c.loop-done.done c.args.self.now c.loop-done.self
    c.loop-done.invariant.some
    (c.batches_behind-batches.ensures.no_more c.loop-done.done c.loop-done-test.true)

pub give_batch-requires-clause-class : goal.give_batch-requires-clause-class
give_batch-requires-clause-class g c = subst (λ v. HasClass v c.args.class) (sym c.loop-done.invariant.some.given.version) c.requires.class

pub loop-done-preserved : goal.loop-done-preserved
loop-done-preserved g c = record {
  some = some_more c.args.line c.args.partition c.args.class c.args.keep c.loop-done.done c.args.self.now c.loop-done.self
      c.give_batch.new.self c.kept-in-loop-done.ensures.stock
      c.loop-done.invariant.some c.in_ok-give_batch.ensures.gives
      (c.batches_behind-batches.ensures.no_more c.loop-done.done c.loop-done-test.true);
  budget = c.give_batch.ensures.budget ∙ c.loop-done.invariant.budget;
}

pub returns-clause-gives : goal.returns-clause-gives
returns-clause-gives g c =
    let few : length (titles_in c.args.self.now.caches c.args.partition c.args.class) ≤ c.args.keep + 16 * c.loop-done.done =
    let a = c.batches_behind-batches.ensures.all in let b = c.loop-done-test.false in omega arith in
    some_all c.args.line c.args.partition c.args.class c.args.keep c.loop-done.done c.args.self.now c.loop-done.self
    c.loop-done.invariant.some few

pub returns-in_err-give_batch-clause-stake : goal.returns-in_err-give_batch-clause-stake
returns-in_err-give_batch-clause-stake g c = any_err c.from_residual.result _ (record {
  thread = c.in_err-give_batch.ensures.stake.thread
      ∙ some_thread c.args.line c.args.partition c.args.class c.args.keep c.loop-done.done c.args.self.now c.loop-done.self
      c.loop-done.invariant.some;
  stake = c.in_err-give_batch.ensures.stake.stake;
})

pub returns-in_err-give_batch-clause-stops : goal.returns-in_err-give_batch-clause-stops
returns-in_err-give_batch-clause-stops g c = any_err c.from_residual.result _ (record {
  batches = c.loop-done.done;
  more = c.batches_behind-batches.ensures.no_more c.loop-done.done c.loop-done-test.true;
  between = c.loop-done.self;
  gave = c.loop-done.invariant.some;
  refused = c.in_err-give_batch.ensures.refused;
})
