use Rattle.std.proofs.Common.{◌≡◌, ◌<◌, length, refl, sym, ◌∙◌, subst, arith}
use Rattle.pa_execution.specs.Gathering.{HasAnswered}
use Rattle.pa_runner.specs.Phases.{HaveHeard}
use Rattle.pa_runner.proofs.Gathered.{hear_start, hear_more, hear_ready}
use Rattle.pa_runner.proofs.phase.hear_all.Goals as goal

pub loop-k-init : goal.loop-k-init
loop-k-init g c = record { region = refl; few = omega arith; hearing = hear_start c.args.workers.now c.args.seat.now.view c.requires.main }

pub hear-requires-clause-region : goal.hear-requires-clause-region
hear-requires-clause-region g c = c.loop-k.invariant.region ∙ c.requires.region

pub hear-requires-clause-thread : goal.hear-requires-clause-thread
hear-requires-clause-thread g c =
    let long = c.loop-k.invariant.hearing.count in
    let small = c.requires.few in
    let low : c.loop-k.k < length c.args.workers.now = omega arith in
    let ready = hear_ready c.loop-k.k c.args.workers.now c.loop-k.workers c.args.seat.now.view c.loop-k.seat.view _
    c.loop-k.invariant.hearing low c.requires.few c.requires.every c.requires.none in
    (ready.0, omega arith)

pub hear-requires-clause-clean : goal.hear-requires-clause-clean
hear-requires-clause-clean g c = c.loop-k.invariant.hearing.answered.main.clean

pub hear-requires-clause-stake : goal.hear-requires-clause-stake
hear-requires-clause-stake g c =
    let long = c.loop-k.invariant.hearing.count in
    let small = c.requires.few in
    let low : c.loop-k.k < length c.args.workers.now = omega arith in
    let s = c.loop-k.invariant.hearing.answered.stakes c.loop-k.k (omega arith) in
    let e = c.requires.every c.loop-k.k (omega arith) in
    omega arith

pub hear-requires-clause-none : goal.hear-requires-clause-none
hear-requires-clause-none g c =
    let long = c.loop-k.invariant.hearing.count in
    let low : c.loop-k.k < length c.args.workers.now = omega arith in
    (hear_ready c.loop-k.k c.args.workers.now c.loop-k.workers c.args.seat.now.view c.loop-k.seat.view _ c.loop-k.invariant.hearing low
    c.requires.few c.requires.every c.requires.none).2

pub hear-requires-clause-settled : goal.hear-requires-clause-settled
hear-requires-clause-settled g c =
    let long = c.loop-k.invariant.hearing.count in
    let low : c.loop-k.k < length c.args.workers.now = omega arith in
    (hear_ready c.loop-k.k c.args.workers.now c.loop-k.workers c.args.seat.now.view c.loop-k.seat.view _ c.loop-k.invariant.hearing low
    c.requires.few c.requires.every c.requires.none).3

pub loop-k-preserved : goal.loop-k-preserved
loop-k-preserved g c =
    let long = c.loop-k.invariant.hearing.count in
    let low : c.loop-k.k < length c.args.workers.now = omega arith in
    record {
      region = c.hear.ensures.region ∙ sym c.requires.region;
      few = omega arith;
      hearing = hear_more c.loop-k.k c.args.workers.now c.loop-k.workers c.args.seat.now.view c.loop-k.seat.view c.hear.new.seat.view _
          c.hear.new.worker c.loop-k.invariant.hearing low
          c.hear.ensures.heard c.hear.ensures.lists c.hear.ensures.left;
    }

pub returns-clause-region : goal.returns-clause-region
returns-clause-region g c = c.loop-k.invariant.region ∙ c.requires.region

pub returns-clause-count : goal.returns-clause-count
returns-clause-count g c = c.loop-k.invariant.hearing.count

pub returns-clause-answered : goal.returns-clause-answered
returns-clause-answered g c =
    let few = c.loop-k.invariant.few in
    let all : c.loop-k.k ≡ length c.args.workers.now = omega arith in
    subst (λ n. HasAnswered (length c.args.workers.now) n c.args.seat.now.view c.loop-k.seat.view) all c.loop-k.invariant.hearing.answered

pub returns-clause-heard : goal.returns-clause-heard
returns-clause-heard g c =
    let few = c.loop-k.invariant.few in
    let all : c.loop-k.k ≡ length c.args.workers.now = omega arith in
    subst (λ n. HaveHeard (length c.args.workers.now) n c.args.seat.now.view c.args.workers.now c.loop-k.workers) all
    c.loop-k.invariant.hearing.heard
