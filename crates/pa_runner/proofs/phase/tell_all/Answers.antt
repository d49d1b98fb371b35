use Rattle.std.proofs.Common.{◌≡◌, ◌<◌, length, refl, sym, ◌∙◌, subst, arith}
use Rattle.pa_execution.specs.Gathering.{HasHeardSome}
use Rattle.pa_runner.specs.Phases.{HaveTold, worker_in}
use Rattle.pa_runner.proofs.Gathered.{tell_start, tell_more, tell_ready}
use Rattle.pa_runner.proofs.phase.tell_all.Goals as goal

pub loop-k-init : goal.loop-k-init
loop-k-init g c = record { region = refl; few = omega arith; telling = tell_start c.args.workers.now c.args.seat.now.view c.requires.main }

pub tell-requires-clause-region : goal.tell-requires-clause-region
tell-requires-clause-region g c = c.loop-k.invariant.region ∙ c.requires.region

pub tell-requires-clause-clean : goal.tell-requires-clause-clean
tell-requires-clause-clean g c = c.loop-k.invariant.telling.heard.main.clean

pub tell-requires-clause-stake : goal.tell-requires-clause-stake
tell-requires-clause-stake g c =
    let long = c.loop-k.invariant.telling.count in
    let low : c.loop-k.k < length c.args.workers.now = omega arith in
    tell_ready c.loop-k.k c.args.workers.now c.loop-k.workers c.args.seat.now.view c.loop-k.seat.view _ c.loop-k.invariant.telling low
    c.requires.stakes

pub loop-k-preserved : goal.loop-k-preserved
loop-k-preserved g c =
    let long = c.loop-k.invariant.telling.count in
    let low : c.loop-k.k < length c.args.workers.now = omega arith in
    record {
      region = c.tell.ensures.region ∙ sym c.requires.region;
      few = omega arith;
      telling = tell_more c.loop-k.k c.args.workers.now c.loop-k.workers c.args.seat.now.view c.loop-k.seat.view c.tell.new.seat.view _
          c.tell.new.worker c.loop-k.invariant.telling low c.requires.stakes
          c.tell.ensures.told c.tell.ensures.none c.tell.ensures.heard c.tell.ensures.aware;
    }

pub returns-clause-region : goal.returns-clause-region
returns-clause-region g c = c.loop-k.invariant.region ∙ c.requires.region

pub returns-clause-count : goal.returns-clause-count
returns-clause-count g c = c.loop-k.invariant.telling.count

pub returns-clause-heard : goal.returns-clause-heard
returns-clause-heard g c =
    let few = c.loop-k.invariant.few in
    let long = c.loop-k.invariant.telling.count in
    let all : c.loop-k.k ≡ length c.args.workers.now = omega arith in
    subst (λ n. HasHeardSome (length c.args.workers.now) n (worker_in c.args.workers.now) c.args.seat.now.view c.loop-k.seat.view) all
    c.loop-k.invariant.telling.heard

pub returns-clause-told : goal.returns-clause-told
returns-clause-told g c =
    let few = c.loop-k.invariant.few in
    let long = c.loop-k.invariant.telling.count in
    let all : c.loop-k.k ≡ length c.args.workers.now = omega arith in
    subst (λ n. HaveTold n c.args.workers.now c.loop-k.workers) all c.loop-k.invariant.telling.told
