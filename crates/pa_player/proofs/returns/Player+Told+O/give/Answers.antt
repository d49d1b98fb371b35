use Rattle.std.proofs.Common.{◌≡◌, ℕ, ◌+◌, ◌≤◌, List, min, length, ap, ◌∙◌, arith}
use Rattle.pa_player.specs.Changes.{list_in}
use Rattle.pa_player.proofs.Batching.{batch_ready, give_more, give_end}
use Rattle.pa_player.proofs.returns.Player+Told+O.give.Goals as goal

pub give_batch-requires-clause-can : goal.give_batch-requires-clause-can
give_batch-requires-clause-can g c =
    let some = c.batches-test.true in
    batch_ready c.args.partition c.args.at c.args.keep c.batches.from c.min-to.result c.args.self.now c.batches.self c.batches.invariant
    (omega (arith, c.min-to.ensures, some))

pub batches-preserved : goal.batches-preserved
batches-preserved g c =
    let to : c.min-to.result ≡ min (length (list_in c.args.self.now c.args.at)) (c.batches.from + 16) =
    grind (arith, c.min-to.ensures, c.places-count.ensures.places) in
    give_more c.args.partition c.args.at c.args.keep c.batches.from c.min-to.result c.args.self.now c.batches.self c.give_batch.new.self
    c.batches.invariant
    (grind (arith, c.batches-test.true, c.min-to.ensures)) to c.in_ok-give_batch.ensures.gave

pub returns-clause-given : goal.returns-clause-given
returns-clause-given g c =
    let past : length (list_in c.args.self.now c.args.at) ≤ c.batches.from =
    grind (arith, c.batches-test.false, c.places-count.ensures.places) in
    ap (λ (z : List (List ℕ)). record c.batches.self { caches = z }) c.keep.ensures
    ∙ give_end c.args.partition c.args.at c.args.keep c.batches.from c.args.self.now c.batches.self c.batches.invariant past
