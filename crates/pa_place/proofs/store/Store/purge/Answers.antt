use Rattle.std.proofs.Common.{◌≡◌, ◌+◌, ◌-◌, suc, sym, ◌∙◌, ap, arith}
use Rattle.pa_record.specs.Root.{decommitted_times}
use Rattle.pa_place.specs.Store.{root_of}
use Rattle.pa_place.proofs.Giving.{decommit_one}
use Rattle.pa_place.proofs.store.Store.purge.Goals as goal

pub loop-empty-preserved : goal.loop-empty-preserved
loop-empty-preserved c =
    let inv = c.loop-empty.invariant in
    let n = c.empties-empties.result in
    let k = n - (c.loop-empty._empty + 1) in
    let less = c.loop-empty-test.true in
    let r = root_of c.loop-empty.self in
    let step : n - c.loop-empty._empty ≡ suc k = omega arith in
    let a = decommit_one k r (root_of c.decommit_oldest.new.self) inv.sound c.decommit_oldest.ensures.oldest in
    record {
      left = sym a.left ∙ sym (ap (λ i. decommitted_times i r) step) ∙ inv.left;
      sound = a.sound;
      ordered = c.decommit_oldest.ensures.ordered;
      filed = c.decommit_oldest.ensures.filed;
      turn = let p = a.turn in let q = inv.turn in omega arith;
      few = omega arith;
      many = c.decommit_oldest.ensures.many ∙ inv.many;
    }
