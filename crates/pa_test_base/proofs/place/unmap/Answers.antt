use Rattle.std.proofs.Common.{ap, ◌∙◌, arith}
use Rattle.pa_record.specs.Pool.{PoolState}
use Rattle.pa_record.specs.Root.{Root}
use Rattle.pa_test_base.proofs.place.unmap.Goals as goal

pub returns : goal.returns
returns g c =
    let old = c.requires.maps in
    let more = ap (λ (p : PoolState). p.entries) c.unmap-went.ensures.pool in
    let few = old.entries in
    record {
      maps = record {
        entries = omega arith;
        born = c.unmap-went.ensures.step.born old.born;
        spans = ap (λ (r : Root). r.spans) c.unmap-went.ensures.unmapped ∙ old.spans;
      };
    }
