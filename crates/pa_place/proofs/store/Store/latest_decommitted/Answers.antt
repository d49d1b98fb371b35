use Rattle.std.proofs.Common.{◌<◌, refl, rules}
use Rattle.pa_buckets.specs.declared.spans.State.TheVariants as state
use Rattle.pa_place.specs.Store.{root_of}
use Rattle.pa_place.proofs.Latest.{class_latest}
use Rattle.pa_place.proofs.store.Store.latest_decommitted.Goals as goal

pub returns : goal.returns
returns c =
    let real : c.args.class < 170 = search rules in
    let k = class_latest state.Decommitted c.args.class
    (root_of c.args.self.now) c.args.self.now.lists.decommitted.items c.last_listed.result refl c.requires.sound real
    c.requires.filed.decommitted
    (rw c.deref.ensures.value at c.last_listed.ensures) in
    record { latest = k.latest; within = k.within }
