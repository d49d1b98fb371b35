use Rattle.std.proofs.Common.{arith}
use Rattle.pa_root.proofs.MapEnds.{shape_served}
use Rattle.pa_test_root.proofs.root_plain.map.Goals as goal

pub map-requires-clause-whole : goal.map-requires-clause-whole
map-requires-clause-whole c = (shape_served c.args.shape c.requires.shape).pages

pub map-requires-clause-some : goal.map-requires-clause-some
map-requires-clause-some c =
    let long = (shape_served c.args.shape c.requires.shape).long in
    omega arith

pub map-requires-clause-supers : goal.map-requires-clause-supers
map-requires-clause-supers c = (shape_served c.args.shape c.requires.shape).supers

pub map-requires-clause-few : goal.map-requires-clause-few
map-requires-clause-few c = (shape_served c.args.shape c.requires.shape).few
