use Rattle.std.proofs.Common.{◌∙◌, sym}
use Rattle.pa_shelf.proofs.Fresh.{listed_found, room_found}
use Rattle.pa_shelf.proofs.shelf.Shelf.has_room_for.Goals as goal

pub returns-then-is_some : goal.returns-then-is_some
returns-then-is_some c v r sound k =
    c.if-is_some.true ∙ listed_found c.args.class r c.listed.result (c.listed.ensures v r sound k)
    (sym c.is_some.ensures ∙ c.if-is_some.true)

pub returns-else-is_some : goal.returns-else-is_some
returns-else-is_some c v r sound k =
    c.is_some-else-is_some.ensures
    ∙ room_found v c.args.self.now r c.args.class c.listed.result c.room_for.result k (c.listed.ensures v r sound k)
    (sym c.is_some.ensures ∙ c.if-is_some.false)
    c.room_for.ensures
