use Rattle.std.proofs.Common.{◌≡◌, ◌<◌, List, length, map, get_or, sym, ap, ◌∙◌, subst, arith}
use Rattle.std.specs.Prelude.{All}
use Rattle.std.proofs.lemmas.List.{get_or_default}
use Rattle.pa_record.specs.Root.{Root, new_root, IsOut}
use Rattle.pa_record.specs.Spans.{name_of}
use Rattle.pa_player.proofs.roots.Roots.give.Goals as goal

pub give-requires-clause-out : goal.give-requires-clause-out
give-requires-clause-out c =
    let roots = c.self.inside.of.items in
    let lt : c.args.partition < length roots = grind (arith, c.requires.among, c.self.view_is) in
    let old = c.index_mut.result.now in
    let here : old ≡ get_or c.args.self.now c.args.partition new_root =
    c.index_mut.ensures.value ∙ get_or_default roots c.args.partition old new_root lt ∙
    ap (λ (z : List Root). get_or z c.args.partition new_root) c.self.view_is in
    subst (λ (r : Root). All (IsOut r) (map name_of c.args.titles.now)) (sym here) c.requires.are_out
