use Rattle.std.proofs.Common.{◌<◌, length, refl, sym, arith}
use Rattle.std.proofs.lemmas.Option.{slice_get_read}
use Rattle.pa_place.proofs.lists.Lists.refile.Goals as goal

pub returns : goal.returns
returns c =
    let active = c.args.self.now.active.items in
    let decommitted = c.args.self.now.decommitted.items in
    let bound = c.number-number.ensures.bound in
    let same = c.number-number.ensures.number in
    let first : c.number-number.result < length active = let e = c.requires.can.classes.active in omega arith in
    let second : c.number-number.result < length decommitted = let e = c.requires.can.classes.decommitted in omega arith in
    let a = slice_get_read active (length active) c.number-number.result c.index_mut.result.now refl first c.index_mut.ensures.value in
    let b = slice_get_read decommitted
    (length decommitted) c.number-number.result c.index_mut-2.result.now refl second c.index_mut-2.ensures.value in
    record {
      empty = c.refile.ensures;
      active = (c.index_mut.result.now, c.refile-2.new.list, rw (sym same) a, c.refile-2.ensures, rw (sym same) refl);
      decommitted = (c.index_mut-2.result.now, c.refile-3.new.list, rw (sym same) b, c.refile-3.ensures, rw (sym same) refl);
    }
