use Rattle.std.proofs.Common.{◌+◌, ◌-◌, ◌/◌, ◌<◌, length, refl, sym, ◌∙◌, arith}
use Rattle.std.proofs.lemmas.Option.{slice_get_read}
use Rattle.pa_place.proofs.Searching.{cut_from, cut_to}
use Rattle.pa_place.proofs.scans.count_up_to.Goals as goal

pub search-preserved-then-starts_after : goal.search-preserved-then-starts_after
search-preserved-then-starts_after c =
    let inv = c.search.invariant in
    let ss = c.args.spans.now in
    let low = inv.low in
    let high = inv.high in
    let more = c.search-test.true in
    let m = c.search.low + (c.search.high - c.search.low) / 2 in
    let v = c.index-spans-middle.result in
    let within : m < length ss = omega arith in
    let here = slice_get_read ss (length ss) m v refl within c.index-spans-middle.is in
    record {
      before = inv.before;
      after = cut_from c.args.name ss m v c.requires.order here (sym c.starts_after.ensures ∙ c.if-starts_after.true);
      low = omega arith;
      high = omega arith;
    }

pub search-preserved : goal.search-preserved
search-preserved c =
    let inv = c.search.invariant in
    let ss = c.args.spans.now in
    let low = inv.low in
    let high = inv.high in
    let more = c.search-test.true in
    let m = c.search.low + (c.search.high - c.search.low) / 2 in
    let v = c.index-spans-middle.result in
    let within : m < length ss = omega arith in
    let here = slice_get_read ss (length ss) m v refl within c.index-spans-middle.is in
    record {
      before = cut_to c.args.name ss m v c.requires.order here (sym c.starts_after.ensures ∙ c.if-starts_after.false);
      after = inv.after;
      low = omega arith;
      high = inv.high;
    }
