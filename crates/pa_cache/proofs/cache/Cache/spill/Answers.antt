use Rattle.std.proofs.Common.{refl, sym, subst, ap}
use Rattle.pa_cache.specs.Chained.{CacheParts, HoldsList, list_in}
use Rattle.pa_cache.proofs.Calls.{IsSpilled, spilled}
use Rattle.pa_cache.proofs.cache.Cache.spill.Goals as goal

pub returns : goal.returns
returns c =
    let v = c.args.seat.now.view in let w = c.take_after-batch.new.seat.view in let keep = c.args.keep in
    let items = c.take_after-batch.result.items in
    let new : CacheParts = record { class = c.self.inside.class; chain = c.take_after-batch.new.self } in
    let old : CacheParts = record { class = c.self.inside.class; chain = c.self.inside.chain } in
    let has = subst (HoldsList v) (sym {A = CacheParts} c.self.view_is) c.requires.list in
    let ts = (list_in v old).titles in
    let cut = c.take_after-batch.ensures.chain ts has.chain in
    let it = subst (λ (s : CacheParts). IsSpilled v w s new keep items) c.self.view_is
    (spilled v w old new keep items c.aware.ensures.aware c.self.invariant has refl c.take_after-batch.ensures.slot_len
    c.take_after-batch.ensures.relinked (c.take_after-batch.ensures.beside ts has.chain) cut.0 cut.1) in
    record {
      class = ap (λ (s : CacheParts). s.class) c.self.view_is;
      batch = it.batch;
      rest = it.rest;
      first = it.first;
      later = it.later;
      none = it.none;
      size = it.size;
      different = it.different;
      number = it.number;
      list = it.has;
      region = c.take_after-batch.ensures.region;
      relinked = c.take_after-batch.ensures.relinked;
      beside = it.beside;
    }
