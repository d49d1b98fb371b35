use Rattle.std.proofs.Common.{◌≡◌, ◌++◌, refl, sym, subst, ap}
use Rattle.std.specs.Option.{option_to_list}
use Rattle.pa_region.specs.Shares.{Share}
use Rattle.pa_cache.specs.Chained.{CacheParts, HoldsList, list_in}
use Rattle.pa_cache.proofs.Calls.{IsPopped, popped}
use Rattle.pa_cache.proofs.cache.Cache.pop.Goals as goal

pub returns : goal.returns
returns c =
    let v = c.args.seat.now.view in
    let new : CacheParts = record { class = c.self.inside.class; chain = c.pop.new.self } in
    let old : CacheParts = record { class = c.self.inside.class; chain = c.self.inside.chain } in
    let has = subst (HoldsList v) (sym {A = CacheParts} c.self.view_is) c.requires.list in
    let it = popped v old new c.pop.result c.aware.ensures.aware c.self.invariant has refl c.pop.ensures.slot_len c.pop.ensures.none
    c.pop.ensures.chain in
    let was = subst (λ (s : CacheParts). IsPopped v s new c.pop.result) c.self.view_is it in
    let now = subst (λ (s : Share). IsPopped s.view c.args.self.now new c.pop.result) (sym c.pop.ensures.seat) was in
    record {
      class = ap (λ (s : CacheParts). s.class) c.self.view_is;
      none = was.none;
      front = subst (λ (s : Share). (list_in v c.args.self.now).titles ≡ option_to_list c.pop.result ++ (list_in s.view new).titles)
          (sym c.pop.ensures.seat) was.front;
      size = was.size;
      number = now.number;
      list = now.has;
      seat = c.pop.ensures.seat;
    }
