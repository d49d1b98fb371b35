use Rattle.std.proofs.Common.{◌≤◌, refl, sym, subst, ap, length}
use Rattle.std.specs.Prelude.{Contains}
use Rattle.pa_slot.specs.Links.{link_to}
use Rattle.pa_buckets.specs.Bands.{limit_of}
use Rattle.pa_cache.specs.Chained.{CacheParts, HoldsList, list_in}
use Rattle.pa_cache.proofs.Calls.{IsPushed, pushed}
use Rattle.pa_cache.proofs.cache.Cache.push.Goals as goal

pub returns : goal.returns
returns c =
    let v = c.args.seat.now.view in let w = c.push.new.seat.view in let t = c.args.title in
    let new : CacheParts = record { class = c.self.inside.class; chain = c.push.new.self } in
    let old : CacheParts = record { class = c.self.inside.class; chain = c.self.inside.chain } in
    let has = subst (HoldsList v) (sym {A = CacheParts} c.self.view_is) c.requires.list in
    let few = subst (λ (s : CacheParts). length (list_in v s).titles ≤ limit_of s.class) (sym {A = CacheParts} c.self.view_is)
    c.requires.few in
    let fresh = subst (λ (s : CacheParts). Contains (list_in v s).titles t → ⊥) (sym {A = CacheParts} c.self.view_is) c.requires.new in
    let it = subst (λ (s : CacheParts). IsPushed v w s new t) c.self.view_is
    (pushed v w old new t (link_to c.self.inside.chain.head) c.self.invariant has refl c.push.ensures.slot_len few c.requires.able
    c.push.ensures.view (c.push.ensures.chain (list_in v old).titles has.chain fresh)) in
    record {
      class = ap (λ (s : CacheParts). s.class) c.self.view_is;
      front = it.front;
      list = it.has;
      region = c.push.ensures.region;
      relinked = it.relinked;
      beside = it.beside;
    }
