use Rattle.std.proofs.Common.{◌≡◌, [], refl, sym, subst, ap, arith}
use Rattle.std.specs.Prelude.{◌↔◌, IsNone}
use Rattle.pa_link.specs.declared.chain.ChainParts.{ChainParts}
use Rattle.pa_link.specs.Chains.{SameBeside}
use Rattle.pa_cache.specs.Chained.{CacheParts, list_in}
use Rattle.pa_cache.proofs.Calls.{becomes, empty_chain}
use Rattle.pa_cache.proofs.cache.Cache.load.Goals as goal

pub push_all-requires-clause-empty : goal.push_all-requires-clause-empty
push_all-requires-clause-empty c =
    let v = c.args.seat.now.view in
    let old : CacheParts = record { class = c.self.inside.class; chain = c.self.inside.chain } in
    empty_chain v old (subst (λ (p : ChainParts). IsNone p.head ↔ (p.len ≡ 0)) c.parts.ensures.same c.parts.ensures.none)
    (subst (λ (s : CacheParts). (list_in v s).titles ≡ []) (sym {A = CacheParts} c.self.view_is) c.requires.empty)

pub returns : goal.returns
returns c =
    let v = c.args.seat.now.view in let w = c.push_all.new.seat.view in let ts = c.args.titles.now in
    let new : CacheParts = record { class = c.self.inside.class; chain = c.push_all.new.chain } in
    let old : CacheParts = record { class = c.self.inside.class; chain = c.self.inside.chain } in
    let few = c.requires.few in
    let it = becomes w old new ts c.self.invariant refl c.push_all.ensures.slot_len (omega arith) c.push_all.ensures.chain in
    record {
      class = ap (λ (s : CacheParts). s.class) c.self.view_is;
      titles = it.titles;
      list = it.has;
      region = c.push_all.ensures.region;
      relinked = c.push_all.ensures.relinked;
      beside = subst (λ us. SameBeside us v.words w.words) (sym it.titles) c.push_all.ensures.beside;
    }
