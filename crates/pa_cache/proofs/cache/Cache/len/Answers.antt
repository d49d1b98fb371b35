use Rattle.std.proofs.Common.{◌≡◌, ◌∙◌, ap, sym, subst}
use Rattle.std.specs.Prelude.{IsNone}
use Rattle.pa_link.specs.declared.chain.ChainParts.{ChainParts}
use Rattle.pa_cache.specs.Chained.{CacheParts}
use Rattle.pa_cache.proofs.Lists.{list_many}
use Rattle.pa_cache.proofs.cache.Cache.len.Goals as goal

pub returns : goal.returns
returns c v =
    let e = c.parts.ensures.same ∙ ap (λ (s : CacheParts). s.chain) c.self.view_is in
    ap (λ (p : ChainParts). p.len) e
    ∙ sym (list_many v c.args.self.now (subst (λ (p : ChainParts). IsNone p.head → p.len ≡ 0) e c.parts.ensures.none.0))
