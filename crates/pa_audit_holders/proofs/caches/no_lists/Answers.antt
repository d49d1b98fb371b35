use Rattle.std.proofs.Common.{◌≡◌, ◌+◌, [], ◌∷◌, length, ap, sym, ◌∙◌, subst}
use Rattle.std.specs.List.{All}
use Rattle.std.proofs.lemmas.List.{length-append}
use Rattle.std.proofs.lemmas.List.Elements.{All-push}
use Rattle.pa_audit_holders.specs.Lists.{cache_in}
use Rattle.pa_audit_holders.proofs.Listing.{caches_empty}
use Rattle.pa_audit_holders.proofs.caches.no_lists.Goals as goal

pub returns-clause-none : goal.returns-clause-none
returns-clause-none c = caches_empty c.loop.lists.items c.loop.invariant.none

pub loop-preserved : goal.loop-preserved
loop-preserved c =
    let items = c.in_ok-push.ensures.items in
    let long = length-append c.loop.lists.items (c.in_ok-empty.empty ∷ []) in
    record {
      version = subst (λ zs. All (λ x. x.version ≡ c.args.version) zs) (sym items)
          (All-push (λ x. x.version ≡ c.args.version) c.loop.lists.items c.in_ok-empty.empty c.loop.invariant.version
          c.in_ok-empty.ensures.version);
      many = ap length items ∙ long ∙ ap (λ n. n + 1) c.loop.invariant.many;
      none = subst (λ zs. All (λ t. cache_in t ≡ (λ p class. [])) zs) (sym items)
          (All-push (λ t. cache_in t ≡ (λ p class. [])) c.loop.lists.items c.in_ok-empty.empty c.loop.invariant.none
          c.in_ok-empty.ensures.empty);
    }
