use Rattle.std.proofs.Common.{◌≡◌, sym, ap, ◌∙◌, subst}
use Rattle.pa_rules.specs.declared.verdict.Place.TheVariants as places
use Rattle.pa_rules.specs.Roots.{journal_at}
use Rattle.pa_rules.specs.HeapDemands.{PoolDemand}
use Rattle.pa_audit_heap.specs.Parts.{FitsPool, IsNamedAt, ComesAt}
use Rattle.pa_rules.specs.Tells.{TellsFirst}
use Rattle.pa_audit_heap.specs.Tells.{least_place}
use Rattle.pa_audit_heap.proofs.Playing.{parts_are, are_parts}
use Rattle.pa_audit_heap.proofs.Telling.{tells_both, tells_same}
use Rattle.pa_audit_heap.proofs.pool.pool_meets.Goals as goal

pub returns : goal.returns
returns c =
    let supers = c.args.supers in
    let ps = c.args.records.now in
    let pools = c.args.pools.now in
    let roots = journal_at c.args.roots.now in
    let fits = FitsPool supers pools in
    let named = IsNamedAt pools roots in
    let comes = ComesAt ps pools in
    let later = tells_both named comes c.in_ok-named.named c.come_in_order-comes.result c.in_ok-named.ensures
    c.come_in_order-comes.ensures in
    let all = tells_both fits (λ i. named i × comes i) c.in_ok-fits.fits
    (least_place c.in_ok-named.named c.come_in_order-comes.result) c.in_ok-fits.ensures later in
    let result : c.earlier-2.result ≡ least_place c.in_ok-fits.fits (least_place c.in_ok-named.named c.come_in_order-comes.result) =
    c.earlier-2.ensures ∙ ap (least_place c.in_ok-fits.fits) c.earlier.ensures in
    subst (TellsFirst (λ j. PoolDemand supers ps pools roots (places.Pool j))) (sym result)
    (tells_same (λ i. fits i × (named i × comes i)) (λ j. PoolDemand supers ps pools roots (places.Pool j)) _
    (parts_are supers ps pools roots) (are_parts supers ps pools roots) all)
