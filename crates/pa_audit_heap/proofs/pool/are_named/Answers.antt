use Rattle.std.proofs.Common.{◌≡◌, length, get_or, sym, ◌∙◌, ap, subst, arith}
use Rattle.std.proofs.lemmas.Bool.{both_ways}
use Rattle.std.proofs.lemmas.List.{get_or_read}
use Rattle.pa_rules.specs.Roots.{journal_at}
use Rattle.pa_record.specs.declared.pool.PoolEntry.{PoolEntry}
use Rattle.pa_audit_heap.specs.declared.namings.Naming.TheVariants.{Nobody}
use Rattle.pa_audit_heap.specs.Namings.{IsNaming, IsNamed}
use Rattle.pa_audit_heap.specs.Parts.{IsNamedAt}
use Rattle.pa_audit_heap.proofs.Naming.{named_is, naming_is, all_journals}
use Rattle.pa_audit_heap.proofs.Playing.{no_entry, entry_at}
use Rattle.pa_audit_heap.proofs.Telling.{tells_none}
use Rattle.pa_audit_heap.proofs.pool.are_named.Goals as goal
use Rattle.pa_lists.proofs.Indexed.{one_at, none_past}
use Rattle.pa_lists.proofs.Tests.{met_more}

pub returns-then-not-is_named : goal.returns-then-not-is_named
returns-then-not-is_named c =
    let l = c.loop-entry in
    let i = l.entry-index in
    let pools = c.args.pools.now in
    let roots = journal_at c.args.roots.now in
    let e = get_or pools i no_entry in
    let namings = c.in_ok-namings.ensures in
    let many = namings.many in
    let within = c.loop-entry-test.true in
    let at : c.index.result.now ≡ get_or c.in_ok-namings.namings.items i Nobody = get_or_read c.in_ok-namings.namings.items _ _
    (omega arith) c.index.ensures Nobody ∙ ap (λ k. get_or c.in_ok-namings.namings.items k Nobody) l.invariant.at in (
      subst (λ k. IsNamedAt pools roots k → ⊥) (sym l.invariant.at)
          (λ named. both_ways _ c.if-not-is_named.true
          (c.is_named.ensures.1 (at ∙ naming_is roots (length c.args.roots.now) i e (get_or c.in_ok-namings.namings.items i Nobody)
          (all_journals c.args.roots.now) (namings.each i within) (named e (entry_at pools i within))))),
      λ j less. l.invariant.met j (omega arith),
    )

pub loop-entry-preserved : goal.loop-entry-preserved
loop-entry-preserved c =
    let l = c.loop-entry in
    let i = l.entry-index in
    let pools = c.args.pools.now in
    let roots = journal_at c.args.roots.now in
    let e = get_or pools i no_entry in
    let namings = c.in_ok-namings.ensures in
    let many = namings.many in
    let within = c.loop-entry-test.true in
    let at : c.index.result.now ≡ get_or c.in_ok-namings.namings.items i Nobody = get_or_read c.in_ok-namings.namings.items _ _
    (omega arith) c.index.ensures Nobody ∙ ap (λ k. get_or c.in_ok-namings.namings.items k Nobody) l.invariant.at in
    let is = sym at ∙ c.is_named.ensures.0 c.if-not-is_named.false in
    let named = named_is roots (length c.args.roots.now) i e (all_journals c.args.roots.now)
    (subst (IsNaming roots (length c.args.roots.now) 0 i) is (namings.each i within)) in
    record {
      at = omega arith;
      met = met_more (IsNamedAt pools roots) i l.invariant.met
          (λ d there. subst (λ (z : PoolEntry). IsNamed roots i z) (one_at pools i e d (entry_at pools i within) there) named);
    }

pub returns : goal.returns
returns c =
    let l = c.loop-entry in
    let pools = c.args.pools.now in
    let roots = journal_at c.args.roots.now in
    let past = c.loop-entry-test.false in
    tells_none (IsNamedAt pools roots) (length pools) (λ j less. l.invariant.met j (omega arith))
    (λ j more e at. absurd (none_past pools j e more at))
