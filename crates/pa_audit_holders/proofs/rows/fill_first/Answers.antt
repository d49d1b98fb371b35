use Rattle.std.proofs.Common.{◌≡◌, List, [], sym, subst}
use Rattle.pa_record.specs.declared.numbered.Numbered.{Numbered}
use Rattle.pa_rules.specs.Roots.{journal_at}
use Rattle.pa_rules.specs.Caches.{FilledFirst}
use Rattle.pa_audit_holders.proofs.rows.fill_first.Goals as goal

pub returns-in-None-clause-filled : goal.returns-in-None-clause-filled
returns-in-None-clause-filled c =
    let empty : c.args.slots.now ≡ [] = c.is_empty.ensures.0 c.if-not-is_empty.false in
    subst (λ (xs : List Numbered). (ys : List Numbered) → FilledFirst (journal_at c.args.page.now.roots) c.args.page.now.told.line
    c.args.bin.now.partition c.args.bin.now.class xs ys → ⊥) (sym empty) c.in-None.ensures.none
