use Rattle.std.proofs.Common.{◌≤◌, ◌∙◌, length, refl, sym, subst, arith}
use Rattle.std.proofs.lemmas.Bool.{false≢true}
use Rattle.pa_rules.specs.Roots.{journal_at}
use Rattle.pa_audit_holders.specs.declared.tables.Table.{Table}
use Rattle.pa_audit_holders.specs.Holding.{KnowsJournal}
use Rattle.pa_audit_holders.proofs.Holding.{there_all, there_next}
use Rattle.pa_audit_holders.proofs.held.is_in_all.Goals as goal

pub loop-table-init : goal.loop-table-init
loop-table-init c = λ p n less. absurd (omega (arith, less))

pub returns-then-not-is_there : goal.returns-then-not-is_there
returns-then-not-is_there c =
    let i = c.loop-table.table-index in
    let t = c.table-item.result in
    let roots = journal_at c.args.roots.now in
    let known : KnowsJournal c.args.records.now (roots i) t = subst (λ (z : Table). KnowsJournal c.args.records.now (roots i) z)
    (sym c.table-item.is) (c.requires.tables.each i t c.loop-table-test.true) in (
      λ no. absurd (false≢true no),
      λ each. absurd (false≢true (sym c.if-not-is_there.true ∙ (c.is_there.ensures (roots i) known.gone).1 (each i))),
    )

pub loop-table-preserved : goal.loop-table-preserved
loop-table-preserved c =
    let i = c.loop-table.table-index in
    let t = c.table-item.result in
    let roots = journal_at c.args.roots.now in
    let known : KnowsJournal c.args.records.now (roots i) t = subst (λ (z : Table). KnowsJournal c.args.records.now (roots i) z)
    (sym c.table-item.is) (c.requires.tables.each i t c.loop-table-test.true) in
    there_next roots c.args.slot.slot c.args.slot.number i c.loop-table.invariant
    ((c.is_there.ensures (roots i) known.gone).0 c.if-not-is_there.false)

pub returns : goal.returns
returns c =
    let many = c.requires.tables.many in
    let test = c.loop-table-test.false in
    let end : length c.args.roots.now ≤ c.loop-table.table-index = omega (arith, many, test) in (
      λ yes. there_all c.args.roots.now c.args.slot.slot c.args.slot.number c.loop-table.table-index end c.loop-table.invariant,
      λ each. refl,
    )
