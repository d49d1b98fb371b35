use Rattle.std.proofs.Common.{◌≡◌, ◌+◌, ◌≤◌, ◌∙◌, length, ap, sym, subst, arith}
use Rattle.std.specs.Prelude.{IsSome}
use Rattle.pa_audit_records.specs.ByKeys.{value_at}
use Rattle.std.proofs.lemmas.Bool.{false≢true}
use Rattle.pa_rules.specs.Roots.{journal_at}
use Rattle.pa_audit_records.specs.Keys.{word_key}
use Rattle.pa_audit_holders.specs.declared.tables.Table.{Table}
use Rattle.pa_audit_holders.specs.Holding.{FoundSoFar, KnowsJournal, either_of}
use Rattle.pa_audit_holders.proofs.Holding.{found_next, found_two, held_first, held_found, no_moves_past}
use Rattle.pa_audit_holders.proofs.held.owner_of.Goals as goal

pub loop-table-init : goal.loop-table-init
loop-table-init c = λ q less. absurd (omega (arith, less))

pub returns-then-are_two : goal.returns-then-are_two
returns-then-are_two c =
    let i = c.loop-table.table-index in
    let t = c.table-item.result in
    let ps = c.args.records.now in
    let roots = journal_at c.args.roots.now in
    let s = c.args.slot.slot in
    let k = c.args.slot.number in
    let f = value_at t.owners in
    let known : KnowsJournal ps (roots i) t =
    subst (λ (z : Table). KnowsJournal ps (roots i) z) (sym c.table-item.is) (c.requires.tables.each i t c.loop-table-test.true) in
    let e : c.find-owner.result ≡ f (word_key s k) = c.find-owner.ensures ∙ ap f c.key_at-key.ensures.key in
    found_two ps roots s k i f c.loop-table.found c.key_at-key.ensures.sized known.owners c.loop-table.invariant
    (subst (λ o. IsSome c.loop-table.found × IsSome o) e (c.are_two.ensures.0 c.if-are_two.true))

pub loop-table-preserved : goal.loop-table-preserved
loop-table-preserved c =
    let i = c.loop-table.table-index in
    let t = c.table-item.result in
    let ps = c.args.records.now in
    let roots = journal_at c.args.roots.now in
    let s = c.args.slot.slot in
    let k = c.args.slot.number in
    let f = value_at t.owners in
    let found = c.loop-table.found in
    let known : KnowsJournal ps (roots i) t =
    subst (λ (z : Table). KnowsJournal ps (roots i) z) (sym c.table-item.is) (c.requires.tables.each i t c.loop-table-test.true) in
    let e : c.find-owner.result ≡ f (word_key s k) = c.find-owner.ensures ∙ ap f c.key_at-key.ensures.key in
    subst (λ o. FoundSoFar ps roots s k (i + 1) o) (sym (c.either-found.ensures ∙ ap (either_of found) e))
    (found_next ps roots s k i f found c.key_at-key.ensures.sized known.owners c.loop-table.invariant
    (λ two. false≢true (sym c.if-are_two.false ∙ c.are_two.ensures.1 (subst (λ o. IsSome found × IsSome o) (sym e) two))))

pub returns-in-Some : goal.returns-in-Some
returns-in-Some c =
    let ps = c.args.records.now in
    let roots = journal_at c.args.roots.now in
    let s = c.args.slot.slot in
    let k = c.args.slot.number in
    let n = c.loop-table.table-index in
    let many = c.requires.tables.many in
    let test = c.loop-table-test.false in
    let end : length c.args.roots.now ≤ n = omega (arith, many, test) in
    held_found ps roots s k n c.in-Some.owner (no_moves_past c.args.roots.now s k n end)
    (subst (λ o. FoundSoFar ps roots s k n o) c.in-Some.is c.loop-table.invariant)

pub returns-in-None : goal.returns-in-None
returns-in-None c =
    let ps = c.args.records.now in
    let roots = journal_at c.args.roots.now in
    let s = c.args.slot.slot in
    let k = c.args.slot.number in
    let n = c.loop-table.table-index in
    let many = c.requires.tables.many in
    let test = c.loop-table-test.false in
    let end : length c.args.roots.now ≤ n = omega (arith, many, test) in
    held_first ps roots s k n c.first_owner.result (no_moves_past c.args.roots.now s k n end)
    (subst (λ o. FoundSoFar ps roots s k n o) c.in-None.is c.loop-table.invariant) c.first_owner.ensures
