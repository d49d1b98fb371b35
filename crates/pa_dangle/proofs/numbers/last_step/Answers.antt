use Rattle.std.proofs.Common.{subst}
use Rattle.std.specs.Ordering.{nat_cmp}
use Rattle.std.specs.BTreeMap.{get}
use Rattle.pa_audit_records.specs.Keys.{word_key}
use Rattle.pa_audit_order.specs.Keyed.{HasNoKey, IsGreatest}
use Rattle.pa_dangle.proofs.Finding.{last_is, none_is}
use Rattle.pa_dangle.proofs.numbers.last_step.Goals as goal

pub returns-in_err-at-clause-none : goal.returns-in_err-at-clause-none
returns-in_err-at-clause-none c =
    let at = get nat_cmp c.args.table.now in
    let s = c.args.slot in
    let from = subst (λ z. HasNoKey at z c.key-high.result) c.key-low.ensures.key c.in_err-at.ensures.none in
    let none = subst (λ z. HasNoKey at (word_key s 0) z) c.key-high.ensures.key from in
    rw c.from_residual.ensures (none_is c.args.kind c.args.records.now at s c.args.below c.requires.table none)

pub returns-clause-some : goal.returns-clause-some
returns-clause-some c =
    let at = get nat_cmp c.args.table.now in
    let s = c.args.slot in
    let q = c.in_ok-at.at in
    let i = c.in_ok-at.index in
    let from = subst (λ z. IsGreatest at z c.key-high.result q i) c.key-low.ensures.key c.in_ok-at.ensures.some in
    let greatest = subst (λ z. IsGreatest at (word_key s 0) z q i) c.key-high.ensures.key from in
    rw c.key-low.ensures.key
    (last_is c.args.kind c.args.records.now at s c.args.below q i _ c.requires.table c.key-low.ensures.sized.0
    c.key-high.ensures.sized.1 greatest)
