use Rattle.std.proofs.Common.{◌+◌, subst}
use Rattle.std.specs.Ordering.{nat_cmp}
use Rattle.std.specs.BTreeMap.{get}
use Rattle.pa_audit_records.specs.Keys.{word_key}
use Rattle.pa_audit_order.specs.Keyed.{HasNoKey, IsLeast}
use Rattle.pa_audit_order.proofs.Reading.{free_least, free_none}
use Rattle.pa_audit_order.proofs.contents.next_free.Goals as goal

pub returns-in-Some-clause-some : goal.returns-in-Some-clause-some
returns-in-Some-clause-some c =
    let f = get nat_cmp c.args.frees.now in
    let s = c.args.slot in
    let k = c.args.number in
    let q = c.in-Some.field-0-0 in
    let at = c.in-Some.at in
    let least = subst (λ z. IsLeast f (word_key s k) (z + 1) q at) c.key-2.ensures.key
    (subst (λ z. IsLeast f z (c.key-2.result + 1) q at) c.key.ensures.key c.in-Some.ensures.some) in
    free_least c.args.records.now f s k q at _ c.key.ensures.sized.0 c.requires.frees least

pub returns-in-None-clause-none : goal.returns-in-None-clause-none
returns-in-None-clause-none c = λ y next.
    let f = get nat_cmp c.args.frees.now in
    let s = c.args.slot in
    let k = c.args.number in
    let none = subst (λ z. HasNoKey f (word_key s k) (z + 1)) c.key-2.ensures.key
    (subst (λ z. HasNoKey f z (c.key-2.result + 1)) c.key.ensures.key c.in-None.ensures.none) in
    free_none c.args.records.now f s k y c.requires.frees none next
