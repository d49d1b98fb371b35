use Rattle.std.proofs.Common.{sym, subst, arith}
use Rattle.std.specs.Ordering.{nat_cmp}
use Rattle.std.specs.BTreeMap.{get}
use Rattle.pa_rules.specs.Contents.{IsContent}
use Rattle.pa_audit_records.specs.Keys.{word_key}
use Rattle.pa_audit_order.specs.Keyed.{HasNoKey, IsGreatest}
use Rattle.pa_audit_order.proofs.Reading.{content_last, content_none}
use Rattle.pa_audit_order.proofs.contents.content.Goals as goal

pub returns-in-Some : goal.returns-in-Some
returns-in-Some c =
    let ps = c.args.records.now in
    let f = get nat_cmp c.args.fills.now in
    let s = c.args.slot in
    let k = c.args.number in
    let q = c.in-Some.field-0-0 in
    let at = c.in-Some.at in
    let last = subst (λ z. IsGreatest f (word_key s 0) z q at) c.key-2.ensures.key
    (subst (λ z. IsGreatest f z c.key-2.result q at) c.key.ensures.key c.in-Some.ensures.some) in
    let sized = c.key-2.ensures.sized in
    subst (λ z. IsContent ps s k z) (sym c.filling.ensures)
    (content_last ps f s k q at _ c.requires.one sized.0 (omega (arith, sized)) c.requires.fills last)

pub returns-in-None : goal.returns-in-None
returns-in-None c =
    let f = get nat_cmp c.args.fills.now in
    let s = c.args.slot in
    let k = c.args.number in
    let none = subst (λ z. HasNoKey f (word_key s 0) z) c.key-2.ensures.key
    (subst (λ z. HasNoKey f z c.key-2.result) c.key.ensures.key c.in-None.ensures.none) in
    content_none c.args.records.now f s k c.requires.fills none
