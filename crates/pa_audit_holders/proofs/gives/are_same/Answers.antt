use Rattle.std.proofs.Common.{◌≡◌, ◌<◌, List, get_or, length, take, sym, ◌∙◌, ap, refl, arith}
use Rattle.std.proofs.Math.Seq.{take_all}
use Rattle.std.proofs.lemmas.Bool.{both_ways, false≢true}
use Rattle.std.proofs.lemmas.List.{take_more_same}
use Rattle.pa_record.specs.declared.numbered.Numbered.{Numbered}
use Rattle.pa_audit_holders.proofs.gives.are_same.Goals as goal

abbrev no_slot : Numbered
no_slot = record { slot = record { start = 0; born = 0 }; number = 0 }

pub returns-then-a-b : goal.returns-then-a-b
returns-then-a-b c = (λ yes. absurd (false≢true yes), λ same. absurd (c.if-a-b.true (ap length same)))

pub returns-then-not-is_same : goal.returns-then-not-is_same
returns-then-not-is_same c =
    let a = c.args.a.now in
    let b = c.args.b.now in
    let at = c.loop-at.at in (
      λ yes. absurd (false≢true yes),
      λ same. absurd (both_ways _ c.if-not-is_same.true (c.is_same.ensures.1 (ap (λ (xs : List Numbered). get_or xs at no_slot) same))),
    )

pub loop-at-preserved : goal.loop-at-preserved
loop-at-preserved c =
    let a = c.args.a.now in
    let b = c.args.b.now in
    let at = c.loop-at.at in
    let long = c.if-a-b.false in
    let within : at < length a = c.loop-at-test.true in
    let within' : at < length b = omega (arith, within, long) in
    take_more_same a b at no_slot within within' c.loop-at.invariant (c.is_same.ensures.0 c.if-not-is_same.false)

pub returns : goal.returns
returns c =
    let a = c.args.a.now in
    let b = c.args.b.now in
    let long = c.if-a-b.false in
    let end = c.loop-at-test.false in
    let left : take c.loop-at.at a ≡ a = take_all c.loop-at.at a (omega arith) in
    let right : take c.loop-at.at b ≡ b = take_all c.loop-at.at b (omega arith) in
    (λ yes. sym left ∙ c.loop-at.invariant ∙ right, λ same. refl)
