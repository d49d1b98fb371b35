use Rattle.std.proofs.Common.{◌≡◌, ℕ, Some, sym, subst, arith}
use Rattle.pa_text.specs.Reading.{hexes_at}
use Rattle.pa_text.proofs.Words.{hexes_first, hexes_more, hexes_small, word_found, word_none, when_none}
use Rattle.pa_text.proofs.word.word_at.Goals as goal

pub loop-init : goal.loop-init
loop-init c = hexes_first c.args.bytes.now

pub returns-in_err-digit-clause-none : goal.returns-in_err-digit-clause-none
returns-in_err-digit-clause-none c =
    when_none _ _ (word_none c.loop.counter c.loop.value c.args.bytes.now c.loop.rest.now c.loop.invariant
    (sym c.in_err-digit.ensures.digit) (omega arith))

pub overflow_mul-value : goal.overflow_mul-value
overflow_mul-value c = omega
    (arith, hexes_small c.loop.counter c.loop.value c.args.bytes.now c.loop.rest.now c.loop.invariant (omega arith))

pub overflow_add-value : goal.overflow_add-value
overflow_add-value c =
    omega (
      arith,
      c.in_ok-digit.ensures.small,
      hexes_small c.loop.counter c.loop.value c.args.bytes.now c.loop.rest.now c.loop.invariant (omega arith),
    )

pub loop-preserved : goal.loop-preserved
loop-preserved c =
    hexes_more c.loop.counter c.loop.value c.in_ok-digit.digit c.args.bytes.now c.loop.rest.now c.in_ok-digit.after.now c.loop.invariant
    (sym c.in_ok-digit.ensures.digit)

pub returns-clause-found : goal.returns-clause-found
returns-clause-found c =
    let all : c.loop.counter ≡ 16 = omega arith in
    word_found c.loop.value c.args.bytes.now c.loop.rest.now
    (subst (λ (k : ℕ). hexes_at k c.args.bytes.now ≡ Some (c.loop.value, c.loop.rest.now)) all c.loop.invariant)
