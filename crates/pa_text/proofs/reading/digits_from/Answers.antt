use Rattle.std.proofs.Common.{◌∙◌, sym}
use Rattle.pa_text.proofs.Numbers.{reads_first, reads_on, skips_on, reads_all, fit_is}
use Rattle.pa_text.proofs.reading.digits_from.Goals as goal

pub loop-digit-init : goal.loop-digit-init
loop-digit-init c = reads_first c.args.first c.args.bytes.now c.requires

pub loop-digit-preserved-then-value-lt-TOO_LARGE : goal.loop-digit-preserved-then-value-lt-TOO_LARGE
loop-digit-preserved-then-value-lt-TOO_LARGE c =
    reads_on c.loop-digit.value c.in-Some.digit c.args.first c.loop-digit.rest.now c.in-Some.after.now c.args.bytes.now
    (sym c.in-Some.ensures.digit) c.in-Some.ensures.small c.if-value-lt-TOO_LARGE.true c.loop-digit.invariant

pub loop-digit-preserved : goal.loop-digit-preserved
loop-digit-preserved c =
    skips_on c.loop-digit.value c.in-Some.digit c.args.first c.loop-digit.rest.now c.in-Some.after.now c.args.bytes.now
    (sym c.in-Some.ensures.digit) c.if-value-lt-TOO_LARGE.false c.loop-digit.invariant

pub returns-clause-value : goal.returns-clause-value
returns-clause-value c =
    c.ok.ensures.value ∙ fit_is c.loop-digit.value c.try_from.result c.try_from.ensures
    ∙ (reads_all c.loop-digit.value c.args.first c.loop-digit.rest.now c.args.bytes.now
    (sym c.in_default.ensures.digit) c.loop-digit.invariant).0

pub returns-clause-rest : goal.returns-clause-rest
returns-clause-rest c = (reads_all c.loop-digit.value c.args.first c.loop-digit.rest.now c.args.bytes.now
    (sym c.in_default.ensures.digit) c.loop-digit.invariant).1
