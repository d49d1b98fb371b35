use Rattle.std.proofs.Common.{arith}
use Rattle.pa_run_reader.proofs.Wide.{goes_on, too_wide, all_read}
use Rattle.pa_run_reader.proofs.digits.digits.Goals as goal

pub loop-digit-preserved : goal.loop-digit-preserved
loop-digit-preserved c =
    goes_on c.loop-digit.value c.in-Some.digit c.args.first c.loop-digit.rest.now c.in-Some.after.now c.args.bytes.now
    c.in-Some.ensures.read c.loop-digit.invariant

pub returns-then-value-digit : goal.returns-then-value-digit
returns-then-value-digit c =
    record {
      read = too_wide c.loop-digit.value c.in-Some.digit c.args.first c.loop-digit.rest.now c.in-Some.after.now c.args.bytes.now
          c.in-Some.ensures.read c.loop-digit.invariant (omega (arith, c.in-Some.ensures.small, c.if-value-digit.true));
    }

pub returns : goal.returns
returns c = record {
  read =
      all_read c.loop-digit.value c.args.first c.loop-digit.rest.now c.args.bytes.now c.in_default.ensures.read c.loop-digit.invariant
      (omega arith);
}
