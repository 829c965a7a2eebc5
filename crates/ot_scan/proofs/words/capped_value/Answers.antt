use Rattle.std.proofs.Common.{sym}
use Rattle.ot_scan.proofs.Digits.{digits_step, digits_on}
use Rattle.ot_scan.proofs.words.capped_value.Goals as goal

pub loop-byte-preserved : goal.loop-byte-preserved
loop-byte-preserved c =
    let digit = sym c.if-not-is_ascii_digit.ensures.value in
    record {
      all = digits_on c.args.digits.now c.loop-byte.byte-index c.loop-byte-test.true c.loop-byte.invariant.all digit;
      capped = digits_step _ _ _ _ _ c.loop-byte-test.true digit c.loop-byte.invariant.capped (cc);
    }
