use Rattle.std.proofs.Common.{get_or, sym, arith}
use Rattle.ot_scan.proofs.Digits.{digits_step, digits_on, digit_fits, digit_below}
use Rattle.ot_scan.proofs.words.exact_value.Goals as goal

pub overflow_mul-value : goal.overflow_mul-value
overflow_mul-value c =
    let byte = get_or c.args.digits.now c.loop-byte.byte-index 0 in
    let fits = digit_fits c.loop-byte.byte-index c.loop-byte.value byte (omega arith) c.loop-byte.invariant.small
    (sym c.if-not-is_ascii_digit.ensures.value) in
    omega (arith, fits)

pub overflow_add-value : goal.overflow_add-value
overflow_add-value c =
    let byte = get_or c.args.digits.now c.loop-byte.byte-index 0 in
    let fits = digit_fits c.loop-byte.byte-index c.loop-byte.value byte (omega arith) c.loop-byte.invariant.small
    (sym c.if-not-is_ascii_digit.ensures.value) in
    omega (arith, fits)

pub loop-byte-preserved : goal.loop-byte-preserved
loop-byte-preserved c =
    let i = c.loop-byte.byte-index in
    let byte = get_or c.args.digits.now i 0 in
    let digit = sym c.if-not-is_ascii_digit.ensures.value in
    let fits = digit_fits i c.loop-byte.value byte (omega arith) c.loop-byte.invariant.small digit in
    record {
      all = digits_on c.args.digits.now i c.loop-byte-test.true c.loop-byte.invariant.all digit;
      capped = digits_step _ _ _ _ _ c.loop-byte-test.true digit c.loop-byte.invariant.capped (omega (arith, fits));
      small = omega (arith, c.from.ensures, digit_below i c.loop-byte.value byte c.loop-byte.invariant.small digit);
    }
