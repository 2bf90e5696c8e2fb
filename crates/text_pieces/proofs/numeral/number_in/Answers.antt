use Rattle.std.proofs.Common.{◌+◌, ◌≤◌, length, get_or, inl, inr, ap, ◌∙◌, arith, rules}
use Rattle.std.specs.Char.{NotDecimalDigitIn}
use Rattle.std.proofs.lemmas.Str.{digit_value_digit}
use Rattle.std.proofs.lemmas.Str.Parse.{digit_from_value}
use Rattle.text_pieces.proofs.Written.{decimal_back}
use Rattle.text_pieces.proofs.DigitRuns.{wrong_length, no_digit, digits_more, read_more, read_all, below_more, below_nine}
use Rattle.text_pieces.proofs.numeral.number_in.Goals as goal
use Rattle.text_pieces.proofs.numeral.number_in.Goals.{then-is_empty-via-then-is_empty, then-is_empty-via-else-is_empty+then-bytes-gt-MOST_DIGITS}

pub returns-then-is_empty : goal.returns-then-is_empty
returns-then-is_empty c =
    record {
      value = wrong_length c.args.bytes.now (elim c.then-is_empty.branch [
        | then-is_empty-via-then-is_empty w ↦ inl (search rules)
        | then-is_empty-via-else-is_empty+then-bytes-gt-MOST_DIGITS w ↦ inr w.if-bytes-gt-MOST_DIGITS.true
      ]);
      decimals = decimal_back;
    }

pub overflow_mul-number : goal.overflow_mul-number
overflow_mul-number c =
    let b = below_nine _ _ (below_more c.loop-byte.number 0 c.loop-byte.byte-index c.loop-byte.invariant.2 (omega arith)) (omega arith) in
    omega arith

pub returns-in_err-number : goal.returns-in_err-number
returns-in_err-number c =
    let no : NotDecimalDigitIn 10 (get_or c.args.bytes.now c.loop-byte.byte-index 0) = rw c.from.ensures at c.in_err-number.ensures.cases in
    record {
      value = c.from_residual.ensures ∙ no_digit c.args.bytes.now c.loop-byte.byte-index c.loop-byte.number c.loop-byte.invariant.0 c.loop-byte.invariant.1 c.loop-byte-test.true no;
      decimals = decimal_back;
    }

pub overflow_add-number : goal.overflow_add-number
overflow_add-number c =
    let d : c.in_ok-number.field-0 ≤ 9 = omega (arith, c.in_ok-number.ensures.value) in
    let b = below_nine _ _ (below_more c.loop-byte.number _ c.loop-byte.byte-index c.loop-byte.invariant.2 d) (omega arith) in
    omega arith

pub loop-byte-preserved : goal.loop-byte-preserved
loop-byte-preserved c =
    let v = rw c.from.ensures at c.in_ok-number.ensures.value in
    let r = digit_from_value _ v.0 in (
      digits_more c.args.bytes.now c.loop-byte.byte-index c.loop-byte.number c.loop-byte.invariant.0 c.loop-byte.invariant.1 c.loop-byte-test.true r,
      read_more c.args.bytes.now c.loop-byte.byte-index c.loop-byte.number c.loop-byte.invariant.0 c.loop-byte.invariant.1 _ c.loop-byte-test.true (ap (λ x. x + 48) v.1 ∙ digit_value_digit _ r),
      below_more _ _ _ c.loop-byte.invariant.2 (omega (arith, v.0, v.1)),
    )

pub returns : goal.returns
returns c =
    let some : 1 ≤ length c.args.bytes.now = search rules in
    record {
      value = read_all c.args.bytes.now c.loop-byte.byte-index c.loop-byte.number c.loop-byte.invariant.0 c.loop-byte.invariant.1 c.loop-byte-test.false some c.if-bytes-gt-MOST_DIGITS.false;
      decimals = decimal_back;
    }
