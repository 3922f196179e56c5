-- One more digit, at each turn.
use Rattle.std.proofs.Common.{◌≡◌, false, length, nat_eq, rules}
use Rattle.sno_read.proofs.Numbers.{value_same, digit_over, digit_in, digits_end}
use Rattle.sno_read.proofs.characters.value_of.Goals as goal

pub returns-then-value-gt-MAX_NUMBER : goal.returns-then-value-gt-MAX_NUMBER
returns-then-value-gt-MAX_NUMBER c =
    let some : nat_eq (length c.args.digits.now) 0 ≡ false = search (rules, c.is_empty.ensures, c.if-is_empty.false) in
    rw some (digit_over c.loop-digit.value c.loop-digit.digit-index _ c.args.digits.now _ c.loop-digit-test.true (value_same _ _ _ _ c.saturating_sub.ensures c.from.ensures) c.loop-digit.invariant.1 c.if-value-gt-MAX_NUMBER.true)

pub loop-digit-preserved : goal.loop-digit-preserved
loop-digit-preserved c = (
  c.if-value-gt-MAX_NUMBER.false,
  digit_in c.loop-digit.value c.loop-digit.digit-index _ c.args.digits.now _ c.loop-digit-test.true (value_same _ _ _ _ c.saturating_sub.ensures c.from.ensures) c.loop-digit.invariant.1 c.if-value-gt-MAX_NUMBER.false,
)

pub returns : goal.returns
returns c =
    let some : nat_eq (length c.args.digits.now) 0 ≡ false = search (rules, c.is_empty.ensures, c.if-is_empty.false) in
    rw some (digits_end c.loop-digit.value c.loop-digit.digit-index c.args.digits.now _ c.loop-digit-test.false c.loop-digit.invariant.1)
