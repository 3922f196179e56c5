-- There are few digits.
use Rattle.std.proofs.Common.{◌/◌, arith}
use Rattle.sno_statement.proofs.Decimals.{few_digits}
use Rattle.sno_statement.proofs.lengths.+decimal_length.Goals as goal

pub overflow_add-result : goal.overflow_add-result
overflow_add-result t c = omega (arith, few_digits (c.args.number / 10) (omega arith), c.decimal_length.ensures)
