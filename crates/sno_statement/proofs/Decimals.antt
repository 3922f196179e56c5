-- How many digits a number has.
use Rattle.std.proofs.Common.{◌≡◌, ℕ, ◌+◌, ◌/◌, ◌%◌, ◌≤◌, ◌<◌, ◌^◌, [], ◌∷◌, length, ap, ◌∙◌, arith}
use Rattle.std.specs.Fmt.{decimal}
use Rattle.std.proofs.lemmas.Fmt.{decimal_digit, decimal_step, length-decimal-le}
use Rattle.std.proofs.lemmas.List.{length-append}

pub one_digit : (n : ℕ) → n < 10 → length (decimal n) ≡ 1
one_digit n h = ap length (decimal_digit n h)

pub one_digit_more : (n : ℕ) → 10 ≤ n → n < 2 ^ 32 → length (decimal n) ≡ length (decimal (n / 10)) + 1
one_digit_more n more small = ap length (decimal_step n more (omega arith)) ∙ length-append (decimal (n / 10)) ((48 + n % 10) ∷ [])

pub few_digits : (n : ℕ) → n < 2 ^ 32 → length (decimal n) ≤ 10
few_digits n small = length-decimal-le 10 n (omega arith) (omega arith) (omega arith)
