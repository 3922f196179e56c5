-- The characters that have a meaning of their own in patterns and objects, by their ASCII codes.
use Rattle.std.specs.Prelude.{ℕ}

abbrev pub tab : ℕ
tab = 9

abbrev pub space : ℕ
space = 32

-- "
abbrev pub double_quote : ℕ
double_quote = 34

-- $
abbrev pub dollar : ℕ
dollar = 36

-- '
abbrev pub single_quote : ℕ
single_quote = 39

-- (
abbrev pub open_parenthesis : ℕ
open_parenthesis = 40

-- )
abbrev pub close_parenthesis : ℕ
close_parenthesis = 41

-- *
abbrev pub asterisk : ℕ
asterisk = 42

-- .
abbrev pub period : ℕ
period = 46

-- 0, from which the value of a digit is counted
abbrev pub digit_zero : ℕ
digit_zero = 48

-- @
abbrev pub at_sign : ℕ
at_sign = 64

-- |
abbrev pub bar : ℕ
bar = 124
