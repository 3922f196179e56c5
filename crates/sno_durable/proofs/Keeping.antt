-- What kept up over one step and over the next kept up over both.
use Rattle.std.proofs.Common.{◌≡◌, ◌+◌, ℕ, arith}

pub kept_on : (l m n a b c : ℕ) → m + a ≡ l + b → n + b ≡ m + c → n + a ≡ l + c
kept_on l m n a b c one other = omega (arith, one, other)
