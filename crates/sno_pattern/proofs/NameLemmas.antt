-- Names in their arrays.
use Rattle.std.proofs.Common.{◌≡◌, ℕ, ◌-◌, List, ◌++◌, length, take, replicate}
use Rattle.std.proofs.Math.Seq.{take-append_seam}
use Rattle.sno_pattern.specs.declared.identifiers.TheConstants.{MAX_NAME}

-- the characters come before the zeros
pub take-padded : (name : List ℕ) → take (length name) (name ++ replicate (MAX_NAME - length name) 0) ≡ name
take-padded name = take-append_seam name (replicate (MAX_NAME - length name) 0)
