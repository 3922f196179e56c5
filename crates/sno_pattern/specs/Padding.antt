-- A list in an array of `MAX_NAME` places, with zeros after it, can be read back by the number of its characters.
use Rattle.std.specs.Prelude.{◌≡◌, ◌-◌, ◌≤◌, ℕ, List, length, take, replicate, ◌++◌}
use Rattle.std.proofs.Common.{sym, ap, arith, ◌∙◌, length-take-le}
use Rattle.sno_pattern.specs.declared.identifiers.TheConstants.{MAX_NAME}

-- as many characters as were counted
pub length-front : (xs : List ℕ) (n : ℕ) → n ≤ MAX_NAME → length xs ≡ MAX_NAME → length (take n xs) ≡ n
length-front xs n small long = length-take-le n xs (omega arith)

-- the characters and the zeros are the array
pub front-padding : (xs : List ℕ) (n : ℕ) → n ≤ MAX_NAME → length xs ≡ MAX_NAME → xs ≡ take n xs ++ replicate (MAX_NAME - n) 0 → take n xs ++ replicate (MAX_NAME - length (take n xs)) 0 ≡ xs
front-padding xs n small long padded = ap (λ k. take n xs ++ replicate (MAX_NAME - k) 0) (length-front xs n small long) ∙ sym padded
