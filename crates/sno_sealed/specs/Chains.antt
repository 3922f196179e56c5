-- Lines in a chain of sums, with their payloads.
use Rattle.std.specs.Prelude.{◌≡◌, ℕ, suc, ◌+◌, ◌-◌, List, [], ◌∷◌, ◌++◌, decimal, length, take, drop, Bool, true, false, nat_eq, ⊤}
use Rattle.std.specs.List.{starts_with}
use Rattle.sno_sealed.specs.declared.chain.Chain.{Chain}
use Rattle.sno_sealed.specs.Seals.{begun, sum_after, sum_of, sum_key, sealed_line}

-- the line is this payload, sealed as the line with this number after a line with this sum; sum is its own
pub record IsSealedBy (before number : ℕ) (line payload : List ℕ) (sum : ℕ) : Type 0 where
  pub first : List ℕ
  pub last : List ℕ
  pub is : line ≡ sealed_line before number first last payload
  pub own : sum ≡ sum_of before number first last payload

-- sealed lines one after the other, after this many lines and this sum, with their payloads and the last sum
abbrev pub AreSealed : ℕ → ℕ → List (List ℕ) → List (List ℕ) → ℕ → Type 0
AreSealed before count [] [] after = before ≡ after
AreSealed before count [] (payload ∷ payloads) after = ⊥
AreSealed before count (line ∷ lines) [] after = ⊥
AreSealed before count (line ∷ lines) (payload ∷ payloads) after = (sum : ℕ) × IsSealedBy before (count + 1) line payload sum × AreSealed sum (count + 1) lines payloads after

-- whether a line has a sum where a sealed one has it
unfoldable pub looks_sealed : List ℕ → Bool
looks_sealed line = starts_with nat_eq (drop (length (begun line) - 26) (begun line)) sum_key

-- lines without sums, which older formats have
abbrev pub ArePlain : List (List ℕ) → Type 0
ArePlain [] = ⊤
ArePlain (line ∷ lines) = (looks_sealed line ≡ false) × ArePlain lines

-- the sum of these lines after this sum; a sealed line after them goes on from it
abbrev pub plain_sum : ℕ → List (List ℕ) → ℕ
plain_sum before [] = before
plain_sum before (line ∷ lines) = plain_sum (sum_after before line) lines

-- before the first line
abbrev pub start : Chain
start = record { sum = 0; lines = 0; plain = 0 }

-- These lines have these payloads, and the chain has come to their end: plain lines, which are their own payloads, and then sealed ones.
pub record IsChain (lines payloads : List (List ℕ)) (chain : Chain) : Type 0 where
  pub plains : List (List ℕ)
  pub sealed : List (List ℕ)
  pub opened : List (List ℕ)
  pub lines_are : lines ≡ plains ++ sealed
  pub payloads_are : payloads ≡ plains ++ opened
  pub none : ArePlain plains
  pub sums : AreSealed (plain_sum 0 plains) (length plains) sealed opened chain.sum
  pub plain : length plains ≡ chain.plain
  pub count : length lines ≡ chain.lines
