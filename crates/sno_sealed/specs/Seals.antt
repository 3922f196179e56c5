-- How a sealed line is written. It is a line with two further members at its end:
--
--     {..,"batch":[N,F,L],"sum":"0123456789abcdef"}
--
-- N is the line's number, from 1; F and L are the numbers of the first and of the last line that were written with it.
use Rattle.std.specs.Prelude.{◌≡◌, ℕ, zero, suc, ◌+◌, ◌-◌, ◌/◌, ◌%◌, ◌^◌, Bool, List, [], ◌∷◌, ◌++◌, length, take, drop, ◌==◌, nat_lt, slice_index, if◌then◌else◌, decimal}
use Rattle.std.specs.Int.{w64, to_le_bytes}
use Rattle.std.specs.Hash.DefaultHasher as sip

-- SipHash-1-3, as a number of 64 bits, of these bytes after the sum that came before
unfoldable pub sum_after : ℕ → List ℕ → ℕ
sum_after before bytes = sip.finish (sip.write (sip.write sip.initial (to_le_bytes w64 before)) bytes)

-- a digit in hexadecimal
abbrev pub hex_digit : ℕ → ℕ
hex_digit d = if nat_lt d 10 then 48 + d else 87 + d

-- this many digits of a number in hexadecimal, the lowest last
abbrev pub hex : ℕ → ℕ → List ℕ
hex zero n = []
hex (suc k) n = hex k (n / 16) ++ hex_digit (n % 16) ∷ []

-- `,"batch":[`
abbrev pub batch_key : List ℕ
batch_key = 44 ∷ 34 ∷ 98 ∷ 97 ∷ 116 ∷ 99 ∷ 104 ∷ 34 ∷ 58 ∷ 91 ∷ []

-- `],"sum":"`
abbrev pub sum_key : List ℕ
sum_key = 93 ∷ 44 ∷ 34 ∷ 115 ∷ 117 ∷ 109 ∷ 34 ∷ 58 ∷ 34 ∷ []

-- whether bytes end with `}`
abbrev pub closes : List ℕ → Bool
closes bytes = slice_index bytes (length bytes - 1) == 125

-- a payload without the `}` at its end, if it has one
unfoldable pub begun : List ℕ → List ℕ
begun payload = if closes payload then take (length payload - 1) payload else payload

-- the `}` at its end, if it has one
unfoldable pub ended : List ℕ → List ℕ
ended payload = if closes payload then 125 ∷ [] else []

-- what the sum of a line is over, beside the sum before it: the payload but for the `}` at its end, and the numbers of the line and its batch
unfoldable pub summed : ℕ → List ℕ → List ℕ → List ℕ → List ℕ
summed number first last payload = begun payload ++ (batch_key ++ (decimal number ++ 44 ∷ (first ++ 44 ∷ last)))

-- the number after this one, of 64 bits
abbrev pub next_number : ℕ → ℕ
next_number n = if nat_lt n (2 ^ 64 - 1) then n + 1 else 0

-- the sum of a line that begins with these bytes, after a line with this sum. The `}` at its end isn't among the bytes: without it the sum is the
-- next number, so a line that has lost its `}` has another sum
unfoldable pub own_sum : ℕ → List ℕ → Bool → ℕ
own_sum before bytes closed = if closed then sum_after before bytes else next_number (sum_after before bytes)

-- the sum of a sealed line, after a line with this sum
abbrev pub sum_of : ℕ → ℕ → List ℕ → List ℕ → List ℕ → ℕ
sum_of before number first last payload = own_sum before (summed number first last payload) (closes payload)

-- a sealed line, after a line with this sum
unfoldable pub sealed_line : ℕ → ℕ → List ℕ → List ℕ → List ℕ → List ℕ
sealed_line before number first last payload =
    summed number first last payload ++ (sum_key ++ (hex 16 (sum_of before number first last payload) ++ 34 ∷ ended payload))
