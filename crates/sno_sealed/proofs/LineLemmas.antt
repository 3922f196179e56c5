-- Sealed lines are lines.
use Rattle.std.proofs.Common.{◌≡◌, inl, inr, refl, sym, ◌∙◌, ap, arith, subst, ℕ, zero, suc, ◌+◌, ◌-◌, ◌%◌, ◌/◌, ◌<◌, ◌≤◌, ◌^◌, Bool, true, false, List, [], ◌∷◌, ◌++◌, append_assoc, length, length-append, take, slice_index, nat_lt, ◌==◌, decimal}
use Rattle.std.proofs.lemmas.Bool.{cases_Bool, cases_eq, eqb-true}
use Rattle.std.specs.Str.Parse.{AllDigits}
use Rattle.std.proofs.lemmas.Bool.Decides.{nat_tests}
use Rattle.std.proofs.lemmas.Fmt.{decimal_is_IsNumeral}
use Rattle.sno_store.specs.Lines.{bytes_of, recovered, IsLine, IsPlain}
use Rattle.sno_store.specs.Faults.{IsCause}
use Rattle.sno_sealed.specs.Seals.{batch_key, begun, closes, ended, hex, hex_digit, sealed_line, sum_of, sum_key, summed}

pub fewer : (lines : List (List ℕ)) → length lines ≤ length (bytes_of lines)
fewer [] = omega arith
fewer (line ∷ lines) = omega (arith, fewer lines, length-append line (10 ∷ bytes_of lines))

pub plain_append : (a b : List ℕ) → IsPlain a → IsPlain b → IsPlain (a ++ b)
plain_append [] b one two = two
plain_append (x ∷ a) b one two = (one.0, one.1, plain_append a b one.2 two)

pub line_append : (a b : List ℕ) → IsLine a → IsPlain b → IsLine (a ++ b)
line_append [] b one two = absurd one
line_append (x ∷ a) b one two = (one.0, plain_append a b one.1 two)

-- in a plain text there is neither a line feed nor a NUL
pub nowhere : (xs : List ℕ) → IsPlain xs → (k : ℕ) → k < length xs → (slice_index xs k ≡ 10 → ⊥) × (slice_index xs k ≡ 0 → ⊥)
nowhere [] is k low = absurd (omega arith)
nowhere (x ∷ xs) is zero low = (λ same. let e : false ≡ true = sym is.0 ∙ rw same refl in absurd (cc), λ same. let e : false ≡ true = sym is.1 ∙ rw same refl in absurd (cc))
nowhere (x ∷ xs) is (suc k) low = nowhere xs is.2 k (omega arith)

pub plain_line : (line : List ℕ) → IsLine line → IsPlain line
plain_line [] is = absurd is
plain_line (x ∷ line) is = (rw is.0 refl, rw is.0 refl, is.1)

-- ---- numbers

pub digits_plain : (xs : List ℕ) → AllDigits 10 xs → IsPlain xs
digits_plain [] are = tt
digits_plain (x ∷ xs) are = (
  elim (cases_Bool (x == 10)) [ inl same ↦ absurd (omega (arith, rw (eqb-true x 10 same) at are.0)) | inr other ↦ other ],
  elim (cases_Bool (x == 0)) [ inl same ↦ absurd (omega (arith, rw (eqb-true x 0 same) at are.0)) | inr other ↦ other ],
  digits_plain xs are.1,
)

pub decimal_plain : (n : ℕ) → n < 2 ^ 64 → IsPlain (decimal n)
decimal_plain n low = digits_plain (decimal n) (decimal_is_IsNumeral n low).0.1

digit_plain : (d : ℕ) → ((hex_digit d == 10) ≡ false) × ((hex_digit d == 0) ≡ false)
digit_plain d = elim (cases_Bool (nat_lt d 10)) [
  | inl low ↦ rw low (grind (arith, nat_tests), grind (arith, nat_tests))
  | inr high ↦ rw high (grind (arith, nat_tests), grind (arith, nat_tests))
]

pub hex_plain : (k n : ℕ) → IsPlain (hex k n)
hex_plain zero n = tt
hex_plain (suc k) n = let d = digit_plain (n % 16) in plain_append (hex k (n / 16)) (hex_digit (n % 16) ∷ []) (hex_plain k (n / 16)) (d.0, d.1, tt)

-- ---- a sealed line

take_plain : (k : ℕ) (xs : List ℕ) → IsPlain xs → IsPlain (take k xs)
take_plain zero xs is = tt
take_plain (suc k) [] is = tt
take_plain (suc k) (x ∷ xs) is = (is.0, is.1, take_plain k xs is.2)

pub begun_line : (p : List ℕ) → IsLine p → IsLine (begun p)
unfolding begun
begun_line [] is = absurd is
begun_line (x ∷ []) is = rw is.0 (refl, tt)
begun_line (x ∷ y ∷ p) is = elim (cases_Bool (closes (x ∷ y ∷ p))) [
  | inl shut ↦ rw shut (let e : length (x ∷ y ∷ p) - 1 ≡ suc (length p) = omega arith in rw e (is.0, take_plain (length p) (y ∷ p) is.1))
  | inr open' ↦ rw open' is
]

pub ended_plain : (p : List ℕ) → IsPlain (ended p)
unfolding ended
ended_plain p = elim (cases_Bool (closes p)) [ inl shut ↦ rw shut (refl, refl, tt) | inr open' ↦ rw open' tt ]

pub sealed_is_line : (before number : ℕ) (first last p : List ℕ) → number < 2 ^ 64 → IsPlain first → IsPlain last → IsLine p → IsLine (sealed_line before number first last p)
unfolding sealed_line summed
sealed_is_line before number first last p low one two is =
    let numbers = plain_append batch_key (decimal number ++ 44 ∷ (first ++ 44 ∷ last)) (refl, refl, (refl, refl, (refl, refl, (refl, refl, (refl, refl, (refl, refl, (refl, refl, (refl, refl, (refl, refl, (refl, refl, tt))))))))))
    (plain_append (decimal number) (44 ∷ (first ++ 44 ∷ last)) (decimal_plain number low) (refl, refl, plain_append first (44 ∷ last) one (refl, refl, two))) in
    let s = summed number first last p in
    let rest = hex 16 (sum_of before number first last p) in
    line_append s (sum_key ++ (rest ++ 34 ∷ ended p)) (line_append (begun p) (batch_key ++ (decimal number ++ 44 ∷ (first ++ 44 ∷ last))) (begun_line p is) numbers)
    (plain_append sum_key (rest ++ 34 ∷ ended p) (refl, refl, (refl, refl, (refl, refl, (refl, refl, (refl, refl, (refl, refl, (refl, refl, (refl, refl, (refl, refl, tt)))))))))
    (plain_append rest (34 ∷ ended p) (hex_plain 16 (sum_of before number first last p)) (refl, refl, ended_plain p)))
