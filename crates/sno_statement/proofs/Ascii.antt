-- The parts from which texts are joined are ASCII.
use Rattle.std.proofs.Common.{◌≡◌, ℕ, suc, ◌-◌, ◌≤◌, ◌<◌, ◌^◌, true, ◌&&◌, List, [], ◌∷◌, ◌++◌, length, take, drop, Ok, Err, IsTrue, refl, sym, ◌∙◌, ap, arith, ◌⊎◌, inl, inr}
use Rattle.std.specs.List.{list_all}
use Rattle.std.specs.Char.{is_ascii}
use Rattle.std.specs.Str.{IsAscii}
use Rattle.std.specs.Fmt.{decimal}
use Rattle.std.proofs.lemmas.Fmt.{IsAscii-decimal}
use Rattle.std.proofs.lemmas.Bool.{and_from, and_parts, lt-ltb, cases_lt}
use Rattle.std.proofs.lemmas.List.{length-drop, length-take, take-append-drop}
use Rattle.std.proofs.lemmas.List.Folds.{list_all-append}
use Rattle.sno_pattern.specs.Texts.{text_of}
use Rattle.sno_pattern.specs.declared.texts.TextFault.{TextFault}
use Rattle.sno_pattern.specs.Ends.{part}
use Rattle.sno_pattern.proofs.TextLemmas.{text_of_ascii}

abbrev pub AreAscii : List ℕ → Type 0
AreAscii bytes = IsTrue (list_all is_ascii bytes)

pub ascii_append : (xs ys : List ℕ) → AreAscii xs → AreAscii ys → AreAscii (xs ++ ys)
ascii_append xs ys h g = list_all-append is_ascii xs ys ∙ and_from (list_all is_ascii xs) (list_all is_ascii ys) h g

parts : (n : ℕ) (xs : List ℕ) → AreAscii xs → (list_all is_ascii (take n xs) && list_all is_ascii (drop n xs)) ≡ true
parts n xs h = sym (list_all-append is_ascii (take n xs) (drop n xs)) ∙ ap (list_all is_ascii) (take-append-drop n xs) ∙ h

pub ascii_take : (n : ℕ) (xs : List ℕ) → AreAscii xs → AreAscii (take n xs)
ascii_take n xs h = (and_parts _ _ (parts n xs h)).0

pub ascii_drop : (n : ℕ) (xs : List ℕ) → AreAscii xs → AreAscii (drop n xs)
ascii_drop n xs h = (and_parts _ _ (parts n xs h)).1

pub ascii_part : (t : List ℕ) (from to : ℕ) → AreAscii t → AreAscii (part t from to)
ascii_part t from to h = ascii_take (to - from) (drop from t) (ascii_drop from t h)

-- a part of a short text is short
pub short_part : (n : ℕ) (t : List ℕ) (from to : ℕ) → length t ≤ n → length (part t from to) ≤ n
short_part n t from to h = let few = length-take (to - from) (drop from t) in let fewer = length-drop from t in omega (arith, few, fewer, h)

ascii_code : (b : ℕ) → b < 128 → is_ascii b ≡ true
ascii_code b h = lt-ltb b 128 h

pub ascii_from_index : (bytes : List ℕ) → IsAscii bytes → AreAscii bytes
ascii_from_index [] h = refl
ascii_from_index (b ∷ bs) h = and_from (is_ascii b) (list_all is_ascii bs) (ascii_code b (h 0)) (ascii_from_index bs (λ i. h (suc i)))

pub ascii_decimal : (n : ℕ) → n < 2 ^ 32 → AreAscii (decimal n)
ascii_decimal n h = ascii_from_index (decimal n) (IsAscii-decimal n (omega arith))

-- ASCII characters are refused as a text only if they are too many
pub refused_is_long : (v : List ℕ) (e : TextFault) → Err e ≡ text_of v → AreAscii v → 65536 < length v
refused_is_long v e refused ascii = by_length v e refused ascii (cases_lt 65536 (length v))
  where
    by_length : (v : List ℕ) (e : TextFault) → Err e ≡ text_of v → AreAscii v → (65536 < length v) ⊎ (length v ≤ 65536) → 65536 < length v
    by_length v e refused ascii (inl many) = many
    by_length v e refused ascii (inr few) = let fine : text_of v ≡ Ok v = text_of_ascii v few ascii in cc
