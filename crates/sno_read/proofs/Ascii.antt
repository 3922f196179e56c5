-- ASCII characters, and what texts are made of.
use Rattle.std.proofs.Common.{◌≡◌, ℕ, ◌≤◌, Bool, true, false, cond, List, ◌++◌, length, nat_lt, Option, Some, None, Ok, Err, IsTrue, refl, sym, ◌∙◌, arith}
use Rattle.std.specs.List.{list_all}
use Rattle.std.specs.Char.{is_ascii}
use Rattle.std.proofs.lemmas.Bool.{le-ltb, and_parts, and_from}
use Rattle.std.proofs.lemmas.List.Folds.{list_all-append}
use Rattle.sno_pattern.specs.Texts.{text_of, byte_text_of, first_non_ascii, ascii_or}
use Rattle.sno_pattern.specs.declared.texts.TextFault.TheVariants.{TooLong}
use Rattle.sno_pattern.proofs.TextLemmas.{text_of_ascii}

abbrev pub AreAscii : List ℕ → Type 0
AreAscii characters = IsTrue (list_all is_ascii characters)

-- characters that are short and ASCII are a text
pub text_ok : (bytes : List ℕ) → length bytes ≤ 4096 → IsTrue (list_all is_ascii bytes) → text_of bytes ≡ Ok bytes
text_ok bytes short ascii = text_of_ascii bytes (omega arith) ascii

ascii_same : (o : Option ℕ) (bytes t : List ℕ) → Ok t ≡ ascii_or o bytes → t ≡ bytes
ascii_same None bytes t h = cc
ascii_same (Some i) bytes t h = cc

short_same : (long : Bool) (o : Option ℕ) (bytes t : List ℕ) → Ok t ≡ cond long (Err TooLong) (ascii_or o bytes) → t ≡ bytes
short_same true o bytes t h = cc
short_same false o bytes t h = ascii_same o bytes t h

-- a text is the characters that it is made of
pub text_is : (bytes t : List ℕ) → Ok t ≡ text_of bytes → t ≡ bytes
text_is bytes t h = short_same (nat_lt 65536 (length bytes)) (first_non_ascii bytes) bytes t h

-- bytes that are short are a text of bytes
pub bytes_ok : (bytes : List ℕ) → length bytes ≤ 4096 → byte_text_of bytes ≡ Ok bytes
bytes_ok bytes short = let few : nat_lt 16777216 (length bytes) ≡ false = le-ltb _ _ (omega arith) in rw few refl

parts : (x y : List ℕ) → AreAscii (x ++ y) → AreAscii x × AreAscii y
parts x y h = and_parts (list_all is_ascii x) (list_all is_ascii y) (sym (list_all-append is_ascii x y) ∙ h)

pub ascii_front : (x y : List ℕ) → AreAscii (x ++ y) → AreAscii x
ascii_front x y h = (parts x y h).0

pub ascii_behind : (x y : List ℕ) → AreAscii (x ++ y) → AreAscii y
ascii_behind x y h = (parts x y h).1

pub ascii_joined : (x y : List ℕ) → AreAscii x → AreAscii y → AreAscii (x ++ y)
ascii_joined x y h g = list_all-append is_ascii x y ∙ and_from (list_all is_ascii x) (list_all is_ascii y) h g
