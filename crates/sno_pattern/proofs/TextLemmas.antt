-- Texts hold ASCII characters alone, and ASCII characters within the limit are a text.
use Rattle.std.proofs.Common.{◌≡◌, ℕ, ◌+◌, ◌<◌, ◌≤◌, ◌&&◌, Bool, true, false, not, cond, List, [], ◌∷◌, length, nat_lt, Option, Some, None, Ok, Err, IsTrue, sym, refl, ap}
use Rattle.std.proofs.lemmas.Bool.{le-ltb, lt-ltb}
use Rattle.std.proofs.lemmas.List.Elements.{All-head, All-tail}
use Rattle.std.proofs.lemmas.Str.Ascii.{All-from_ascii}
use Rattle.std.specs.List.{All, list_all, position_from}
use Rattle.std.specs.Str.{IsAscii}
use Rattle.std.specs.Char.{is_ascii}
use Rattle.sno_pattern.specs.Texts.{first_non_ascii, ascii_or, text_of}
use Rattle.sno_pattern.specs.declared.texts.TextFault.TheVariants.{TooLong}
use Rattle.sno_pattern.specs.declared.texts.TheConstants.{MAX_TEXT}

-- one byte before bytes for which this is known
ascii_more : (v : Bool) (i : ℕ) (rest : Bool) (found : Option ℕ) → (found ≡ None → IsTrue rest) → cond (not v) (Some i) found ≡ None → IsTrue (v && rest)
ascii_more true i rest found more h = more h
ascii_more false i rest found more h = cc

-- if no byte above 127 is found, all are ASCII
all_ascii-from : (i : ℕ) (bytes : List ℕ) → position_from (λ b. not (is_ascii b)) i bytes ≡ None → IsTrue (list_all is_ascii bytes)
all_ascii-from i [] h = refl
all_ascii-from i (b ∷ bs) h = ascii_more (is_ascii b) i _ _ (all_ascii-from (i + 1) bs) h

pub all_ascii : (bytes : List ℕ) → None ≡ first_non_ascii bytes → IsTrue (list_all is_ascii bytes)
all_ascii bytes h = all_ascii-from 0 bytes (sym h)

-- the converse
none_more : (v : Bool) (i : ℕ) (rest : Bool) (found : Option ℕ) → (IsTrue rest → found ≡ None) → IsTrue (v && rest) → cond (not v) (Some i) found ≡ None
none_more true i rest found more h = more h
none_more false i rest found more h = cc

none_first : (v : Bool) (i : ℕ) (found : Option ℕ) → v ≡ true → found ≡ None → cond (not v) (Some i) found ≡ None
none_first true i found h none = none
none_first false i found h none = cc

none_from : (i : ℕ) (bytes : List ℕ) → IsTrue (list_all is_ascii bytes) → position_from (λ b. not (is_ascii b)) i bytes ≡ None
none_from i [] h = refl
none_from i (b ∷ bs) h = none_more (is_ascii b) i _ _ (none_from (i + 1) bs) h

-- what is ASCII has no byte above 127
pub none_non_ascii : (bytes : List ℕ) → IsTrue (list_all is_ascii bytes) → first_non_ascii bytes ≡ None
none_non_ascii bytes ascii = none_from 0 bytes ascii

below_none : (i : ℕ) (bytes : List ℕ) → All (λ b. b < 128) bytes → position_from (λ b. not (is_ascii b)) i bytes ≡ None
below_none i [] h = refl
below_none i (b ∷ bs) h =
    let ascii : is_ascii b ≡ true = lt-ltb b 128 (All-head (λ b. b < 128) b bs h) in
    none_first (is_ascii b) i _ ascii (below_none (i + 1) bs (All-tail (λ b. b < 128) b bs h))

-- if all bytes are below 128, no byte above 127 is found
pub ascii_none : (bytes : List ℕ) → IsAscii bytes → None ≡ first_non_ascii bytes
ascii_none bytes h = sym (below_none 0 bytes (All-from_ascii bytes h))

short_text : (long : Bool) (place : Option ℕ) (bytes : List ℕ) → long ≡ false → place ≡ None → cond long (Err TooLong) (ascii_or place bytes) ≡ Ok bytes
short_text true place bytes h g = cc
short_text false place bytes h g = ap (λ (o : Option ℕ). ascii_or o bytes) g

-- ASCII characters within the limit are a text
pub text_of_ascii : (bytes : List ℕ) → length bytes ≤ MAX_TEXT → IsTrue (list_all is_ascii bytes) → text_of bytes ≡ Ok bytes
text_of_ascii bytes short ascii = short_text (nat_lt MAX_TEXT (length bytes)) (first_non_ascii bytes) bytes (le-ltb MAX_TEXT (length bytes) short) (none_non_ascii bytes ascii)
