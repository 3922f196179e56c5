-- Where the parts of a line are: a line is split at signs that are in no quotes.
use Rattle.std.specs.Prelude.{ℕ, suc, ◌-◌, ◌+◌, Bool, true, false, not, ◌&&◌, ◌||◌, List, [], ◌∷◌, length, take, drop, nat_eq, Option, Some, None, Result, Ok, Err, codes, if◌then◌else◌, ◌≡◌}
use Rattle.std.specs.Option.{option_map}
use Rattle.std.specs.Cmp.Lexicographic.{pointwise}
use Rattle.std.specs.List.{prefix_len, suffix_len}
use Rattle.sno_rules.specs.declared.faults.LineFault.{LineFault}
use Rattle.sno_rules.specs.declared.faults.LineFault.TheVariants as fault
use Rattle.sno_rules.specs.declared.fields.Fields.{Fields as StoredFields}

-- a space or a tab
abbrev pub is_blank : ℕ → Bool
is_blank c = nat_eq c 32 || nat_eq c 9

-- a single or a double quote
abbrev pub is_quote : ℕ → Bool
is_quote c = nat_eq c 39 || nat_eq c 34

-- In which quotes the character after this one is, 0 if in none. Only the quote that opened them closes them.
abbrev pub quote_after : ℕ → ℕ → ℕ
quote_after quote c = if nat_eq quote 0 then (if is_quote c then c else 0) else (if nat_eq c quote then 0 else quote)

-- how many characters come before the first sign that is in no quotes; all of them if there is none
unfoldable pub before_sign : ℕ → ℕ → List ℕ → ℕ
before_sign sign quote [] = 0
before_sign sign quote (c ∷ cs) = if nat_eq quote 0 && nat_eq c sign then 0 else suc (before_sign sign (quote_after quote c) cs)

-- what comes before that sign, and the text from it on
abbrev pub front_of : ℕ → List ℕ → List ℕ
front_of sign text = take (before_sign sign 0 text) text

abbrev pub rest_of : ℕ → List ℕ → List ℕ
rest_of sign text = drop (before_sign sign 0 text) text

-- the text without the blanks at its front, and without those at its ends
abbrev pub without_front : List ℕ → List ℕ
without_front text = drop (prefix_len is_blank text) text

abbrev pub without_end : List ℕ → List ℕ
without_end text = take (length text - suffix_len is_blank text) text

abbrev pub trimmed : List ℕ → List ℕ
trimmed text = without_end (without_front text)

abbrev pub is_solid : ℕ → Bool
is_solid c = not (is_blank c)

-- the characters before the first blank, and what comes after them
abbrev pub word_of : List ℕ → List ℕ
word_of text = take (prefix_len is_solid text) text

abbrev pub argument_of : List ℕ → List ℕ
argument_of text = trimmed (drop (prefix_len is_solid text) text)

-- how many characters come before this quote
abbrev pub before_quote : ℕ → List ℕ → ℕ
before_quote quote text = prefix_len (λ c. not (nat_eq c quote)) text

-- the characters of a text that is one quotation
abbrev pub unquoted : List ℕ → Option (List ℕ)
unquoted [] = None
unquoted (q ∷ rest) = if is_quote q && nat_eq (before_quote q rest + 1) (length rest) then Some (take (before_quote q rest) rest) else None

-- the object, if there is a sign before it
abbrev pub object_in : List ℕ → Option (List ℕ)
object_in [] = None
object_in (sign ∷ object) = Some object

-- what the fields of a rule say: whether it is for the first match alone, whether it is anchored, how often it is repeated, and
-- for which file it is
pub record Fields : Type 0 where
  pub first : Bool
  pub anchored : Bool
  pub repeat : Option (List ℕ)
  pub text : Option (List ℕ)

abbrev pub no_fields : Fields
no_fields = record { first = false; anchored = false; repeat = None; text = None }

abbrev pub fields_seen : StoredFields → Fields
fields_seen f = record { first = f.first; anchored = f.anchored; repeat = option_map (λ s. s.now) f.repeat; text = option_map (λ s. s.now) f.text }

-- the same characters
abbrev pub same : List ℕ → List ℕ → Bool
same s t = pointwise nat_eq s t

-- no characters
abbrev pub is_nothing : List ℕ → Bool
is_nothing s = nat_eq (length s) 0

-- `in` and a quotation
abbrev pub with_text : Fields → LineFault → Option (List ℕ) → Result Fields LineFault
with_text f unknown None = Err unknown
with_text f unknown (Some name) = Ok (record { first = f.first; anchored = f.anchored; repeat = f.repeat; text = Some name })

-- one more field, by its word and what comes after that
abbrev pub with_word : Fields → LineFault → List ℕ → List ℕ → Result Fields LineFault
with_word f unknown word argument =
    if same word (codes "first") && is_nothing argument then Ok (record { first = true; anchored = f.anchored; repeat = f.repeat; text = f.text })
    else if same word (codes "anchored") && is_nothing argument then Ok (record { first = f.first; anchored = true; repeat = f.repeat; text = f.text })
    else if same word (codes "repeat") && not (is_nothing argument) then Ok (record { first = f.first; anchored = f.anchored; repeat = Some argument; text = f.text })
    else if same word (codes "in") then with_text f unknown (unquoted argument)
    else Err unknown

abbrev pub with_field : Fields → ℕ → List ℕ → Result Fields LineFault
with_field f place field = with_word f (fault.UnknownField place) (word_of (trimmed field)) (argument_of (trimmed field))

abbrev pub Gives : Result StoredFields LineFault → Result Fields LineFault → Type 0
Gives (Ok f) wanted = wanted ≡ Ok (fields_seen f)
Gives (Err e) wanted = wanted ≡ Err e
