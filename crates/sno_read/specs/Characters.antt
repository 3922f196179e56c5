-- Characters, runs of them, and how a text continues.
use Rattle.std.specs.Prelude.{ℕ, Bool, false, not, ◌&&◌, ◌||◌, ◌+◌, ◌-◌, ◌*◌, List, [], ◌∷◌, length, take, drop, nat_eq, nat_lt, Option, Some, None, if◌then◌else◌}
use Rattle.std.specs.List.{prefix_len}
use Rattle.sno_pattern.specs.Identifiers.{is_letter}
use Rattle.sno_read.specs.Signs.{tab, space, double_quote, dollar, single_quote, open_parenthesis, close_parenthesis, asterisk, period, digit_zero, at_sign, bar}
use Rattle.sno_read.specs.declared.characters.Start.{Start}
use Rattle.sno_read.specs.declared.characters.Start.TheVariants as start
use Rattle.sno_read.specs.declared.characters.Following.{Following}
use Rattle.sno_read.specs.declared.characters.Following.TheVariants as follows
use Rattle.sno_read.specs.declared.characters.TheConstants.{MAX_NUMBER}

-- a space or a tab
abbrev pub is_blank : ℕ → Bool
is_blank c = nat_eq c space || nat_eq c tab

-- a single or a double quote
abbrev pub is_quote : ℕ → Bool
is_quote c = nat_eq c single_quote || nat_eq c double_quote

-- the quote that the text begins with
abbrev pub quote_of : List ℕ → Option ℕ
quote_of [] = None
quote_of (c ∷ cs) = if is_quote c then Some c else None

-- any character but this one
abbrev pub is_other : ℕ → ℕ → Bool
is_other q c = not (nat_eq c q)

-- the longest run of characters that pass, from the start of the text, and the text after it
abbrev pub front : (ℕ → Bool) → List ℕ → List ℕ
front p text = take (prefix_len p text) text

abbrev pub rest_after : (ℕ → Bool) → List ℕ → List ℕ
rest_after p text = drop (prefix_len p text) text

-- the text after its blanks
abbrev pub skip : List ℕ → List ℕ
skip text = rest_after is_blank text

-- whether the text begins with a character that passes
abbrev pub begins : (ℕ → Bool) → List ℕ → Bool
begins p [] = false
begins p (c ∷ cs) = p c

-- the value of further digits after digits of value n, if it is at most 65,536
unfoldable pub number_from : ℕ → List ℕ → Option ℕ
number_from n [] = Some n
number_from n (d ∷ ds) = if nat_lt MAX_NUMBER (n * 10 + (d - digit_zero)) then None else number_from (n * 10 + (d - digit_zero)) ds

-- the value of digits, if there is one and it is at most 65,536
abbrev pub value_of : List ℕ → Option ℕ
value_of ds = if nat_eq (length ds) 0 then None else number_from 0 ds

-- what kind of element begins here
unfoldable pub start_of : List ℕ → Start
start_of [] = start.Other
start_of (c ∷ cs) =
    if is_quote c then start.Quote
    else (if nat_eq c at_sign then start.At
    else (if nat_eq c asterisk then start.Star
    else (if nat_eq c open_parenthesis then start.Open
    else (if is_letter c then start.Letter
    else start.Other))))

-- what the first character after blanks says of what follows
unfoldable pub sign_of : List ℕ → Following
sign_of [] = follows.Nothing
sign_of (c ∷ cs) =
    if nat_eq c close_parenthesis then follows.Nothing
    else (if nat_eq c period then follows.Dot
    else (if nat_eq c dollar then follows.Dollar
    else (if nat_eq c bar then follows.Bar
    else follows.Item)))

-- what follows an item: it needs blanks before it
unfoldable pub what_follows : List ℕ → Following
what_follows text = if begins is_blank text then sign_of (skip text) else follows.Nothing

-- whether another literal of a set comes: it needs blanks before it
unfoldable pub goes_on : List ℕ → Bool
goes_on text = begins is_blank text && begins is_quote (skip text)
