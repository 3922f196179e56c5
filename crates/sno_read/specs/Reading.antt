-- Reading a pattern from left to right, with the first fault that is met.
use Rattle.std.specs.Prelude.{◌≡◌, ℕ, zero, suc, ◌-◌, ◌<◌, Bool, true, false, ◌||◌, List, ◌++◌, length, drop, nat_eq, nat_lt, Option, Some, None, Result, Ok, Err, if◌then◌else◌}
use Rattle.std.specs.Option.{is_some}
use Rattle.std.specs.List.{prefix_len}
use Rattle.std.specs.Char.{is_ascii_digit}
use Rattle.sno_pattern.specs.Identifiers.{is_letter, is_name_char, is_reserved, name_of}
use Rattle.sno_pattern.specs.NameList.{place_of}
use Rattle.sno_pattern.specs.Tree as tree
use Rattle.sno_pattern.specs.Tree.{Tree}
use Rattle.sno_read.specs.declared.faults.ReadFault.{ReadFault}
use Rattle.sno_read.specs.declared.faults.ReadFault.TheVariants as fault
use Rattle.sno_read.specs.declared.characters.Start.{Start}
use Rattle.sno_read.specs.declared.characters.Start.TheVariants as start
use Rattle.sno_read.specs.declared.characters.Following.{Following}
use Rattle.sno_read.specs.declared.characters.Following.TheVariants as follows
use Rattle.sno_read.specs.declared.keywords.Keyword.{Keyword}
use Rattle.sno_read.specs.declared.keywords.Keyword.TheVariants.{Primitive, Counted, Chosen, Repeated}
use Rattle.sno_read.specs.declared.keywords.NumberCall.{NumberCall}
use Rattle.sno_read.specs.declared.keywords.SetCall.{SetCall}
use Rattle.sno_pattern.specs.Texts.{first_non_ascii}
use Rattle.sno_read.specs.Depth.{depth}
use Rattle.sno_read.specs.Signs.{open_parenthesis, close_parenthesis}
use Rattle.sno_read.specs.Gives.{◌>>=◌, found_or}
use Rattle.sno_read.specs.Keywords.{keyword_of, word_tree, number_tree, set_tree}
use Rattle.sno_read.specs.Characters.{is_blank, is_other, quote_of, front, rest_after, skip, begins, value_of, start_of, what_follows, goes_on}
use Rattle.sno_read.specs.declared.reading.TheConstants.{MAX_WRITTEN, MAX_OPEN, MAX_DEPTH}

-- What is needed to read a text: the names of the definitions, how many of them a plain name may name, the text's length, and
-- whether it is of a rule for files.
pub record Env : Type 0 where
  pub names : List (List ℕ)
  pub earlier : ℕ
  pub total : ℕ
  pub in_rule : Bool

-- what was read, and the text after it; or the first fault
abbrev pub Read : Type 0 → Type 0
Read A = Result (A × List ℕ) ReadFault

-- the place where this rest of the text begins
abbrev pub place : Env → List ℕ → ℕ
place env text = env.total - length text

-- what comes before the closing quote, and what comes after it
abbrev pub literal_by : ReadFault → ℕ → List ℕ → Read (List ℕ)
literal_by unclosed q text = if nat_lt (prefix_len (is_other q) text) (length text) then Ok (front (is_other q) text, drop 1 (rest_after (is_other q) text)) else Err unclosed

-- the characters of a literal, from its opening quote
unfoldable pub literal_at : Env → List ℕ → Read (List ℕ)
literal_at env text = do
  q ← found_or (fault.Unexpected (place env text)) (quote_of text)
  literal_by (fault.OpenQuote (place env text)) q (drop 1 text)

-- a literal that was read, unless it has a byte above 127; `inside` is the text from its characters on
abbrev pub unless_above : Env → List ℕ → List ℕ × List ℕ → Option ℕ → Read (List ℕ)
unless_above env inside s None = Ok s
unless_above env inside s (Some i) = Err (fault.NonAscii (place env (drop i inside)))

-- a literal of ASCII characters, as sets have them
unfoldable pub ascii_literal_at : Env → List ℕ → Read (List ℕ)
ascii_literal_at env text = do
  s ← literal_at env text
  unless_above env (drop 1 text) s (first_non_ascii s.0)

-- one literal, and the literals after it if there are more
abbrev pub literals_by : (List ℕ → Read (List ℕ)) → List ℕ × List ℕ → Bool → Read (List ℕ)
literals_by more s true = more (skip s.1) >>= λ u. Ok (s.0 ++ u.0, u.1)
literals_by more s false = Ok s

-- literals with blanks between them, joined; the number bounds how many there are
unfoldable pub literals_at : Env → ℕ → List ℕ → Read (List ℕ)
literals_at env zero text = Err (fault.Unexpected (place env text))
literals_at env (suc n) text = ascii_literal_at env text >>= λ s. literals_by (literals_at env n) s (goes_on s.1)

-- members that were read, if there is at least one
abbrev pub unless_empty : ReadFault → List ℕ × List ℕ → Read (List ℕ)
unless_empty empty s = if nat_eq (length s.0) 0 then Err empty else Ok s

-- the members of a set: those of one literal, and in a rule those of one or more
unfoldable pub set_at : Env → List ℕ → Read (List ℕ)
set_at env text = (if env.in_rule then literals_at env (suc (length text)) text else ascii_literal_at env text) >>= unless_empty (fault.EmptySet (place env text))

-- the number of all the digits that begin here
unfoldable pub number_at : Env → List ℕ → Read ℕ
number_at env text = do
  n ← found_or (fault.BadNumber (place env text)) (value_of (front is_ascii_digit text))
  Ok (n, rest_after is_ascii_digit text)

-- the longest name that begins here
unfoldable pub name_at : Env → List ℕ → Read (List ℕ)
name_at env text =
    if begins is_letter text
    then (do
      name ← found_or (fault.TooLong (place env text)) (name_of (front is_name_char text))
      Ok (name, rest_after is_name_char text))
    else Err (fault.Unexpected (place env text))

-- the name of a variable
unfoldable pub variable_at : Env → List ℕ → Read (List ℕ)
variable_at env text = do
  name ← name_at env text
  if is_reserved name.0 || is_some (place_of env.names name.0) then Err (fault.ReservedTarget (place env text)) else Ok name

-- an opening parenthesis and blanks, if more may be opened; the number is how many more
unfoldable pub opening_at : Env → ℕ → List ℕ → Result (List ℕ) ReadFault
opening_at env room text =
    if begins (λ c. nat_eq c open_parenthesis) text
    then (if nat_eq room 0 then Err (fault.TooDeep (place env text)) else Ok (skip (drop 1 text)))
    else Err (fault.Unexpected (place env text))

-- blanks and a closing parenthesis
unfoldable pub closing_at : Env → List ℕ → Result (List ℕ) ReadFault
closing_at env text = if begins (λ c. nat_eq c close_parenthesis) (skip text) then Ok (drop 1 (skip text)) else Err (fault.Unexpected (place env (skip text)))

-- blanks, at least one
unfoldable pub blanks_at : Env → List ℕ → Result (List ℕ) ReadFault
blanks_at env text = if begins is_blank text then Ok (skip text) else Err (fault.Unexpected (place env text))

-- `@` and a variable
unfoldable pub cursor_at : Env → List ℕ → Read Tree
cursor_at env text = do
  name ← variable_at env (drop 1 text)
  Ok (tree.At name.0, name.1)

-- `*` and the name of a definition
unfoldable pub reference_at : Env → List ℕ → Read Tree
reference_at env text = do
  name ← name_at env (drop 1 text)
  i ← found_or (fault.UnknownName (place env (drop 1 text))) (place_of env.names name.0)
  Ok (tree.Ref i, name.1)

-- the number, if it is below n
abbrev pub below : ℕ → Option ℕ → Option ℕ
below n None = None
below n (Some i) = if nat_lt i n then Some i else None

-- the number of the earlier definition that a plain name names
unfoldable pub plain_of : Env → ReadFault → List ℕ → Result ℕ ReadFault
plain_of env unknown name = found_or unknown (below env.earlier (place_of env.names name))

-- a number in parentheses, after the name of its call
unfoldable pub number_call_at : Env → ℕ → NumberCall → List ℕ → Read Tree
number_call_at env room call text = do
  a ← opening_at env room text
  n ← number_at env a
  b ← closing_at env n.1
  Ok (number_tree call n.0, b)

-- a set in parentheses, after the name of its call
unfoldable pub set_call_at : Env → ℕ → SetCall → List ℕ → Read Tree
set_call_at env room call text = do
  a ← opening_at env room text
  s ← set_at env a
  b ← closing_at env s.1
  Ok (set_tree call s.0, b)

-- an alternation in parentheses, which `inside` reads
unfoldable pub group_at : Env → ℕ → (List ℕ → Read Tree) → List ℕ → Read Tree
group_at env room inside text = do
  a ← opening_at env room text
  x ← inside a
  b ← closing_at env x.1
  Ok (x.0, b)

unfoldable pub repetition_at : Env → ℕ → (List ℕ → Read Tree) → List ℕ → Read Tree
repetition_at env room inside text = do
  x ← group_at env room inside text
  Ok (tree.Arbno x.0, x.1)

-- what a name that was read begins
abbrev pub from_name : Env → ℕ → (List ℕ → Read Tree) → ReadFault → List ℕ × List ℕ → Option Keyword → Read Tree
from_name env room inside unknown name None = plain_of env unknown name.0 >>= λ i. Ok (tree.Ref i, name.1)
from_name env room inside unknown name (Some (Primitive w)) = Ok (word_tree w, name.1)
from_name env room inside unknown name (Some (Counted call)) = number_call_at env room call name.1
from_name env room inside unknown name (Some (Chosen call)) = set_call_at env room call name.1
from_name env room inside unknown name (Some Repeated) = repetition_at env room inside name.1

unfoldable pub from_name_at : Env → ℕ → (List ℕ → Read Tree) → List ℕ → Read Tree
from_name_at env room inside text = do
  name ← name_at env text
  from_name env room inside (fault.UnknownName (place env text)) name (keyword_of name.0)

unfoldable pub quotation_at : Env → List ℕ → Read Tree
quotation_at env text = do
  s ← literal_at env text
  Ok (tree.Lit s.0, s.1)

-- an element, by how it begins
abbrev pub element_by : Env → ℕ → (List ℕ → Read Tree) → List ℕ → Start → Read Tree
element_by env room inside text start.Quote = quotation_at env text
element_by env room inside text start.At = cursor_at env text
element_by env room inside text start.Star = reference_at env text
element_by env room inside text start.Open = group_at env room inside text
element_by env room inside text start.Letter = from_name_at env room inside text
element_by env room inside text start.Other = Err (fault.Unexpected (place env text))

unfoldable pub element_at : Env → ℕ → (List ℕ → Read Tree) → List ℕ → Read Tree
element_at env room inside text = element_by env room inside text (start_of text)

-- the rest after blanks, a sign and blanks again
unfoldable pub sign_at : Env → List ℕ → Result (List ℕ) ReadFault
sign_at env text = blanks_at env (drop 1 (skip text))

-- one target, if there is one, and then more
abbrev pub target_by : Env → (Tree → List ℕ → Read Tree) → Tree → List ℕ → Following → Read Tree
target_by env more t text follows.Dot = sign_at env text >>= λ a. variable_at env a >>= λ v. more (tree.Cond t v.0) v.1
target_by env more t text follows.Dollar = sign_at env text >>= λ a. variable_at env a >>= λ v. more (tree.Imm t v.0) v.1
target_by env more t text _ = Ok (t, text)

-- the targets of a tree; the number bounds how many there are
unfoldable pub targets_at : Env → ℕ → Tree → List ℕ → Read Tree
targets_at env zero t text = Err (fault.Unexpected (place env text))
targets_at env (suc n) t text = target_by env (targets_at env n) t text (what_follows text)

unfoldable pub item_at : Env → ℕ → (List ℕ → Read Tree) → List ℕ → Read Tree
item_at env room inside text = do
  x ← element_at env room inside text
  targets_at env (suc (length x.1)) x.0 x.1

-- one item, and the items after it if there are more
abbrev pub item_by : (List ℕ → Read Tree) → Tree × List ℕ → Following → Read Tree
item_by more x follows.Item = more (skip x.1) >>= λ y. Ok (tree.Seq x.0 y.0, y.1)
item_by more x _ = Ok x

-- the items of a concatenation; the number bounds how many there are
unfoldable pub items_at : Env → (List ℕ → Read Tree) → ℕ → List ℕ → Read Tree
items_at env item zero text = Err (fault.Unexpected (place env text))
items_at env item (suc n) text = item text >>= λ x. item_by (items_at env item n) x (what_follows x.1)

-- one part, and the parts after it if there are more
abbrev pub next_part_by : Env → (List ℕ → Read Tree) → Tree × List ℕ → Following → Read Tree
next_part_by env more x follows.Bar = sign_at env x.1 >>= λ a. more a >>= λ y. Ok (tree.Alt x.0 y.0, y.1)
next_part_by env more x _ = Ok x

-- the parts of an alternation; the number bounds how many there are
unfoldable pub parts_at : Env → (List ℕ → Read Tree) → ℕ → List ℕ → Read Tree
parts_at env part zero text = Err (fault.Unexpected (place env text))
parts_at env part (suc n) text = part text >>= λ x. next_part_by env (parts_at env part n) x (what_follows x.1)

-- the functions below are those above, with a number of parentheses that may still be opened
unfoldable pub concatenation_at : Env → ℕ → (List ℕ → Read Tree) → List ℕ → Read Tree
concatenation_at env room inside text = items_at env (item_at env room inside) (suc (length text)) text

unfoldable pub alternation_at : Env → ℕ → (List ℕ → Read Tree) → List ℕ → Read Tree
alternation_at env room inside text = parts_at env (concatenation_at env room inside) (suc (length text)) text

-- what is in parentheses, once they are open
unfoldable pub inside : Env → ℕ → List ℕ → Read Tree
inside env zero text = Err (fault.TooDeep (place env text))
inside env (suc k) text = alternation_at env k (inside env k) text

-- the end of the text
unfoldable pub end_at : Env → List ℕ → Result ℕ ReadFault
end_at env text = if nat_eq (length text) 0 then Ok 0 else Err (fault.Unexpected (place env text))

-- a tree that isn't too deep
unfoldable pub unless_too_deep : Env → Tree → Result Tree ReadFault
unless_too_deep env t = if nat_lt MAX_DEPTH (depth t) then Err (fault.TooDeep env.total) else Ok t

-- a whole text
unfoldable pub whole_of : Env → List ℕ → Result Tree ReadFault
whole_of env text =
    if nat_eq (length (skip text)) 0 then Err (fault.Empty env.total)
    else (do
      x ← alternation_at env MAX_OPEN (inside env MAX_OPEN) (skip text)
      end ← end_at env (skip x.1)
      unless_too_deep env x.0)

abbrev pub ascii_only : Option ℕ → List ℕ → Result (List ℕ) ReadFault
ascii_only None text = Ok text
ascii_only (Some i) text = Err (fault.NonAscii i)

-- a text that is short
abbrev pub short_text : List ℕ → Result (List ℕ) ReadFault
short_text text = if nat_lt MAX_WRITTEN (length text) then Err (fault.TooLong MAX_WRITTEN) else Ok text

-- a text that is short and ASCII
abbrev pub short_ascii : List ℕ → Result (List ℕ) ReadFault
short_ascii text = if nat_lt MAX_WRITTEN (length text) then Err (fault.TooLong MAX_WRITTEN) else ascii_only (first_non_ascii text) text

-- A text that is short and ASCII, and not blanks alone. For any other, the result is found before memory is needed.
abbrev pub AsksForMemory : List ℕ → Type 0
AsksForMemory text = (short_ascii text ≡ Ok text) × (0 < length (skip text))

-- as `AsksForMemory`, for a text of a rule: it may have any bytes
abbrev pub RuleAsksForMemory : List ℕ → Type 0
RuleAsksForMemory text = (short_text text ≡ Ok text) × (0 < length (skip text))

-- The tree that a text spells, or the first fault of the text. `names` are the names of the definitions, and a plain name may
-- name the first `earlier` of them.
unfoldable pub pattern_of : (names : List (List ℕ)) (earlier : ℕ) → List ℕ → Result Tree ReadFault
pattern_of names earlier text = do
  t ← short_ascii text
  whole_of (record { names = names; earlier = earlier; total = length text; in_rule = false }) t

-- The tree that the text of a rule spells, or the first fault of the text. It may have any bytes.
unfoldable pub rule_pattern_of : (names : List (List ℕ)) (earlier : ℕ) → List ℕ → Result Tree ReadFault
rule_pattern_of names earlier text = do
  t ← short_text text
  whole_of (record { names = names; earlier = earlier; total = length text; in_rule = true }) t
