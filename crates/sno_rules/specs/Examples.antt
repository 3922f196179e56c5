-- Lines that are worked out by computation.
use Rattle.std.specs.Prelude.{◌≡◌, ℕ, true, false, List, [], ◌∷◌, ◌++◌, Some, None, Ok, Err, codes, refl}
use Rattle.sno_pattern.specs.Identifiers.{is_letter, is_name_char}
use Rattle.sno_rules.specs.declared.faults.LineFault.TheVariants as fault
use Rattle.sno_rules.specs.declared.faults.SpellingFault.TheVariants as spelling
use Rattle.sno_rules.specs.declared.faults.RuleFileFault.TheVariants as file
use Rattle.sno_rules.specs.declared.names.SetName.{SetName}
use Rattle.sno_rules.specs.declared.calls.SetWord.TheVariants as word
use Rattle.sno_rules.specs.declared.rule_files.LineKind.TheVariants as kind
use Rattle.sno_rules.specs.declared.rule_files.Meaning.TheVariants as meaning
use Rattle.sno_rules.specs.Spelling.{IsJoined, IsSpelled, IsStep, Spelled, call_begin, call_of, ends, literal_of, more, no_more, nothing_spelled, part_at, piece_of, quoted, ready_literal, ready_set, set_text, set_word, stepped}
use Rattle.sno_rules.specs.RuleFiles.{FileLine, after_line, line_of, meaning_of, with_line}
use Rattle.sno_rules.specs.Lines.{Fields, before_sign, front_of, rest_of, object_in, no_fields, trimmed, unquoted, with_field}
use Rattle.sno_rules.specs.Rules.{definition_by}

-- a sign in quotes doesn't count
first_sign : before_sign 61 0 (codes "'a=b' = 'c'") ≡ 6
unfolding before_sign
first_sign = refl

-- the other quote is a character as any other
other_quote : before_sign 61 0 (codes "'\"=' = 'c'") ≡ 5
unfolding before_sign
other_quote = refl

-- a quote that isn't closed goes to the end
open_quote : before_sign 61 0 (codes "'a = b") ≡ 6
unfolding before_sign
open_quote = refl

-- pattern and object
pattern_before : front_of 61 (codes "'a' 'b' = 'c'") ≡ codes "'a' 'b' "
unfolding before_sign
pattern_before = refl

object_after : object_in (rest_of 61 (codes "'a' 'b' = 'c'")) ≡ Some (codes " 'c'")
unfolding before_sign
object_after = refl

-- an object of nothing, and no object
empty_object : object_in (rest_of 61 (codes "'a' =")) ≡ Some []
unfolding before_sign
empty_object = refl

no_object : object_in (rest_of 61 (codes "'a'")) ≡ None
unfolding before_sign
no_object = refl

-- a colon in quotes begins no field
fields_after : rest_of 58 (codes "':' = ';' :first") ≡ codes ":first"
unfolding before_sign
fields_after = refl

-- fields
first_alone : with_field no_fields 9 (codes " first ") ≡ Ok (record { first = true; anchored = false; repeat = None; text = None })
first_alone = refl

anchored_alone : with_field no_fields 9 (codes "anchored") ≡ Ok (record { first = false; anchored = true; repeat = None; text = None })
anchored_alone = refl

repeat_number : with_field no_fields 9 (codes "repeat 20") ≡ Ok (record { first = false; anchored = false; repeat = Some (codes "20"); text = None })
repeat_number = refl

in_a_file : with_field no_fields 9 (codes "in 'a b.c'") ≡ Ok (record { first = false; anchored = false; repeat = None; text = Some (codes "a b.c") })
in_a_file = refl

first_with_more : with_field no_fields 9 (codes "first 2") ≡ Err (fault.UnknownField 9)
first_with_more = refl

repeat_alone : with_field no_fields 9 (codes "repeat") ≡ Err (fault.UnknownField 9)
repeat_alone = refl

in_without_quotes : with_field no_fields 9 (codes "in a.c") ≡ Err (fault.UnknownField 9)
in_without_quotes = refl

unknown_word : with_field no_fields 9 (codes "last") ≡ Err (fault.UnknownField 9)
unknown_word = refl

-- definitions
definition : definition_by (front_of 61 (codes " WORD = SPAN('ab')")) (rest_of 61 (codes " WORD = SPAN('ab')")) ≡ Ok (codes "WORD", codes " SPAN('ab')")
unfolding before_sign
definition = refl

no_definition : definition_by (front_of 61 (codes "WORD")) (rest_of 61 (codes "WORD")) ≡ Err fault.NoEqualsSign
unfolding before_sign
no_definition = refl

-- ---- Sets as a hand writes them

-- parts of an argument: a blank, characters in quotes, the name of a set, a name that is a set's and a literal's
blank_part : part_at [] 0 (codes " 'a')") ≡ Ok ([], codes "'a')")
blank_part = refl

quotation : part_at [] 5 (codes "'ab' DIGIT)") ≡ Ok (codes "ab", codes " DIGIT)")
quotation = refl

digits : part_at [] 5 (codes "DIGIT '_')") ≡ Ok (codes "0123456789", codes " '_')")
unfolding is_letter is_name_char ready_set
digits = refl

line_feed : part_at [] 5 (codes "NL)") ≡ Ok (10 ∷ [], codes ")")
unfolding is_letter is_name_char ready_set ready_literal
line_feed = refl

-- a name that rules define comes before a ready one; another pattern is none
abbrev own : List SetName
own = record { name = record { ref_ptr = (0, 0); now = codes "DIGIT" }; members = Some (record { ref_ptr = (0, 0); now = codes "01" }) }
    ∷ record { name = record { ref_ptr = (0, 0); now = codes "NL" }; members = None } ∷ []

own_digits : part_at own 5 (codes "DIGIT)") ≡ Ok (codes "01", codes ")")
unfolding is_letter is_name_char ready_set
own_digits = refl

own_pattern : part_at own 5 (codes "NL)") ≡ Err (spelling.UnknownSet 5)
unfolding is_letter is_name_char ready_set ready_literal
own_pattern = refl

own_is_itself : literal_of own (codes "NL") ≡ None
own_is_itself = refl

return_is_a_literal : literal_of own (codes "CR") ≡ Some (13 ∷ [])
unfolding ready_literal
return_is_a_literal = refl

-- what is none: an open quote, another name, another sign, a character that isn't ASCII
open_part : part_at [] 5 (codes "'ab)") ≡ Err (spelling.OpenQuote 5)
open_part = refl

unknown_set : part_at [] 5 (codes "VOWEL)") ≡ Err (spelling.UnknownSet 5)
unfolding is_letter is_name_char ready_set ready_literal
unknown_set = refl

no_set : part_at [] 5 (codes "| 'b')") ≡ Err (spelling.NoSet 5)
unfolding is_letter
no_set = refl

not_ascii : part_at [] 5 (39 ∷ 97 ∷ 195 ∷ 169 ∷ 39 ∷ []) ≡ Err (spelling.NotAscii 7)
not_ascii = refl

-- quotes that the characters don't have
single_quotes : quoted (codes "a\"") ≡ codes "'a\"'"
single_quotes = refl

double_quotes : quoted (codes "a'") ≡ codes "\"a'\""
double_quotes = refl

both_quotes : quoted (codes "a'\"b'") ≡ codes "'a\"b' \"'\""
both_quotes = refl

-- calls, from their sets on
span : set_text word.Span (codes "'ab'") ≡ codes "'ab')"
span = refl

break_x : call_begin word.BreakX ++ set_text word.BreakX (codes "','") ≡ codes "(BREAK(',') ARBNO(LEN(1) BREAK(',')))"
break_x = refl

n_span : call_begin word.NSpan ++ set_text word.NSpan (codes "' '") ≡ codes "(SPAN(' ') | '')"
n_span = refl

-- a whole call: the parts of its argument, joined, and what is spelled for them
joined_set : IsJoined [] 15 [] (codes "'_' DIGIT)") (Ok (codes "_0123456789", codes ")"))
unfolding is_letter is_name_char ready_set
joined_set = more [] _ (codes "_") (codes " DIGIT)") _ refl refl (more _ _ [] (codes "DIGIT)") _ refl refl (more _ _ (codes "0123456789") (codes ")") _ refl refl (ends _ _ refl)))

abbrev span_of_digits : Spelled
span_of_digits = record { characters = codes "SPAN('_0123456789')"; marks = record { before = 0; place = 0; copied = true } ∷ record { before = 5; place = 5; copied = false } ∷ [] }

one_call : IsStep [] 15 nothing_spelled (codes "SPAN('_' DIGIT)") (Ok (span_of_digits, []))
unfolding is_letter is_name_char ready_set set_word
one_call = (Ok (codes "_0123456789", codes ")"), joined_set, refl)

spelled_call : IsSpelled [] 15 nothing_spelled (codes "SPAN('_' DIGIT)") (Ok span_of_digits)
spelled_call = stepped nothing_spelled span_of_digits 83 (codes "PAN('_' DIGIT)") [] _ one_call (no_more span_of_digits)

-- pieces
quotation_piece : piece_of (codes "'a b' c") ≡ codes "'a b'"
quotation_piece = refl

open_piece : piece_of (codes "'a b") ≡ codes "'a b"
open_piece = refl

name_piece : piece_of (codes "A.B_1 c") ≡ codes "A.B_1"
unfolding is_letter is_name_char
name_piece = refl

other_piece : piece_of (codes " | (SPAN") ≡ codes " | ("
unfolding is_letter
other_piece = refl

-- without a parenthesis a word isn't a call
no_call : call_of (codes "SPAN") (codes " ('a')") ≡ None
no_call = refl

-- ---- Files of rules

comment : meaning_of (codes "* x") ≡ meaning.Nothing
comment = refl

blank_line : meaning_of (codes "  ") ≡ meaning.Nothing
blank_line = refl

rule_line : meaning_of (codes " 'a' =") ≡ meaning.Rule
rule_line = refl

definition_line : meaning_of (codes "A = 'a'") ≡ meaning.Definition
unfolding is_letter
definition_line = refl

other_line : meaning_of (codes "'a' =") ≡ meaning.Unknown
unfolding is_letter
other_line = refl

-- a line without its end, and what comes after it
line_before_return : line_of (codes "ab" ++ (13 ∷ 10 ∷ codes "c")) ≡ codes "ab"
line_before_return = refl

after_it : after_line (codes "ab" ++ (13 ∷ 10 ∷ codes "c")) ≡ codes "c"
after_it = refl

-- a line that goes on with the last one, which keeps its number
abbrev rule : FileLine
rule = record { number = 3; kind = kind.Rule; characters = codes " 'a'" }

goes_on_with_it : with_line 4 (rule ∷ []) (codes "+ =") ≡ Ok (record { number = 3; kind = kind.Rule; characters = codes " 'a' =" } ∷ [])
goes_on_with_it = refl

nothing_before_it : with_line 4 [] (codes "+ =") ≡ Err (file.NothingBefore 4)
nothing_before_it = refl

wrong_line : with_line 4 (rule ∷ []) (codes "'a'") ≡ Err (file.UnknownLine 4)
unfolding is_letter
wrong_line = refl
