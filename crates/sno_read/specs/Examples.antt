-- Worked examples of reading: each is proved by computing from the definitions alone.
use Rattle.std.specs.Prelude.{◌≡◌, ℕ, [], ◌∷◌, ◌++◌, Ok, Err, replicate, codes, refl}
use Rattle.std.specs.List.{flat_map}
use Rattle.sno_pattern.specs.Identifiers.{is_letter, is_name_char, is_reserved}
use Rattle.sno_pattern.specs.Tree.{Lit, Len, AnyOf, Arb, Ref, Seq, Alt, Cond, Imm}
use Rattle.sno_read.specs.declared.characters.TheConstants.{MAX_NUMBER}
use Rattle.sno_read.specs.declared.reading.TheConstants.{MAX_WRITTEN, MAX_OPEN, MAX_DEPTH}
use Rattle.sno_read.specs.declared.faults.ReadFault.TheVariants as fault
use Rattle.sno_read.specs.declared.objects.Part.TheVariants.{Quoted, Var}
use Rattle.sno_read.specs.Objects.{object_of, rule_object_of, parts_of, part_at, gap_at}
use Rattle.sno_read.specs.Depth.{depth}
use Rattle.sno_read.specs.Keywords.{keyword_of, call_of}
use Rattle.sno_read.specs.Characters.{number_from, start_of, sign_of, what_follows, goes_on}
use Rattle.sno_read.specs.Reading.{pattern_of, rule_pattern_of, whole_of, unless_too_deep, end_at, inside, alternation_at, concatenation_at, parts_at, items_at, item_at, targets_at, sign_at, element_at, quotation_at, from_name_at, repetition_at, group_at, set_call_at, number_call_at, plain_of, reference_at, cursor_at, blanks_at, closing_at, opening_at, variable_at, name_at, number_at, set_at, literals_at, ascii_literal_at, literal_at}

-- ---- Limits
largest_number : MAX_NUMBER ≡ 65536
largest_number = refl

-- characters of a pattern or an object
longest_written : MAX_WRITTEN ≡ 4096
longest_written = refl

most_open_parentheses : MAX_OPEN ≡ 100
most_open_parentheses = refl

greatest_depth : MAX_DEPTH ≡ 1000
greatest_depth = refl

-- ---- Readings
-- the empty text
null_text : pattern_of [] 0 [] ≡ Err (fault.Empty 0)
unfolding pattern_of whole_of unless_too_deep end_at inside alternation_at concatenation_at parts_at items_at item_at targets_at sign_at element_at quotation_at from_name_at repetition_at group_at set_call_at number_call_at plain_of reference_at cursor_at blanks_at closing_at opening_at variable_at name_at number_at set_at literals_at ascii_literal_at literal_at depth keyword_of call_of number_from start_of sign_of what_follows is_letter is_name_char is_reserved
null_text = refl

-- 'a''b'
two_literals : pattern_of [] 0 (codes "'a''b'") ≡ Err (fault.Unexpected 3)
unfolding pattern_of whole_of unless_too_deep end_at inside alternation_at concatenation_at parts_at items_at item_at targets_at sign_at element_at quotation_at from_name_at repetition_at group_at set_call_at number_call_at plain_of reference_at cursor_at blanks_at closing_at opening_at variable_at name_at number_at set_at literals_at ascii_literal_at literal_at depth keyword_of call_of number_from start_of sign_of what_follows is_letter is_name_char is_reserved
two_literals = refl

-- 'abc
open_quote : pattern_of [] 0 (codes "'abc") ≡ Err (fault.OpenQuote 0)
unfolding pattern_of whole_of unless_too_deep end_at inside alternation_at concatenation_at parts_at items_at item_at targets_at sign_at element_at quotation_at from_name_at repetition_at group_at set_call_at number_call_at plain_of reference_at cursor_at blanks_at closing_at opening_at variable_at name_at number_at set_at literals_at ascii_literal_at literal_at depth keyword_of call_of number_from start_of sign_of what_follows is_letter is_name_char is_reserved
open_quote = refl

-- ANY('')
null_set : pattern_of [] 0 (codes "ANY('')") ≡ Err (fault.EmptySet 4)
unfolding pattern_of whole_of unless_too_deep end_at inside alternation_at concatenation_at parts_at items_at item_at targets_at sign_at element_at quotation_at from_name_at repetition_at group_at set_call_at number_call_at plain_of reference_at cursor_at blanks_at closing_at opening_at variable_at name_at number_at set_at literals_at ascii_literal_at literal_at depth keyword_of call_of number_from start_of sign_of what_follows is_letter is_name_char is_reserved
null_set = refl

-- 'a' . ARB
reserved_target : pattern_of [] 0 (codes "'a' . ARB") ≡ Err (fault.ReservedTarget 6)
unfolding pattern_of whole_of unless_too_deep end_at inside alternation_at concatenation_at parts_at items_at item_at targets_at sign_at element_at quotation_at from_name_at repetition_at group_at set_call_at number_call_at plain_of reference_at cursor_at blanks_at closing_at opening_at variable_at name_at number_at set_at literals_at ascii_literal_at literal_at depth keyword_of call_of number_from start_of sign_of what_follows is_letter is_name_char is_reserved
reserved_target = refl

-- X
no_name : pattern_of [] 0 (codes "X") ≡ Err (fault.UnknownName 0)
unfolding pattern_of whole_of unless_too_deep end_at inside alternation_at concatenation_at parts_at items_at item_at targets_at sign_at element_at quotation_at from_name_at repetition_at group_at set_call_at number_call_at plain_of reference_at cursor_at blanks_at closing_at opening_at variable_at name_at number_at set_at literals_at ascii_literal_at literal_at depth keyword_of call_of number_from start_of sign_of what_follows is_letter is_name_char is_reserved
no_name = refl

-- 'a' |'b'
bar_without_blank : pattern_of [] 0 (codes "'a' |'b'") ≡ Err (fault.Unexpected 5)
unfolding pattern_of whole_of unless_too_deep end_at inside alternation_at concatenation_at parts_at items_at item_at targets_at sign_at element_at quotation_at from_name_at repetition_at group_at set_call_at number_call_at plain_of reference_at cursor_at blanks_at closing_at opening_at variable_at name_at number_at set_at literals_at ascii_literal_at literal_at depth keyword_of call_of number_from start_of sign_of what_follows is_letter is_name_char is_reserved
bar_without_blank = refl

-- 'a' | 'b' 'c'
bar_binds_least : pattern_of [] 0 (codes "'a' | 'b' 'c'") ≡ Ok (Alt (Lit (codes "a")) (Seq (Lit (codes "b")) (Lit (codes "c"))))
unfolding pattern_of whole_of unless_too_deep end_at inside alternation_at concatenation_at parts_at items_at item_at targets_at sign_at element_at quotation_at from_name_at repetition_at group_at set_call_at number_call_at plain_of reference_at cursor_at blanks_at closing_at opening_at variable_at name_at number_at set_at literals_at ascii_literal_at literal_at depth keyword_of call_of number_from start_of sign_of what_follows is_letter is_name_char is_reserved
bar_binds_least = refl

-- LEN( 007 ) . A $ B
leftmost_innermost : pattern_of [] 0 (codes "LEN( 007 ) . A $ B") ≡ Ok (Imm (Cond (Len 7) (codes "A")) (codes "B"))
unfolding pattern_of whole_of unless_too_deep end_at inside alternation_at concatenation_at parts_at items_at item_at targets_at sign_at element_at quotation_at from_name_at repetition_at group_at set_call_at number_call_at plain_of reference_at cursor_at blanks_at closing_at opening_at variable_at name_at number_at set_at literals_at ascii_literal_at literal_at depth keyword_of call_of number_from start_of sign_of what_follows is_letter is_name_char is_reserved
leftmost_innermost = refl

-- 'a' ( 'b' 'c' ) 'd'
group_stays : pattern_of [] 0 (codes "'a' ( 'b' 'c' ) 'd'") ≡ Ok (Seq (Lit (codes "a")) (Seq (Seq (Lit (codes "b")) (Lit (codes "c"))) (Lit (codes "d"))))
unfolding pattern_of whole_of unless_too_deep end_at inside alternation_at concatenation_at parts_at items_at item_at targets_at sign_at element_at quotation_at from_name_at repetition_at group_at set_call_at number_call_at plain_of reference_at cursor_at blanks_at closing_at opening_at variable_at name_at number_at set_at literals_at ascii_literal_at literal_at depth keyword_of call_of number_from start_of sign_of what_follows is_letter is_name_char is_reserved
group_stays = refl

-- the names are P and Q, and a plain name may name the first: P
earlier_name : pattern_of (codes "P" ∷ codes "Q" ∷ []) 1 (codes "P") ≡ Ok (Ref 0)
unfolding pattern_of whole_of unless_too_deep end_at inside alternation_at concatenation_at parts_at items_at item_at targets_at sign_at element_at quotation_at from_name_at repetition_at group_at set_call_at number_call_at plain_of reference_at cursor_at blanks_at closing_at opening_at variable_at name_at number_at set_at literals_at ascii_literal_at literal_at depth keyword_of call_of number_from start_of sign_of what_follows is_letter is_name_char is_reserved
earlier_name = refl

-- *Q
starred_name : pattern_of (codes "P" ∷ codes "Q" ∷ []) 1 (codes "*Q") ≡ Ok (Ref 1)
unfolding pattern_of whole_of unless_too_deep end_at inside alternation_at concatenation_at parts_at items_at item_at targets_at sign_at element_at quotation_at from_name_at repetition_at group_at set_call_at number_call_at plain_of reference_at cursor_at blanks_at closing_at opening_at variable_at name_at number_at set_at literals_at ascii_literal_at literal_at depth keyword_of call_of number_from start_of sign_of what_follows is_letter is_name_char is_reserved
starred_name = refl

-- Q
later_name : pattern_of (codes "P" ∷ codes "Q" ∷ []) 1 (codes "Q") ≡ Err (fault.UnknownName 0)
unfolding pattern_of whole_of unless_too_deep end_at inside alternation_at concatenation_at parts_at items_at item_at targets_at sign_at element_at quotation_at from_name_at repetition_at group_at set_call_at number_call_at plain_of reference_at cursor_at blanks_at closing_at opening_at variable_at name_at number_at set_at literals_at ascii_literal_at literal_at depth keyword_of call_of number_from start_of sign_of what_follows is_letter is_name_char is_reserved
later_name = refl

-- 'a' . P
definition_as_target : pattern_of (codes "P" ∷ []) 1 (codes "'a' . P") ≡ Err (fault.ReservedTarget 6)
unfolding pattern_of whole_of unless_too_deep end_at inside alternation_at concatenation_at parts_at items_at item_at targets_at sign_at element_at quotation_at from_name_at repetition_at group_at set_call_at number_call_at plain_of reference_at cursor_at blanks_at closing_at opening_at variable_at name_at number_at set_at literals_at ascii_literal_at literal_at depth keyword_of call_of number_from start_of sign_of what_follows is_letter is_name_char is_reserved
definition_as_target = refl

-- LEN
call_without_argument : pattern_of [] 0 (codes "LEN") ≡ Err (fault.Unexpected 3)
unfolding pattern_of whole_of unless_too_deep end_at inside alternation_at concatenation_at parts_at items_at item_at targets_at sign_at element_at quotation_at from_name_at repetition_at group_at set_call_at number_call_at plain_of reference_at cursor_at blanks_at closing_at opening_at variable_at name_at number_at set_at literals_at ascii_literal_at literal_at depth keyword_of call_of number_from start_of sign_of what_follows is_letter is_name_char is_reserved
call_without_argument = refl

-- ARB(1)
word_with_argument : pattern_of [] 0 (codes "ARB(1)") ≡ Err (fault.Unexpected 3)
unfolding pattern_of whole_of unless_too_deep end_at inside alternation_at concatenation_at parts_at items_at item_at targets_at sign_at element_at quotation_at from_name_at repetition_at group_at set_call_at number_call_at plain_of reference_at cursor_at blanks_at closing_at opening_at variable_at name_at number_at set_at literals_at ascii_literal_at literal_at depth keyword_of call_of number_from start_of sign_of what_follows is_letter is_name_char is_reserved
word_with_argument = refl

-- LEN(65537)
number_too_large : pattern_of [] 0 (codes "LEN(65537)") ≡ Err (fault.BadNumber 4)
unfolding pattern_of whole_of unless_too_deep end_at inside alternation_at concatenation_at parts_at items_at item_at targets_at sign_at element_at quotation_at from_name_at repetition_at group_at set_call_at number_call_at plain_of reference_at cursor_at blanks_at closing_at opening_at variable_at name_at number_at set_at literals_at ascii_literal_at literal_at depth keyword_of call_of number_from start_of sign_of what_follows is_letter is_name_char is_reserved
number_too_large = refl

-- 4,097 blanks
too_long : pattern_of [] 0 (replicate 4097 32) ≡ Err (fault.TooLong 4096)
unfolding pattern_of whole_of unless_too_deep end_at inside alternation_at concatenation_at parts_at items_at item_at targets_at sign_at element_at quotation_at from_name_at repetition_at group_at set_call_at number_call_at plain_of reference_at cursor_at blanks_at closing_at opening_at variable_at name_at number_at set_at literals_at ascii_literal_at literal_at depth keyword_of call_of number_from start_of sign_of what_follows is_letter is_name_char is_reserved
too_long = refl

-- a quote, the bytes 195 and 169, a quote
not_ascii : pattern_of [] 0 (39 ∷ 195 ∷ 169 ∷ 39 ∷ []) ≡ Err (fault.NonAscii 1)
unfolding pattern_of whole_of unless_too_deep end_at inside alternation_at concatenation_at parts_at items_at item_at targets_at sign_at element_at quotation_at from_name_at repetition_at group_at set_call_at number_call_at plain_of reference_at cursor_at blanks_at closing_at opening_at variable_at name_at number_at set_at literals_at ascii_literal_at literal_at depth keyword_of call_of number_from start_of sign_of what_follows is_letter is_name_char is_reserved
not_ascii = refl

-- 101 opening parentheses
too_many_open : pattern_of [] 0 (replicate 101 40) ≡ Err (fault.TooDeep 100)
unfolding pattern_of whole_of unless_too_deep end_at inside alternation_at concatenation_at parts_at items_at item_at targets_at sign_at element_at quotation_at from_name_at repetition_at group_at set_call_at number_call_at plain_of reference_at cursor_at blanks_at closing_at opening_at variable_at name_at number_at set_at literals_at ascii_literal_at literal_at depth keyword_of call_of number_from start_of sign_of what_follows is_letter is_name_char is_reserved
too_many_open = refl

-- three blanks
blanks_alone : pattern_of [] 0 (codes "   ") ≡ Err (fault.Empty 3)
unfolding pattern_of whole_of unless_too_deep end_at inside alternation_at concatenation_at parts_at items_at item_at targets_at sign_at element_at quotation_at from_name_at repetition_at group_at set_call_at number_call_at plain_of reference_at cursor_at blanks_at closing_at opening_at variable_at name_at number_at set_at literals_at ascii_literal_at literal_at depth keyword_of call_of number_from start_of sign_of what_follows is_letter is_name_char is_reserved
blanks_alone = refl

-- *LEN
starred_reserved_word : pattern_of [] 0 (codes "*LEN") ≡ Err (fault.UnknownName 1)
unfolding pattern_of whole_of unless_too_deep end_at inside alternation_at concatenation_at parts_at items_at item_at targets_at sign_at element_at quotation_at from_name_at repetition_at group_at set_call_at number_call_at plain_of reference_at cursor_at blanks_at closing_at opening_at variable_at name_at number_at set_at literals_at ascii_literal_at literal_at depth keyword_of call_of number_from start_of sign_of what_follows is_letter is_name_char is_reserved
starred_reserved_word = refl

-- LEN( x)
no_number : pattern_of [] 0 (codes "LEN( x)") ≡ Err (fault.BadNumber 5)
unfolding pattern_of whole_of unless_too_deep end_at inside alternation_at concatenation_at parts_at items_at item_at targets_at sign_at element_at quotation_at from_name_at repetition_at group_at set_call_at number_call_at plain_of reference_at cursor_at blanks_at closing_at opening_at variable_at name_at number_at set_at literals_at ascii_literal_at literal_at depth keyword_of call_of number_from start_of sign_of what_follows is_letter is_name_char is_reserved
no_number = refl

-- ( )
null_group : pattern_of [] 0 (codes "( )") ≡ Err (fault.Unexpected 2)
unfolding pattern_of whole_of unless_too_deep end_at inside alternation_at concatenation_at parts_at items_at item_at targets_at sign_at element_at quotation_at from_name_at repetition_at group_at set_call_at number_call_at plain_of reference_at cursor_at blanks_at closing_at opening_at variable_at name_at number_at set_at literals_at ascii_literal_at literal_at depth keyword_of call_of number_from start_of sign_of what_follows is_letter is_name_char is_reserved
null_group = refl

-- ANY('' x
null_set_comes_first : pattern_of [] 0 (codes "ANY('' x") ≡ Err (fault.EmptySet 4)
unfolding pattern_of whole_of unless_too_deep end_at inside alternation_at concatenation_at parts_at items_at item_at targets_at sign_at element_at quotation_at from_name_at repetition_at group_at set_call_at number_call_at plain_of reference_at cursor_at blanks_at closing_at opening_at variable_at name_at number_at set_at literals_at ascii_literal_at literal_at depth keyword_of call_of number_from start_of sign_of what_follows is_letter is_name_char is_reserved
null_set_comes_first = refl

-- @ V
blank_after_the_sign : pattern_of [] 0 (codes "@ V") ≡ Err (fault.Unexpected 1)
unfolding pattern_of whole_of unless_too_deep end_at inside alternation_at concatenation_at parts_at items_at item_at targets_at sign_at element_at quotation_at from_name_at repetition_at group_at set_call_at number_call_at plain_of reference_at cursor_at blanks_at closing_at opening_at variable_at name_at number_at set_at literals_at ascii_literal_at literal_at depth keyword_of call_of number_from start_of sign_of what_follows is_letter is_name_char is_reserved
blank_after_the_sign = refl

-- 'a' . and the end
target_is_due : pattern_of [] 0 (codes "'a' .") ≡ Err (fault.Unexpected 5)
unfolding pattern_of whole_of unless_too_deep end_at inside alternation_at concatenation_at parts_at items_at item_at targets_at sign_at element_at quotation_at from_name_at repetition_at group_at set_call_at number_call_at plain_of reference_at cursor_at blanks_at closing_at opening_at variable_at name_at number_at set_at literals_at ascii_literal_at literal_at depth keyword_of call_of number_from start_of sign_of what_follows is_letter is_name_char is_reserved
target_is_due = refl

-- A 64 times, and 65 times
longest_name : pattern_of [] 0 (replicate 64 65) ≡ Err (fault.UnknownName 0)
unfolding pattern_of whole_of unless_too_deep end_at inside alternation_at concatenation_at parts_at items_at item_at targets_at sign_at element_at quotation_at from_name_at repetition_at group_at set_call_at number_call_at plain_of reference_at cursor_at blanks_at closing_at opening_at variable_at name_at number_at set_at literals_at ascii_literal_at literal_at depth keyword_of call_of number_from start_of sign_of what_follows is_letter is_name_char is_reserved
longest_name = refl

name_too_long : pattern_of [] 0 (replicate 65 65) ≡ Err (fault.TooLong 0)
unfolding pattern_of whole_of unless_too_deep end_at inside alternation_at concatenation_at parts_at items_at item_at targets_at sign_at element_at quotation_at from_name_at repetition_at group_at set_call_at number_call_at plain_of reference_at cursor_at blanks_at closing_at opening_at variable_at name_at number_at set_at literals_at ascii_literal_at literal_at depth keyword_of call_of number_from start_of sign_of what_follows is_letter is_name_char is_reserved
name_too_long = refl

-- 100 parentheses around ARB
most_open : pattern_of [] 0 (replicate 100 40 ++ (codes "ARB" ++ replicate 100 41)) ≡ Ok Arb
unfolding pattern_of whole_of unless_too_deep end_at inside alternation_at concatenation_at parts_at items_at item_at targets_at sign_at element_at quotation_at from_name_at repetition_at group_at set_call_at number_call_at plain_of reference_at cursor_at blanks_at closing_at opening_at variable_at name_at number_at set_at literals_at ascii_literal_at literal_at depth keyword_of call_of number_from start_of sign_of what_follows is_letter is_name_char is_reserved
most_open = refl

-- 1,001 times the null literal and a blank: each makes the tree deeper by one
tree_too_deep : pattern_of [] 0 (flat_map {X = ℕ} (λ blank. codes "'' ") (replicate 1001 32)) ≡ Err (fault.TooDeep 3003)
unfolding pattern_of whole_of unless_too_deep end_at inside alternation_at concatenation_at parts_at items_at item_at targets_at sign_at element_at quotation_at from_name_at repetition_at group_at set_call_at number_call_at plain_of reference_at cursor_at blanks_at closing_at opening_at variable_at name_at number_at set_at literals_at ascii_literal_at literal_at depth keyword_of call_of number_from start_of sign_of what_follows is_letter is_name_char is_reserved
tree_too_deep = refl

-- the object of the empty text
null_object : object_of [] [] ≡ Ok []
unfolding object_of parts_of part_at gap_at whole_of unless_too_deep end_at inside alternation_at concatenation_at parts_at items_at item_at targets_at sign_at element_at quotation_at from_name_at repetition_at group_at set_call_at number_call_at plain_of reference_at cursor_at blanks_at closing_at opening_at variable_at name_at number_at set_at literals_at ascii_literal_at literal_at depth keyword_of call_of number_from start_of sign_of what_follows is_letter is_name_char is_reserved
null_object = refl

-- the object ARB
reserved_variable : object_of [] (codes "ARB") ≡ Err (fault.ReservedTarget 0)
unfolding object_of parts_of part_at gap_at whole_of unless_too_deep end_at inside alternation_at concatenation_at parts_at items_at item_at targets_at sign_at element_at quotation_at from_name_at repetition_at group_at set_call_at number_call_at plain_of reference_at cursor_at blanks_at closing_at opening_at variable_at name_at number_at set_at literals_at ascii_literal_at literal_at depth keyword_of call_of number_from start_of sign_of what_follows is_letter is_name_char is_reserved
reserved_variable = refl

-- the object 'a''b'
literals_without_blank : object_of [] (codes "'a''b'") ≡ Err (fault.Unexpected 3)
unfolding object_of parts_of part_at gap_at whole_of unless_too_deep end_at inside alternation_at concatenation_at parts_at items_at item_at targets_at sign_at element_at quotation_at from_name_at repetition_at group_at set_call_at number_call_at plain_of reference_at cursor_at blanks_at closing_at opening_at variable_at name_at number_at set_at literals_at ascii_literal_at literal_at depth keyword_of call_of number_from start_of sign_of what_follows is_letter is_name_char is_reserved
literals_without_blank = refl

-- the object (
object_parenthesis : object_of [] (codes "(") ≡ Err (fault.Unexpected 0)
unfolding object_of parts_of part_at gap_at whole_of unless_too_deep end_at inside alternation_at concatenation_at parts_at items_at item_at targets_at sign_at element_at quotation_at from_name_at repetition_at group_at set_call_at number_call_at plain_of reference_at cursor_at blanks_at closing_at opening_at variable_at name_at number_at set_at literals_at ascii_literal_at literal_at depth keyword_of call_of number_from start_of sign_of what_follows is_letter is_name_char is_reserved
object_parenthesis = refl

-- the object V '=' K
three_parts : object_of [] (codes "V '=' K") ≡ Ok (Var (codes "V") ∷ Quoted (codes "=") ∷ Var (codes "K") ∷ [])
unfolding object_of parts_of part_at gap_at whole_of unless_too_deep end_at inside alternation_at concatenation_at parts_at items_at item_at targets_at sign_at element_at quotation_at from_name_at repetition_at group_at set_call_at number_call_at plain_of reference_at cursor_at blanks_at closing_at opening_at variable_at name_at number_at set_at literals_at ascii_literal_at literal_at depth keyword_of call_of number_from start_of sign_of what_follows is_letter is_name_char is_reserved
three_parts = refl

-- an object of two blanks
blank_object : object_of [] (codes "  ") ≡ Ok []
unfolding object_of parts_of part_at gap_at whole_of unless_too_deep end_at inside alternation_at concatenation_at parts_at items_at item_at targets_at sign_at element_at quotation_at from_name_at repetition_at group_at set_call_at number_call_at plain_of reference_at cursor_at blanks_at closing_at opening_at variable_at name_at number_at set_at literals_at ascii_literal_at literal_at depth keyword_of call_of number_from start_of sign_of what_follows is_letter is_name_char is_reserved
blank_object = refl

-- the object P, the name of a definition
definition_in_object : object_of (codes "P" ∷ []) (codes "P") ≡ Err (fault.ReservedTarget 0)
unfolding object_of parts_of part_at gap_at whole_of unless_too_deep end_at inside alternation_at concatenation_at parts_at items_at item_at targets_at sign_at element_at quotation_at from_name_at repetition_at group_at set_call_at number_call_at plain_of reference_at cursor_at blanks_at closing_at opening_at variable_at name_at number_at set_at literals_at ascii_literal_at literal_at depth keyword_of call_of number_from start_of sign_of what_follows is_letter is_name_char is_reserved
definition_in_object = refl

-- the object V 'x
open_quote_in_object : object_of [] (codes "V 'x") ≡ Err (fault.OpenQuote 2)
unfolding object_of parts_of part_at gap_at whole_of unless_too_deep end_at inside alternation_at concatenation_at parts_at items_at item_at targets_at sign_at element_at quotation_at from_name_at repetition_at group_at set_call_at number_call_at plain_of reference_at cursor_at blanks_at closing_at opening_at variable_at name_at number_at set_at literals_at ascii_literal_at literal_at depth keyword_of call_of number_from start_of sign_of what_follows is_letter is_name_char is_reserved
open_quote_in_object = refl

-- an object of A 65 times
variable_too_long : object_of [] (replicate 65 65) ≡ Err (fault.TooLong 0)
unfolding object_of parts_of part_at gap_at whole_of unless_too_deep end_at inside alternation_at concatenation_at parts_at items_at item_at targets_at sign_at element_at quotation_at from_name_at repetition_at group_at set_call_at number_call_at plain_of reference_at cursor_at blanks_at closing_at opening_at variable_at name_at number_at set_at literals_at ascii_literal_at literal_at depth keyword_of call_of number_from start_of sign_of what_follows is_letter is_name_char is_reserved
variable_too_long = refl

-- an object of 4,097 blanks
object_too_long : object_of [] (replicate 4097 32) ≡ Err (fault.TooLong 4096)
unfolding object_of parts_of part_at gap_at whole_of unless_too_deep end_at inside alternation_at concatenation_at parts_at items_at item_at targets_at sign_at element_at quotation_at from_name_at repetition_at group_at set_call_at number_call_at plain_of reference_at cursor_at blanks_at closing_at opening_at variable_at name_at number_at set_at literals_at ascii_literal_at literal_at depth keyword_of call_of number_from start_of sign_of what_follows is_letter is_name_char is_reserved
object_too_long = refl

-- an object of the byte 195
object_not_ascii : object_of [] (195 ∷ []) ≡ Err (fault.NonAscii 0)
unfolding object_of parts_of part_at gap_at whole_of unless_too_deep end_at inside alternation_at concatenation_at parts_at items_at item_at targets_at sign_at element_at quotation_at from_name_at repetition_at group_at set_call_at number_call_at plain_of reference_at cursor_at blanks_at closing_at opening_at variable_at name_at number_at set_at literals_at ascii_literal_at literal_at depth keyword_of call_of number_from start_of sign_of what_follows is_letter is_name_char is_reserved
object_not_ascii = refl

-- 'a' 'b' in a set of a document
literals_in_a_set : pattern_of [] 0 (codes "ANY('a' 'b')") ≡ Err (fault.Unexpected 8)
unfolding pattern_of whole_of unless_too_deep end_at inside alternation_at concatenation_at parts_at items_at item_at targets_at sign_at element_at quotation_at from_name_at repetition_at group_at set_call_at number_call_at plain_of reference_at cursor_at blanks_at closing_at opening_at variable_at name_at number_at set_at literals_at ascii_literal_at literal_at depth keyword_of call_of number_from start_of sign_of what_follows is_letter is_name_char is_reserved
literals_in_a_set = refl

-- ---- Readings of rules for files
-- a quote, the bytes 195 and 169, a quote
bytes_in_a_literal : rule_pattern_of [] 0 (39 ∷ 195 ∷ 169 ∷ 39 ∷ []) ≡ Ok (Lit (195 ∷ 169 ∷ []))
unfolding rule_pattern_of whole_of unless_too_deep end_at inside alternation_at concatenation_at parts_at items_at item_at targets_at sign_at element_at quotation_at from_name_at repetition_at group_at set_call_at number_call_at plain_of reference_at cursor_at blanks_at closing_at opening_at variable_at name_at number_at set_at literals_at ascii_literal_at literal_at depth keyword_of call_of number_from start_of sign_of what_follows goes_on is_letter is_name_char is_reserved
bytes_in_a_literal = refl

-- the byte 195 where an element is due
byte_outside_quotes : rule_pattern_of [] 0 (codes "'a' " ++ 195 ∷ []) ≡ Err (fault.Unexpected 4)
unfolding rule_pattern_of whole_of unless_too_deep end_at inside alternation_at concatenation_at parts_at items_at item_at targets_at sign_at element_at quotation_at from_name_at repetition_at group_at set_call_at number_call_at plain_of reference_at cursor_at blanks_at closing_at opening_at variable_at name_at number_at set_at literals_at ascii_literal_at literal_at depth keyword_of call_of number_from start_of sign_of what_follows goes_on is_letter is_name_char is_reserved
byte_outside_quotes = refl

-- ANY('a' '..'), with the byte 195 in the second literal
byte_in_a_set : rule_pattern_of [] 0 (codes "ANY('a' 'b" ++ (195 ∷ codes "')")) ≡ Err (fault.NonAscii 10)
unfolding rule_pattern_of whole_of unless_too_deep end_at inside alternation_at concatenation_at parts_at items_at item_at targets_at sign_at element_at quotation_at from_name_at repetition_at group_at set_call_at number_call_at plain_of reference_at cursor_at blanks_at closing_at opening_at variable_at name_at number_at set_at literals_at ascii_literal_at literal_at depth keyword_of call_of number_from start_of sign_of what_follows goes_on is_letter is_name_char is_reserved
byte_in_a_set = refl

-- the same without the closing quote
open_quote_in_a_set : rule_pattern_of [] 0 (codes "ANY('a' 'b" ++ 195 ∷ []) ≡ Err (fault.OpenQuote 8)
unfolding rule_pattern_of whole_of unless_too_deep end_at inside alternation_at concatenation_at parts_at items_at item_at targets_at sign_at element_at quotation_at from_name_at repetition_at group_at set_call_at number_call_at plain_of reference_at cursor_at blanks_at closing_at opening_at variable_at name_at number_at set_at literals_at ascii_literal_at literal_at depth keyword_of call_of number_from start_of sign_of what_follows goes_on is_letter is_name_char is_reserved
open_quote_in_a_set = refl

-- ANY('..' 'b, with the byte 195 in the first literal
byte_comes_first : rule_pattern_of [] 0 (codes "ANY('" ++ (195 ∷ codes "' 'b")) ≡ Err (fault.NonAscii 5)
unfolding rule_pattern_of whole_of unless_too_deep end_at inside alternation_at concatenation_at parts_at items_at item_at targets_at sign_at element_at quotation_at from_name_at repetition_at group_at set_call_at number_call_at plain_of reference_at cursor_at blanks_at closing_at opening_at variable_at name_at number_at set_at literals_at ascii_literal_at literal_at depth keyword_of call_of number_from start_of sign_of what_follows goes_on is_letter is_name_char is_reserved
byte_comes_first = refl

-- ANY(, a double quote in single quotes, a blank, a single quote in double quotes, )
both_quotes_in_a_set : rule_pattern_of [] 0 (codes "ANY('" ++ 34 ∷ 39 ∷ 32 ∷ 34 ∷ 39 ∷ 34 ∷ 41 ∷ []) ≡ Ok (AnyOf (34 ∷ 39 ∷ []))
unfolding rule_pattern_of whole_of unless_too_deep end_at inside alternation_at concatenation_at parts_at items_at item_at targets_at sign_at element_at quotation_at from_name_at repetition_at group_at set_call_at number_call_at plain_of reference_at cursor_at blanks_at closing_at opening_at variable_at name_at number_at set_at literals_at ascii_literal_at literal_at depth keyword_of call_of number_from start_of sign_of what_follows goes_on is_letter is_name_char is_reserved
both_quotes_in_a_set = refl

-- ANY('ab' '' 'c' )
null_literal_in_a_set : rule_pattern_of [] 0 (codes "ANY('ab' '' 'c' )") ≡ Ok (AnyOf (codes "abc"))
unfolding rule_pattern_of whole_of unless_too_deep end_at inside alternation_at concatenation_at parts_at items_at item_at targets_at sign_at element_at quotation_at from_name_at repetition_at group_at set_call_at number_call_at plain_of reference_at cursor_at blanks_at closing_at opening_at variable_at name_at number_at set_at literals_at ascii_literal_at literal_at depth keyword_of call_of number_from start_of sign_of what_follows goes_on is_letter is_name_char is_reserved
null_literal_in_a_set = refl

-- ANY( '' '')
null_literals_in_a_set : rule_pattern_of [] 0 (codes "ANY( '' '')") ≡ Err (fault.EmptySet 5)
unfolding rule_pattern_of whole_of unless_too_deep end_at inside alternation_at concatenation_at parts_at items_at item_at targets_at sign_at element_at quotation_at from_name_at repetition_at group_at set_call_at number_call_at plain_of reference_at cursor_at blanks_at closing_at opening_at variable_at name_at number_at set_at literals_at ascii_literal_at literal_at depth keyword_of call_of number_from start_of sign_of what_follows goes_on is_letter is_name_char is_reserved
null_literals_in_a_set = refl

-- ANY('a''b')
set_without_blank : rule_pattern_of [] 0 (codes "ANY('a''b')") ≡ Err (fault.Unexpected 7)
unfolding rule_pattern_of whole_of unless_too_deep end_at inside alternation_at concatenation_at parts_at items_at item_at targets_at sign_at element_at quotation_at from_name_at repetition_at group_at set_call_at number_call_at plain_of reference_at cursor_at blanks_at closing_at opening_at variable_at name_at number_at set_at literals_at ascii_literal_at literal_at depth keyword_of call_of number_from start_of sign_of what_follows goes_on is_letter is_name_char is_reserved
set_without_blank = refl

-- ANY('a' b)
name_in_a_set : rule_pattern_of [] 0 (codes "ANY('a' b)") ≡ Err (fault.Unexpected 8)
unfolding rule_pattern_of whole_of unless_too_deep end_at inside alternation_at concatenation_at parts_at items_at item_at targets_at sign_at element_at quotation_at from_name_at repetition_at group_at set_call_at number_call_at plain_of reference_at cursor_at blanks_at closing_at opening_at variable_at name_at number_at set_at literals_at ascii_literal_at literal_at depth keyword_of call_of number_from start_of sign_of what_follows goes_on is_letter is_name_char is_reserved
name_in_a_set = refl

-- 4,097 times the byte 195
rule_too_long : rule_pattern_of [] 0 (replicate 4097 195) ≡ Err (fault.TooLong 4096)
unfolding rule_pattern_of whole_of unless_too_deep end_at inside alternation_at concatenation_at parts_at items_at item_at targets_at sign_at element_at quotation_at from_name_at repetition_at group_at set_call_at number_call_at plain_of reference_at cursor_at blanks_at closing_at opening_at variable_at name_at number_at set_at literals_at ascii_literal_at literal_at depth keyword_of call_of number_from start_of sign_of what_follows goes_on is_letter is_name_char is_reserved
rule_too_long = refl

-- three blanks
blank_rule : rule_pattern_of [] 0 (codes "   ") ≡ Err (fault.Empty 3)
unfolding rule_pattern_of whole_of unless_too_deep end_at inside alternation_at concatenation_at parts_at items_at item_at targets_at sign_at element_at quotation_at from_name_at repetition_at group_at set_call_at number_call_at plain_of reference_at cursor_at blanks_at closing_at opening_at variable_at name_at number_at set_at literals_at ascii_literal_at literal_at depth keyword_of call_of number_from start_of sign_of what_follows goes_on is_letter is_name_char is_reserved
blank_rule = refl

-- the object of a quote, the bytes 195 and 169, a quote, a blank and V
bytes_in_an_object : rule_object_of [] (39 ∷ 195 ∷ 169 ∷ 39 ∷ codes " V") ≡ Ok (Quoted (195 ∷ 169 ∷ []) ∷ Var (codes "V") ∷ [])
unfolding rule_object_of parts_of part_at gap_at whole_of unless_too_deep end_at inside alternation_at concatenation_at parts_at items_at item_at targets_at sign_at element_at quotation_at from_name_at repetition_at group_at set_call_at number_call_at plain_of reference_at cursor_at blanks_at closing_at opening_at variable_at name_at number_at set_at literals_at ascii_literal_at literal_at depth keyword_of call_of number_from start_of sign_of what_follows is_letter is_name_char is_reserved
bytes_in_an_object = refl

-- the object of the byte 195
byte_in_an_object : rule_object_of [] (195 ∷ []) ≡ Err (fault.Unexpected 0)
unfolding rule_object_of parts_of part_at gap_at whole_of unless_too_deep end_at inside alternation_at concatenation_at parts_at items_at item_at targets_at sign_at element_at quotation_at from_name_at repetition_at group_at set_call_at number_call_at plain_of reference_at cursor_at blanks_at closing_at opening_at variable_at name_at number_at set_at literals_at ascii_literal_at literal_at depth keyword_of call_of number_from start_of sign_of what_follows is_letter is_name_char is_reserved
byte_in_an_object = refl

-- an object of 4,097 times the byte 195
rule_object_too_long : rule_object_of [] (replicate 4097 195) ≡ Err (fault.TooLong 4096)
unfolding rule_object_of parts_of part_at gap_at whole_of unless_too_deep end_at inside alternation_at concatenation_at parts_at items_at item_at targets_at sign_at element_at quotation_at from_name_at repetition_at group_at set_call_at number_call_at plain_of reference_at cursor_at blanks_at closing_at opening_at variable_at name_at number_at set_at literals_at ascii_literal_at literal_at depth keyword_of call_of number_from start_of sign_of what_follows is_letter is_name_char is_reserved
rule_object_too_long = refl

-- an object of two blanks
blank_rule_object : rule_object_of [] (codes "  ") ≡ Ok []
unfolding rule_object_of parts_of part_at gap_at whole_of unless_too_deep end_at inside alternation_at concatenation_at parts_at items_at item_at targets_at sign_at element_at quotation_at from_name_at repetition_at group_at set_call_at number_call_at plain_of reference_at cursor_at blanks_at closing_at opening_at variable_at name_at number_at set_at literals_at ascii_literal_at literal_at depth keyword_of call_of number_from start_of sign_of what_follows is_letter is_name_char is_reserved
blank_rule_object = refl
