-- Worked examples: each is proved by computing from the definitions alone. Texts, patterns and objects are written out, so that
-- a reader can compare them with the manual.
use Rattle.std.specs.Prelude.{◌≡◌, ℕ, true, false, List, [], ◌∷◌, Option, Some, None, Ok, Err, replicate, codes, refl}
use Rattle.std.specs.Fmt.{digits}
use Rattle.sno_pattern.specs.Tree.{Tree, Lit, Len, Pos, Tab, Rtab, AnyOf, Span, Break, Rem, Fence, Abort, At, Seq, Alt, Cond, Imm}
use Rattle.sno_pattern.specs.Results.{results_of}
use Rattle.sno_pattern.specs.Outcome.{outcome_at, trials_at, outcome_at_from, trials_at_from}
use Rattle.sno_pattern.specs.declared.byte_texts.TheConstants.{MAX_BYTES}
use Rattle.sno_pattern.specs.declared.events.What.TheVariants as what
use Rattle.sno_pattern.specs.declared.found.Found.{Found}
use Rattle.sno_read.specs.declared.objects.Part.{Part}
use Rattle.sno_read.specs.declared.objects.Part.TheVariants.{Quoted, Var}
use Rattle.sno_statement.specs.declared.binding.Datum.TheVariants.{Str, Int}
use Rattle.sno_statement.specs.declared.outcomes.StatementFault.TheVariants as fault
use Rattle.sno_statement.specs.Statement.{Statement, with_all, with_limit, with_repeat}
use Rattle.sno_statement.specs.Bindings.{Bindings, bind, lookup, bindings_of}
use Rattle.sno_statement.specs.Value.{value_of}
use Rattle.sno_statement.specs.Passes.{matches_from, trials_onward}
use Rattle.sno_statement.specs.Perform.{Matched, Failed, Repeated, All, with_text, finish_all, perform, perform_all_within, perform_within}
use Rattle.sno_statement.specs.declared.match_lists.Match.{Match}

-- ---- Bindings
-- a variable that is assigned again keeps its place and has the later value
abbrev two_variables : Bindings
two_variables = (codes "X", Str (codes "a")) ∷ (codes "Y", Str (codes "b")) ∷ []

first_place_last_value : bind two_variables (codes "X") (Str (codes "c")) ≡ (codes "X", Str (codes "c")) ∷ (codes "Y", Str (codes "b")) ∷ []
first_place_last_value = refl

-- a new variable goes last
new_variable_last : bind two_variables (codes "Z") (Int 3) ≡ (codes "X", Str (codes "a")) ∷ (codes "Y", Str (codes "b")) ∷ (codes "Z", Int 3) ∷ []
new_variable_last = refl

-- X and x are two variables
capitals_count : bind two_variables (codes "x") (Int 0) ≡ (codes "X", Str (codes "a")) ∷ (codes "Y", Str (codes "b")) ∷ (codes "x", Int 0) ∷ []
capitals_count = refl

value_of_second : lookup (codes "Y") two_variables ≡ Some (Str (codes "b"))
value_of_second = refl

never_assigned : lookup (codes "Z") two_variables ≡ None
never_assigned = refl

-- B is assigned at once and A conditionally, as by LEN(1) . A LEN(1) $ B on ab: what is assigned at once is bound first
abbrev both_kinds : Found
both_kinds = record {
  sets = record { name = codes "B"; what = what.Part 1 2 } ∷ [];
  end = Some (record { start = 0; end = 2; conds = (codes "A", 0, 1) ∷ [] });
}

immediate_before_conditional : bindings_of (codes "ab") both_kinds ≡ (codes "B", Str (codes "b")) ∷ (codes "A", Str (codes "a")) ∷ []
immediate_before_conditional = refl

-- N has a cursor at once and a part conditionally: one variable, with the later value
abbrev one_variable : Found
one_variable = record {
  sets = record { name = codes "N"; what = what.Cursor 0 } ∷ [];
  end = Some (record { start = 0; end = 1; conds = (codes "N", 0, 1) ∷ [] });
}

both_kinds_share_variables : bindings_of (codes "ab") one_variable ≡ (codes "N", Str (codes "a")) ∷ []
both_kinds_share_variables = refl

-- a cursor that is assigned at each start is a number, the last one
abbrev each_start : Found
each_start = record {
  sets = record { name = codes "P"; what = what.Cursor 0 } ∷ record { name = codes "P"; what = what.Cursor 1 } ∷ [];
  end = None;
}

cursor_is_a_number : bindings_of (codes "a") each_start ≡ (codes "P", Int 1) ∷ []
cursor_is_a_number = refl

-- ---- Values of objects
-- 'z'
literal_is_itself : value_of two_variables (Quoted (codes "z") ∷ []) ≡ codes "z"
literal_is_itself = refl

-- Y '=' X
parts_are_joined : value_of two_variables (Var (codes "Y") ∷ Quoted (codes "=") ∷ Var (codes "X") ∷ []) ≡ codes "b=a"
parts_are_joined = refl

-- Z, which was never assigned
unbound_is_null : value_of two_variables (Var (codes "Z") ∷ []) ≡ []
unbound_is_null = refl

no_parts_are_null : value_of two_variables [] ≡ []
no_parts_are_null = refl

-- P P, where P is the number 107
number_in_decimal : value_of ((codes "P", Int 107) ∷ []) (Var (codes "P") ∷ Var (codes "P") ∷ []) ≡ codes "107107"
unfolding digits
number_in_decimal = refl

-- P, where P is the number 0
zero_is_one_digit : value_of ((codes "P", Int 0) ∷ []) (Var (codes "P") ∷ []) ≡ codes "0"
unfolding digits
zero_is_one_digit = refl

-- ---- Statements
-- a statement with no definitions that floats
abbrev floating : Tree → Option (List Part) → Statement
floating pattern object = record {
  number = 1;
  rules = record { names = []; bodies = [] };
  pattern = pattern;
  object = object;
  text = codes "T";
  anchored = false;
  limit = 1000000;
  repeat = None;
  all = false;
}

-- BREAK('=') . K '=' REM . V, object V '=' K, on k=v
abbrev turn_round : Statement
turn_round =
    floating (Seq (Cond (Break (codes "=")) (codes "K")) (Seq (Lit (codes "=")) (Cond Rem (codes "V"))))
    (Some (Var (codes "V") ∷ Quoted (codes "=") ∷ Var (codes "K") ∷ []))

object_after_the_match : perform turn_round (codes "k=v") ≡ Ok (Matched 0 3 ((codes "K", Str (codes "k")) ∷ (codes "V", Str (codes "v")) ∷ []) (Some (codes "v=k")))
unfolding outcome_at trials_at results_of
object_after_the_match = refl

-- FENCE 'b' on ab
fence_fails : perform (floating (Seq Fence (Lit (codes "b"))) None) (codes "ab") ≡ Ok (Failed [])
unfolding outcome_at trials_at results_of
fence_fails = refl

-- 'b' on ab, with no object
match_alone : perform (floating (Lit (codes "b")) None) (codes "ab") ≡ Ok (Matched 1 2 [] None)
unfolding outcome_at trials_at results_of
match_alone = refl

-- LEN(1) $ C 'z' on abc: what was assigned at once stays, and an object isn't evaluated
abbrev fails_late : Option (List Part) → Statement
fails_late object = floating (Seq (Imm (Len 1) (codes "C")) (Lit (codes "z"))) object

failure_keeps_immediate : perform (fails_late None) (codes "abc") ≡ Ok (Failed ((codes "C", Str (codes "c")) ∷ []))
unfolding outcome_at trials_at results_of
failure_keeps_immediate = refl

failure_replaces_nothing : perform (fails_late (Some (Var (codes "C") ∷ []))) (codes "abc") ≡ Ok (Failed ((codes "C", Str (codes "c")) ∷ []))
unfolding outcome_at trials_at results_of
failure_replaces_nothing = refl

-- @P 'c', object P, on abc
cursor_in_object : perform (floating (Seq (At (codes "P")) (Lit (codes "c"))) (Some (Var (codes "P") ∷ []))) (codes "abc") ≡ Ok (Matched 2 3 ((codes "P", Int 2) ∷ []) (Some (codes "ab2")))
unfolding outcome_at trials_at results_of digits
cursor_in_object = refl

-- LEN(1) . X LEN(1) . X on AB: the part that ends last is kept
later_part_stands : perform (floating (Seq (Cond (Len 1) (codes "X")) (Cond (Len 1) (codes "X"))) None) (codes "AB") ≡ Ok (Matched 0 2 ((codes "X", Str (codes "B")) ∷ []) None)
unfolding outcome_at trials_at results_of
later_part_stands = refl

-- (LEN(1) LEN(1) . A) . A on AB: the outer part ends last
outer_part_stands : perform (floating (Cond (Seq (Len 1) (Cond (Len 1) (codes "A"))) (codes "A")) None) (codes "AB") ≡ Ok (Matched 0 2 ((codes "A", Str (codes "AB")) ∷ []) None)
unfolding outcome_at trials_at results_of
outer_part_stands = refl

-- TAB(2) . A TAB(4) . B RTAB(1) . C REM . D on abcdef
abbrev four_fields : Tree
four_fields = Seq (Cond (Tab 2) (codes "A")) (Seq (Cond (Tab 4) (codes "B")) (Seq (Cond (Rtab 1) (codes "C")) (Cond Rem (codes "D"))))

fields : perform (floating four_fields None) (codes "abcdef") ≡ Ok (Matched 0 6 ((codes "A", Str (codes "ab")) ∷ (codes "B", Str (codes "cd")) ∷ (codes "C", Str (codes "e")) ∷ (codes "D", Str (codes "f")) ∷ []) None)
unfolding outcome_at trials_at results_of
fields = refl

-- BREAK('=') . K on =v: K is the null string, and bound
null_part_is_bound : perform (floating (Cond (Break (codes "=")) (codes "K")) None) (codes "=v") ≡ Ok (Matched 0 0 ((codes "K", Str []) ∷ []) None)
unfolding outcome_at trials_at results_of
null_part_is_bound = refl

-- BREAK('=') . K on kv
break_fails : perform (floating (Cond (Break (codes "=")) (codes "K")) None) (codes "kv") ≡ Ok (Failed [])
unfolding outcome_at trials_at results_of
break_fails = refl

-- 'b', object Q, on abc
unbound_in_object : perform (floating (Lit (codes "b")) (Some (Var (codes "Q") ∷ []))) (codes "abc") ≡ Ok (Matched 1 2 [] (Some (codes "ac")))
unfolding outcome_at trials_at results_of
unbound_in_object = refl

-- 'b', with an object of no characters, on abc
null_object : perform (floating (Lit (codes "b")) (Some [])) (codes "abc") ≡ Ok (Matched 1 2 [] (Some (codes "ac")))
unfolding outcome_at trials_at results_of
null_object = refl

-- '', object 'z', on the empty text
null_text : perform (floating (Lit []) (Some (Quoted (codes "z") ∷ []))) [] ≡ Ok (Matched 0 0 [] (Some (codes "z")))
unfolding outcome_at trials_at results_of
null_text = refl

-- ---- The longest text
longest_text : with_text 0 1 [] (replicate 65536 97) ≡ Ok (Matched 0 1 [] (Some (replicate 65536 97)))
longest_text = refl

text_too_long : with_text 0 1 [] (replicate 65537 97) ≡ Err fault.TextTooLong
text_too_long = refl

-- 'b' on aab takes three trials: with a limit of three it matches ..
abbrev three_trials : ℕ → Statement
three_trials n = with_limit (floating (Lit (codes "b")) None) n

trials_enough : perform (three_trials 3) (codes "aab") ≡ Ok (Matched 2 3 [] None)
unfolding outcome_at trials_at results_of
trials_enough = refl

-- .. and with a limit of two it is refused
trials_too_many : perform (three_trials 2) (codes "aab") ≡ Err fault.TooManyTrials
unfolding outcome_at trials_at results_of
trials_too_many = refl

-- ---- Repeated statements
-- a pattern and an object, at most r times
abbrev replacing : Tree → List Part → ℕ → Statement
replacing pattern object r = with_repeat (floating pattern (Some object)) r

-- 'X', object '-', 1,000 times, on aXbXc
all_replaced : perform (replacing (Lit (codes "X")) (Quoted (codes "-") ∷ []) 1000) (codes "aXbXc") ≡ Ok (Repeated 2 [] (codes "a-b-c"))
unfolding outcome_at trials_at results_of
all_replaced = refl

-- 'a', object 'aa', 3 times, on a: each round finds what the round before put there
three_rounds : perform (replacing (Lit (codes "a")) (Quoted (codes "aa") ∷ []) 3) (codes "a") ≡ Ok (Repeated 3 [] (codes "aaaa"))
unfolding outcome_at trials_at results_of
three_rounds = refl

-- ANY('12') . D, object of no characters, 10 times, on a1b2: D has its value of the last match
last_bindings : perform (replacing (Cond (AnyOf (codes "12")) (codes "D")) [] 10) (codes "a1b2") ≡ Ok (Repeated 2 ((codes "D", Str (codes "2")) ∷ []) (codes "ab"))
unfolding outcome_at trials_at results_of
last_bindings = refl

-- 'a', object 'b', 5 times, on aab: the third round fails after four trials ..
abbrev limited_rounds : ℕ → Statement
limited_rounds n = with_limit (replacing (Lit (codes "a")) (Quoted (codes "b") ∷ []) 5) n

last_round_within : perform (limited_rounds 4) (codes "aab") ≡ Ok (Repeated 2 [] (codes "bbb"))
unfolding outcome_at trials_at results_of
last_round_within = refl

-- .. and if it may not have them the statement is refused, though two rounds matched
last_round_refused : perform (limited_rounds 3) (codes "aab") ≡ Err fault.TooManyTrials
unfolding outcome_at trials_at results_of
last_round_refused = refl

-- 'a', object 'c', twice, on b: the first round fails
no_round_matches : perform (replacing (Lit (codes "a")) (Quoted (codes "c") ∷ []) 2) (codes "b") ≡ Ok (Failed [])
unfolding outcome_at trials_at results_of
no_round_matches = refl

-- ---- Statements for all matches
abbrev for_all : Tree → Option (List Part) → Statement
for_all pattern object = with_all (floating pattern object)

abbrev anchored : Statement → Statement
anchored s = record { number = s.number; rules = s.rules; pattern = s.pattern; object = s.object; text = s.text; anchored = true; limit = s.limit; repeat = s.repeat; all = s.all }

abbrev at : ℕ → ℕ → Bindings → Match
at start end bindings = record { start = start; end = end; bindings = bindings }

-- '&', object '&amp;', on a&b&c: what is put in isn't searched
each_replaced : perform (for_all (Lit (codes "&")) (Some (Quoted (codes "&amp;") ∷ []))) (codes "a&b&c") ≡ Ok (All (at 1 2 [] ∷ at 3 4 [] ∷ []) (Some (codes "a&amp;b&amp;c")))
unfolding outcome_at trials_at outcome_at_from trials_at_from results_of matches_from trials_onward perform_all_within
each_replaced = refl

-- 'a', object 'aa', on aaa
none_between : perform (for_all (Lit (codes "a")) (Some (Quoted (codes "aa") ∷ []))) (codes "aaa") ≡ Ok (All (at 0 1 [] ∷ at 1 2 [] ∷ at 2 3 [] ∷ []) (Some (codes "aaaaaa")))
unfolding outcome_at trials_at outcome_at_from trials_at_from results_of matches_from trials_onward perform_all_within
none_between = refl

-- LEN(1) $ L ANY('12') . D on a1b2: each match has its own bindings
own_bindings : perform (for_all (Seq (Imm (Len 1) (codes "L")) (Cond (AnyOf (codes "12")) (codes "D"))) None) (codes "a1b2") ≡ Ok (All (at 0 2 ((codes "L", Str (codes "a")) ∷ (codes "D", Str (codes "1")) ∷ []) ∷ at 2 4 ((codes "L", Str (codes "b")) ∷ (codes "D", Str (codes "2")) ∷ []) ∷ []) None)
unfolding outcome_at trials_at outcome_at_from trials_at_from results_of matches_from trials_onward perform_all_within
own_bindings = refl

-- SPAN('a') | '', object 'x', on baaac: the null string at cursor 4 doesn't count
null_at_end_of_match : perform (for_all (Alt (Span (codes "a")) (Lit [])) (Some (Quoted (codes "x") ∷ []))) (codes "baaac") ≡ Ok (All (at 0 0 [] ∷ at 1 4 [] ∷ at 5 5 [] ∷ []) (Some (codes "xbxcx")))
unfolding outcome_at trials_at outcome_at_from trials_at_from results_of matches_from trials_onward perform_all_within
null_at_end_of_match = refl

-- '', object '-', on abc
null_everywhere : perform (for_all (Lit []) (Some (Quoted (codes "-") ∷ []))) (codes "abc") ≡ Ok (All (at 0 0 [] ∷ at 1 1 [] ∷ at 2 2 [] ∷ at 3 3 [] ∷ []) (Some (codes "-a-b-c-")))
unfolding outcome_at trials_at outcome_at_from trials_at_from results_of matches_from trials_onward perform_all_within
null_everywhere = refl

-- '', object 'z', on the empty text
null_on_empty : perform (for_all (Lit []) (Some (Quoted (codes "z") ∷ []))) [] ≡ Ok (All (at 0 0 [] ∷ []) (Some (codes "z")))
unfolding outcome_at trials_at outcome_at_from trials_at_from results_of matches_from trials_onward perform_all_within
null_on_empty = refl

-- anchored, 'a', object 'x', on aab
anchored_run : perform (anchored (for_all (Lit (codes "a")) (Some (Quoted (codes "x") ∷ [])))) (codes "aab") ≡ Ok (All (at 0 1 [] ∷ at 1 2 [] ∷ []) (Some (codes "xxb")))
unfolding outcome_at trials_at outcome_at_from trials_at_from results_of matches_from trials_onward perform_all_within
anchored_run = refl

-- anchored, 'a', on baa
anchored_none : perform (anchored (for_all (Lit (codes "a")) None)) (codes "baa") ≡ Ok (Failed [])
unfolding outcome_at trials_at outcome_at_from trials_at_from results_of matches_from trials_onward perform_all_within
anchored_none = refl

-- POS(2) 'a', object 'x', on abab: a primitive looks at the whole text
whole_text_seen : perform (for_all (Seq (Pos 2) (Lit (codes "a"))) (Some (Quoted (codes "x") ∷ []))) (codes "abab") ≡ Ok (All (at 2 3 [] ∷ []) (Some (codes "abxb")))
unfolding outcome_at trials_at outcome_at_from trials_at_from results_of matches_from trials_onward perform_all_within
whole_text_seen = refl

-- 'a' | ABORT, object 'x', on ab: a search that is aborted ends the pass
abort_ends : perform (for_all (Alt (Lit (codes "a")) Abort) (Some (Quoted (codes "x") ∷ []))) (codes "ab") ≡ Ok (All (at 0 1 [] ∷ []) (Some (codes "xb")))
unfolding outcome_at trials_at outcome_at_from trials_at_from results_of matches_from trials_onward perform_all_within
abort_ends = refl

-- 'a', object 'x', on aab: three searches take 1, 1 and 2 trials, more than three together ..
together_refused : perform (with_limit (for_all (Lit (codes "a")) (Some (Quoted (codes "x") ∷ []))) 3) (codes "aab") ≡ Err fault.TooManyTrials
unfolding outcome_at trials_at outcome_at_from trials_at_from results_of matches_from trials_onward perform_all_within
together_refused = refl

-- .. but no more than four
together_within : perform (with_limit (for_all (Lit (codes "a")) (Some (Quoted (codes "x") ∷ []))) 4) (codes "aab") ≡ Ok (All (at 0 1 [] ∷ at 1 2 [] ∷ []) (Some (codes "xxb")))
unfolding outcome_at trials_at outcome_at_from trials_at_from results_of matches_from trials_onward perform_all_within
together_within = refl

-- the new text may have 65,536 characters, and no more
abbrev doubled : ℕ → List Match
doubled n = at 0 n ((codes "A", Str (replicate n 97)) ∷ []) ∷ []

longest_of_all : finish_all (Some (Var (codes "A") ∷ [])) (replicate 65536 97) (doubled 65536) ≡ Ok (All (doubled 65536) (Some (replicate 65536 97)))
longest_of_all = refl

too_long_of_all : finish_all (Some (Var (codes "A") ∷ Quoted (codes "a") ∷ [])) (replicate 65536 97) (doubled 65536) ≡ Err fault.TextTooLong
too_long_of_all = refl

-- ---- The longest text that is allowed
-- 'a', object 'aa', on aaa: if six characters are allowed, the new text has six ..
abbrev each_doubled : Statement
each_doubled = for_all (Lit (codes "a")) (Some (Quoted (codes "aa") ∷ []))

six_allowed : perform_within 6 each_doubled (codes "aaa") ≡ Ok (All (at 0 1 [] ∷ at 1 2 [] ∷ at 2 3 [] ∷ []) (Some (codes "aaaaaa")))
unfolding outcome_at trials_at outcome_at_from trials_at_from results_of matches_from trials_onward perform_all_within
six_allowed = refl

-- .. and if five are, it is refused
five_allowed : perform_within 5 each_doubled (codes "aaa") ≡ Err fault.TextTooLong
unfolding outcome_at trials_at outcome_at_from trials_at_from results_of matches_from trials_onward perform_all_within
five_allowed = refl

-- the trials are refused first
five_allowed_in_two_trials : perform_within 5 (with_limit each_doubled 2) (codes "aaa") ≡ Err fault.TooManyTrials
unfolding outcome_at trials_at outcome_at_from trials_at_from results_of matches_from trials_onward perform_all_within
five_allowed_in_two_trials = refl

-- 'a', object 'aa', 3 times, on a: three characters are too few for the third round, and enough for two
three_for_three_rounds : perform_within 3 (replacing (Lit (codes "a")) (Quoted (codes "aa") ∷ []) 3) (codes "a") ≡ Err fault.TextTooLong
unfolding outcome_at trials_at results_of
three_for_three_rounds = refl

three_for_two_rounds : perform_within 3 (replacing (Lit (codes "a")) (Quoted (codes "aa") ∷ []) 2) (codes "a") ≡ Ok (Repeated 2 [] (codes "aaa"))
unfolding outcome_at trials_at results_of
three_for_two_rounds = refl

-- LEN(1) . B, object B B, on the bytes 195 and 169: each byte is a character, and any will do
one_byte : perform_within MAX_BYTES (floating (Cond (Len 1) (codes "B")) (Some (Var (codes "B") ∷ Var (codes "B") ∷ []))) (195 ∷ 169 ∷ []) ≡ Ok (Matched 0 1 ((codes "B", Str (195 ∷ [])) ∷ []) (Some (195 ∷ 195 ∷ 169 ∷ [])))
unfolding outcome_at trials_at results_of
one_byte = refl
