-- Worked examples: each is proved by computing from the definitions alone. Texts and patterns are written out, so that a reader
-- can compare them with the manual.
use Rattle.std.specs.Prelude.{◌≡◌, ℕ, true, false, List, [], ◌∷◌, Some, None, codes, refl}
use Rattle.sno_pattern.specs.Tree.{Lit, Len, Pos, Rpos, Tab, Rtab, AnyOf, NoneOf, Span, Break, Arb, Arbno, Bal, Rem, Fence, Abort, Fail, At, Ref, Seq, Alt, Cond, Imm}
use Rattle.sno_pattern.specs.Events.{CondList}
use Rattle.sno_pattern.specs.Results.{results_of, definition_results}
use Rattle.sno_pattern.specs.Outcome.{outcome, outcome_at, trials, trials_at}
use Rattle.sno_pattern.specs.declared.events.What.TheVariants.{Part, Cursor}
use Rattle.sno_pattern.specs.declared.events.Assign.{Assign}
use Rattle.sno_pattern.specs.declared.found.Found.{Found}

-- assignments done at once, then failure, or a success from s to e
abbrev failed : List Assign → Found
failed sets = record { sets = sets; end = None }

abbrev matched : List Assign → ℕ → ℕ → CondList → Found
matched sets s e conds = record { sets = sets; end = Some (record { start = s; end = e; conds = conds }) }

abbrev part_of : List ℕ → ℕ → ℕ → Assign
part_of v s e = record { name = v; what = Part s e }

abbrev cursor_of : List ℕ → ℕ → Assign
cursor_of v c = record { name = v; what = Cursor c }

-- the null literal matches the null string: '' on the empty text
null_literal : outcome [] [] (Lit []) false ≡ matched [] 0 0 []
unfolding outcome_at results_of definition_results
null_literal = refl

-- SPAN has no alternatives: SPAN('a') 'a' on aaab
span_gives_nothing_back : outcome (codes "aaab") [] (Seq (Span (codes "a")) (Lit (codes "a"))) false ≡ failed []
unfolding outcome_at results_of definition_results
span_gives_nothing_back = refl

-- anchored, ARB . X 'a' RPOS(0) on aaa: X is aa
arb_grows : outcome (codes "aaa") [] (Seq (Cond Arb (codes "X")) (Seq (Lit (codes "a")) (Rpos 0))) true ≡ matched [] 0 3 (((codes "X"), 0, 2) ∷ [])
unfolding outcome_at results_of definition_results
arb_grows = refl

-- backing into FENCE fails the whole match: FENCE 'b' on ab
fence_fails_the_match : outcome (codes "ab") [] (Seq Fence (Lit (codes "b"))) false ≡ failed []
unfolding outcome_at results_of definition_results
fence_fails_the_match = refl

-- 'b' on ab
second_start : outcome (codes "ab") [] (Lit (codes "b")) false ≡ matched [] 1 2 []
unfolding outcome_at results_of definition_results
second_start = refl

-- LEN(1) $ C 'z' on abc: each assignment stays, though the match fails
immediate_stays : outcome (codes "abc") [] (Seq (Imm (Len 1) (codes "C")) (Lit (codes "z"))) false ≡ failed (part_of (codes "C") 0 1 ∷ part_of (codes "C") 1 2 ∷ part_of (codes "C") 2 3 ∷ [])
unfolding outcome_at results_of definition_results
immediate_stays = refl

-- BAL $ B FAIL on ((A+(B*C))+D): every balanced part, the last one D
balanced_parts : outcome (codes "((A+(B*C))+D)") [] (Seq (Imm Bal (codes "B")) Fail) false ≡ failed (part_of (codes "B") 0 13 ∷ part_of (codes "B") 1 10 ∷ part_of (codes "B") 1 11 ∷ part_of (codes "B") 1 12 ∷ part_of (codes "B") 2 3 ∷ part_of (codes "B") 2 4 ∷ part_of (codes "B") 2 9 ∷ part_of (codes "B") 3 4 ∷ part_of (codes "B") 3 9 ∷ part_of (codes "B") 4 9 ∷ part_of (codes "B") 5 6 ∷ part_of (codes "B") 5 7 ∷ part_of (codes "B") 5 8 ∷ part_of (codes "B") 6 7 ∷ part_of (codes "B") 6 8 ∷ part_of (codes "B") 7 8 ∷ part_of (codes "B") 10 11 ∷ part_of (codes "B") 10 12 ∷ part_of (codes "B") 11 12 ∷ [])
unfolding outcome_at results_of definition_results
balanced_parts = refl

-- anchored, ARBNO('') RPOS(0) on ab
null_rounds_are_dropped : outcome (codes "ab") [] (Seq (Arbno (Lit [])) (Rpos 0)) true ≡ failed []
unfolding outcome_at results_of definition_results
null_rounds_are_dropped = refl

-- P is '(' *P ')' | 'x'; anchored, *P RPOS(0) on ((x))
recursion : outcome (codes "((x))") ((Alt (Seq (Lit (codes "(")) (Seq (Ref 0) (Lit (codes ")")))) (Lit (codes "x"))) ∷ []) (Seq (Ref 0) (Rpos 0)) true ≡ matched [] 0 5 []
unfolding outcome_at results_of definition_results
recursion = refl

-- LEN(1) . X LEN(1) . X on AB: the later part comes last
parts_in_order : outcome (codes "AB") [] (Seq (Cond (Len 1) (codes "X")) (Cond (Len 1) (codes "X"))) false ≡ matched [] 0 2 (((codes "X"), 0, 1) ∷ ((codes "X"), 1, 2) ∷ [])
unfolding outcome_at results_of definition_results
parts_in_order = refl

-- (LEN(1) LEN(1) . A) . A on AB: the part that ends last comes last
outer_part_last : outcome (codes "AB") [] (Cond (Seq (Len 1) (Cond (Len 1) (codes "A"))) (codes "A")) false ≡ matched [] 0 2 (((codes "A"), 1, 2) ∷ ((codes "A"), 0, 2) ∷ [])
unfolding outcome_at results_of definition_results
outer_part_last = refl

-- anchored, ARBNO(LEN(1) . Y | LEN(2) . Y) RPOS(0) on abc
rounds_in_depth : outcome (codes "abc") [] (Seq (Arbno (Alt (Cond (Len 1) (codes "Y")) (Cond (Len 2) (codes "Y")))) (Rpos 0)) true ≡ matched [] 0 3 (((codes "Y"), 0, 1) ∷ ((codes "Y"), 1, 2) ∷ ((codes "Y"), 2, 3) ∷ [])
unfolding outcome_at results_of definition_results
rounds_in_depth = refl

-- 'a' ABORT | 'b' on ab
abort_fails_the_starts_left : outcome (codes "ab") [] (Alt (Seq (Lit (codes "a")) Abort) (Lit (codes "b"))) false ≡ failed []
unfolding outcome_at results_of definition_results
abort_fails_the_starts_left = refl

-- 'a' ABORT | 'b' on ba
abort_not_met : outcome (codes "ba") [] (Alt (Seq (Lit (codes "a")) Abort) (Lit (codes "b"))) false ≡ matched [] 0 1 []
unfolding outcome_at results_of definition_results
abort_not_met = refl

-- TAB(2) . A TAB(4) . B RTAB(1) . C REM . D on abcdef
tabs : outcome (codes "abcdef") [] (Seq (Cond (Tab 2) (codes "A")) (Seq (Cond (Tab 4) (codes "B")) (Seq (Cond (Rtab 1) (codes "C")) (Cond Rem (codes "D"))))) false ≡ matched [] 0 6 (((codes "A"), 0, 2) ∷ ((codes "B"), 2, 4) ∷ ((codes "C"), 4, 5) ∷ ((codes "D"), 5, 6) ∷ [])
unfolding outcome_at results_of definition_results
tabs = refl

-- POS(2) 'ab' on abab
pos : outcome (codes "abab") [] (Seq (Pos 2) (Lit (codes "ab"))) false ≡ matched [] 2 4 []
unfolding outcome_at results_of definition_results
pos = refl

-- 'ab' RPOS(0) on abab
rpos : outcome (codes "abab") [] (Seq (Lit (codes "ab")) (Rpos 0)) false ≡ matched [] 2 4 []
unfolding outcome_at results_of definition_results
rpos = refl

-- RTAB(5) on abab
rtab_too_far : outcome (codes "abab") [] (Rtab 5) false ≡ failed []
unfolding outcome_at results_of definition_results
rtab_too_far = refl

-- BREAK('=') . K on =v: K is null
break_null : outcome (codes "=v") [] (Cond (Break (codes "=")) (codes "K")) false ≡ matched [] 0 0 (((codes "K"), 0, 0) ∷ [])
unfolding outcome_at results_of definition_results
break_null = refl

-- BREAK('=') . K on kv
break_missing : outcome (codes "kv") [] (Cond (Break (codes "=")) (codes "K")) false ≡ failed []
unfolding outcome_at results_of definition_results
break_missing = refl

-- NOTANY('ab') . N on aab1
notany : outcome (codes "aab1") [] (Cond (NoneOf (codes "ab")) (codes "N")) false ≡ matched [] 3 4 (((codes "N"), 3, 4) ∷ [])
unfolding outcome_at results_of definition_results
notany = refl

-- ANY('ba') on cab
any : outcome (codes "cab") [] (AnyOf (codes "ba")) false ≡ matched [] 1 2 []
unfolding outcome_at results_of definition_results
any = refl

-- anchored, BAL . B RPOS(0) on (a)b
balanced_grows : outcome (codes "(a)b") [] (Seq (Cond Bal (codes "B")) (Rpos 0)) true ≡ matched [] 0 4 (((codes "B"), 0, 4) ∷ [])
unfolding outcome_at results_of definition_results
balanced_grows = refl

-- BAL on )(
not_balanced : outcome (codes ")(") [] Bal false ≡ failed []
unfolding outcome_at results_of definition_results
not_balanced = refl

-- LEN(65536) on abc
len_too_long : outcome (codes "abc") [] (Len 65536) false ≡ failed []
unfolding outcome_at results_of definition_results
len_too_long = refl

-- LEN(0) on abc
len_null : outcome (codes "abc") [] (Len 0) false ≡ matched [] 0 0 []
unfolding outcome_at results_of definition_results
len_null = refl

-- anchored, ARB 'a' RPOS(0) on aaa
arb_anchored : outcome (codes "aaa") [] (Seq Arb (Seq (Lit (codes "a")) (Rpos 0))) true ≡ matched [] 0 3 []
unfolding outcome_at results_of definition_results
arb_anchored = refl

-- ARBNO(FENCE) 'b' on ab: the failure of the whole match stays
fence_in_arbno : outcome (codes "ab") [] (Seq (Arbno Fence) (Lit (codes "b"))) false ≡ failed []
unfolding outcome_at results_of definition_results
fence_in_arbno = refl

-- (FENCE | 'a') 'b' on ab
fence_in_alternative : outcome (codes "ab") [] (Seq (Alt Fence (Lit (codes "a"))) (Lit (codes "b"))) false ≡ failed []
unfolding outcome_at results_of definition_results
fence_in_alternative = refl

-- @P 'z' on abc: P is assigned at each start, 3 last
cursor_of_each_start : outcome (codes "abc") [] (Seq (At (codes "P")) (Lit (codes "z"))) false ≡ failed (cursor_of (codes "P") 0 ∷ cursor_of (codes "P") 1 ∷ cursor_of (codes "P") 2 ∷ cursor_of (codes "P") 3 ∷ [])
unfolding outcome_at results_of definition_results
cursor_of_each_start = refl

-- S is 'a' *S | ''; anchored, *S . A 'a' *S . B 'b' on aaab
recursion_backed_into : outcome (codes "aaab") ((Alt (Seq (Lit (codes "a")) (Ref 0)) (Lit [])) ∷ []) (Seq (Cond (Ref 0) (codes "A")) (Seq (Lit (codes "a")) (Seq (Cond (Ref 0) (codes "B")) (Lit (codes "b"))))) true ≡ matched [] 0 4 (((codes "A"), 0, 2) ∷ ((codes "B"), 3, 3) ∷ [])
unfolding outcome_at results_of definition_results
recursion_backed_into = refl

-- S is LEN(1) $ C *S | ''; anchored, *S 'c' on abc
immediate_in_recursion : outcome (codes "abc") ((Alt (Seq (Imm (Len 1) (codes "C")) (Ref 0)) (Lit [])) ∷ []) (Seq (Ref 0) (Lit (codes "c"))) true ≡ matched (part_of (codes "C") 0 1 ∷ part_of (codes "C") 1 2 ∷ part_of (codes "C") 2 3 ∷ []) 0 3 []
unfolding outcome_at results_of definition_results
immediate_in_recursion = refl

-- 'b' on aab: one trial at each of three starts
trials_of_a_literal : trials (codes "aab") [] (Lit (codes "b")) false ≡ 3
unfolding trials_at results_of definition_results
trials_of_a_literal = refl

-- anchored, ARB 'c' on abc: ARB is met and backed into twice, and 'c' is tried after each of its ends
trials_of_arb : trials (codes "abc") [] (Seq Arb (Lit (codes "c"))) true ≡ 6
unfolding trials_at results_of definition_results
trials_of_arb = refl

-- anchored, ARB 'z' on ab: three ends, and 'z' is tried after each
trials_of_all_ends : trials (codes "ab") [] (Seq Arb (Lit (codes "z"))) true ≡ 6
unfolding trials_at results_of definition_results
trials_of_all_ends = refl

-- anchored, BAL 'z' on (a)b: two ends, and 'z' is tried after each; finding no third end costs nothing
trials_of_bal : trials (codes "(a)b") [] (Seq Bal (Lit (codes "z"))) true ≡ 4
unfolding trials_at results_of definition_results
trials_of_bal = refl

-- anchored, ARBNO('') RPOS(0) on ab: a repetition is not a leaf and costs nothing; its part and what follows cost one each
trials_of_a_repetition : trials (codes "ab") [] (Seq (Arbno (Lit [])) (Rpos 0)) true ≡ 2
unfolding trials_at results_of definition_results
trials_of_a_repetition = refl

-- FENCE 'b' on ab: backing into FENCE ends the match, and no second start is tried
trials_of_fence : trials (codes "ab") [] (Seq Fence (Lit (codes "b"))) false ≡ 2
unfolding trials_at results_of definition_results
trials_of_fence = refl

-- 'a' ABORT | 'b' on ba: 'a' fails, 'b' matches
trials_before_abort : trials (codes "ba") [] (Alt (Seq (Lit (codes "a")) Abort) (Lit (codes "b"))) false ≡ 2
unfolding trials_at results_of definition_results
trials_before_abort = refl

-- @P 'z' on abc: a cursor assignment is a leaf, so each of four starts costs two
trials_of_a_cursor : trials (codes "abc") [] (Seq (At (codes "P")) (Lit (codes "z"))) false ≡ 8
unfolding trials_at results_of definition_results
trials_of_a_cursor = refl

-- P is '(' *P ')' | 'x'; anchored, *P RPOS(0) on (x): a reference costs nothing; '(', then '(' and 'x', then ')' and RPOS(0)
trials_of_a_reference : trials (codes "(x)") ((Alt (Seq (Lit (codes "(")) (Seq (Ref 0) (Lit (codes ")")))) (Lit (codes "x"))) ∷ []) (Seq (Ref 0) (Rpos 0)) true ≡ 5
unfolding trials_at results_of definition_results
trials_of_a_reference = refl
