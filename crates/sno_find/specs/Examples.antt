-- Worked examples: each is proved by computing from the definitions alone.
use Rattle.std.specs.Prelude.{◌≡◌, ℕ, true, false, List, [], ◌∷◌, ◌++◌, None, Some, codes, refl}
use Rattle.std.specs.Fmt.{digits}
use Rattle.std.specs.declared.cmp.Ordering.TheVariants.{Less}
use Rattle.sno_pattern.specs.Outcome.{outcome_at, trials_at, outcome_at_from, trials_at_from}
use Rattle.sno_pattern.specs.Results.{results_of}
use Rattle.sno_pattern.specs.Tree.{Tree, AnyOf, Cond, Lit}
use Rattle.sno_statement.specs.Passes.{matches_from, trials_onward}
use Rattle.sno_statement.specs.Statement.{Statement}
use Rattle.sno_statement.specs.declared.binding.Datum.TheVariants.{Str}
use Rattle.sno_edit.specs.declared.trials.Trials.TheVariants.{AtMost}
use Rattle.sno_find.specs.Findings.{Hit, all_hits, by_place, finding_of, first_refused, place_of}
use Rattle.sno_find.specs.Lines.{count_line, finding_line}
use Rattle.sno_find.specs.declared.findings.Finding.{Finding}

-- a statement for the file with this path, for all matches
abbrev all_of : ℕ → List ℕ → Tree → Statement
all_of number path pattern = record { number = number; rules = record { names = []; bodies = [] }; pattern = pattern; object = None; text = path; anchored = false; limit = 1000; repeat = None; all = true }

-- .. and one for the first
abbrev first_of : ℕ → List ℕ → Tree → Statement
first_of number path pattern = record { number = number; rules = record { names = []; bodies = [] }; pattern = pattern; object = None; text = path; anchored = false; limit = 1000; repeat = None; all = false }

abbrev hit : ℕ → ℕ → ℕ → Hit
hit number start end = record { statement = number; found = record { start = start; end = end; bindings = [] } }

-- all 'b' in each file, the first 'b' in the file x, and all 'a' in the file y
abbrev statements : List Statement
statements = all_of 1 (codes "*") (Lit (codes "b")) ∷ first_of 2 (codes "x") (Lit (codes "b")) ∷ all_of 3 (codes "y") (Lit (codes "a")) ∷ []

in_x : all_hits (AtMost 1000) (codes "x") (codes "abb") statements ≡ hit 1 1 2 ∷ hit 1 2 3 ∷ hit 2 1 2 ∷ []
unfolding outcome_at trials_at outcome_at_from trials_at_from results_of matches_from trials_onward
in_x = refl

in_y : all_hits (AtMost 1000) (codes "y") (codes "abb") statements ≡ hit 1 1 2 ∷ hit 1 2 3 ∷ hit 3 0 1 ∷ []
unfolding outcome_at trials_at outcome_at_from trials_at_from results_of matches_from trials_onward
in_y = refl

-- ANY('12') . D on a1b2: each match has its own value of D
own_values : all_hits (AtMost 1000) (codes "x") (codes "a1b2") (all_of 1 (codes "x") (Cond (AnyOf (codes "12")) (codes "D")) ∷ [])
    ≡ record { statement = 1; found = record { start = 1; end = 2; bindings = (codes "D", Str (codes "1")) ∷ [] } }
    ∷ record { statement = 1; found = record { start = 3; end = 4; bindings = (codes "D", Str (codes "2")) ∷ [] } } ∷ []
unfolding outcome_at trials_at outcome_at_from trials_at_from results_of matches_from trials_onward
own_values = refl

-- ---- Refusals. The searches for all 'b' in abb take 2, 1 and 1 trials; the first alone takes 2.
four_trials : first_refused (AtMost 4) (codes "y") (codes "abb") (all_of 1 (codes "*") (Lit (codes "b")) ∷ []) ≡ None
unfolding outcome_at trials_at outcome_at_from trials_at_from results_of matches_from trials_onward
four_trials = refl

three_trials : first_refused (AtMost 3) (codes "y") (codes "abb") (all_of 1 (codes "*") (Lit (codes "b")) ∷ []) ≡ Some 1
unfolding outcome_at trials_at outcome_at_from trials_at_from results_of matches_from trials_onward
three_trials = refl

-- a statement for another file is not sought, and so not refused
another_file : first_refused (AtMost 1) (codes "y") (codes "abb") (all_of 1 (codes "x") (Lit (codes "b")) ∷ []) ≡ None
unfolding outcome_at trials_at outcome_at_from trials_at_from results_of matches_from trials_onward
another_file = refl

-- ---- Order: by the start, and then by the number of the statement
by_start : by_place (place_of (hit 2 1 2)) (place_of (hit 1 2 3)) ≡ Less
by_start = refl

by_number : by_place (place_of (hit 1 1 3)) (place_of (hit 2 1 2)) ≡ Less
by_number = refl

-- ---- Findings. The bytes 195 and 169 are the character `é`.
abbrev cafe : List ℕ
cafe = codes "a" ++ (10 ∷ (codes "caf" ++ (195 ∷ 169 ∷ (codes "!" ++ (10 ∷ codes "b")))))

abbrev mark : Finding
mark = finding_of cafe (hit 7 7 8)

-- the exclamation mark is the fifth character of the second line
fifth_of_the_second : mark ≡ record { statement = 7; start = record { place = 7; line = 2; column = 5 }; end = 8; bindings = [] }
fifth_of_the_second = refl

its_line : finding_line (codes "x.c") cafe mark ≡ codes "x.c:2:5:caf" ++ (195 ∷ 169 ∷ (codes "!" ++ (10 ∷ [])))
unfolding digits
its_line = refl

-- a line feed is on the line that it ends
line_feed_itself : finding_line (codes "x") (codes "ab" ++ (10 ∷ codes "c")) (finding_of (codes "ab" ++ (10 ∷ codes "c")) (hit 1 2 3)) ≡ codes "x:1:3:ab" ++ (10 ∷ [])
unfolding digits
line_feed_itself = refl

twelve : count_line (codes "x") 12 ≡ codes "x:12" ++ (10 ∷ [])
unfolding digits
twelve = refl
