-- Statements by value.
use Rattle.std.specs.Prelude.{◌≡◌, ◌≤◌, ℕ, Bool, true, false, List, Option, Some, None, IsSome, IsTrue, refl}
use Rattle.std.specs.Coded.{Coded, code_by, coded×, coded_list, coded_ℕ, coded_bool, coded_option}
use Rattle.sno_pattern.specs.Tree.{Tree}
use Rattle.sno_pattern.specs.Definitions.{Definitions, definitions_code, tree_code}
use Rattle.sno_read.specs.declared.objects.Part.{Part}
use Rattle.sno_read.specs.contracts.objects.Part as stored
use Rattle.sno_statement.specs.declared.statements.TheConstants.{MAX_TRIALS, MAX_ROUNDS}

-- a statement has these parts:
-- - the caller's number;
-- - the definitions and the pattern;
-- - the object's parts, if it replaces;
-- - the text's name;
-- - whether a match begins at cursor 0 alone;
-- - how many trials a match may have, or all searches together if it is for all matches;
-- - how often it is repeated at most, if it is repeated;
-- - whether it is for all matches
pub record Statement : Type 0 where
  pub number : ℕ
  pub rules : Definitions
  pub pattern : Tree
  pub object : Option (List Part)
  pub text : List ℕ
  pub anchored : Bool
  pub limit : ℕ
  pub repeat : Option ℕ
  pub all : Bool

-- a limit is at least 1 and at most 1,000,000,000
abbrev pub IsLimit : ℕ → Type 0
IsLimit n = (1 ≤ n) × (n ≤ MAX_TRIALS)

-- this statement, with this limit
abbrev pub with_limit : Statement → ℕ → Statement
with_limit s n = record { number = s.number; rules = s.rules; pattern = s.pattern; object = s.object; text = s.text; anchored = s.anchored; limit = n; repeat = s.repeat; all = s.all }

-- a statement that replaces may be repeated, 1 to 1,000 times
abbrev pub IsRepeat : Option (List Part) → ℕ → Type 0
IsRepeat object r = IsSome object × (1 ≤ r) × (r ≤ MAX_ROUNDS)

-- this statement, repeated at most this often, and so not for all matches
abbrev pub with_repeat : Statement → ℕ → Statement
with_repeat s r = record { number = s.number; rules = s.rules; pattern = s.pattern; object = s.object; text = s.text; anchored = s.anchored; limit = s.limit; repeat = Some r; all = false }

-- this statement, for all matches, and so not repeated
abbrev pub with_all : Statement → Statement
with_all s = record { number = s.number; rules = s.rules; pattern = s.pattern; object = s.object; text = s.text; anchored = s.anchored; limit = s.limit; repeat = None; all = true }

-- a statement for all matches isn't repeated
abbrev pub IsOneWay : Option ℕ → Bool → Type 0
IsOneWay repeat all = IsTrue all → repeat ≡ None

-- the code of an object's part
abbrev pub part_code : Coded Part
part_code = stored.the_row.coded

-- a statement is stored as the tuple of its fields
abbrev pub statement_code : Coded Statement
statement_code =
    code_by (ℕ × (Definitions × (Tree × (Option (List Part) × (List ℕ × (Bool × (ℕ × (Option ℕ × Bool))))))))
    (coded× coded_ℕ (coded× definitions_code (coded× tree_code (coded× (coded_option (coded_list part_code)) (coded× (coded_list coded_ℕ) (coded× coded_bool (coded× coded_ℕ (coded× (coded_option coded_ℕ) coded_bool))))))))
    (λ s. (s.number, (s.rules, (s.pattern, (s.object, (s.text, (s.anchored, (s.limit, (s.repeat, s.all)))))))))
    (λ p. record { number = p.0; rules = p.1.0; pattern = p.1.1.0; object = p.1.1.1.0; text = p.1.1.1.1.0; anchored = p.1.1.1.1.1.0; limit = p.1.1.1.1.1.1.0; repeat = p.1.1.1.1.1.1.1.0; all = p.1.1.1.1.1.1.1.1 }) (λ _. refl)
