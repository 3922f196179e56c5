-- What is written of the matches of rules that are performed on the text of a file, one after the other.
use Rattle.std.specs.Prelude.{ℕ, Bool, true, false, ◌&&◌, List, [], ◌∷◌, ◌++◌, codes, map, nat_eq, Option, Some, None, Result, Ok, Err, if◌then◌else◌}
use Rattle.std.specs.List.{flat_map}
use Rattle.sno_statement.specs.Statement.{Statement}
use Rattle.sno_edit.specs.Edits.{Edited, turn}
use Rattle.sno_edit.specs.Turns.{begun}
use Rattle.sno_edit.specs.declared.faults.FileFault.{FileFault}
use Rattle.sno_edit.specs.declared.trials.Trials.{Trials}
use Rattle.sno_find.specs.Findings.{finding_of, hits_of, is_refused}
use Rattle.sno_find.specs.Json.{finding_json, head_json, number_member}

-- each match of a statement that is performed once; none if it is refused
unfoldable pub matches_json : Trials → List ℕ → List ℕ → Statement → List ℕ
matches_json trials path text s =
    if is_refused trials path text s then [] else flat_map (finding_json path text) (map (finding_of text) (hits_of trials path text s))

-- a repeated statement with the number of its rounds that matched
unfoldable pub rounds_row : List ℕ → ℕ → ℕ → List ℕ
rounds_row path number rounds = head_json path number ++ (number_member (codes "rounds") rounds ++ (125 ∷ 10 ∷ []))

-- .. if one did
abbrev pub rounds_json : List ℕ → ℕ → ℕ → List ℕ
rounds_json path number rounds = if nat_eq rounds 0 then [] else rounds_row path number rounds

-- what a statement leaves, if it isn't refused, and the text of that
abbrev pub ok_of : Result Edited FileFault → Option Edited
ok_of (Ok e) = Some e
ok_of (Err fault) = None

abbrev pub text_in : Result Edited FileFault → Option (List ℕ)
text_in (Ok e) = Some e.text
text_in (Err fault) = None

-- the rounds of a repeated statement that leaves this
abbrev pub turn_json : List ℕ → ℕ → Result Edited FileFault → List ℕ
turn_json path number (Ok e) = rounds_json path number e.matches
turn_json path number (Err fault) = []

-- a statement by its number of rounds, if it has one
abbrev pub by_rounds : {X : Type 0} → Option ℕ → X → X → X
by_rounds None once repeated = once
by_rounds (Some rounds) once repeated = repeated

-- what is written of a statement, performed on this text
abbrev pub statement_json : Trials → List ℕ → List ℕ → Statement → List ℕ
statement_json trials path text s =
    by_rounds s.repeat (matches_json trials path text s) (turn_json path s.number (turn path trials s (begun text)))

-- The text that a statement leaves. There is none if it is refused: nothing is written of those after it.
abbrev pub left_of : Trials → List ℕ → List ℕ → Statement → Option (List ℕ)
left_of trials path text s =
    if by_rounds s.repeat (is_refused trials path text s) false then None else text_in (turn path trials s (begun text))

abbrev pub go_on : Option (List ℕ) → (List ℕ → List ℕ) → List ℕ
go_on None go = []
go_on (Some text) go = go text

-- what is written of statements in turn, each performed on the text that those before it left
abbrev pub edit_json : Trials → List ℕ → List Statement → List ℕ → List ℕ
edit_json trials path [] text = []
edit_json trials path (s ∷ statements) text =
    statement_json trials path text s ++ go_on (left_of trials path text s) (edit_json trials path statements)
