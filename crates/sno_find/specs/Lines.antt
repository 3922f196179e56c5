-- Findings as lines.
use Rattle.std.specs.Prelude.{ℕ, List, [], ◌∷◌, ◌++◌, codes, take, drop}
use Rattle.std.specs.Fmt.{decimal}
use Rattle.std.specs.List.{before_first}
use Rattle.sno_edit.specs.Positions.{last_line}
use Rattle.sno_edit.specs.Scripts.{is_line_feed}
use Rattle.sno_edit.specs.declared.positions.Position.{Position}
use Rattle.sno_find.specs.declared.findings.Finding.{Finding}

-- the whole line on which a place is, without its line feed
abbrev pub whole_line : List ℕ → ℕ → List ℕ
whole_line text place = last_line (take place text) ++ before_first is_line_feed (drop place text)

-- where a finding starts: the path, the line and the column
abbrev pub place_text : List ℕ → Position → List ℕ
place_text path position = path ++ (codes ":" ++ (decimal position.line ++ (codes ":" ++ (decimal position.column ++ codes ":"))))

-- a finding, with the line on which it starts
abbrev pub finding_line : List ℕ → List ℕ → Finding → List ℕ
finding_line path text finding = place_text path finding.start ++ (whole_line text finding.start.place ++ (10 ∷ []))

-- how many findings a file has
abbrev pub count_line : List ℕ → ℕ → List ℕ
count_line path count = path ++ (codes ":" ++ (decimal count ++ (10 ∷ [])))
