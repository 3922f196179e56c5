-- Files of rules: what their lines are.
use Rattle.std.specs.Prelude.{ℕ, suc, ◌+◌, ◌-◌, ◌≡◌, ◌≢◌, Bool, List, [], ◌∷◌, ◌++◌, length, take, drop, map, nat_eq, not, Result, Ok, Err, if◌then◌else◌}
use Rattle.std.specs.List.{prefix_len, suffix_len}
use Rattle.sno_pattern.specs.Identifiers.{is_letter}
use Rattle.sno_rules.specs.Lines.{is_blank}
use Rattle.sno_rules.specs.declared.rule_files.FileLine.{FileLine as StoredLine}
use Rattle.sno_rules.specs.declared.rule_files.LineKind.{LineKind}
use Rattle.sno_rules.specs.declared.rule_files.LineKind.TheVariants as kind
use Rattle.sno_rules.specs.declared.rule_files.Meaning.{Meaning}
use Rattle.sno_rules.specs.declared.rule_files.Meaning.TheVariants as meaning
use Rattle.sno_rules.specs.declared.faults.RuleFileFault.{RuleFileFault}
use Rattle.sno_rules.specs.declared.faults.RuleFileFault.TheVariants as fault

-- a rule or a definition, with the number of the line on which it begins
pub record FileLine : Type 0 where
  pub number : ℕ
  pub kind : LineKind
  pub characters : List ℕ

abbrev pub line_seen : StoredLine → FileLine
line_seen l = record { number = l.number; kind = l.kind; characters = l.characters.items }

-- a line ends before a line feed, and before the carriage returns that come before that
abbrev pub is_in_line : ℕ → Bool
is_in_line c = not (nat_eq c 10)

abbrev pub is_return : ℕ → Bool
is_return c = nat_eq c 13

abbrev pub bare : List ℕ → List ℕ
bare line = take (length line - suffix_len is_return line) line

abbrev pub line_of : List ℕ → List ℕ
line_of text = bare (take (prefix_len is_in_line text) text)

-- what comes after the line and its line feed
abbrev pub after_line : List ℕ → List ℕ
after_line text = drop 1 (drop (prefix_len is_in_line text) text)

-- What a line is, by its first character: nothing, if it is empty, blank or a comment; more of the line before; a rule; or a definition.
abbrev pub meaning_of : List ℕ → Meaning
meaning_of [] = meaning.Nothing
meaning_of (c ∷ cs) =
    if nat_eq c 42 then meaning.Nothing
    else (if nat_eq c 43 then meaning.More
    else (if is_blank c then (if nat_eq (prefix_len is_blank (c ∷ cs)) (length (c ∷ cs)) then meaning.Nothing else meaning.Rule)
    else (if is_letter c then meaning.Definition
    else meaning.Unknown)))

-- this line before the others, if there is no fault
abbrev pub after_first : FileLine → Result (List FileLine) RuleFileFault → Result (List FileLine) RuleFileFault
after_first l (Ok ls) = Ok (l ∷ ls)
after_first l (Err e) = Err e

-- the last line goes on with these characters; there has to be one
abbrev pub with_more : ℕ → List FileLine → List ℕ → Result (List FileLine) RuleFileFault
with_more number [] text = Err (fault.NothingBefore number)
with_more number (l ∷ []) text = Ok (record { number = l.number; kind = l.kind; characters = l.characters ++ text } ∷ [])
with_more number (l ∷ (k ∷ ls)) text = after_first l (with_more number (k ∷ ls) text)

abbrev pub with_meaning : ℕ → List FileLine → List ℕ → Meaning → Result (List FileLine) RuleFileFault
with_meaning number lines line meaning.Nothing = Ok lines
with_meaning number lines line meaning.More = with_more number lines (drop 1 line)
with_meaning number lines line meaning.Rule = Ok (lines ++ (record { number = number; kind = kind.Rule; characters = line } ∷ []))
with_meaning number lines line meaning.Definition = Ok (lines ++ (record { number = number; kind = kind.Definition; characters = line } ∷ []))
with_meaning number lines line meaning.Unknown = Err (fault.UnknownLine number)

-- the rules and definitions with one more line, which has this number
abbrev pub with_line : ℕ → List FileLine → List ℕ → Result (List FileLine) RuleFileFault
with_line number lines line = with_meaning number lines line (meaning_of line)

-- The rules and definitions of a text whose first line has this number, after those before; or the first fault.
pub data AreLines : ℕ → List FileLine → List ℕ → Result (List FileLine) RuleFileFault → Type 0 where
  no_more : (n : ℕ) (lines : List FileLine) → AreLines n lines [] (Ok lines)
  wrong : (n : ℕ) (lines : List FileLine) (c : ℕ) (cs : List ℕ) (e : RuleFileFault) → with_line n lines (line_of (c ∷ cs)) ≡ Err e → AreLines n lines (c ∷ cs) (Err e)
  more : (n : ℕ) (lines next : List FileLine) (c : ℕ) (cs : List ℕ) (r : Result (List FileLine) RuleFileFault) → with_line n lines (line_of (c ∷ cs)) ≡ Ok next
      → AreLines (n + 1) next (after_line (c ∷ cs)) r → AreLines n lines (c ∷ cs) r
