-- The listing of a run: lines of ASCII, each ended by a line feed.
use Rattle.std.specs.Prelude.{ℕ, ◌+◌, ◌/◌, ◌%◌, Bool, not, ◌&&◌, List, [], ◌∷◌, ◌++◌, length, nat_eq, nat_lt, nat_le, Option, Some, None, if◌then◌else◌, codes}
use Rattle.std.specs.List.{flat_map}
use Rattle.std.specs.Fmt.{decimal}
use Rattle.sno_statement.specs.Perform.{Outcome, Matched, Failed, Repeated, All}
use Rattle.sno_statement.specs.declared.match_lists.Match.{Match}
use Rattle.sno_statement.specs.declared.binding.Datum.{Datum}
use Rattle.sno_statement.specs.declared.binding.Datum.TheVariants.{Str, Int}
use Rattle.sno_book.specs.States.{VersionedText}
use Rattle.sno_book.specs.Entries.{Entry}
use Rattle.sno_listing.specs.History.{History}
use Rattle.sno_listing.specs.declared.refusals.Reason.{Reason}
use Rattle.sno_listing.specs.declared.refusals.Reason.TheVariants.{NoText, TextTooLong, TriesSpent, TooManyTrials, Full}
use Rattle.sno_listing.specs.declared.refusals.Refusal.{Refusal}

-- a hexadecimal digit, in lower case
abbrev pub hex_digit : ℕ → ℕ
hex_digit d = if nat_lt d 10 then d + 48 else d + 87

-- a character that is printed as itself: from the blank to the tilde, except the backslash
abbrev pub is_plain : ℕ → Bool
is_plain c = (nat_le 32 c && nat_le c 126) && not (nat_eq c 92)

-- a character as itself, or as `\x` with two hexadecimal digits
abbrev pub escaped_character : ℕ → List ℕ
escaped_character c = if is_plain c then c ∷ [] else 92 ∷ 120 ∷ hex_digit (c / 16) ∷ hex_digit (c % 16) ∷ []

abbrev pub escaped_text : List ℕ → List ℕ
escaped_text t = flat_map escaped_character t

-- a text: its name, its version, and its characters between bars
unfoldable pub text_line : VersionedText → List ℕ
text_line held = escaped_text held.name ++ (32 ∷ [] ++ (decimal held.version ++ (codes " |" ++ (escaped_text held.text ++ (124 ∷ 10 ∷ [])))))

-- the value of a variable: a string between bars, or a number
abbrev pub value_words : Datum → List ℕ
value_words (Str t) = codes "|" ++ (escaped_text t ++ codes "|")
value_words (Int n) = decimal n

-- a variable with its value
unfoldable pub binding_line : List ℕ × Datum → List ℕ
binding_line (name, value) = codes "  " ++ (name ++ (codes " = " ++ (value_words value ++ (10 ∷ []))))

-- the new text, if there is one
abbrev pub after_line : Option (List ℕ) → List ℕ
after_line None = []
after_line (Some t) = codes "  -> |" ++ (escaped_text t ++ (124 ∷ 10 ∷ []))

-- the same line further in
abbrev pub indented : List ℕ → List ℕ × Datum → List ℕ
indented blanks b = blanks ++ binding_line b

-- one of all matches: its cursors, and below it a line for each binding
unfoldable pub match_lines : Match → List ℕ
match_lines m = codes "  at " ++ (decimal m.start ++ (32 ∷ [] ++ (decimal m.end ++ (10 ∷ [] ++ flat_map (indented (codes "  ")) m.bindings))))

-- the outcome of a statement: the cursors of the match, the failure, or how many matches a repeated one had, with a line for
-- each binding; or how many matches there are in all, with the lines of each; and the new text
unfoldable pub done_lines : Outcome → List ℕ
done_lines (Matched s e bound after) =
    codes " matched " ++ (decimal s ++ (32 ∷ [] ++ (decimal e ++ (10 ∷ [] ++ (flat_map binding_line bound ++ after_line after)))))
done_lines (Failed bound) = codes " failed" ++ (10 ∷ [] ++ flat_map binding_line bound)
done_lines (Repeated n bound after) = codes " repeated " ++ (decimal n ++ (10 ∷ [] ++ (flat_map binding_line bound ++ after_line (Some after))))
done_lines (All matches after) = codes " all " ++ (decimal (length matches) ++ (10 ∷ [] ++ (flat_map match_lines matches ++ after_line after)))

-- the index of an entry and the statement's number
unfoldable pub entry_label : ℕ → ℕ → List ℕ
entry_label index number = decimal index ++ (codes " statement " ++ decimal number)

-- the text's name and its version
unfoldable pub entry_subject : List ℕ → ℕ → List ℕ
entry_subject name version = 32 ∷ [] ++ (escaped_text name ++ (32 ∷ [] ++ decimal version))

-- an entry of the journal, and its outcome
abbrev pub entry_lines : ℕ → Entry → List ℕ
entry_lines index e = entry_label index e.statement.number ++ (entry_subject e.statement.text e.version ++ done_lines e.outcome)

-- the entries, from an index on
abbrev pub entries_from : ℕ → List Entry → List ℕ
entries_from index [] = []
entries_from index (e ∷ entries) = entry_lines index e ++ entries_from (index + 1) entries

-- the version that the last try saw, and the one that the text had instead
unfoldable pub tries_words : ℕ → ℕ → List ℕ
tries_words seen now = codes "tries spent " ++ (decimal seen ++ (32 ∷ [] ++ decimal now))

abbrev pub reason_words : Reason → List ℕ
reason_words NoText = codes "no text"
reason_words TextTooLong = codes "text too long"
reason_words (TriesSpent seen now) = tries_words seen now
reason_words TooManyTrials = codes "too many trials"
reason_words Full = codes "full"

-- a refused statement: its number and the reason
unfoldable pub refused_line : Refusal → List ℕ
refused_line r = codes "statement " ++ (decimal r.number ++ (32 ∷ [] ++ (reason_words r.reason ++ (10 ∷ []))))

-- a label and the number of lines that follow
abbrev pub count_line : List ℕ → ℕ → List ℕ
count_line word n = word ++ (decimal n ++ (10 ∷ []))

-- the texts in the document's order, the entries in the journal's, the refused statements by rising number
unfoldable pub listing : History → List ℕ
listing h =
    count_line (codes "texts ") (length h.state) ++ (flat_map text_line h.state
    ++ (count_line (codes "entries ") (length h.journal) ++ (entries_from 0 h.journal
    ++ (count_line (codes "refused ") (length h.refused) ++ flat_map refused_line h.refused))))
