-- Sets as a hand writes them, and what is spelled in their place: a pattern or an object as `sno_read` reads it.
use Rattle.std.specs.Prelude.{ℕ, suc, ◌-◌, ◌+◌, ◌<◌, ◌≡◌, ◌≢◌, Bool, true, false, not, ◌&&◌, ◌||◌, List, [], ◌∷◌, ◌++◌, length, take, drop, filter, nat_eq, nat_le, nat_lt, Option, Some, None, Result, Ok, Err, codes, if◌then◌else◌}
use Rattle.std.specs.Option.{option_map}
use Rattle.std.specs.List.{find, list_any, prefix_len}
use Rattle.sno_pattern.specs.Identifiers.{is_letter, is_name_char, same}
use Rattle.sno_rules.specs.Lines.{before_quote, is_blank, is_quote}
use Rattle.sno_rules.specs.declared.names.SetName.{SetName}
use Rattle.sno_rules.specs.declared.calls.SetWord.{SetWord}
use Rattle.sno_rules.specs.declared.calls.SetWord.TheVariants as word
use Rattle.sno_rules.specs.declared.spelling.Mark.{Mark}
use Rattle.sno_rules.specs.declared.spelling.Spelling.{Spelling as StoredSpelling}
use Rattle.sno_rules.specs.declared.faults.SpellingFault.{SpellingFault}
use Rattle.sno_rules.specs.declared.faults.SpellingFault.TheVariants as fault

-- the names of sets that every rule may use, with their characters
unfoldable pub ready_set : List ℕ → Option (List ℕ)
ready_set w =
    if same w (codes "LETTER") then Some (codes "ABCDEFGHIJKLMNOPQRSTUVWXYZabcdefghijklmnopqrstuvwxyz")
    else (if same w (codes "UPPER") then Some (codes "ABCDEFGHIJKLMNOPQRSTUVWXYZ")
    else (if same w (codes "LOWER") then Some (codes "abcdefghijklmnopqrstuvwxyz")
    else (if same w (codes "DIGIT") then Some (codes "0123456789")
    else (if same w (codes "HEX") then Some (codes "0123456789ABCDEFabcdef")
    else (if same w (codes "BLANK") then Some (32 ∷ 9 ∷ [])
    else (if same w (codes "WORD") then Some (codes "ABCDEFGHIJKLMNOPQRSTUVWXYZabcdefghijklmnopqrstuvwxyz0123456789_")
    else None))))))

-- the names that also mean a literal outside a set: a line feed, a carriage return, a tab
unfoldable pub ready_literal : List ℕ → Option (List ℕ)
ready_literal w =
    if same w (codes "NL") then Some (10 ∷ [])
    else (if same w (codes "CR") then Some (13 ∷ [])
    else (if same w (codes "HT") then Some (9 ∷ [])
    else None))

-- the first of these two, if there is one
abbrev pub or_else : Option (List ℕ) → Option (List ℕ) → Option (List ℕ)
or_else (Some s) other = Some s
or_else None other = other

-- what rules say of the name with these letters, if they define it: its characters, if it is a set
abbrev pub defined : List SetName → List ℕ → Option (Option (List ℕ))
defined names w = option_map (λ n. option_map (λ s. s.now) n.members) (find (λ n. same w n.name.now) names)

-- the characters of the set with this name: of a definition, or else of a name that is ready
abbrev pub members_by : Option (Option (List ℕ)) → List ℕ → Option (List ℕ)
members_by (Some members) w = members
members_by None w = or_else (ready_set w) (ready_literal w)

abbrev pub members_of : List SetName → List ℕ → Option (List ℕ)
members_of names w = members_by (defined names w) w

-- the literal that a name means outside a set, unless rules define it
abbrev pub literal_by : Option (Option (List ℕ)) → List ℕ → Option (List ℕ)
literal_by (Some members) w = None
literal_by None w = ready_literal w

abbrev pub literal_of : List SetName → List ℕ → Option (List ℕ)
literal_of names w = literal_by (defined names w) w

-- ---- The argument of a set

abbrev pub is_ascii : ℕ → Bool
is_ascii c = nat_lt c 128

-- how long the longest name is that begins with a letter, after which this comes
abbrev pub name_len : List ℕ → ℕ
name_len after = prefix_len is_name_char after + 1

-- a part of an argument has these characters, and what comes after it
abbrev pub Part : Type 0
Part = Result (List ℕ × List ℕ) SpellingFault

-- a quotation whose characters are ASCII; `place` is that of the first of them
abbrev pub ascii_part : ℕ → List ℕ → List ℕ → Part
ascii_part place content rest = if nat_eq (prefix_len is_ascii content) (length content) then Ok (content, rest) else Err (fault.NotAscii (place + prefix_len is_ascii content))

-- a quotation that opens at this place; `inside` comes after its first quote
abbrev pub quotation_part : ℕ → ℕ → List ℕ → Part
quotation_part place quote inside =
    if nat_eq (before_quote quote inside) (length inside) then Err (fault.OpenQuote place)
    else ascii_part (place + 1) (take (before_quote quote inside) inside) (drop 1 (drop (before_quote quote inside) inside))

abbrev pub named_part : ℕ → Option (List ℕ) → List ℕ → Part
named_part place (Some members) rest = Ok (members, rest)
named_part place None rest = Err (fault.UnknownSet place)

-- The first part of an argument: a blank, which has no characters; a quotation; or the name of a set.
abbrev pub part_at : List SetName → ℕ → List ℕ → Part
part_at names place [] = Ok ([], [])
part_at names place (c ∷ cs) =
    if is_blank c then Ok ([], cs)
    else (if is_quote c then quotation_part place c cs
    else (if is_letter c then named_part place (members_of names (take (name_len cs) (c ∷ cs))) (drop (name_len cs) (c ∷ cs))
    else Err (fault.NoSet place)))

-- whether an argument goes on: it ends before a closing parenthesis, or with the text
abbrev pub goes_on : List ℕ → Bool
goes_on [] = false
goes_on (c ∷ cs) = not (nat_eq c 41)

-- The parts of an argument joined, after those so far, and what comes after them; or the first fault. `total` is how many characters
-- the whole text has.
pub data IsJoined (names : List SetName) (total : ℕ) : List ℕ → List ℕ → Part → Type 0 where
  ends : (so_far text : List ℕ) → goes_on text ≡ false → IsJoined names total so_far text (Ok (so_far, text))
  wrong : (so_far text : List ℕ) (e : SpellingFault) → goes_on text ≡ true → part_at names (total - length text) text ≡ Err e → IsJoined names total so_far text (Err e)
  more : (so_far text characters rest : List ℕ) (r : Part) → goes_on text ≡ true → part_at names (total - length text) text ≡ Ok (characters, rest)
      → IsJoined names total (so_far ++ characters) rest r → IsJoined names total so_far text r

-- ---- A call with a set

-- which word takes a set
unfoldable pub set_word : List ℕ → Option SetWord
set_word w =
    if same w (codes "ANY") then Some word.Any
    else (if same w (codes "NOTANY") then Some word.NotAny
    else (if same w (codes "SPAN") then Some word.Span
    else (if same w (codes "BREAK") then Some word.Break
    else (if same w (codes "BREAKX") then Some word.BreakX
    else (if same w (codes "NSPAN") then Some word.NSpan
    else None)))))

-- what is spelled before the set
abbrev pub call_begin : SetWord → List ℕ
call_begin word.Any = codes "ANY("
call_begin word.NotAny = codes "NOTANY("
call_begin word.Span = codes "SPAN("
call_begin word.Break = codes "BREAK("
call_begin word.BreakX = codes "(BREAK("
call_begin word.NSpan = codes "(SPAN("

-- what is spelled after it
abbrev pub call_end : SetWord → List ℕ → List ℕ
call_end word.Any set = codes ")"
call_end word.NotAny set = codes ")"
call_end word.Span set = codes ")"
call_end word.Break set = codes ")"
call_end word.BreakX set = codes ") ARBNO(LEN(1) BREAK(" ++ (set ++ codes ")))")
call_end word.NSpan set = codes ") | '')"

-- whether what is spelled before the set is what is written there
abbrev pub is_copied : SetWord → Bool
is_copied word.Any = true
is_copied word.NotAny = true
is_copied word.Span = true
is_copied word.Break = true
is_copied word.BreakX = false
is_copied word.NSpan = false

-- what is spelled for a call from its set on, which is in quotes
abbrev pub set_text : SetWord → List ℕ → List ℕ
set_text w set = set ++ call_end w set

-- Characters in a kind of quotes that they don't have. If they have both kinds, the single quote comes after the others, in a
-- quotation of its own; as members of a set they are the same in any order.
abbrev pub has : ℕ → List ℕ → Bool
has c text = list_any (nat_eq c) text

abbrev pub in_quotes : ℕ → List ℕ → List ℕ
in_quotes quote text = quote ∷ (text ++ (quote ∷ []))

abbrev pub without : ℕ → List ℕ → List ℕ
without c text = filter (λ d. not (nat_eq d c)) text

abbrev pub quoted : List ℕ → List ℕ
quoted text = if not (has 39 text) then in_quotes 39 text else (if not (has 34 text) then in_quotes 34 text else in_quotes 39 (without 39 text) ++ codes " \"'\"")

-- ---- A text

-- what is spelled, with marks that say from where its parts come
pub record Spelled : Type 0 where
  pub characters : List ℕ
  pub marks : List Mark

abbrev pub nothing_spelled : Spelled
nothing_spelled = record { characters = []; marks = [] }

abbrev pub spelling_seen : StoredSpelling → Spelled
spelling_seen s = record { characters = s.characters.items; marks = s.marks.items }

-- more characters, that come from this place: a copy of what is written there, or other characters
abbrev pub with_part : Spelled → ℕ → Bool → List ℕ → Spelled
with_part s place copied text = record {
  characters = s.characters ++ text;
  marks = s.marks ++ (record { before = length s.characters; place = place; copied = copied } ∷ []);
}

-- How long the first piece of a text is: a quotation, which may be open; a name; or a run of other characters.
abbrev pub is_other : ℕ → Bool
is_other c = not (is_quote c || is_letter c)

abbrev pub quotation_len : ℕ → List ℕ → ℕ
quotation_len quote inside = if nat_lt (before_quote quote inside) (length inside) then before_quote quote inside + 2 else length inside + 1

abbrev pub piece_len : List ℕ → ℕ
piece_len [] = 0
piece_len (c ∷ cs) =
    if is_quote c then quotation_len c cs
    else (if is_letter c then name_len cs
    else prefix_len is_other cs + 1)

abbrev pub piece_of : List ℕ → List ℕ
piece_of text = take (piece_len text) text

abbrev pub after_piece : List ℕ → List ℕ
after_piece text = drop (piece_len text) text

-- whether a text begins with an opening parenthesis
abbrev pub is_opened : List ℕ → Bool
is_opened [] = false
is_opened (c ∷ cs) = nat_eq c 40

-- the word of the call that a text begins with, if it begins with one that takes a set
abbrev pub call_of : List ℕ → List ℕ → Option SetWord
call_of piece after = if is_opened after then set_word piece else None

-- what is spelled, and what is left of the text
abbrev pub Step : Type 0
Step = Result (Spelled × List ℕ) SpellingFault

-- a piece as it is, or the literal that it means
abbrev pub with_piece : Spelled → ℕ → List ℕ → Option (List ℕ) → Spelled
with_piece s place piece None = with_part s place true piece
with_piece s place piece (Some literal) = with_part s place false (in_quotes 39 literal)

-- a call of this word at this place, whose argument is inside, from there on
abbrev pub with_set : Spelled → ℕ → ℕ → SetWord → List ℕ → List ℕ → Step
with_set s place inside w set rest = Ok (with_part (with_part s place (is_copied w) (call_begin w)) inside false (set_text w set), rest)

-- a call with these members, if its parenthesis is closed
abbrev pub with_members : Spelled → ℕ → ℕ → SetWord → List ℕ → List ℕ → Step
with_members s place inside w members [] = Err (fault.OpenArgument place)
with_members s place inside w members (c ∷ rest) = with_set s place inside w (quoted members) rest

abbrev pub with_call : Spelled → ℕ → ℕ → SetWord → Part → Step
with_call s place inside w (Err e) = Err e
with_call s place inside w (Ok joined) = with_members s place inside w joined.0 joined.1

-- what is spelled in place of a call of this word, after which this comes
abbrev pub IsCall : List SetName → ℕ → Spelled → ℕ → SetWord → List ℕ → Step → Type 0
IsCall names total s place w after step = (joined : Part) × IsJoined names total [] (drop 1 after) joined × (step ≡ with_call s place (total - length (drop 1 after)) w joined)

-- what is spelled in place of the first piece of a text, or of the call that it begins with
abbrev pub IsStepBy : List SetName → ℕ → Spelled → List ℕ → Option SetWord → Step → Type 0
IsStepBy names total s text None step = step ≡ Ok (with_piece s (total - length text) (piece_of text) (literal_of names (piece_of text)), after_piece text)
IsStepBy names total s text (Some w) step = IsCall names total s (total - length text) w (after_piece text) step

abbrev pub IsStep : List SetName → ℕ → Spelled → List ℕ → Step → Type 0
IsStep names total s text step = IsStepBy names total s text (call_of (piece_of text) (after_piece text)) step

-- What is spelled in place of a text, after what was spelled before; or the first fault.
pub data IsSpelled (names : List SetName) (total : ℕ) : Spelled → List ℕ → Result Spelled SpellingFault → Type 0 where
  no_more : (s : Spelled) → IsSpelled names total s [] (Ok s)
  stopped : (s : Spelled) (c : ℕ) (cs : List ℕ) (e : SpellingFault) → IsStep names total s (c ∷ cs) (Err e) → IsSpelled names total s (c ∷ cs) (Err e)
  stepped : (s t : Spelled) (c : ℕ) (cs rest : List ℕ) (r : Result Spelled SpellingFault) → IsStep names total s (c ∷ cs) (Ok (t, rest))
      → IsSpelled names total t rest r → IsSpelled names total s (c ∷ cs) r

-- ---- Where a character that is spelled comes from

-- the last of the marks that are not past it, or else the one that was found before them
abbrev pub origin_from : Option Mark → List Mark → ℕ → Option Mark
origin_from found [] at = found
origin_from found (m ∷ ms) at = origin_from (if nat_le m.before at then Some m else found) ms at
