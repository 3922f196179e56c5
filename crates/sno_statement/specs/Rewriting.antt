-- What a statement makes of a text, for whoever doesn't want its matches.
use Rattle.std.specs.Prelude.{◌≡◌, ◌<◌, ◌≤◌, ℕ, List, length, Option, None, Some, Result, Ok, Err, nat_eq, if◌then◌else◌}
use Rattle.std.proofs.Common.{Global, Vec}
use Rattle.sno_pattern.specs.declared.byte_texts.TheConstants.{MAX_BYTES}
use Rattle.std.specs.Option.{option_map}
use Rattle.std.specs.Arc.{arc_value}
use Rattle.sno_statement.specs.Bindings.{Bindings}
use Rattle.sno_statement.specs.FileFaults.{plain}
use Rattle.sno_statement.specs.Perform.{Outcome, Matched, Failed, Repeated, All, after_of}
use Rattle.sno_statement.specs.declared.outcomes.StatementFault.{StatementFault}
use Rattle.sno_statement.specs.declared.outcomes.StatementFault.TheVariants.{Memory, TextTooLong}
use Rattle.sno_statement.specs.declared.file_faults.FileStatementFault.{FileStatementFault}
use Rattle.sno_statement.specs.declared.file_faults.FileStatementFault.TheVariants as file
use Rattle.sno_statement.specs.declared.rewriting.Rewritten.{Rewritten}

-- how many matches an outcome has; of a repeated statement, one for each round that matched
abbrev pub matches_of : Outcome → ℕ
matches_of (Matched s e bound after) = 1
matches_of (Failed bound) = 0
matches_of (Repeated n bound after) = n
matches_of (All matches after) = length matches

-- the number of matches and the new text, by value
pub record Rewriting : Type 0 where
  pub matches : ℕ
  pub after : Option (List ℕ)

-- those of an outcome
abbrev pub rewriting_of : Outcome → Rewriting
rewriting_of done = record { matches = matches_of done; after = after_of done }

-- those of a result; a refusal stays the same
abbrev pub rewriting : Result Outcome StatementFault → Result Rewriting StatementFault
rewriting (Ok done) = Ok (rewriting_of done)
rewriting (Err fault) = Err fault

abbrev pub rewritten_seen : Rewritten → Rewriting
rewritten_seen r = record { matches = r.matches; after = option_map arc_value r.after }

-- The bytes are this text; there are none if it has more bytes than a text of bytes can have.
abbrev pub IsReplaced : List ℕ → Option (Vec ℕ Global) → Type 0
IsReplaced text None = MAX_BYTES < length text
IsReplaced text (Some v) = (v.items ≡ text) × (length text ≤ MAX_BYTES)

-- The bytes returned are the text wanted; `TextTooLong` if that is too long; or `Memory`.
abbrev pub GivesBytes : Result (List ℕ) FileStatementFault → List ℕ → Type 0
GivesBytes (Ok text) wanted = (text ≡ wanted) × (length wanted ≤ MAX_BYTES)
GivesBytes (Err file.TextTooLong) wanted = MAX_BYTES < length wanted
GivesBytes (Err file.Memory) wanted = Unit {0}
GivesBytes (Err file.TooManyTrials) wanted = ⊥
GivesBytes (Err file.HistoryTooLong) wanted = ⊥

-- What a round with an object leaves: the new text of its match, or nothing if it failed. It is refused as the one wanted is, for
-- `Memory`, or for a history that would be too long.
abbrev pub GivesRound : Result (Option (List ℕ)) FileStatementFault → Result Outcome StatementFault → Type 0
GivesRound (Ok None) wanted = (bound : Bindings) × (wanted ≡ Ok (Failed bound))
GivesRound (Ok (Some after)) wanted = (s e : ℕ) × (bound : Bindings) × (wanted ≡ Ok (Matched s e bound (Some after)))
GivesRound (Err fault) wanted = (plain fault ≡ Memory → ⊥) → wanted ≡ Err (plain fault)

-- What n rounds leave, with the new text of the last one. Without a match there is no new text.
abbrev pub left_by : ℕ → Option (List ℕ) → Result Rewriting StatementFault
left_by n last = Ok (record { matches = n; after = last })

-- What n matches leave, with the text in which they are replaced. Without a match there is no new text; one that is too long is
-- refused.
abbrev pub finished : ℕ → Option (Vec ℕ Global) → Result Rewriting StatementFault
finished n None = if nat_eq n 0 then Ok (record { matches = 0; after = None }) else Err TextTooLong
finished n (Some v) = if nat_eq n 0 then Ok (record { matches = 0; after = None }) else Ok (record { matches = n; after = Some v.items })

-- the result is the one wanted, by value, `Memory`, or a history that would be too long
abbrev pub GivesRewritten : Result Rewritten FileStatementFault → Result Rewriting StatementFault → Type 0
GivesRewritten (Ok r) wanted = wanted ≡ Ok (rewritten_seen r)
GivesRewritten (Err fault) wanted = (plain fault ≡ Memory → ⊥) → wanted ≡ Err (plain fault)
