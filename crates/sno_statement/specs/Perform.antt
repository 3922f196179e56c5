-- What a statement does to a text.
use Rattle.std.specs.Prelude.{◌≡◌, ◌<◌, ◌≤◌, ◌+◌, ◌-◌, ℕ, zero, suc, List, [], ◌∷◌, length, nat_lt, Option, Some, None, Result, Ok, Err, if◌then◌else◌}
use Rattle.std.specs.Option.{option_map}
use Rattle.std.specs.Arc.{arc_value}
use Rattle.std.specs.declared.sync.Arc.{Arc}
use Rattle.std.proofs.Common.{Global}
use Rattle.sno_pattern.specs.Outcome.{outcome, trials}
use Rattle.sno_pattern.specs.declared.found.Found.{Found}
use Rattle.sno_pattern.specs.declared.found.Hit.{Hit}
use Rattle.sno_machine.specs.declared.faults.MatchFault.{MatchFault}
use Rattle.sno_machine.specs.declared.faults.MatchFault.TheVariants as matching
use Rattle.sno_machine.specs.Sources.{Source}
use Rattle.sno_statement.specs.Statement.{Statement}
use Rattle.sno_statement.specs.Bindings.{Bindings, bindings_of}
use Rattle.sno_statement.specs.Value.{value_of, new_text}
use Rattle.sno_statement.specs.Passes.{all_matches, all_trials, replaced}
use Rattle.sno_statement.specs.declared.match_lists.Match.{Match}
use Rattle.sno_read.specs.declared.objects.Part.{Part}
use Rattle.sno_statement.specs.declared.outcomes.Outcome.{Outcome as StoredOutcome}
use Rattle.sno_statement.specs.declared.outcomes.Outcome.TheVariants as outcomes
use Rattle.sno_statement.specs.declared.outcomes.StatementFault.{StatementFault}
use Rattle.sno_statement.specs.declared.outcomes.StatementFault.TheVariants as fault
use Rattle.sno_pattern.specs.declared.texts.TheConstants.{MAX_TEXT}

-- a match that is refused refuses the statement for the same reason
abbrev pub of_match : MatchFault → StatementFault
of_match matching.TooManyTrials = fault.TooManyTrials
of_match matching.Memory = fault.Memory

-- an outcome by value:
-- - the cursors of the match, the bindings, and the new text exactly if there is an object;
-- - the failure, with the bindings that stay;
-- - of a repeated statement, how many matches there were, with the bindings and the new text of the last;
-- - of a statement for all matches, the matches, and the new text exactly if there is an object
pub data Outcome : Type 0 where
  Matched : ℕ → ℕ → Bindings → Option (List ℕ) → Outcome
  Failed : Bindings → Outcome
  Repeated : ℕ → Bindings → List ℕ → Outcome
  All : List Match → Option (List ℕ) → Outcome

-- the new text, if there is one
abbrev pub after_of : Outcome → Option (List ℕ)
after_of (Matched s e bound after) = after
after_of (Failed bound) = None
after_of (Repeated n bound after) = Some after
after_of (All matches after) = after

-- a new text is refused if it has more characters than the longest that is allowed
abbrev pub with_text_within : ℕ → ℕ → ℕ → Bindings → List ℕ → Result Outcome StatementFault
with_text_within longest s e bound after = if nat_lt longest (length after) then Err fault.TextTooLong else Ok (Matched s e bound (Some after))

-- after a failed match nothing is replaced and the object isn't evaluated; without an object nothing is replaced
abbrev pub finish_within : ℕ → Option (List Part) → List ℕ → Bindings → Option Hit → Result Outcome StatementFault
finish_within longest object t bound None = Ok (Failed bound)
finish_within longest None t bound (Some hit) = Ok (Matched hit.start hit.end bound None)
finish_within longest (Some parts) t bound (Some hit) = with_text_within longest hit.start hit.end bound (new_text t hit.start hit.end (value_of bound parts))

-- what a match with this outcome does
abbrev pub finish_found_within : ℕ → Option (List Part) → List ℕ → Found → Result Outcome StatementFault
finish_found_within longest object t found = finish_within longest object t (bindings_of t found) found.end

-- What the statement does once to the text t. It is refused if the match takes more trials than its limit, which is checked
-- before the new text's length.
abbrev pub perform_once_within : ℕ → Statement → List ℕ → Result Outcome StatementFault
perform_once_within longest s t =
    if nat_lt s.limit (trials t s.rules.bodies s.pattern s.anchored) then Err fault.TooManyTrials
    else finish_found_within longest s.object t (outcome t s.rules.bodies s.pattern s.anchored)

-- what a round that matched leaves to the next one: its bindings and its new text
abbrev pub left_by : Outcome → Option (Bindings × List ℕ)
left_by (Matched s e bound (Some after)) = Some (bound, after)
left_by round = None

-- what is done with the bindings and the new text that a round leaves
abbrev pub NextRound : Type 0
NextRound = Bindings → List ℕ → Result Outcome StatementFault

-- What follows a round. If it failed, the rounds end with the result that `ended` gives. If it matched, they go on from its
-- bindings and its new text. If it is refused, so is the statement.
abbrev pub follow : Result Outcome StatementFault → (Bindings → Outcome) → NextRound → Result Outcome StatementFault
follow (Ok (Failed bound)) ended go_on = Ok (ended bound)
follow (Ok (Matched s e bound (Some after))) ended go_on = go_on bound after
follow round ended go_on = round

-- the rounds that are left after n matches, where the last one left these bindings and the text t
abbrev pub rounds_within : ℕ → Statement → ℕ → ℕ → Bindings → List ℕ → Result Outcome StatementFault
rounds_within longest s zero n bound t = Ok (Repeated n bound t)
rounds_within longest s (suc left) n bound t = follow (perform_once_within longest s t) (λ _. Repeated n bound t) (rounds_within longest s left (n + 1))

-- What the given number of rounds does to the text t: each later round is performed on the new text of the round before. If the
-- first round fails, the statement fails.
abbrev pub perform_times_within : ℕ → Statement → Option ℕ → List ℕ → Result Outcome StatementFault
perform_times_within longest s None t = perform_once_within longest s t
perform_times_within longest s (Some r) t = follow (perform_once_within longest s t) Failed (rounds_within longest s (r - 1) 1)

-- what all these matches do to the text t; a new text is refused if it has more characters than the longest that is allowed
abbrev pub finish_all_within : ℕ → Option (List Part) → List ℕ → List Match → Result Outcome StatementFault
finish_all_within longest None t matches = Ok (All matches None)
finish_all_within longest (Some parts) t matches =
    if nat_lt longest (length (replaced parts t 0 matches)) then Err fault.TextTooLong else Ok (All matches (Some (replaced parts t 0 matches)))

-- If no match counts, the statement has failed as if it were not for all matches.
abbrev pub all_or_failed_within : ℕ → Statement → List ℕ → List Match → Result Outcome StatementFault
all_or_failed_within longest s t [] = Ok (Failed (bindings_of t (outcome t s.rules.bodies s.pattern s.anchored)))
all_or_failed_within longest s t (m ∷ ms) = finish_all_within longest s.object t (m ∷ ms)

-- What the statement does to the text t in one pass. It is refused if all searches together take more trials than its limit,
-- which is checked before the new text's length.
unfoldable pub perform_all_within : ℕ → Statement → List ℕ → Result Outcome StatementFault
perform_all_within longest s t = if nat_lt s.limit (all_trials s t) then Err fault.TooManyTrials else all_or_failed_within longest s t (all_matches s t)

-- what the statement does to the text t, if no new text may have more characters than the longest that is allowed
abbrev pub perform_within : ℕ → Statement → List ℕ → Result Outcome StatementFault
perform_within longest s t = if s.all then perform_all_within longest s t else perform_times_within longest s s.repeat t

-- Of a text of documents and books, the longest that is allowed has 65,536 characters.
abbrev pub with_text : ℕ → ℕ → Bindings → List ℕ → Result Outcome StatementFault
with_text s e bound after = with_text_within MAX_TEXT s e bound after

abbrev pub finish : Option (List Part) → List ℕ → Bindings → Option Hit → Result Outcome StatementFault
finish object t bound end = finish_within MAX_TEXT object t bound end

abbrev pub finish_found : Option (List Part) → List ℕ → Found → Result Outcome StatementFault
finish_found object t found = finish_found_within MAX_TEXT object t found

abbrev pub perform_once : Statement → List ℕ → Result Outcome StatementFault
perform_once s t = perform_once_within MAX_TEXT s t

abbrev pub rounds : Statement → ℕ → ℕ → Bindings → List ℕ → Result Outcome StatementFault
rounds s left n bound t = rounds_within MAX_TEXT s left n bound t

abbrev pub perform_times : Statement → Option ℕ → List ℕ → Result Outcome StatementFault
perform_times s repeat t = perform_times_within MAX_TEXT s repeat t

abbrev pub finish_all : Option (List Part) → List ℕ → List Match → Result Outcome StatementFault
finish_all object t matches = finish_all_within MAX_TEXT object t matches

abbrev pub all_or_failed : Statement → List ℕ → List Match → Result Outcome StatementFault
all_or_failed s t matches = all_or_failed_within MAX_TEXT s t matches

abbrev pub perform_all : Statement → List ℕ → Result Outcome StatementFault
perform_all s t = perform_all_within MAX_TEXT s t

-- what the statement does to the text t, of a document or a book
abbrev pub perform : Statement → List ℕ → Result Outcome StatementFault
perform s t = perform_within MAX_TEXT s t

-- an outcome of the program, by value
abbrev pub outcome_seen : StoredOutcome → Outcome
outcome_seen (outcomes.Matched s e bound after) = Matched s e bound (option_map arc_value after)
outcome_seen (outcomes.Failed bound) = Failed bound
outcome_seen (outcomes.Repeated n bound after) = Repeated n bound (arc_value after)
outcome_seen (outcomes.All matches after) = All matches (option_map arc_value after)

-- the result is the one wanted, by value, or `Memory`
abbrev pub Gives : Result StoredOutcome StatementFault → Result Outcome StatementFault → Type 0
Gives (Ok outcome) wanted = wanted ≡ Ok (outcome_seen outcome)
Gives (Err fault.TextTooLong) wanted = wanted ≡ Err fault.TextTooLong
Gives (Err fault.Memory) wanted = Unit {0}
Gives (Err fault.TooManyTrials) wanted = wanted ≡ Err fault.TooManyTrials

-- the text returned is the one wanted; `TextTooLong` if that is too long; or `Memory`, for a text that isn't too long
abbrev pub GivesText : Result (Arc (List ℕ) Global) StatementFault → List ℕ → Type 0
GivesText (Ok text) wanted = (arc_value text ≡ wanted) × (length wanted ≤ MAX_TEXT)
GivesText (Err fault.TextTooLong) wanted = MAX_TEXT < length wanted
GivesText (Err fault.Memory) wanted = length wanted ≤ MAX_TEXT
GivesText (Err fault.TooManyTrials) wanted = ⊥

-- the code is that of the statement's pattern, with its definitions
abbrev pub IsCodeOf : Source → Statement → Type 0
IsCodeOf code s = code ≡ record { bodies = s.rules.bodies; pattern = s.pattern }
