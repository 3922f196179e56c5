-- The round of a repeated statement with a number, or the one that ended the rounds.
use Rattle.std.specs.Prelude.{ℕ, zero, suc, ◌+◌, List, Option, Some, None, Result, Ok, Err}
use Rattle.sno_statement.specs.Statement.{Statement}
use Rattle.sno_statement.specs.Perform.{Outcome, perform, after_of}
use Rattle.sno_statement.specs.declared.outcomes.StatementFault.{StatementFault}

-- how many rounds matched before a round, and the text that it is performed on
abbrev pub Round : Type 0
Round = ℕ × List ℕ

-- the new text that a round leaves; none if it fails or is refused
abbrev pub text_left : Result Outcome StatementFault → Option (List ℕ)
text_left (Ok outcome) = after_of outcome
text_left (Err fault) = None

-- The rounds go on from a new text. A round that leaves none is the last.
abbrev pub after_round : ℕ → List ℕ → (ℕ → List ℕ → Round) → Option (List ℕ) → Round
after_round matches t go None = (matches, t)
after_round matches t go (Some after) = go (matches + 1) after

-- the round after at most as many others as are left, if the statement is performed once in each
unfoldable pub round_from : Statement → ℕ → ℕ → List ℕ → Round
round_from s zero matches t = (matches, t)
round_from s (suc left) matches t = after_round matches t (round_from s left) (text_left (perform s t))
