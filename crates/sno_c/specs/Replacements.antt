-- What the calls that replace return.
use Rattle.std.specs.Prelude.{◌≡◌, ◌<◌, ◌↔◌, ◌⊎◌, ◌≢◌, ℕ, List, Option, None, Some, Result, Ok, Err, IfSome, length}
use Rattle.sno_pattern.specs.declared.byte_texts.TheConstants.{MAX_BYTES}
use Rattle.sno_seek.specs.declared.seeker.Seeker.{Seeker}
use Rattle.sno_statement.specs.Perform.{perform_within}
use Rattle.sno_statement.specs.Rewriting.{Rewriting, rewriting}
use Rattle.sno_statement.specs.Statement.{IsLimit, with_limit}
use Rattle.sno_statement.specs.declared.outcomes.StatementFault.{StatementFault}
use Rattle.sno_statement.specs.declared.outcomes.StatementFault.TheVariants.{TextTooLong, TooManyTrials}
use Rattle.sno_c.specs.Buffers.{IsWritten}
use Rattle.sno_c.specs.Patterns.{both_in}
use Rattle.sno_c.specs.declared.held.Held.{Held}
use Rattle.sno_c.specs.declared.replacements.Replaced.{Replaced}

-- what is reported of nothing
abbrev pub nothing_replaced : Replaced
nothing_replaced = record { length = 0; matches = 0 }

-- what the statement of a pattern makes of a text, with these trials: the number of matches, and the new text
abbrev pub rewritten_by : Seeker → ℕ → List ℕ → Result Rewriting StatementFault
rewritten_by p trials t = rewriting (perform_within MAX_BYTES (with_limit p.statement trials) t)

-- What the statement of a pattern makes of a text is reported, and the new text is in the buffer if there is room for it; or the
-- statement is refused, by its cause, and the buffer is unchanged.
pub record IsReplaced (limit : ℕ) (t : List ℕ) (p : Seeker) (before after : List ℕ) (done : Replaced) (status : ℕ) : Type 0 where
  pub bad_limit : status ≡ 3 ↔ (IsLimit limit → ⊥)
  pub replaced : (status ≡ 0) ⊎ (status ≡ 5) → (text : List ℕ) × (rewritten_by p limit t ≡ Ok (record { matches = done.matches; after = Some text }))
      × (done.length ≡ length text) × IsWritten text before after status
  pub nothing : status ≡ 1 → (rewritten_by p limit t ≡ Ok (record { matches = done.matches; after = None })) × (done.length ≡ 0)
  pub too_many : status ≡ 8 → rewritten_by p limit t ≡ Err TooManyTrials
  pub too_long : status ≡ 9 → rewritten_by p limit t ≡ Err TextTooLong
  pub unchanged : status ≢ 0 → after ≡ before
  pub refused : (status ≡ 3) ⊎ (status ≡ 4) ⊎ (status ≡ 8) ⊎ (status ≡ 9) ⊎ (status ≡ 11) → done ≡ nothing_replaced
  pub known : (status ≡ 0) ⊎ (status ≡ 1) ⊎ (status ≡ 3) ⊎ (status ≡ 4) ⊎ (status ≡ 5) ⊎ (status ≡ 8) ⊎ (status ≡ 9) ⊎ (status ≡ 11)

-- What a call that replaces returns. It is refused with 7 unless the handles hold a pattern and a text.
pub record IsReplacementCall (limit : ℕ) (pattern text : Option Held) (before after : List ℕ) (done : Replaced) (status : ℕ) : Type 0 where
  pub closed : status ≡ 7 ↔ (both_in pattern text ≡ None)
  pub unchanged : status ≡ 7 → (after ≡ before) × (done ≡ nothing_replaced)
  pub replaced : IfSome (both_in pattern text) (λ b. IsReplaced limit b.1 b.0 before after done status)
