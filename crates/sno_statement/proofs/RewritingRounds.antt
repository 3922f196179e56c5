-- What rounds leave, without their bindings.
use Rattle.std.proofs.Common.{◌≡◌, ◌≤◌, ◌<◌, ◌+◌, ◌-◌, ℕ, zero, suc, Bool, true, false, cond, List, [], length, nat_lt, Option, Some, None, Result, Ok, Err, unwrap_or, refl, ap, sym, ◌∙◌, arith}
use Rattle.std.proofs.lemmas.Bool.{lt-ltb, le-ltb}
use Rattle.sno_pattern.specs.Outcome.{outcome, trials}
use Rattle.sno_pattern.specs.declared.byte_texts.TheConstants.{MAX_BYTES}
use Rattle.sno_pattern.specs.declared.found.Found.{Found}
use Rattle.sno_pattern.specs.declared.found.Hit.{Hit}
use Rattle.sno_read.specs.declared.objects.Part.{Part}
use Rattle.sno_statement.specs.declared.outcomes.StatementFault.{StatementFault}
use Rattle.sno_statement.specs.declared.outcomes.StatementFault.TheVariants as fault
use Rattle.sno_statement.specs.declared.file_faults.FileStatementFault.{FileStatementFault}
use Rattle.sno_statement.specs.Statement.{Statement}
use Rattle.sno_statement.specs.Bindings.{Bindings, bind_conds, bind_sets, bindings_of, conds_of}
use Rattle.sno_statement.specs.Perform.{Outcome, Matched, Failed, Repeated, All, finish_found_within, finish_within, follow, perform_once_within, perform_times_within, rounds_within}
use Rattle.sno_statement.specs.Passes.{match_by}
use Rattle.sno_statement.specs.Value.{new_text, value_of}
use Rattle.sno_statement.specs.Rewriting.{Rewriting, GivesRewritten, GivesRound, left_by, rewriting}

-- what a round leaves, after n rounds with this last text, if the rounds go on in this way
abbrev pub round_left : ℕ → Option (List ℕ) → (Option (List ℕ) → Result Rewriting StatementFault) → Result Outcome StatementFault → Result Rewriting StatementFault
round_left n last go (Ok (Failed bound)) = left_by n last
round_left n last go (Ok (Matched s e bound (Some after))) = go (Some after)
round_left n last go round = rewriting round

-- what the rounds leave of which these are to come, after n rounds with this last text
abbrev pub rounds_left : Statement → List ℕ → ℕ → ℕ → Option (List ℕ) → Result Rewriting StatementFault
rounds_left s t zero n last = left_by n last
rounds_left s t (suc left) n last = round_left n last (rounds_left s t left (n + 1)) (perform_once_within MAX_BYTES s (unwrap_or last t))

module _ (s : Statement) (t : List ℕ) where
  later : (left n : ℕ) (bound : Bindings) (text : List ℕ) → rounds_left s t left n (Some text) ≡ rewriting (rounds_within MAX_BYTES s left n bound text)
  later zero n bound text = refl
  later (suc left) n bound text = by (perform_once_within MAX_BYTES s text) (later left (n + 1))
    where
      by : (round : Result Outcome StatementFault) → ((b : Bindings) (after : List ℕ) → rounds_left s t left (n + 1) (Some after) ≡ rewriting (rounds_within MAX_BYTES s left (n + 1) b after))
          → round_left n (Some text) (rounds_left s t left (n + 1)) round ≡ rewriting (follow round (λ _. Repeated n bound text) (rounds_within MAX_BYTES s left (n + 1)))
      by (Ok (Failed b)) rest = refl
      by (Ok (Matched i j b (Some after))) rest = rest b after
      by (Ok (Matched i j b None)) rest = refl
      by (Ok (Repeated m b after)) rest = refl
      by (Ok (All matches after)) rest = refl
      by (Err fault) rest = refl

  -- all rounds
  pub all_rounds : (times : ℕ) → 1 ≤ times → rounds_left s t times 0 None ≡ rewriting (perform_times_within MAX_BYTES s (Some times) t)
  all_rounds zero some = absurd (omega (arith, some))
  all_rounds (suc left) some = let e : suc left - 1 ≡ left = omega arith in rw e (by (perform_once_within MAX_BYTES s t) (later left 1))
    where
      by : (round : Result Outcome StatementFault) → ((b : Bindings) (after : List ℕ) → rounds_left s t left 1 (Some after) ≡ rewriting (rounds_within MAX_BYTES s left 1 b after))
          → round_left 0 None (rounds_left s t left 1) round ≡ rewriting (follow round Failed (rounds_within MAX_BYTES s left 1))
      by (Ok (Failed b)) rest = refl
      by (Ok (Matched i j b (Some after))) rest = rest b after
      by (Ok (Matched i j b None)) rest = refl
      by (Ok (Repeated m b after)) rest = refl
      by (Ok (All matches after)) rest = refl
      by (Err fault) rest = refl

  -- a statement that isn't repeated has one round
  pub one_round : (repeat : Option ℕ) → rewriting (perform_times_within MAX_BYTES s (Some (unwrap_or repeat 1)) t) ≡ rewriting (perform_times_within MAX_BYTES s repeat t)
  one_round None = by (perform_once_within MAX_BYTES s t)
    where
      by : (round : Result Outcome StatementFault) → rewriting (follow round Failed (rounds_within MAX_BYTES s 0 1)) ≡ rewriting round
      by (Ok (Failed b)) = refl
      by (Ok (Matched i j b (Some after))) = refl
      by (Ok (Matched i j b None)) = refl
      by (Ok (Repeated m b after)) = refl
      by (Ok (All matches after)) = refl
      by (Err fault) = refl
  one_round (Some r) = refl

  -- one of the rounds that are left
  round_more : (left n : ℕ) (last : Option (List ℕ)) → 0 < left
      → rounds_left s t left n last ≡ round_left n last (rounds_left s t (left - 1) (n + 1)) (perform_once_within MAX_BYTES s (unwrap_or last t))
  round_more zero n last some = absurd (omega (arith, some))
  round_more (suc left) n last some = let e : suc left - 1 ≡ left = omega arith in rw e refl

  -- if it is refused, so is the statement
  pub round_refused : (left n : ℕ) (last : Option (List ℕ)) (e : FileStatementFault) → 0 < left → GivesRound (Err e) (perform_once_within MAX_BYTES s (unwrap_or last t)) → GivesRewritten (Err e) (rounds_left s t left n last)
  round_refused left n last e some refused other = round_more left n last some ∙ ap (round_left n last (rounds_left s t (left - 1) (n + 1))) (refused other)

  -- if it fails, the rounds end
  pub round_failed : (left n : ℕ) (last : Option (List ℕ)) → 0 < left → GivesRound (Ok None) (perform_once_within MAX_BYTES s (unwrap_or last t)) → rounds_left s t left n last ≡ left_by n last
  round_failed left n last some failed = round_more left n last some ∙ ap (round_left n last (rounds_left s t (left - 1) (n + 1))) failed.1

  -- if it matches, they go on from its new text
  pub round_matched : (left n : ℕ) (last : Option (List ℕ)) (after : List ℕ) → 0 < left → GivesRound (Ok (Some after)) (perform_once_within MAX_BYTES s (unwrap_or last t))
      → rounds_left s t left n last ≡ rounds_left s t (left - 1) (n + 1) (Some after)
  round_matched left n last after some matched = round_more left n last some ∙ ap (round_left n last (rounds_left s t (left - 1) (n + 1))) matched.3

  -- without an object a statement is matched once
  pub plain_rounds : (repeat : Option ℕ) → s.object ≡ None → rewriting (perform_times_within MAX_BYTES s repeat t) ≡ rewriting (perform_once_within MAX_BYTES s t)
  plain_rounds None none = refl
  plain_rounds (Some r) none = by s.object none (nat_lt s.limit (trials t s.rules.bodies s.pattern s.anchored)) (outcome t s.rules.bodies s.pattern s.anchored).end
    where
      by : (object : Option (List Part)) → object ≡ None → (over : Bool) (end : Option Hit)
          → rewriting (follow (cond over (Err fault.TooManyTrials) (finish_within MAX_BYTES object t (bindings_of t (outcome t s.rules.bodies s.pattern s.anchored)) end)) Failed (rounds_within MAX_BYTES s (r - 1) 1))
          ≡ rewriting (cond over (Err fault.TooManyTrials) (finish_within MAX_BYTES object t (bindings_of t (outcome t s.rules.bodies s.pattern s.anchored)) end))
      by None is true end = refl
      by None is false None = refl
      by None is false (Some hit) = refl
      by (Some parts) is over end = absurd cc

  -- how many matches that comes to
  abbrev pub matches_by : Option Hit → ℕ
  matches_by None = 0
  matches_by (Some hit) = 1

  pub plain_once : (found : Found) → s.object ≡ None → found ≡ outcome t s.rules.bodies s.pattern s.anchored → trials t s.rules.bodies s.pattern s.anchored ≤ s.limit
      → rewriting (perform_once_within MAX_BYTES s t) ≡ left_by (matches_by found.end) None
  plain_once found none is few =
      ap (λ (z : Bool). rewriting (cond z (Err fault.TooManyTrials) (finish_found_within MAX_BYTES s.object t (outcome t s.rules.bodies s.pattern s.anchored)))) (le-ltb s.limit (trials t s.rules.bodies s.pattern s.anchored) few)
      ∙ ap (λ (z : Option (List Part)). rewriting (finish_found_within MAX_BYTES z t (outcome t s.rules.bodies s.pattern s.anchored))) none
      ∙ ap (λ (z : Found). rewriting (finish_found_within MAX_BYTES None t z)) (sym is)
      ∙ by found.end
    where
      by : (end : Option Hit) → rewriting (finish_within MAX_BYTES None t (bindings_of t found) end) ≡ left_by (matches_by end) None
      by None = refl
      by (Some hit) = refl

  -- a match that takes too many trials
  pub over_once : s.limit < trials t s.rules.bodies s.pattern s.anchored → perform_once_within MAX_BYTES s t ≡ Err fault.TooManyTrials
  over_once over =
      ap (λ (z : Bool). cond z (Err fault.TooManyTrials) (finish_found_within MAX_BYTES s.object t (outcome t s.rules.bodies s.pattern s.anchored))) (lt-ltb s.limit (trials t s.rules.bodies s.pattern s.anchored) over)

  -- one that does not, of a statement with an object
  pub within_once : (found : Found) (parts : List Part) → s.object ≡ Some parts → found ≡ outcome t s.rules.bodies s.pattern s.anchored → trials t s.rules.bodies s.pattern s.anchored ≤ s.limit
      → perform_once_within MAX_BYTES s t ≡ finish_found_within MAX_BYTES (Some parts) t found
  within_once found parts some is few =
      ap (λ (z : Bool). cond z (Err fault.TooManyTrials) (finish_found_within MAX_BYTES s.object t (outcome t s.rules.bodies s.pattern s.anchored))) (le-ltb s.limit (trials t s.rules.bodies s.pattern s.anchored) few)
      ∙ ap (λ (z : Option (List Part)). finish_found_within MAX_BYTES z t (outcome t s.rules.bodies s.pattern s.anchored)) some
      ∙ ap (finish_found_within MAX_BYTES (Some parts) t) (sym is)

-- what is done to a text after a match
pub replaced_once : (t : List ℕ) (parts : List Part) (found : Found) (hit : Hit) (after : List ℕ) → found.end ≡ Some hit
    → after ≡ new_text t hit.start hit.end (value_of (match_by t found.sets hit).bindings parts) → length (new_text t hit.start hit.end (value_of (match_by t found.sets hit).bindings parts)) ≤ MAX_BYTES
    → GivesRound (Ok (Some after)) (finish_found_within MAX_BYTES (Some parts) t found)
replaced_once t parts found hit after some made short =
    let bound : Bindings = (match_by t found.sets hit).bindings in
    let text = new_text t hit.start hit.end (value_of bound parts) in (
      hit.start,
      hit.end,
      bound,
      ap (λ (z : Option Hit). finish_within MAX_BYTES (Some parts) t (bind_conds t (bind_sets t [] found.sets) (conds_of z)) z) some
          ∙ ap (λ (z : Bool). cond z (Err fault.TextTooLong) (Ok (Matched hit.start hit.end bound (Some text)))) (le-ltb MAX_BYTES (length text) short)
          ∙ ap (λ (z : List ℕ). Ok (Matched hit.start hit.end bound (Some z))) (sym made),
    )
