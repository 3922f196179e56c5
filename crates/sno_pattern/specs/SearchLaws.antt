-- Laws of searches from a cursor on. Each is proved by a function of `search_laws` that has it as its contract.
use Rattle.std.specs.Prelude.{◌≡◌, ℕ, ◌≤◌, Bool, List, length, IfSome}
use Rattle.sno_pattern.specs.Tree.{Tree}
use Rattle.sno_pattern.specs.Outcome.{outcome, outcome_at_from, outcome_from, trials, trials_from}
use Rattle.sno_pattern.specs.CursorLaws.{SetsLie}
use Rattle.sno_pattern.specs.declared.found.Hit.{Hit}

-- A search from cursor 0 on is a match, and takes its trials.
abbrev pub SearchFromTheFirst : Type 0
SearchFromTheFirst = (t : List ℕ) (bodies : List Tree) (p : Tree) (anchored : Bool)
    → (outcome_from t bodies p anchored 0 ≡ outcome t bodies p anchored) × (trials_from t bodies p anchored 0 ≡ trials t bodies p anchored)

-- the match begins at the cursor c or past it, ends no earlier than it begins, and ends within the text
pub record LiesFrom (t : List ℕ) (c : ℕ) (hit : Hit) : Type 0 where
  pub onward : c ≤ hit.start
  pub forward : hit.start ≤ hit.end
  pub within : hit.end ≤ length t

-- What a search from a cursor of the text finds lies from that cursor on, and a cursor that it assigns is a cursor of the text.
abbrev pub SearchesLieWithin : Type 0
SearchesLieWithin = (k : ℕ) (t : List ℕ) (bodies : List Tree) (p : Tree) (anchored : Bool) (c : ℕ) → c ≤ length t
    → IfSome (outcome_at_from t bodies k p anchored c).end (LiesFrom t c) × SetsLie t (outcome_at_from t bodies k p anchored c).sets
