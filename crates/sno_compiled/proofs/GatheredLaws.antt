-- Searches that follow one another, one at a time.
use Rattle.std.proofs.Common.{◌≡◌, ◌≤◌, ◌<◌, ◌+◌, ◌-◌, ◌∷◌, [], ℕ, zero, suc, List, length, Option, Some, None, IfSome, refl, ap, arith}
use Rattle.sno_pattern.specs.SearchLaws.{LiesFrom}
use Rattle.sno_pattern.specs.declared.found.Hit.{Hit}
use Rattle.sno_statement.specs.Passes.{IsCursor, next_search, search, search_trials}
use Rattle.sno_statement.specs.Statement.{Statement}
use Rattle.sno_statement.proofs.PassLaws.{lies_at, next_past, past_cursor}
use Rattle.sno_compiled.specs.Gathered.{gathered, gathered_by, gathered_trials, next_after}

module _ (s : Statement) (t : List ℕ) where
  pub none_left : (n : ℕ) → gathered s t n None ≡ []
  unfolding gathered
  none_left zero = refl
  none_left (suc n) = refl

  pub nothing_more : (at : Option ℕ) → gathered s t 0 at ≡ []
  unfolding gathered
  nothing_more at = refl

  pub no_more_trials : (at : Option ℕ) → gathered_trials s t 0 at ≡ 0
  unfolding gathered_trials
  no_more_trials at = refl

  pub no_trials : (n : ℕ) → gathered_trials s t n None ≡ 0
  unfolding gathered_trials
  no_trials zero = refl
  no_trials (suc n) = refl

  pub one_more : (n c : ℕ) → 0 < n → gathered s t n (Some c) ≡ gathered_by s.anchored t (search s t c) ∷ gathered s t (n - 1) (next_after s.anchored t (search s t c).end)
  unfolding gathered
  one_more zero c some = absurd (omega arith)
  one_more (suc n) c some =
      ap (λ (k : ℕ). gathered_by s.anchored t (search s t c) ∷ gathered s t k (next_after s.anchored t (search s t c).end)) (omega arith)

  pub trials_more : (n c : ℕ) → 0 < n → gathered_trials s t n (Some c) ≡ search_trials s t c + gathered_trials s t (n - 1) (next_after s.anchored t (search s t c).end)
  unfolding gathered_trials
  trials_more zero c some = absurd (omega arith)
  trials_more (suc n) c some =
      ap (λ (k : ℕ). search_trials s t c + gathered_trials s t k (next_after s.anchored t (search s t c).end)) (omega arith)

  pub next_cursor : (c : ℕ) → c ≤ length t → IsCursor t (next_after s.anchored t (search s t c).end)
  next_cursor c inside = by (search s t c).end (lies_at s t c inside)
    where
      by : (end : Option Hit) → IfSome end (LiesFrom t c) → IsCursor t (next_after s.anchored t end)
      by None lies = tt
      by (Some hit) lies = past_cursor t c (next_search s.anchored t hit) (next_past s.anchored t c hit lies)

  pub end_inside : (c : ℕ) → c ≤ length t → IfSome (search s t c).end (λ hit. hit.end ≤ length t)
  end_inside c inside = by (search s t c).end (lies_at s t c inside)
    where
      by : (end : Option Hit) → IfSome end (LiesFrom t c) → IfSome end (λ hit. hit.end ≤ length t)
      by None lies = tt
      by (Some hit) lies = lies.within
