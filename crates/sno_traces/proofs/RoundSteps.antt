-- One round more of those that are gone through.
use Rattle.std.proofs.Common.{◌≡◌, ℕ, zero, suc, ◌+◌, ◌-◌, ◌<◌, ◌≤◌, List, Some, None, refl, ap, sym, ◌∙◌, arith}
use Rattle.sno_statement.specs.Statement.{Statement}
use Rattle.sno_statement.specs.Perform.{perform}
use Rattle.sno_traces.specs.Rounds.{Round, after_round, round_from, text_left}

module _ (s : Statement) (matches : ℕ) (t : List ℕ) where
  pub round_matched : (n i : ℕ) (after : List ℕ) → i < n → Some after ≡ text_left (perform s t) → round_from s (n - i) matches t ≡ round_from s (n - (i + 1)) (matches + 1) after
  unfolding round_from
  round_matched n i after h is =
      let one : n - i ≡ suc (n - (i + 1)) = omega (arith, h) in
      ap (λ k. round_from s k matches t) one ∙ ap (after_round matches t (round_from s (n - (i + 1)))) (sym is)

  pub round_ended : (k : ℕ) → None ≡ text_left (perform s t) → round_from s k matches t ≡ (matches, t)
  unfolding round_from
  round_ended zero none = refl
  round_ended (suc k) none = ap (after_round matches t (round_from s k)) (sym none)

  pub last_round : (n i : ℕ) → n ≤ i → round_from s (n - i) matches t ≡ (matches, t)
  unfolding round_from
  last_round n i h = let none : n - i ≡ 0 = omega (arith, h) in ap (λ k. round_from s k matches t) none
