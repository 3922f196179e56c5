-- One search more of those that are gone through.
use Rattle.std.proofs.Common.{◌≡◌, ℕ, zero, suc, ◌+◌, ◌-◌, ◌<◌, ◌≤◌, Bool, false, List, refl, ap, sym, ◌∙◌, arith}
use Rattle.sno_statement.specs.Statement.{Statement}
use Rattle.sno_traces.specs.declared.searches.PassSearch.{PassSearch}
use Rattle.sno_traces.specs.declared.searches.AfterSearch.TheVariants.{Next, Done}
use Rattle.sno_traces.specs.declared.searches.Sought.{Sought}
use Rattle.sno_traces.specs.Searches.{after_search, sought_after, sought_from}

module _ (s : Statement) (t : List ℕ) (earlier n i : ℕ) (p : PassSearch) where
  pub goes_on : (q : PassSearch) → i < n → Next q ≡ after_search s t earlier p → sought_from s t earlier (n - i) p ≡ sought_from s t earlier (n - (i + 1)) q
  unfolding sought_from
  goes_on q h is =
      let one : n - i ≡ suc (n - (i + 1)) = omega (arith, h) in
      ap (λ k. sought_from s t earlier k p) one ∙ ap (sought_after p (sought_from s t earlier (n - (i + 1)))) (sym is)

  pub is_done : (counts : Bool) → i < n → Done counts ≡ after_search s t earlier p → sought_from s t earlier (n - i) p ≡ record { search = p; counts = counts }
  unfolding sought_from
  is_done counts h is =
      let one : n - i ≡ suc (n - (i + 1)) = omega (arith, h) in
      ap (λ k. sought_from s t earlier k p) one ∙ ap (sought_after p (sought_from s t earlier (n - (i + 1)))) (sym is)

  pub none_left : n ≤ i → sought_from s t earlier (n - i) p ≡ record { search = p; counts = false }
  unfolding sought_from
  none_left h = let none : n - i ≡ 0 = omega (arith, h) in ap (λ k. sought_from s t earlier k p) none
