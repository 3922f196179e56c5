-- Variables, written one after the other.
use Rattle.std.proofs.Common.{◌≡◌, ℕ, ◌+◌, List, ◌∷◌, ◌++◌, drop, slice_get, Some, ap, sym, ◌∙◌, append_assoc}
use Rattle.std.proofs.lemmas.List.{at_drop_more}
use Rattle.std.proofs.lemmas.Option.{get_or_from_slice_get, slice_get_within}
use Rattle.sno_statement.specs.Bindings.{Bindings}
use Rattle.sno_statement.specs.declared.binding.Datum.{Datum}
use Rattle.sno_find.specs.Json.{variable_json, variables_json}

module _ (bound : Bindings) (place : ℕ) (out all : List ℕ) where
  -- the variable at a place is written, and those after it are left
  pub next_written : (b : List ℕ × Datum) (new : List ℕ) → slice_get bound place ≡ Some b → new ≡ out ++ variable_json place b
      → out ++ variables_json place (drop place bound) ≡ all → new ++ variables_json (place + 1) (drop (place + 1) bound) ≡ all
  next_written b new there put so_far =
      let rest = drop (place + 1) bound in
      let first : variables_json place (drop place bound) ≡ variables_json place (b ∷ rest) =
      at_drop_more (variables_json place) bound place b (slice_get_within bound place b there)
      ∙ ap (λ (x : List ℕ × Datum). variables_json place (x ∷ rest)) (get_or_from_slice_get bound place b b there) in
      ap (λ z. z ++ variables_json (place + 1) rest) put
      ∙ append_assoc out (variable_json place b) (variables_json (place + 1) rest)
      ∙ ap (λ z. out ++ z) (sym first)
      ∙ so_far
