-- A variable that is assigned keeps its place, or goes last.
use Rattle.std.proofs.Common.{◌≡◌, ℕ, suc, ◌+◌, ◌<◌, ◌≤◌, Bool, true, false, cond, not, nat_lt, List, [], ◌∷◌, ◌++◌, length, set, get_or, Some, None, position, refl, ap, sym, ◌∙◌, arith, inl, inr, ◌⊎◌}
use Rattle.std.specs.List.{position_or_len}
use Rattle.std.proofs.lemmas.Bool.{cases_lt, lt-ltb, le-ltb}
use Rattle.sno_pattern.specs.Identifiers.{same}
use Rattle.sno_statement.specs.Bindings.{bind}
use Rattle.sno_statement.specs.declared.last_assignments.Last.{Last}
use Rattle.sno_statement.specs.MatchLists.{LastList}

module _ (name : List ℕ) (last : Last) where
  -- where the variable is, or the length
  place : LastList → ℕ
  place bound = position_or_len (λ b. same name b.0) bound

  there : (bound : LastList) (d : List ℕ × Last) → place bound < length bound → set bound (place bound) ((get_or bound (place bound) d).0, last) ≡ bind bound name last
  unfolding place
  there [] d h = absurd (omega arith)
  there (b ∷ bound) d h = by (same name b.0) h (there bound d)
    where
      by : (s : Bool) → cond (not s) (1 + place bound) 0 < length (b ∷ bound)
          → (place bound < length bound → set bound (place bound) ((get_or bound (place bound) d).0, last) ≡ bind bound name last)
          → set (b ∷ bound) (cond (not s) (1 + place bound) 0) ((get_or (b ∷ bound) (cond (not s) (1 + place bound) 0) d).0, last) ≡ cond s ((b.0, last) ∷ bound) (b ∷ bind bound name last)
      by true h rest = refl
      by false h rest =
          let next : 1 + place bound ≡ suc (place bound) = omega arith in
          ap (λ (z : ℕ). set (b ∷ bound) z ((get_or (b ∷ bound) z d).0, last)) next ∙ ap (λ (z : LastList). b ∷ z) (rest (omega (arith, h)))

  nowhere : (bound : LastList) → length bound ≤ place bound → bind bound name last ≡ bound ++ (name, last) ∷ []
  unfolding place
  nowhere [] h = refl
  nowhere (b ∷ bound) h = by (same name b.0) h (nowhere bound)
    where
      by : (s : Bool) → length (b ∷ bound) ≤ cond (not s) (1 + place bound) 0
          → (length bound ≤ place bound → bind bound name last ≡ bound ++ (name, last) ∷ [])
          → cond s ((b.0, last) ∷ bound) (b ∷ bind bound name last) ≡ b ∷ (bound ++ (name, last) ∷ [])
      by true h rest = absurd (omega (arith, h))
      by false h rest = ap (λ (z : LastList). b ∷ z) (rest (omega (arith, h)))

  -- what is found is where the variable is
  found_at : (bound : LastList) (i : ℕ) → Some i ≡ position (λ b. same name b.0) bound → (i ≡ place bound) × (place bound < length bound)
  unfolding place
  found_at bound i is = by (cases_lt (place bound) (length bound)) is
    where
      same_some : (m n : ℕ) → Some m ≡ Some n → m ≡ n
      same_some m n e = cc

      by : (place bound < length bound) ⊎ (length bound ≤ place bound) → Some i ≡ cond (nat_lt (place bound) (length bound)) (Some (place bound)) None → (i ≡ place bound) × (place bound < length bound)
      by (inl h) e = (same_some i (place bound) (e ∙ ap (λ (z : Bool). cond z (Some (place bound)) None) (lt-ltb (place bound) (length bound) h)), h)
      by (inr h) e = absurd (let none : Some i ≡ None = e ∙ ap (λ (z : Bool). cond z (Some (place bound)) None) (le-ltb (place bound) (length bound) h) in cc)

  nothing_at : (bound : LastList) → None ≡ position (λ b. same name b.0) bound → length bound ≤ place bound
  unfolding place
  nothing_at bound is = by (cases_lt (place bound) (length bound)) is
    where
      by : (place bound < length bound) ⊎ (length bound ≤ place bound) → None ≡ cond (nat_lt (place bound) (length bound)) (Some (place bound)) None → length bound ≤ place bound
      by (inl h) e = absurd (let none : None ≡ Some (place bound) = e ∙ ap (λ (z : Bool). cond z (Some (place bound)) None) (lt-ltb (place bound) (length bound) h) in cc)
      by (inr h) e = h

  -- a variable that is there keeps its place, and has this last assignment
  pub assigned_there : (bound : LastList) (i : ℕ) (b : List ℕ × Last) → Some i ≡ position (λ b. same name b.0) bound → b ≡ get_or bound i b → set bound i (b.0, last) ≡ bind bound name last
  assigned_there bound i b is at =
      let here = found_at bound i is in
      ap (λ (z : List ℕ × Last). set bound i (z.0, last)) at
      ∙ ap (λ (z : ℕ). set bound z ((get_or bound z b).0, last)) here.0
      ∙ there bound b here.1

  -- another one goes last
  pub assigned_last : (bound : LastList) → None ≡ position (λ b. same name b.0) bound → bound ++ (name, last) ∷ [] ≡ bind bound name last
  assigned_last bound is = sym (nowhere bound (nothing_at bound is))
