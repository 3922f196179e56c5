-- The last assignments give the same values as all assignments, one after the other.
use Rattle.std.proofs.Common.{◌≡◌, ℕ, Bool, true, false, List, [], ◌∷◌, ◌++◌, map, None, Some, option_map, slice_get, drop, length, ◌+◌, ◌≤◌, if◌then◌else◌, refl, sym, ap, subst, ◌∙◌}
use Rattle.std.proofs.lemmas.Cmp.{nat_list_eq_equiv}
use Rattle.std.proofs.lemmas.List.{append_assoc, append-nil, at_drop_more, at_drop_all}
use Rattle.std.proofs.lemmas.Option.{get_or_from_slice_get, slice_get_within}
use Rattle.std.specs.List.{IsDistinct}
use Rattle.sno_pattern.specs.Identifiers.{same}
use Rattle.sno_statement.specs.declared.binding.Datum.{Datum}
use Rattle.sno_statement.specs.declared.last_assignments.Last.{Last}
use Rattle.sno_statement.specs.Bindings.{Bindings, AreDistinct, bind, lookup}
use Rattle.sno_statement.specs.LastAssignments.{value_of_last, values_of_last}
use Rattle.sno_statement.proofs.Entries.{keys_are_distinct}

-- assigning and then cutting is cutting and then assigning
pub bind_values : (t : List ℕ) (lasts : List (List ℕ × Last)) (name : List ℕ) (last : Last) → values_of_last t (bind lasts name last) ≡ bind (values_of_last t lasts) name (value_of_last t last)
bind_values t [] name last = refl
bind_values t (b ∷ lasts) name last = by (same name b.0) (bind_values t lasts name last)
  where
    by : (s : Bool) → values_of_last t (bind lasts name last) ≡ bind (values_of_last t lasts) name (value_of_last t last)
        → values_of_last t (if s then (b.0, last) ∷ lasts else b ∷ bind lasts name last)
        ≡ (if s then (b.0, value_of_last t last) ∷ values_of_last t lasts else (b.0, value_of_last t b.1) ∷ bind (values_of_last t lasts) name (value_of_last t last))
    by true rest = refl
    by false rest = ap (λ (bound : Bindings). (b.0, value_of_last t b.1) ∷ bound) rest

-- the value of a variable is that of its last assignment
pub lookup_values : (t name : List ℕ) (lasts : List (List ℕ × Last)) → lookup name (values_of_last t lasts) ≡ option_map (value_of_last t) (lookup name lasts)
lookup_values t name [] = refl
lookup_values t name (b ∷ lasts) = by (same name b.0) (lookup_values t name lasts)
  where
    by : (s : Bool) → lookup name (values_of_last t lasts) ≡ option_map (value_of_last t) (lookup name lasts)
        → (if s then Some (value_of_last t b.1) else lookup name (values_of_last t lasts)) ≡ option_map (value_of_last t) (if s then Some b.1 else lookup name lasts)
    by true rest = refl
    by false rest = rest

-- these variables are assigned these values, one after the other
abbrev pub bind_all : Bindings → Bindings → Bindings
bind_all bound [] = bound
bind_all bound (b ∷ rest) = bind_all (bind bound b.0 b.1) rest

-- a name that has no value among variables is the name of none of them
apart : (name : List ℕ) (front : Bindings) (b : List ℕ × Datum) (rest : Bindings) → lookup name (front ++ b ∷ rest) ≡ None → same name b.0 ≡ false
apart name [] b rest h = by (same name b.0) h
  where
    by : (s : Bool) → (if s then Some b.1 else lookup name rest) ≡ None → s ≡ false
    by true h = absurd cc
    by false h = refl
apart name (f ∷ front) b rest h = by (same name f.0) h (apart name front b rest)
  where
    by : (s : Bool) → (if s then Some f.1 else lookup name (front ++ b ∷ rest)) ≡ None → (lookup name (front ++ b ∷ rest) ≡ None → same name b.0 ≡ false) → same name b.0 ≡ false
    by true h further = absurd cc
    by false h further = further h

-- a variable that is none of those before it goes last
bind_last : (front : Bindings) (b : List ℕ × Datum) (rest : Bindings) → AreDistinct (front ++ b ∷ rest) → bind front b.0 b.1 ≡ front ++ b ∷ []
bind_last [] b rest h = refl
bind_last (f ∷ front) b rest h =
    let other : same b.0 f.0 ≡ false = nat_list_eq_equiv.symm b.0 f.0 ∙ apart f.0 front b rest h.0 in
    rw other (ap (λ (bound : Bindings). f ∷ bound) (bind_last front b rest h.1))

bind_all_distinct : (front rest : Bindings) → AreDistinct (front ++ rest) → bind_all front rest ≡ front ++ rest
bind_all_distinct front [] h = sym (append-nil front)
bind_all_distinct front (b ∷ rest) h =
    let joined : (front ++ b ∷ []) ++ rest ≡ front ++ b ∷ rest = append_assoc front (b ∷ []) rest in
    ap (λ bound. bind_all bound rest) (bind_last front b rest h)
    ∙ bind_all_distinct (front ++ b ∷ []) rest (subst AreDistinct (sym joined) h)
    ∙ joined

-- the variables of the values are those that were assigned
same_keys : (t : List ℕ) (lasts : List (List ℕ × Last)) → map (λ b. b.0) (values_of_last t lasts) ≡ map (λ b. b.0) lasts
same_keys t [] = refl
same_keys t (b ∷ lasts) = ap (λ (names : List (List ℕ)). b.0 ∷ names) (same_keys t lasts)

-- distinct variables that are assigned one after the other are bound to just these values
pub bind_all_values : (t : List ℕ) (lasts : List (List ℕ × Last)) → IsDistinct same (map (λ b. b.0) lasts) → bind_all [] (values_of_last t lasts) ≡ values_of_last t lasts
bind_all_values t lasts h = bind_all_distinct [] (values_of_last t lasts) (keys_are_distinct (values_of_last t lasts) (subst (IsDistinct same) (sym (same_keys t lasts)) h))

module _ (t : List ℕ) (lasts : List (List ℕ × Last)) (bound : Bindings) (place : ℕ) where
  -- the next value is bound, and those after it are left
  pub next_value : (b : List ℕ × Last) → slice_get lasts place ≡ Some b
      → bind_all bound (values_of_last t (drop place lasts)) ≡ bind_all (bind bound b.0 (value_of_last t b.1)) (values_of_last t (drop (place + 1) lasts))
  next_value b there =
      at_drop_more (λ rest. bind_all bound (values_of_last t rest)) lasts place b (slice_get_within lasts place b there)
      ∙ ap (λ x. bind_all bound (values_of_last t (x ∷ drop (place + 1) lasts))) (get_or_from_slice_get lasts place b b there)

  -- at the end nothing is left
  pub no_value_left : length lasts ≤ place → bind_all bound (values_of_last t (drop place lasts)) ≡ bound
  no_value_left past = at_drop_all (λ rest. bind_all bound (values_of_last t rest)) lasts place past
