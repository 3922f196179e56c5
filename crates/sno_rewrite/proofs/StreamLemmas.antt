-- One write after another.
use Rattle.std.proofs.Common.{◌≡◌, ℕ, List, ◌++◌, take, drop, Option, Some, None, ap, ◌∙◌, append_assoc}
use Rattle.std.proofs.lemmas.List.{take-append-drop}
use Rattle.std.specs.Io.KnownBytes.{Appends}

appends_then : (a b c : Option (List ℕ)) (x y : List ℕ) → Appends a b x → Appends b c y → Appends a c (x ++ y)
appends_then None b c x y h g = tt
appends_then (Some xs) None c x y h g = absurd h
appends_then (Some xs) (Some ys) None x y h g = absurd g
appends_then (Some xs) (Some ys) (Some zs) x y h g = g ∙ ap (λ (l : List ℕ). l ++ y) h ∙ append_assoc xs x y

-- what was written grows by the first bytes of the rest
pub written_more : (a b c : Option (List ℕ)) (front rest all back : List ℕ) (n : ℕ) → Appends a b front → Appends b c (take n rest) → front ++ rest ≡ all → back ≡ drop n rest
    → (more : List ℕ) × Appends a c more × (more ++ back ≡ all)
written_more a b c front rest all back n h g joined left = (
  front ++ take n rest,
  appends_then a b c front (take n rest) h g,
  append_assoc front (take n rest) back ∙ ap (λ (l : List ℕ). front ++ (take n rest ++ l)) left ∙ ap (λ (l : List ℕ). front ++ l) (take-append-drop n rest) ∙ joined,
)
