-- BAL as a walk over what is left of the text.
use Rattle.std.specs.Prelude.{◌≡◌, ℕ, suc, ◌+◌, List, [], ◌∷◌, drop, nat_eq, Option, Some, None, if◌then◌else◌}
use Rattle.std.proofs.Math.ListN.{get_or}
use Rattle.sno_primitives.specs.Depth.{depth_after}
use Rattle.sno_primitives.specs.Mates.{ends_from}

-- a place is an end if nothing is open
abbrev pub past : Option ℕ → ℕ → (ℕ → List ℕ) → List ℕ
past None place others = []
past (Some depth) place others = if nat_eq depth 0 then place ∷ others depth else others depth

-- the ends after a place, with this many open
abbrev pub walk : List ℕ → ℕ → ℕ → List ℕ
walk [] depth place = []
walk (x ∷ rest) depth place = past (depth_after depth x) (place + 1) (λ n. walk rest n (place + 1))

-- The list has where walks from the cursor end first that have one open, two open and so on.
abbrev pub IsStack : List ℕ → ℕ → List ℕ → Type 0
IsStack t c stack = (d : ℕ) → walk (drop c t) (suc d) c ≡ ends_from t (get_or stack d 0)
