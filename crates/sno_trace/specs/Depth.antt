-- How deep calls are nested, which is why a trace is refused.
use Rattle.std.specs.Prelude.{◌≡◌, ◌<◌, ◌⊎◌, ℕ, zero, suc, Bool, List, [], ◌∷◌, Some, slice_get}
use Rattle.std.specs.List.{Contains}
use Rattle.sno_pattern.specs.Tree as tree
use Rattle.sno_pattern.specs.Tree.{Tree}
use Rattle.sno_pattern.specs.Results.{enough_depth}
use Rattle.sno_pattern.specs.Outcome.{starts, starts_from}
use Rattle.sno_trace.specs.declared.events.Noted.{Noted}
use Rattle.sno_trace.specs.declared.events.Noted.TheVariants.{Try, Set, Mark, End, Halt, Stop}
use Rattle.sno_trace.specs.Noted.{noted}

-- the list has an End at e
abbrev pub EndsAt : List Noted → ℕ → Type 0
EndsAt [] e = ⊥
EndsAt (Try x ∷ l) e = EndsAt l e
EndsAt (Set a ∷ l) e = EndsAt l e
EndsAt (Mark d ∷ l) e = EndsAt l e
EndsAt (End f a ∷ l) e = (f ≡ e) ⊎ EndsAt l e
EndsAt (Halt ∷ l) e = EndsAt l e
EndsAt (Stop ∷ l) e = EndsAt l e

-- From p at the cursor c one gets n times further in: to a part of a pattern, where it is met; to the next round of ARBNO, after one
-- that took characters; to the body of a reference.
unfoldable pub Nests : List ℕ → List Tree → ℕ → ℕ → Tree → ℕ → Type 0
Nests t bodies zero k p c = Unit {0}
Nests t bodies (suc n) k (tree.Seq p q) c = Nests t bodies n k p c ⊎ ((e : ℕ) × EndsAt (noted t bodies k p c) e × Nests t bodies n k q e)
Nests t bodies (suc n) k (tree.Alt p q) c = Nests t bodies n k p c ⊎ Nests t bodies n k q c
Nests t bodies (suc n) k (tree.Arbno p) c = Nests t bodies n k p c ⊎ ((e : ℕ) × EndsAt (noted t bodies k p c) e × (c < e) × Nests t bodies n k (tree.Arbno p) e)
Nests t bodies (suc n) k (tree.Cond p v) c = Nests t bodies n k p c
Nests t bodies (suc n) k (tree.Imm p v) c = Nests t bodies n k p c
Nests t bodies (suc n) (suc k) (tree.Ref i) c = (body : Tree) × (Some body ≡ slice_get bodies i) × Nests t bodies n k body c
Nests t bodies (suc n) k p c = ⊥

-- A match is nested deeper than n, from one of its starts.
abbrev pub IsDeeper : List ℕ → List Tree → Tree → Bool → ℕ → Type 0
IsDeeper t bodies p anchored n = (s : ℕ) × Contains (starts t anchored) s × Nests t bodies n (enough_depth t bodies) p s

-- A search from cursor c on is nested deeper than n, from one of its starts.
abbrev pub IsDeeperFrom : List ℕ → List Tree → Tree → Bool → ℕ → ℕ → Type 0
IsDeeperFrom t bodies p anchored c n = (s : ℕ) × Contains (starts_from t anchored c) s × Nests t bodies n (enough_depth t bodies) p s
