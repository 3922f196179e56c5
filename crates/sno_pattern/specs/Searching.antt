-- The terms of the functions that look for a cycle of unguarded references: marks of the definitions that take, and a search.
use Rattle.std.specs.Prelude.{◌≡◌, ℕ, ◌<◌, ◌↔◌, Bool, true, false, not, ◌&&◌, ◌||◌, List, [], ◌∷◌, ◌++◌, length, nat_eq, slice_get, slice_index, slice_index_or, Some, if◌then◌else◌}
use Rattle.std.specs.List.{IsDistinct, AllByRecursion}
use Rattle.sno_pattern.specs.Tree as tree
use Rattle.sno_pattern.specs.Tree.{Tree}
use Rattle.sno_pattern.specs.Guard.{Takes, Leads}
use Rattle.sno_pattern.specs.Admission.{IsWay}

-- whether the pattern takes, by marks that say which definitions do
abbrev pub takes_by : List Bool → Tree → Bool
takes_by marks (tree.Lit s) = not (nat_eq (length s) 0)
takes_by marks (tree.Len n) = not (nat_eq n 0)
takes_by marks (tree.AnyOf s) = true
takes_by marks (tree.NoneOf s) = true
takes_by marks (tree.Span s) = true
takes_by marks tree.Bal = true
takes_by marks tree.Fail = true
takes_by marks tree.Abort = true
takes_by marks (tree.Seq p q) = takes_by marks p || takes_by marks q
takes_by marks (tree.Alt p q) = takes_by marks p && takes_by marks q
takes_by marks (tree.Cond p v) = takes_by marks p
takes_by marks (tree.Imm p v) = takes_by marks p
takes_by marks (tree.Ref i) = slice_index_or marks i false
takes_by marks _ = false

-- each mark is on a definition that takes
abbrev pub AreSound : List Tree → List Bool → Type 0
AreSound bodies marks = (i : ℕ) → slice_index_or marks i false ≡ true → Takes bodies (tree.Ref i)

-- no mark is missing
abbrev pub AreComplete : List Tree → List Bool → Type 0
AreComplete bodies marks = (i : ℕ) (body : Tree) → slice_get bodies i ≡ Some body → takes_by marks body ≡ true → slice_index_or marks i false ≡ true

-- the marks say of each pattern whether it takes
abbrev pub AreExact : List Tree → List Bool → Type 0
AreExact bodies marks = (p : Tree) → (takes_by marks p ≡ true) ↔ Takes bodies p

-- the unguarded references of the pattern, by the marks
abbrev pub unguarded_by : List Bool → Tree → List ℕ
unguarded_by marks (tree.Ref i) = i ∷ []
unguarded_by marks (tree.Seq p q) = unguarded_by marks p ++ (if takes_by marks p then [] else unguarded_by marks q)
unguarded_by marks (tree.Alt p q) = unguarded_by marks p ++ unguarded_by marks q
unguarded_by marks (tree.Arbno p) = unguarded_by marks p
unguarded_by marks (tree.Cond p v) = unguarded_by marks p
unguarded_by marks (tree.Imm p v) = unguarded_by marks p
unguarded_by marks _ = []

-- a definition that takes, by the marks, and has no mark
abbrev pub IsUnmarked : List Tree → List Bool → ℕ → Type 0
IsUnmarked bodies marks i = (body : Tree) × (slice_get bodies i ≡ Some body) × (takes_by marks body ≡ true) × (slice_index_or marks i false ≡ false)

-- no mark is missing on the first n definitions
abbrev pub AreCompleteBelow : List Tree → List Bool → ℕ → Type 0
AreCompleteBelow bodies marks n =
    (i : ℕ) (body : Tree) → i < n → slice_get bodies i ≡ Some body → takes_by marks body ≡ true → slice_index_or marks i false ≡ true

-- A way from `from` to `target` through distinct definitions that weren't seen before.
pub record IsFreshWay (bodies : List Tree) (from : ℕ) (way : List ℕ) (target : ℕ) (before : List Bool) : Type 0 where
  pub path : IsWay bodies from way target
  pub fresh : AllByRecursion (λ x. slice_index_or before x false ≡ false) way
  pub apart : IsDistinct nat_eq way

-- Every definition that x leads to was seen, and the target isn't among them.
abbrev pub IsClosed : List Tree → ℕ → List Bool → ℕ → Type 0
IsClosed bodies target seen x = (j : ℕ) → Leads bodies x j → (j ≡ target → ⊥) × (slice_index_or seen j false ≡ true)

-- Nothing leads from `from` to the target. What was seen before is still seen; `from` and all that was seen since are closed.
pub record IsDeadEnd (bodies : List Tree) (from target : ℕ) (before after : List Bool) : Type 0 where
  pub kept : (j : ℕ) → slice_index_or before j false ≡ true → slice_index_or after j false ≡ true
  pub done : IsClosed bodies target after from
  pub rest : (x : ℕ) → slice_index_or before x false ≡ false → slice_index_or after x false ≡ true → IsClosed bodies target after x

-- These are all the definitions that `from` leads to, and each of them exists.
pub record AreReferences (bodies : List Tree) (from : ℕ) (found : List ℕ) : Type 0 where
  pub each : (k : ℕ) → k < length found → Leads bodies from (slice_index found k)
  pub inside : (k : ℕ) → k < length found → slice_index found k < length bodies
  pub all : (j : ℕ) → Leads bodies from j → (k : ℕ) × (k < length found) × (slice_index found k ≡ j)

-- as `IsDeadEnd`, if only the first n of the references of `from` were looked at
pub record IsSearched (bodies : List Tree) (found : List ℕ) (n target : ℕ) (before after : List Bool) : Type 0 where
  pub kept : (j : ℕ) → slice_index_or before j false ≡ true → slice_index_or after j false ≡ true
  pub done : (k : ℕ) → k < n → (slice_index found k ≡ target → ⊥) × (slice_index_or after (slice_index found k) false ≡ true)
  pub rest : (x : ℕ) → slice_index_or before x false ≡ false → slice_index_or after x false ≡ true → IsClosed bodies target after x
