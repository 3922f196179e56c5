-- Which sets of definitions are admitted: each cycle of references has to take a character.
use Rattle.std.specs.Prelude.{◌≡◌, ℕ, suc, ◌⊎◌, List, ◌∷◌, Some, slice_get}
use Rattle.sno_pattern.specs.Tree as tree
use Rattle.sno_pattern.specs.Tree.{Tree}

-- A part that takes a character wherever it ends. This is the least rule by which these take:
-- - a literal that is not null, and `LEN` of at least one;
-- - ANY, NOTANY, SPAN, BAL, FAIL and ABORT;
-- - a concatenation, if either part takes;
-- - an alternation, if both parts take;
-- - an assignment, if its part takes;
-- - a reference, if the body of its definition takes.
--
-- Nothing else takes.
pub data Takes (bodies : List Tree) : Tree → Type 0 where
  literal : {x : ℕ} {s : List ℕ} → Takes bodies (tree.Lit (x ∷ s))
  len : {n : ℕ} → Takes bodies (tree.Len (suc n))
  any_of : {s : List ℕ} → Takes bodies (tree.AnyOf s)
  none_of : {s : List ℕ} → Takes bodies (tree.NoneOf s)
  span : {s : List ℕ} → Takes bodies (tree.Span s)
  bal : Takes bodies tree.Bal
  fail : Takes bodies tree.Fail
  abort : Takes bodies tree.Abort
  seq_first : {p q : Tree} → Takes bodies p → Takes bodies (tree.Seq p q)
  seq_second : {p q : Tree} → Takes bodies q → Takes bodies (tree.Seq p q)
  alt : {p q : Tree} → Takes bodies p → Takes bodies q → Takes bodies (tree.Alt p q)
  cond : {p : Tree} {v : List ℕ} → Takes bodies p → Takes bodies (tree.Cond p v)
  imm : {p : Tree} {v : List ℕ} → Takes bodies p → Takes bodies (tree.Imm p v)
  ref : {i : ℕ} {body : Tree} → slice_get bodies i ≡ Some body → Takes bodies body → Takes bodies (tree.Ref i)

-- the reference i is in the pattern, and in its concatenations no part before it takes
abbrev pub Unguarded : List Tree → Tree → ℕ → Type 0
Unguarded bodies (tree.Ref j) i = i ≡ j
Unguarded bodies (tree.Seq p q) i = Unguarded bodies p i ⊎ ((Takes bodies p → ⊥) × Unguarded bodies q i)
Unguarded bodies (tree.Alt p q) i = Unguarded bodies p i ⊎ Unguarded bodies q i
Unguarded bodies (tree.Arbno p) i = Unguarded bodies p i
Unguarded bodies (tree.Cond p v) i = Unguarded bodies p i
Unguarded bodies (tree.Imm p v) i = Unguarded bodies p i
Unguarded bodies _ i = ⊥

-- the body of definition i has an unguarded reference to j
abbrev pub Leads : List Tree → ℕ → ℕ → Type 0
Leads bodies i j = (body : Tree) × (slice_get bodies i ≡ Some body) × Unguarded bodies body j

-- a chain of one or more such references from i to j
pub data Chain (bodies : List Tree) : ℕ → ℕ → Type 0 where
  one : {i j : ℕ} → Leads bodies i j → Chain bodies i j
  more : {i j k : ℕ} → Chain bodies i j → Leads bodies j k → Chain bodies i k

-- no chain comes back to its start
abbrev pub Guarded : List Tree → Type 0
Guarded bodies = (i : ℕ) → Chain bodies i i → ⊥
