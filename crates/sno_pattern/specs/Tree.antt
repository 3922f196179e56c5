-- Patterns by value: the trees of `Pattern`, without the places of their parts in memory.
use Rattle.std.specs.Prelude.{◌≡◌, ℕ, Bool, true, ◌&&◌, List, map, nat_lt, refl}
use Rattle.std.proofs.Common.{Box, Global}
use denote.RawPtr.{null_ptr}
use Rattle.sno_pattern.specs.declared.tree.Pattern.{Pattern}
use Rattle.sno_pattern.specs.declared.tree.Pattern.TheVariants as pattern

-- One constructor for each variant of `Pattern`, but that a literal of ASCII characters and one of bytes are alike. Characters,
-- names and sets are lists of codes.
pub data Tree : Type 0 where
  Lit : List ℕ → Tree
  Len : ℕ → Tree
  Pos : ℕ → Tree
  Rpos : ℕ → Tree
  Tab : ℕ → Tree
  Rtab : ℕ → Tree
  AnyOf : List ℕ → Tree
  NoneOf : List ℕ → Tree
  Span : List ℕ → Tree
  Break : List ℕ → Tree
  Arb : Tree
  Arbno : Tree → Tree
  Bal : Tree
  Rem : Tree
  Fence : Tree
  Abort : Tree
  Fail : Tree
  At : List ℕ → Tree
  Ref : ℕ → Tree
  Seq : Tree → Tree → Tree
  Alt : Tree → Tree → Tree
  Cond : Tree → List ℕ → Tree
  Imm : Tree → List ℕ → Tree

-- the tree of a pattern of the program
abbrev pub tree_of : Pattern → Tree
tree_of (pattern.Lit s) = Lit s
tree_of (pattern.Bytes s) = Lit s
tree_of (pattern.Len n) = Len n
tree_of (pattern.Pos n) = Pos n
tree_of (pattern.Rpos n) = Rpos n
tree_of (pattern.Tab n) = Tab n
tree_of (pattern.Rtab n) = Rtab n
tree_of (pattern.AnyOf s) = AnyOf s
tree_of (pattern.NoneOf s) = NoneOf s
tree_of (pattern.Span s) = Span s
tree_of (pattern.Break s) = Break s
tree_of pattern.Arb = Arb
tree_of (pattern.Arbno' a p) = Arbno (tree_of p)
tree_of pattern.Bal = Bal
tree_of pattern.Rem = Rem
tree_of pattern.Fence = Fence
tree_of pattern.Abort = Abort
tree_of pattern.Fail = Fail
tree_of (pattern.At v) = At v
tree_of (pattern.Ref i) = Ref i
tree_of (pattern.Seq' a p b q) = Seq (tree_of p) (tree_of q)
tree_of (pattern.Alt' a p b q) = Alt (tree_of p) (tree_of q)
tree_of (pattern.Cond' a p v) = Cond (tree_of p) v
tree_of (pattern.Imm' a p v) = Imm (tree_of p) v

-- the trees of the bodies of definitions, in order
abbrev pub trees : List Pattern → List Tree
trees ps = map tree_of ps

-- whether each reference in the tree is to one of the first n definitions
abbrev pub refs_below : ℕ → Tree → Bool
refs_below n (Ref i) = nat_lt i n
refs_below n (Arbno p) = refs_below n p
refs_below n (Seq p q) = refs_below n p && refs_below n q
refs_below n (Alt p q) = refs_below n p && refs_below n q
refs_below n (Cond p v) = refs_below n p
refs_below n (Imm p v) = refs_below n p
refs_below n _ = true

-- a box at no place in memory
abbrev nowhere : Box (Unit {0}) Global
nowhere = record { ptr = null_ptr; alloc = record { memory = record { seal = tt } }; value = tt }

-- A pattern with this tree, at no place in memory. Proofs use it to show that trees differ.
abbrev pub stored_pattern : Tree → Pattern
stored_pattern (Lit s) = pattern.Lit s
stored_pattern (Len n) = pattern.Len n
stored_pattern (Pos n) = pattern.Pos n
stored_pattern (Rpos n) = pattern.Rpos n
stored_pattern (Tab n) = pattern.Tab n
stored_pattern (Rtab n) = pattern.Rtab n
stored_pattern (AnyOf s) = pattern.AnyOf s
stored_pattern (NoneOf s) = pattern.NoneOf s
stored_pattern (Span s) = pattern.Span s
stored_pattern (Break s) = pattern.Break s
stored_pattern Arb = pattern.Arb
stored_pattern (Arbno p) = pattern.Arbno' nowhere (stored_pattern p)
stored_pattern Bal = pattern.Bal
stored_pattern Rem = pattern.Rem
stored_pattern Fence = pattern.Fence
stored_pattern Abort = pattern.Abort
stored_pattern Fail = pattern.Fail
stored_pattern (At v) = pattern.At v
stored_pattern (Ref i) = pattern.Ref i
stored_pattern (Seq p q) = pattern.Seq' nowhere (stored_pattern p) nowhere (stored_pattern q)
stored_pattern (Alt p q) = pattern.Alt' nowhere (stored_pattern p) nowhere (stored_pattern q)
stored_pattern (Cond p v) = pattern.Cond' nowhere (stored_pattern p) v
stored_pattern (Imm p v) = pattern.Imm' nowhere (stored_pattern p) v

pub tree_of-stored_pattern : (p : Tree) → tree_of (stored_pattern p) ≡ p
tree_of-stored_pattern (Lit s) = refl
tree_of-stored_pattern (Len n) = refl
tree_of-stored_pattern (Pos n) = refl
tree_of-stored_pattern (Rpos n) = refl
tree_of-stored_pattern (Tab n) = refl
tree_of-stored_pattern (Rtab n) = refl
tree_of-stored_pattern (AnyOf s) = refl
tree_of-stored_pattern (NoneOf s) = refl
tree_of-stored_pattern (Span s) = refl
tree_of-stored_pattern (Break s) = refl
tree_of-stored_pattern Arb = refl
tree_of-stored_pattern (Arbno p) = λ i. Arbno (tree_of-stored_pattern p i)
tree_of-stored_pattern Bal = refl
tree_of-stored_pattern Rem = refl
tree_of-stored_pattern Fence = refl
tree_of-stored_pattern Abort = refl
tree_of-stored_pattern Fail = refl
tree_of-stored_pattern (At v) = refl
tree_of-stored_pattern (Ref i) = refl
tree_of-stored_pattern (Seq p q) = λ i. Seq (tree_of-stored_pattern p i) (tree_of-stored_pattern q i)
tree_of-stored_pattern (Alt p q) = λ i. Alt (tree_of-stored_pattern p i) (tree_of-stored_pattern q i)
tree_of-stored_pattern (Cond p v) = λ i. Cond (tree_of-stored_pattern p i) v
tree_of-stored_pattern (Imm p v) = λ i. Imm (tree_of-stored_pattern p i) v
