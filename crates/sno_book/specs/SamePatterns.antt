-- Whether two patterns are the same. It is proved that two trees are the same exactly if they are equal.
use Rattle.std.specs.Prelude.{Bool, true, false, ◌&&◌, nat_eq}
use Rattle.sno_pattern.specs.Identifiers.{same}
use Rattle.sno_pattern.specs.Tree.{Tree, Lit, Len, Pos, Rpos, Tab, Rtab, AnyOf, NoneOf, Span, Break, Arb, Arbno, Bal, Rem, Fence, Abort, Fail, At, Ref, Seq, Alt, Cond, Imm}

-- whether two patterns are the same, if the first has no parts below it
abbrev pub same_leaf : Tree → Tree → Bool
same_leaf (Lit s) (Lit t) = same s t
same_leaf (Len m) (Len n) = nat_eq m n
same_leaf (Pos m) (Pos n) = nat_eq m n
same_leaf (Rpos m) (Rpos n) = nat_eq m n
same_leaf (Tab m) (Tab n) = nat_eq m n
same_leaf (Rtab m) (Rtab n) = nat_eq m n
same_leaf (AnyOf s) (AnyOf t) = same s t
same_leaf (NoneOf s) (NoneOf t) = same s t
same_leaf (Span s) (Span t) = same s t
same_leaf (Break s) (Break t) = same s t
same_leaf Arb Arb = true
same_leaf Bal Bal = true
same_leaf Rem Rem = true
same_leaf Fence Fence = true
same_leaf Abort Abort = true
same_leaf Fail Fail = true
same_leaf (At v) (At w) = same v w
same_leaf (Ref i) (Ref j) = nat_eq i j
same_leaf _ _ = false

-- whether two patterns are the same: their variants, their characters and numbers, and the parts below them
abbrev pub same_tree : Tree → Tree → Bool
same_tree (Arbno p) (Arbno q) = same_tree p q
same_tree (Seq p r) (Seq q s) = same_tree p q && same_tree r s
same_tree (Alt p r) (Alt q s) = same_tree p q && same_tree r s
same_tree (Cond p v) (Cond q w) = same v w && same_tree p q
same_tree (Imm p v) (Imm q w) = same v w && same_tree p q
same_tree p q = same_leaf p q
