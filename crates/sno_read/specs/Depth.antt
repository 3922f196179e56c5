-- How deep a tree is.
use Rattle.std.specs.Prelude.{ℕ, suc, max}
use Rattle.sno_pattern.specs.Tree.{Tree, Arbno, Seq, Alt, Cond, Imm}

-- 1 for a leaf, and one more than the deepest child otherwise
unfoldable pub depth : Tree → ℕ
depth (Arbno p) = suc (depth p)
depth (Seq p q) = suc (max (depth p) (depth q))
depth (Alt p q) = suc (max (depth p) (depth q))
depth (Cond p v) = suc (depth p)
depth (Imm p v) = suc (depth p)
depth _ = 1
