-- Depths against a limit.
use Rattle.std.proofs.Common.{◌≡◌, ℕ, suc, ◌-◌, ◌<◌, ◌&&◌, max, leb, arith}
use Rattle.std.proofs.lemmas.Bool.Decides.{nat_tests}
use Rattle.sno_pattern.specs.Tree as tree
use Rattle.sno_pattern.specs.Tree.{Tree}
use Rattle.sno_read.specs.Depth.{depth}

-- no tree has depth 0
pub depth_positive : (t : Tree) → 0 < depth t
unfolding depth
depth_positive (tree.Arbno p) = omega arith
depth_positive (tree.Seq p q) = omega arith
depth_positive (tree.Alt p q) = omega arith
depth_positive (tree.Cond p v) = omega arith
depth_positive (tree.Imm p v) = omega arith
depth_positive _ = omega arith

pub one_child : (a limit : ℕ) → 0 < limit → leb a (limit - 1) ≡ leb (suc a) limit
one_child a limit h = grind (arith, nat_tests)

pub two_children : (a b limit : ℕ) → 0 < limit → (leb a (limit - 1) && leb b (limit - 1)) ≡ leb (suc (max a b)) limit
two_children a b limit h = grind (arith, nat_tests)

pub ruleset depths = (depth_positive, one_child, two_children, nat_tests)
