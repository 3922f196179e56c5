-- Admitted definitions.
use Rattle.std.specs.Prelude.{◌≡◌, ℕ, List, length, IsTrue, refl}
use Rattle.std.specs.List.{list_all}
use Rattle.std.specs.Coded.{Coded, code_by, coded×, coded_list, coded_ℕ}
use Rattle.sno_pattern.specs.Tree.{Tree, tree_of, stored_pattern, tree_of-stored_pattern, refs_below}
use Rattle.sno_pattern.specs.contracts.tree.Pattern as stored

-- definitions: their names, and the trees of their bodies in the same order
pub record Definitions : Type 0 where
  pub names : List (List ℕ)
  pub bodies : List Tree

-- a tree is stored as a pattern with this tree
abbrev pub tree_code : Coded Tree
tree_code = code_by _ stored.the_row.coded stored_pattern tree_of tree_of-stored_pattern

-- definitions are stored as the pair of their lists
abbrev pub definitions_code : Coded Definitions
definitions_code =
    code_by (List (List ℕ) × List Tree) (coded× (coded_list (coded_list coded_ℕ)) (coded_list tree_code)) (λ d. (d.names, d.bodies))
    (λ p. record { names = p.0; bodies = p.1 }) (λ d. refl)

-- as many bodies as names, and each reference is to one of them
pub record AreClosed (names : List (List ℕ)) (bodies : List Tree) : Type 0 where
  pub as_many : length names ≡ length bodies
  pub closed : IsTrue (list_all (refs_below (length bodies)) bodies)
