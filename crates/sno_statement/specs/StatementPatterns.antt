-- The patterns of statements, by value.
use Rattle.std.specs.Arc.{arc_value}
use Rattle.sno_pattern.specs.Tree.{Tree, tree_of}
use Rattle.sno_statement.specs.declared.statement_patterns.StatementPattern.{StatementPattern}
use Rattle.sno_statement.specs.declared.statement_patterns.StatementPattern.TheVariants.{Own, Shared}

-- a pattern counts for what it says, whether statements share it or not
abbrev pub tree_in : StatementPattern → Tree
tree_in (Own pattern) = tree_of pattern
tree_in (Shared pattern) = tree_of (arc_value pattern)
