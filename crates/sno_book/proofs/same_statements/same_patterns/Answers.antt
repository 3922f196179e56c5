use Rattle.std.proofs.Common.{◌∙◌, sym, arith}
use Rattle.std.specs.Cmp.Derive.Mapped.{pointwise-map}
use Rattle.sno_pattern.specs.Tree.{tree_of}
use Rattle.sno_book.specs.SamePatterns.{same_tree}
use Rattle.sno_book.proofs.Pairs.{zipped}
use Rattle.sno_pattern.specs.declared.tree.Pattern.{Pattern}
use Rattle.sno_book.proofs.same_statements.same_patterns.Goals as goal

pub returns-then-one-other : goal.returns-then-one-other
returns-then-one-other c =
    c.same_pattern_pairs.ensures ∙ zipped (λ (p : Pattern) (q : Pattern). same_tree (tree_of p) (tree_of q)) c.args.one.now c.args.other.now (omega arith)
    ∙ sym (pointwise-map tree_of same_tree c.args.one.now c.args.other.now)
