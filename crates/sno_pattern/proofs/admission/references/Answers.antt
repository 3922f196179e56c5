-- What was found are the references.
use Rattle.std.proofs.Common.{List, ℕ, ◌++◌, ap, ◌∙◌}
use Rattle.sno_pattern.specs.Tree.{tree_of}
use Rattle.sno_pattern.specs.Searching.{unguarded_by}
use Rattle.sno_pattern.proofs.Ways.{references_found}
use Rattle.sno_pattern.proofs.admission.references.Goals as goal

pub returns : goal.returns
returns c =
    references_found c.args.bodies.now c.args.marks.now c.requires.exact c.requires.closed c.args.from c.index-bodies-from.result c.requires.inside
    c.index-bodies-from.is c.find_unguarded.new.found.items
    (c.in_ok-find_unguarded.ensures.found ∙ ap (λ (l : List ℕ). l ++ unguarded_by c.args.marks.now (tree_of c.index-bodies-from.result)) c.new-found.ensures.items)
