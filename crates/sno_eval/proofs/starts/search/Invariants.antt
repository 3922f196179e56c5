-- The starts that are left, with the assignments done so far, lead to the outcome.
use Rattle.std.proofs.Common.{◌≡◌}
use Rattle.std.specs.List.{flat_map}
use Rattle.sno_pattern.specs.Tree.{tree_of}
use Rattle.sno_pattern.specs.Outcome.{tried_from, cut_scan, found_in, outcome_from}
use Rattle.sno_eval.proofs.Ranges.{up_to}
use Rattle.sno_eval.proofs.starts.search.Given as goal

abbrev pub invariant-loop-start : goal.invariant-loop-start
invariant-loop-start l =
    outcome_from l.text l.rules.bodies (tree_of l.pattern) l.anchored l.from ≡ found_in l.sets.items (cut_scan (flat_map (tried_from l.text l.rules.bodies l.most (tree_of l.pattern)) (up_to l.start l.last)))
