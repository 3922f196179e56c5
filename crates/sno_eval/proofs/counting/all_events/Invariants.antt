-- The events so far and those of the starts that are left are together all.
use Rattle.std.proofs.Common.{◌≡◌, ◌++◌}
use Rattle.std.specs.List.{flat_map}
use Rattle.sno_pattern.specs.Tree.{tree_of}
use Rattle.sno_pattern.specs.Results.{results}
use Rattle.sno_eval.proofs.Ranges.{up_to}
use Rattle.sno_eval.proofs.counting.all_events.Given as goal

abbrev pub invariant-loop-start : goal.invariant-loop-start
invariant-loop-start l =
    l.all.items ++ flat_map (results l.text l.rules.bodies l.most (tree_of l.pattern)) (up_to l.start l.last)
    ≡ flat_map (results l.text l.rules.bodies l.most (tree_of l.pattern)) (up_to l.from l.last)
