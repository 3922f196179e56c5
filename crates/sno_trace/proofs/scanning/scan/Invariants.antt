-- What is shown so far and what the starts that are left show are together all.
use Rattle.std.proofs.Common.{◌≡◌, ◌++◌}
use Rattle.std.specs.List.{flat_map}
use Rattle.sno_pattern.specs.Tree.{tree_of}
use Rattle.sno_pattern.specs.Results.{enough_depth}
use Rattle.sno_trace.specs.Promise.{until_ended, first_shown, shown_from, noted_search}
use Rattle.sno_trace.proofs.Ranges.{up_to}
use Rattle.sno_trace.proofs.scanning.scan.Given as goal

abbrev pub invariant-loop-start : goal.invariant-loop-start
invariant-loop-start l =
    l.all.items ++ first_shown l.left (until_ended (flat_map (shown_from l.search.text.now l.search.rules.now.bodies l.setting.depth (tree_of l.search.pattern.now)) (up_to l.start l.last)))
    ≡ first_shown l.limit (noted_search l.search.text.now l.search.rules.now.bodies (enough_depth l.search.text.now l.search.rules.now.bodies) (tree_of l.search.pattern.now) l.search.anchored l.search.from)
