-- What was done so far, what is still to come of this start, and then the starts after it are together what all starts do.
use Rattle.std.proofs.Common.{◌≡◌, ◌+◌, ◌≤◌, ◌++◌, []}
use Rattle.std.specs.List.{flat_map}
use Rattle.sno_pattern.specs.Tree.{tree_of}
use Rattle.sno_pattern.specs.Outcome.{tried_from}
use Rattle.sno_machine.specs.Endings.{match_by, up_to}
use Rattle.sno_machine.specs.History.{entries_of, setting_of, place_to_come, place_steps, left, steps_left, IsHistory, IsPlaced}
use Rattle.sno_machine.proofs.StartLaws.{comes_to, first_place, steps_ahead}
use Rattle.sno_machine.proofs.run.running.try_starts.Given as goal

abbrev pub invariant-loop-place : goal.invariant-loop-place
invariant-loop-place l = record {
  known : l.learnt ≡ l.text;
  same : match_by l.fn.progress (flat_map (tried_from l.text l.code.rules.now.bodies l.most (tree_of l.code.pattern.now)) (up_to l.first l.last))
      ≡ comes_to l.text l.code.rules.now.bodies l.most (tree_of l.code.pattern.now) l.last l.progress l.start
      (place_to_come (setting_of l.text l.code.rules.now.bodies l.code.nodes) (entries_of l.history) l.at ++ left (setting_of l.text l.code.rules.now.bodies l.code.nodes) (entries_of l.history));
  held : IsHistory (setting_of l.text l.code.rules.now.bodies l.code.nodes) (entries_of l.history);
  placed : IsPlaced (setting_of l.text l.code.rules.now.bodies l.code.nodes) (entries_of l.history) l.at;
  inside : l.start ≤ l.last;
}

abbrev pub decreases-loop-place : goal.decreases-loop-place
decreases-loop-place l =
    place_steps (setting_of l.text l.code.rules.now.bodies l.code.nodes) (entries_of l.history) l.at
    + steps_left (setting_of l.text l.code.rules.now.bodies l.code.nodes) (entries_of l.history)
    + steps_ahead (λ c. place_steps (setting_of l.text l.code.rules.now.bodies l.code.nodes) [] (first_place l.code.nodes l.most c)) (up_to (l.start + 1) l.last)
