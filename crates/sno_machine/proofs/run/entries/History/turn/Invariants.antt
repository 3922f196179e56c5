-- The assignments that are left come before those that were added.
use Rattle.std.proofs.Common.{◌≡◌, List, ◌++◌}
use Rattle.sno_machine.specs.declared.run.entries.Entry.{Entry}
use Rattle.sno_machine.specs.History.{entries_of, Setting, IsHistory, conds_at, in_turn}
use Rattle.sno_machine.proofs.run.entries.History.turn.Given as goal

abbrev pub invariant-loop-start : goal.invariant-loop-start
invariant-loop-start l =
    (s : Setting) × (added : List Entry) × IsHistory s (entries_of l.self) × (entries_of l.self ≡ entries_of l.fn.self ++ added)
    × (conds_at (entries_of l.self) l.list ++ in_turn added ≡ conds_at (entries_of l.fn.self) l.number)

abbrev pub decreases-loop-start : goal.decreases-loop-start
decreases-loop-start l = l.list
