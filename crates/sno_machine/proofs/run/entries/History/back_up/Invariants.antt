-- Entries that aren't choices are dropped, and no events come from them.
use Rattle.std.proofs.Common.{◌≡◌, ◌≤◌, length}
use Rattle.sno_machine.specs.History.{entries_of, Setting, IsHistory, left, steps_left}
use Rattle.sno_machine.proofs.run.entries.History.back_up.Given as goal

abbrev pub invariant-loop-entry : goal.invariant-loop-entry
invariant-loop-entry l = (s : Setting) → IsHistory s (entries_of l.fn.self)
    → IsHistory s (entries_of l.self) × (left s (entries_of l.fn.self) ≡ left s (entries_of l.self)) × (steps_left s (entries_of l.self) ≤ steps_left s (entries_of l.fn.self))

abbrev pub decreases-loop-entry : goal.decreases-loop-entry
decreases-loop-entry l = length (entries_of l.self)
