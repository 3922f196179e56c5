-- The assignments that were gathered come before those of the entries that are left.
use Rattle.std.proofs.Common.{◌≡◌, ◌+◌, ◌≤◌, List, ◌++◌, length}
use Rattle.sno_machine.specs.declared.run.entries.Entry.{Entry}
use Rattle.sno_machine.specs.History.{entries_of, conds_at, in_turn}
use Rattle.sno_machine.proofs.run.entries.History.gather_in_turn.Given as goal

abbrev pub invariant-loop-self : goal.invariant-loop-self
invariant-loop-self l =
    (rest : List Entry) × (entries_of l.self ≡ entries_of l.fn.self ++ rest) × (l.before ≡ length (entries_of l.fn.self))
    × (l.self.gathered.items ++ in_turn rest ≡ conds_at (entries_of l.fn.self) l.number)
    × (length l.self.gathered.items + length rest ≤ l.self.gathered.cap)

abbrev pub decreases-loop-self : goal.decreases-loop-self
decreases-loop-self l = length (entries_of l.self)
