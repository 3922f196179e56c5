-- The shares so far, and the entries that are left, are all entries.
use Rattle.std.proofs.Common.{◌≡◌, ◌++◌, drop}
use Rattle.sno_desk.proofs.locked.share_all.Given as goal

abbrev pub invariant-loop-entry : goal.invariant-loop-entry
invariant-loop-entry l = l.shared.items ++ drop l.entry-index l.entries ≡ l.entries
