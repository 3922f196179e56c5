-- The members so far are unmarked.
use Rattle.std.proofs.Common.{◌≡◌, ◌&&◌, ℕ, false, not, get_or, take}
use Rattle.sno_pattern.specs.Classes.{has}
use Rattle.sno_machine.proofs.starts.unmarking.unmark_members.Given as goal

abbrev pub invariant-loop-member : goal.invariant-loop-member
invariant-loop-member l = (x : ℕ) → get_or l.passed x false ≡ (get_or l.fn.passed x false && not (has (take l.member-index l.member-items) x))
