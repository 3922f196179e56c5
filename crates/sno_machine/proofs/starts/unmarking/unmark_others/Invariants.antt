-- The members so far are as they were, and nothing else is marked.
use Rattle.std.proofs.Common.{◌≡◌, ◌&&◌, ℕ, false, get_or, length, take}
use Rattle.sno_pattern.specs.Classes.{has}
use Rattle.sno_machine.proofs.starts.unmarking.unmark_others.Given as goal

abbrev pub invariant-loop-member : goal.invariant-loop-member
invariant-loop-member l = record {
  kept : (x : ℕ) → get_or l.kept x false ≡ (get_or l.fn.passed x false && has (take l.member-index l.member-items) x);
  whole : length l.kept ≡ 256;
}
