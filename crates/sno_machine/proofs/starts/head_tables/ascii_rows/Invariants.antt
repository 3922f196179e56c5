-- The characters so far that aren't passed over.
use Rattle.std.proofs.Common.{◌≡◌, ◌&&◌, ℕ, false, not, get_or, nat_lt}
use Rattle.sno_primitives.specs.Rows.{rows_have}
use Rattle.sno_machine.proofs.starts.head_tables.ascii_rows.Given as goal

abbrev pub invariant-loop-character : goal.invariant-loop-character
invariant-loop-character l = (x : ℕ) → rows_have l.kept x ≡ (nat_lt x l.character && not (get_or l.passed x false))
