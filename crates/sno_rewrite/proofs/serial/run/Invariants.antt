-- What is done so far, with the statements that are left, gives the same result.
use Rattle.std.proofs.Common.{◌≡◌, ◌-◌, drop, length, map}
use Rattle.std.specs.Arc.{arc_value}
use Rattle.sno_rewrite.specs.Serial.{run}
use Rattle.sno_rewrite.specs.Histories.{history_seen, HasRoom}
use Rattle.sno_rewrite.proofs.serial.run.Given as goal

abbrev pub invariant-loop-statement : goal.invariant-loop-statement
invariant-loop-statement l = record {
  rest : run (history_seen l.performed) (map arc_value (drop l.statement-index l.statements)) ≡ run (history_seen l.fn.performed) (map arc_value l.statements);
  room : HasRoom l.performed.book (length l.statements - l.statement-index);
}
