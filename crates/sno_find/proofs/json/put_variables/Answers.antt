-- The variable at a place is written, and those after it are left.
use Rattle.std.proofs.Common.{sym}
use Rattle.sno_statement.specs.Spans.{value_lent}
use Rattle.sno_find.proofs.Variables.{next_written}
use Rattle.sno_find.proofs.json.put_variables.Goals as goal

pub loop-place-preserved : goal.loop-place-preserved
loop-place-preserved c =
    next_written c.args.bindings.now c.loop-place.place c.loop-place.out.items _ (c.in-Some.name.now, value_lent c.in-Some.value) c.put_variable.new.out.items
    (sym c.in-Some.ensures) c.in_ok-put_variable-in-Some.ensures c.loop-place.invariant
