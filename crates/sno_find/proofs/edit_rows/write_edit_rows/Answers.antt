-- One statement more; at the end all of them.
use Rattle.std.specs.Arc.{arc_value}
use Rattle.std.proofs.Common.{ap, sym, arith, ◌∙◌}
use Rattle.std.specs.Option.{option_map}
use Rattle.sno_edit.specs.Rules.{rules_seen}
use Rattle.sno_find.proofs.EditRows.{last_written, turn_written}
use Rattle.sno_find.proofs.edit_rows.write_edit_rows.Goals as goal

pub loop-statement-preserved : goal.loop-statement-preserved
loop-statement-preserved g c =
    let left = ap (option_map arc_value) (sym c.in-Some-2.is) ∙ c.in_ok-left.ensures.left in
    turn_written (rules_seen c.args.rules.now).trials c.args.path.now (arc_value c.loop-statement.text) (arc_value c.in-Some-2.left) c.in-Some.before.now c.in-Some.last.now c.statement-item.result
    c.loop-statement.statement-index (g.W.Write.contents c.args.writer.now) (g.W.Write.contents c.loop-statement.writer) (g.W.Write.contents c.write_turn.new.writer) _ c.loop-statement-test.true c.statement-item.is
    (sym left) c.loop-statement.invariant c.in_ok-left.ensures.written

pub returns : goal.returns
returns g c =
    last_written (rules_seen c.args.rules.now).trials c.args.path.now (arc_value c.loop-statement.text) c.in-Some.before.now c.in-Some.last.now c.loop-statement.statement-index
    (g.W.Write.contents c.args.writer.now) (g.W.Write.contents c.loop-statement.writer) (g.W.Write.contents c.write_last.new.writer) _ (omega (arith, c.loop-statement-test.false)) c.loop-statement.invariant
    c.write_last.result c.write_last.ensures
