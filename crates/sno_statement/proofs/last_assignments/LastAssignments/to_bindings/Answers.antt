-- The next value is bound; at the end all are, and as the variables are distinct, they are just these.
use Rattle.std.proofs.Common.{◌∙◌, ◌+◌, drop, sym, ap, arith}
use Rattle.sno_statement.specs.Bindings.{Bindings}
use Rattle.sno_statement.specs.LastAssignments.{values_of_last}
use Rattle.sno_statement.proofs.LastValues.{bind_all, next_value, no_value_left, bind_all_values}
use Rattle.sno_statement.proofs.last_assignments.LastAssignments.to_bindings.Goals as goal

pub loop-place-preserved : goal.loop-place-preserved
loop-place-preserved c =
    let lasts = c.args.self.now in
    let t = c.args.subject.now in
    let place = c.loop-place.place in
    ap (λ (z : Bindings). bind_all z (values_of_last t (drop (place + 1) lasts)))
    c.in_ok-bind_in.ensures
    ∙ sym (next_value t lasts c.loop-place.bindings place c.at-name.result c.at-name.ensures)
    ∙ c.loop-place.invariant

pub returns : goal.returns
returns c =
    let lasts = c.args.self.now in
    let t = c.args.subject.now in
    sym (no_value_left t lasts c.loop-place.bindings c.loop-place.place (omega (arith, c.loop-place-test.false, c.len-place-end.ensures.count)))
    ∙ c.loop-place.invariant
    ∙ bind_all_values t lasts c.len-place-end.ensures.distinct
