-- The map assigns, and assigning and then cutting is cutting and then assigning.
use Rattle.std.proofs.Common.{◌∙◌, ℕ, List, sym, ap}
use Rattle.sno_statement.specs.declared.last_assignments.Last.{Last}
use Rattle.sno_statement.specs.Bindings.{bind}
use Rattle.sno_statement.specs.LastAssignments.{value_of_last, values_of_last}
use Rattle.sno_statement.proofs.Entries.{bind_inserts}
use Rattle.sno_statement.proofs.LastValues.{bind_values}
use Rattle.sno_statement.proofs.last_assignments.LastAssignments.note.Goals as goal

pub returns : goal.returns
returns c t =
    let lasts = c.self.inside.map.entries in
    ap (values_of_last t) (c.in_ok-insert.ensures.entries ∙ sym (bind_inserts lasts c.args.name c.args.last))
    ∙ bind_values t lasts c.args.name c.args.last
    ∙ ap (λ (z : List (List ℕ × Last)). bind (values_of_last t z) c.args.name (value_of_last t c.args.last)) c.self.view_is
