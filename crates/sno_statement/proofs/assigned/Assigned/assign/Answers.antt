-- A variable that is there keeps its place; another one goes last. To assign and then to cut is to cut and then to assign.
use Rattle.std.proofs.Common.{◌≡◌, ◌∙◌, Some, None, position, ap, sym}
use Rattle.sno_pattern.specs.Identifiers.{same}
use Rattle.sno_statement.specs.Bindings.{bind}
use Rattle.sno_statement.specs.LastAssignments.{value_of_last, values_of_last}
use Rattle.sno_statement.specs.MatchLists.{LastList}
use Rattle.sno_statement.proofs.Assigning.{assigned_last, assigned_there}
use Rattle.sno_statement.proofs.LastValues.{bind_values}
use Rattle.sno_statement.proofs.assigned.Assigned.assign.Goals as goal

pub returns-in-Some : goal.returns-in-Some
returns-in-Some c t =
    let bound = c.self.inside.list.items in
    let found : Some c.in-Some.place ≡ position (λ b. same c.args.name b.0) bound = sym c.in-Some.is ∙ c.place_of.ensures ∙ ap (λ (z : LastList). position (λ b. same c.args.name b.0) z) (sym c.self.view_is) in
    ap (values_of_last t) (assigned_there c.args.name c.args.last bound c.in-Some.place c.index_mut.result.now found c.index_mut.ensures.value)
    ∙ bind_values t bound c.args.name c.args.last
    ∙ ap (λ (z : LastList). bind (values_of_last t z) c.args.name (value_of_last t c.args.last)) c.self.view_is

pub returns-in_ok-push-in-None : goal.returns-in_ok-push-in-None
returns-in_ok-push-in-None c t =
    let bound = c.self.inside.list.items in
    let nothing : None ≡ position (λ b. same c.args.name b.0) bound = sym c.in-None.is ∙ c.place_of.ensures ∙ ap (λ (z : LastList). position (λ b. same c.args.name b.0) z) (sym c.self.view_is) in
    ap (values_of_last t) (c.in_ok-push-in-None.ensures.items ∙ assigned_last c.args.name c.args.last bound nothing)
    ∙ bind_values t bound c.args.name c.args.last
    ∙ ap (λ (z : LastList). bind (values_of_last t z) c.args.name (value_of_last t c.args.last)) c.self.view_is
