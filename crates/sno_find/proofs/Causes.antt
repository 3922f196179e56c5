-- Why a statement that is refused refuses all.
use Rattle.std.proofs.Common.{◌≡◌, ◌∷◌, ℕ, Bool, cond, List, slice_get, Some, ap, sym, ◌∙◌}
use Rattle.std.specs.Option.{option_map}
use Rattle.sno_statement.specs.Statement.{Statement}
use Rattle.sno_edit.specs.Rules.{FileRules}
use Rattle.sno_find.specs.Findings.{HasCause, first_refused, is_refused}
use Rattle.sno_find.specs.Hits.{IsRefusal}
use Rattle.sno_find.specs.declared.faults.FindFault.{FindFault}
use Rattle.sno_find.specs.declared.faults.FindFault.TheVariants as find

pub cause : (rules : FileRules) (path text : List ℕ) (place : ℕ) (s : Statement) (later : List Statement) (fault : FindFault)
    → first_refused rules.trials path text (s ∷ later) ≡ first_refused rules.trials path text rules.statements → slice_get rules.statements place ≡ Some s
    → IsRefusal (is_refused rules.trials path text s) s.number fault → HasCause rules path text fault
cause rules path text place s later (find.TooManyTrials number) same at (is, number_is) =
    sym same ∙ ap (λ (b : Bool). cond b (Some s.number) (first_refused rules.trials path text later)) is ∙ ap Some (sym number_is)
cause rules path text place s later (find.HistoryTooLong number) same at number_is = (place, ap (option_map (λ (z : Statement). z.number)) at ∙ ap Some (sym number_is))
cause rules path text place s later find.Memory same at h = tt
