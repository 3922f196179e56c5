-- The list is cut after its first Halt.
use Rattle.std.proofs.Common.{sym, ap, ◌∙◌}
use Rattle.std.specs.List.{position}
use Rattle.sno_eval.specs.Steps.{is_halt}
use Rattle.sno_eval.proofs.EventLaws.{cut_found, cut_none}
use Rattle.sno_eval.proofs.events.cut.Goals as goal

pub returns-in-Some : goal.returns-in-Some
returns-in-Some c =
    c.truncate.ensures.items
    ∙ cut_found c.args.events.items c.in-Some.place (sym (c.first_halt.ensures ∙ ap (position is_halt) c.deref.ensures.value) ∙ c.in-Some.is)

pub returns-in_default : goal.returns-in_default
returns-in_default c =
    cut_none c.args.events.items (sym (c.first_halt.ensures ∙ ap (position is_halt) c.deref.ensures.value) ∙ c.in_default.is)
