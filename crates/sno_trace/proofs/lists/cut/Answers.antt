-- The list is cut after its first Halt or Stop.
use Rattle.std.proofs.Common.{sym, ap, ◌∙◌}
use Rattle.std.specs.List.{position}
use Rattle.sno_trace.specs.Steps.{is_last}
use Rattle.sno_trace.proofs.NotedLaws.{cut_found, cut_none}
use Rattle.sno_trace.proofs.lists.cut.Goals as goal

pub returns-in-Some : goal.returns-in-Some
returns-in-Some c =
    c.truncate.ensures.items
    ∙ cut_found c.args.events.items c.in-Some.place (sym (c.first_last.ensures ∙ ap (position is_last) c.deref.ensures.value) ∙ c.in-Some.is)

pub returns-in_default : goal.returns-in_default
returns-in_default c =
    cut_none c.args.events.items (sym (c.first_last.ensures ∙ ap (position is_last) c.deref.ensures.value) ∙ c.in_default.is)
