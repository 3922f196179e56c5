-- The list is cut before its first event of a later start.
use Rattle.std.proofs.Common.{sym, ap, ◌∙◌}
use Rattle.std.specs.List.{position}
use Rattle.sno_trace.specs.Promise.{is_past}
use Rattle.sno_trace.proofs.Starts.{past_found, none_past}
use Rattle.sno_trace.proofs.tracing.MatchTrace.up_to.Goals as goal

pub returns-in-Some : goal.returns-in-Some
returns-in-Some c =
    c.truncate.ensures.items
    ∙ past_found c.args.last c.args.self.events.items c.in-Some.place (sym (c.first_past.ensures ∙ ap (position (is_past c.args.last)) c.deref.ensures.value) ∙ c.in-Some.is)

pub returns-in_default : goal.returns-in_default
returns-in_default c =
    none_past c.args.last c.args.self.events.items (sym (c.first_past.ensures ∙ ap (position (is_past c.args.last)) c.deref.ensures.value) ∙ c.in_default.is)
