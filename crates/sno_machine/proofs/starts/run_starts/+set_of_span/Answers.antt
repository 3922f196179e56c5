-- SPAN, or what it is the part of.
use Rattle.std.proofs.Common.{ap, sym, subst}
use Rattle.sno_pattern.specs.Tree.{tree_of}
use Rattle.sno_machine.specs.Beginnings.{IsSpan}
use Rattle.sno_machine.proofs.RunStartLaws.{span_found, span_span}
use Rattle.sno_machine.proofs.starts.run_starts.+set_of_span.Goals as goal

pub returns-in-Span : goal.returns-in-Span
returns-in-Span t c = subst (IsSpan c.in-Span.set) (sym (ap tree_of c.in-Span.is)) (span_span c.in-Span.set)

pub returns-in-Cond : goal.returns-in-Cond
returns-in-Cond t c = span_found c.set_of_span.result (λ set. set.now) _ _ _ _ (ap tree_of c.in-Cond.is) (ap tree_of c.deref.ensures) c.set_of_span.ensures
