-- The first line ends after the first line feed, or with the text.
use Rattle.std.proofs.Common.{sym, ◌∙◌}
use Rattle.sno_edit.proofs.ScriptLemmas.{line_alone, line_found}
use Rattle.sno_edit.proofs.scripts.line_end.Goals as goal

pub returns-in-Some-clause-first : goal.returns-in-Some-clause-first
returns-in-Some-clause-first c = line_found c.args.text.now c.in-Some.place (sym c.line_feed.ensures ∙ c.in-Some.is)

pub returns-in-None-clause-first : goal.returns-in-None-clause-first
returns-in-None-clause-first c = line_alone c.args.text.now c.requires (sym c.line_feed.ensures ∙ c.in-None.is)
