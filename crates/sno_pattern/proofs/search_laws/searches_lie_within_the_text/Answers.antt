-- The law is proved in a file of its own.
use Rattle.sno_pattern.proofs.FoundCursors.{searches_lie}
use Rattle.sno_pattern.proofs.search_laws.searches_lie_within_the_text.Goals as goal

pub returns : goal.returns
returns c = searches_lie
