-- The law is proved in a file of its own.
use Rattle.sno_pattern.proofs.FoundCursors.{from_the_first}
use Rattle.sno_pattern.proofs.search_laws.a_search_from_the_first_cursor_is_a_match.Goals as goal

pub returns : goal.returns
returns c = from_the_first
