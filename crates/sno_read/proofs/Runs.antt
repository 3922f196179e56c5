-- Runs of characters.
use Rattle.std.proofs.lemmas.List.{length-drop}
use Rattle.std.proofs.lemmas.List.Sums.{prefix_len-le-length}

-- a run is no longer than the text
pub ruleset runs = (prefix_len-le-length)

-- how much is left
pub ruleset drops = (length-drop)
