-- What is written so far, with what is left.
use Rattle.std.proofs.Common.{◌≡◌, ◌++◌, drop, map}
use Rattle.sno_listing.specs.JsonListing.{array_of, match_data}
use Rattle.sno_listing.specs.Tokens.{data_tokens}
use Rattle.sno_listing.proofs.TokenLemmas.{rows_tokens}
use Rattle.sno_listing.proofs.entry_tokens.put_matches.Given as goal

abbrev pub invariant-loop-place : goal.invariant-loop-place
invariant-loop-place l = (l.out.tokens ++ rows_tokens match_data (drop l.place l.matches) ≡ l.fn.out.tokens ++ data_tokens (array_of (map match_data l.matches))) × (l.out.before ≡ l.fn.out.before)
