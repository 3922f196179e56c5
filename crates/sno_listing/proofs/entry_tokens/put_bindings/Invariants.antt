-- What is written so far, with what is left.
use Rattle.std.proofs.Common.{◌≡◌, ◌++◌, drop}
use Rattle.sno_listing.specs.JsonListing.{binding_data, bindings_data}
use Rattle.sno_listing.specs.Tokens.{data_tokens}
use Rattle.sno_listing.proofs.TokenLemmas.{rows_tokens}
use Rattle.sno_listing.proofs.entry_tokens.put_bindings.Given as goal

abbrev pub invariant-loop-place : goal.invariant-loop-place
invariant-loop-place l = (l.out.tokens ++ rows_tokens binding_data (drop l.place l.bindings) ≡ l.fn.out.tokens ++ data_tokens (bindings_data l.bindings)) × (l.out.before ≡ l.fn.out.before)
