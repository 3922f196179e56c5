-- The match at a place is written, and those after it are left.
use Rattle.std.proofs.Common.{sym, ◌∙◌}
use Rattle.sno_statement.specs.MatchLists.{match_lent}
use Rattle.sno_listing.specs.JsonListing.{match_data}
use Rattle.sno_listing.proofs.TokenLemmas.{token_step}
use Rattle.sno_listing.proofs.entry_tokens.put_matches.Goals as goal

pub loop-place-preserved : goal.loop-place-preserved
loop-place-preserved c =
    let written = c.in_ok-put_match-in-Some.ensures in (
      token_step match_data c.loop-place.out.tokens c.put_match.new.out.tokens _ c.args.matches.now c.loop-place.place (match_lent c.in-Some.one)
          (sym c.in-Some.ensures) written.0 c.loop-place.invariant.0,
      written.1 ∙ c.loop-place.invariant.1,
    )
