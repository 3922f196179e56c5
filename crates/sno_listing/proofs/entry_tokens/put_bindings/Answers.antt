-- The binding at a place is written, and those after it are left.
use Rattle.std.proofs.Common.{sym, ◌∙◌}
use Rattle.sno_statement.specs.BindingRefs.{datum_lent}
use Rattle.sno_listing.specs.JsonListing.{binding_data}
use Rattle.sno_listing.proofs.TokenLemmas.{token_step}
use Rattle.sno_listing.proofs.entry_tokens.put_bindings.Goals as goal

pub loop-place-preserved : goal.loop-place-preserved
loop-place-preserved c =
    let written = c.in_ok-put_binding-in-Some.ensures in (
      token_step binding_data c.loop-place.out.tokens c.put_binding.new.out.tokens _ c.args.bindings.now c.loop-place.place (c.in-Some.name.now, datum_lent c.in-Some.datum)
          (sym c.in-Some.ensures) written.0 c.loop-place.invariant.0,
      written.1 ∙ c.loop-place.invariant.1,
    )
