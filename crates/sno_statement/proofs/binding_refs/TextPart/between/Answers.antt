-- A part of a text is short and ASCII, as the text is.
use Rattle.std.proofs.Common.{◌≤◌, ◌∙◌, ℕ, List, ap, sym, subst, length}
use Rattle.sno_pattern.specs.Ends.{part}
use Rattle.sno_pattern.specs.declared.texts.TheConstants.{MAX_TEXT}
use Rattle.sno_statement.proofs.Ascii.{AreAscii, ascii_part, short_part}
use Rattle.sno_statement.proofs.binding_refs.TextPart.between.Goals as goal

pub bytes-requires : goal.bytes-requires
bytes-requires c = tt

pub between-requires : goal.between-requires
between-requires c = tt

pub invariant_of-result : goal.invariant_of-result
invariant_of-result c =
    let t = c.args.text.now in
    let is = c.between.ensures ∙ ap (λ (z : List ℕ). part z c.args.from c.args.to) c.bytes.ensures.value in (
      subst (λ (z : List ℕ). length z ≤ MAX_TEXT) (sym is) (short_part MAX_TEXT t c.args.from c.args.to c.bytes.ensures.short),
      subst (λ (z : List ℕ). AreAscii z) (sym is) (ascii_part t c.args.from c.args.to c.bytes.ensures.ascii),
    )

pub returns : goal.returns
returns c = c.between.ensures ∙ ap (λ (z : List ℕ). part z c.args.from c.args.to) c.bytes.ensures.value
