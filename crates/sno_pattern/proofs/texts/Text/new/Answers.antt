-- If no place was found, all characters are ASCII.
use Rattle.std.proofs.Common.{arith, ap, ◌∙◌}
use Rattle.sno_pattern.specs.Texts.{first_non_ascii}
use Rattle.sno_pattern.proofs.TextLemmas.{all_ascii}
use Rattle.sno_pattern.proofs.texts.Text.new.Goals as goal

pub invariant_of-result : goal.invariant_of-result
invariant_of-result c = (omega arith, all_ascii c.args.characters.items (c.in-None.ensures ∙ ap first_non_ascii c.deref.ensures.value))
