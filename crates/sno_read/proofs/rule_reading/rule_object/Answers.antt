-- Blanks alone are the object of no parts.
use Rattle.std.proofs.Common.{Ok, map, sym, ap, ◌∙◌, rules}
use Rattle.sno_read.specs.ByteParts.{part_of}
use Rattle.sno_read.proofs.Late.{blank_rule_object}
use Rattle.sno_read.proofs.rule_reading.rule_object.Goals as goal

pub returns-then-is_empty-clause-read : goal.returns-then-is_empty-clause-read
returns-then-is_empty-clause-read c =
    blank_rule_object c.args.names.now c.args.text.now c.in_ok-piece.piece.characters.now c.in_ok-piece.ensures.read (search (rules, c.is_empty.ensures, c.if-is_empty.true, c.after_blanks-start.ensures.value))
    ∙ ap (λ l. Ok l) (sym (c.of.ensures ∙ ap (map part_of) c.new.ensures.items))
