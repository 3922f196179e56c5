-- Each rule is read from what is left of the text, or leads to a rule below it.
use Rattle.std.proofs.Common.{◌+◌, ◌*◌, length}
use Rattle.sno_read.proofs.reader.Reader.+grammar.Given as goal

abbrev pub decreases-alternation : goal.decreases-alternation
decreases-alternation l = 10 * length l.rest.characters.now + 6

abbrev pub decreases-otherwise : goal.decreases-otherwise
decreases-otherwise l = 10 * length l.rest.characters.now + 7

abbrev pub decreases-concatenation : goal.decreases-concatenation
decreases-concatenation l = 10 * length l.rest.characters.now + 5

abbrev pub decreases-item : goal.decreases-item
decreases-item l = 10 * length l.rest.characters.now + 4

abbrev pub decreases-element : goal.decreases-element
decreases-element l = 10 * length l.rest.characters.now + 3

abbrev pub decreases-from_name : goal.decreases-from_name
decreases-from_name l = 10 * length l.rest.characters.now + 2

abbrev pub decreases-repetition : goal.decreases-repetition
decreases-repetition l = 10 * length l.rest.characters.now + 1

abbrev pub decreases-group : goal.decreases-group
decreases-group l = 10 * length l.rest.characters.now
