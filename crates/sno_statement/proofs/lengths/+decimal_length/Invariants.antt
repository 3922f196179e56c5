-- One digit fewer each time.
use Rattle.sno_statement.proofs.lengths.+decimal_length.Given as goal

abbrev pub decreases-decimal_length : goal.decreases-decimal_length
decreases-decimal_length l = l.number
