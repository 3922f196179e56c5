-- The bits of the characters so far.
use Rattle.std.proofs.Common.{take}
use Rattle.sno_pattern.proofs.Words.{Tells}
use Rattle.sno_pattern.proofs.tables.word_of.Given as goal

abbrev pub invariant-loop-member : goal.invariant-loop-member
invariant-loop-member l = Tells l.word (take l.member-index l.members) l.first
