-- The other characters so far, with those of what is left, are all.
use Rattle.std.proofs.Common.{◌≡◌, ◌++◌, drop}
use Rattle.sno_rules.specs.Spelling.{without}
use Rattle.sno_rules.proofs.calls.without.Given as goal

abbrev pub invariant-loop-other : goal.invariant-loop-other
invariant-loop-other l = l.others.items ++ without l.character (drop l.other-index l.text) ≡ without l.character l.text
