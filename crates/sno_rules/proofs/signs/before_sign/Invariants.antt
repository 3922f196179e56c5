-- The characters so far are before the sign.
use Rattle.std.proofs.Common.{◌≡◌, ◌+◌, drop}
use Rattle.sno_rules.specs.Lines.{before_sign}
use Rattle.sno_rules.proofs.signs.before_sign.Given as goal

abbrev pub invariant-loop-place : goal.invariant-loop-place
invariant-loop-place l = before_sign l.sign 0 l.text ≡ l.place + before_sign l.sign l.quote (drop l.place l.text)
