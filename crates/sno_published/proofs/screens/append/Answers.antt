-- The attempt ends in the entry.
use Rattle.std.proofs.Common.{None, ap, ◌∙◌}
use Rattle.sno_published.specs.Changes.{last_of}
use Rattle.sno_published.proofs.LastEntries.{last_snoc}
use Rattle.sno_published.proofs.screens.append.Goals as goal

pub new-requires-clause-entry : goal.new-requires-clause-entry
new-requires-clause-entry g c = ap (λ b. last_of b.entries) c.front-2.ensures ∙ ap last_of c.if-not-add.ensures.entries ∙ last_snoc None c.args.attempts.now.entries c.args.entry.now
