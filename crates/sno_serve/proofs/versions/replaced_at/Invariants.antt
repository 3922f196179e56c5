-- The entries that are left give the same as all.
use Rattle.std.proofs.Common.{◌≡◌, drop}
use Rattle.sno_serve.specs.Versions.{replaced_at}
use Rattle.sno_serve.proofs.versions.replaced_at.Given as goal

abbrev pub invariant-loop-entry : goal.invariant-loop-entry
invariant-loop-entry l = replaced_at (drop l.entry-index l.entries) l.name l.version ≡ replaced_at l.entries l.name l.version
