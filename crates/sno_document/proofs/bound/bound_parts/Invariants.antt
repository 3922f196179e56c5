-- The parts so far, with those that are left, are all.
use Rattle.std.proofs.Common.{◌≡◌, ◌++◌, drop, map}
use Rattle.sno_document.specs.Bound.{bound_part}
use Rattle.sno_document.proofs.bound.bound_parts.Given as goal

abbrev pub invariant-loop-part : goal.invariant-loop-part
invariant-loop-part l =
    l.bound.items ++ map (bound_part l.names l.defined l.texts) (drop l.part-index l.parts) ≡ map (bound_part l.names l.defined l.texts) l.parts
