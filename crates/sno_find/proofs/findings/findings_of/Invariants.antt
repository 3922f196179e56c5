-- The findings so far, with those of the hits that are left. None of these starts before the place that was come to.
use Rattle.std.proofs.Common.{◌≡◌, ◌++◌, length, map}
use Rattle.std.specs.Vec.Iter.{into_iter_items}
use Rattle.sno_edit.specs.Positions.{position_of}
use Rattle.sno_find.specs.Findings.{AreRising, finding_of, hits_seen}
use Rattle.sno_find.proofs.findings.findings_of.Given as goal

abbrev pub invariant-loop-hit : goal.invariant-loop-hit
invariant-loop-hit l = record {
  found : l.findings.items ++ map (finding_of l.text) (hits_seen (into_iter_items l.hit-iterator))
      ≡ map (finding_of l.text) (hits_seen (into_iter_items l.initial.hit-iterator));
  rising : AreRising (length l.text) l.start.place (hits_seen (into_iter_items l.hit-iterator));
  start : l.start ≡ position_of l.text l.start.place;
}
