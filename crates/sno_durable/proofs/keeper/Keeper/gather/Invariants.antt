-- the records of the entries that were accepted have come, and the store is the same
use Rattle.std.proofs.Common.{◌≡◌, ℕ}
use Rattle.sno_desk.specs.Turns.{position}
use Rattle.sno_store.specs.Shown.{lines_in}
use Rattle.sno_durable.specs.Kept.{HasNoted}
use Rattle.sno_durable.specs.Performed.{HasRecords}
use Rattle.sno_durable.proofs.keeper.Keeper.gather.Given as goal

abbrev pub invariant-loop : goal.invariant-loop
invariant-loop g l = record {
  noted : HasNoted l.fn.waiting.records l.waiting.records l.fn.seat.accepted l.seat.accepted;
  records : HasRecords l.fn.self.reading g.L.Naming.opening (position l.fn.seat.accepted l.fn.seat.seen) (position l.seat.accepted l.seat.seen) (lines_in l.fn.waiting.records) (lines_in l.waiting.records);
  shelf : l.self.shelf ≡ l.fn.self.shelf;
  reading : l.self.reading ≡ l.fn.self.reading;
}
