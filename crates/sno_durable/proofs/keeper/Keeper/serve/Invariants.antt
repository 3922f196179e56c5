-- the store has kept up
use Rattle.std.proofs.Common.{◌≡◌}
use Rattle.sno_desk.specs.Turns.{position}
use Rattle.sno_durable.specs.Kept.{HasKept}
use Rattle.sno_durable.specs.Stored.{HasStored}
use Rattle.sno_durable.proofs.keeper.Keeper.serve.Given as goal

abbrev pub invariant-loop : goal.invariant-loop
invariant-loop g l = record {
  kept : HasKept l.fn.self.shelf.store l.self.shelf.store l.fn.seat.accepted l.seat.accepted;
  stored : HasStored l.fn.self.reading g.L.Naming.opening (position l.fn.seat.accepted l.fn.seat.seen) (position l.seat.accepted l.seat.seen) l.fn.self.shelf.store l.self.shelf.store;
  reading : l.self.reading ≡ l.fn.self.reading;
}
