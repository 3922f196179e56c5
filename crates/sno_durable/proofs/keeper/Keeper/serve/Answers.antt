-- Each turn keeps up.
use Rattle.std.proofs.Common.{length, refl, ◌∙◌}
use Rattle.sno_desk.specs.Turns.{position}
use Rattle.sno_sealed.specs.Sealed.{lines_of}
use Rattle.sno_durable.proofs.Keeping.{kept_on}
use Rattle.sno_durable.proofs.Storing.{stored_none, stored_on}
use Rattle.sno_durable.proofs.keeper.Keeper.serve.Goals as goal

pub loop-init : goal.loop-init
loop-init g c = record {
  kept = λ clean. refl;
  stored = stored_none c.args.self.now.reading g.L.Naming.opening (position c.args.seat.now.accepted c.args.seat.now.seen) c.args.self.now.shelf.store;
  reading = refl;
}

pub loop-preserved : goal.loop-preserved
loop-preserved g c = record {
  kept = λ clean.
      kept_on (length (lines_of c.args.self.now.shelf.store)) (length (lines_of c.loop.self.shelf.store)) (length (lines_of c.turn.new.self.shelf.store))
      c.args.seat.now.accepted c.loop.seat.accepted c.turn.new.seat.accepted
      (c.loop.invariant.kept (c.in_ok-turn.ensures.clean clean)) (c.in_ok-turn.ensures.kept clean);
  stored =
      stored_on c.args.self.now.reading c.loop.self.reading g.L.Naming.opening (position c.args.seat.now.accepted c.args.seat.now.seen) (position c.loop.seat.accepted c.loop.seat.seen)
      (position c.turn.new.seat.accepted c.turn.new.seat.seen) c.args.self.now.shelf.store c.loop.self.shelf.store c.turn.new.self.shelf.store
      c.loop.invariant.reading c.loop.invariant.stored c.in_ok-turn.ensures.stored;
  reading = c.turn.ensures.same ∙ c.loop.invariant.reading;
}

pub returns-then-not-branch-clause-kept : goal.returns-then-not-branch-clause-kept
returns-then-not-branch-clause-kept g c = λ clean.
    kept_on (length (lines_of c.args.self.now.shelf.store)) (length (lines_of c.loop.self.shelf.store)) (length (lines_of c.turn.new.self.shelf.store))
    c.args.seat.now.accepted c.loop.seat.accepted c.turn.new.seat.accepted
    (c.loop.invariant.kept (c.in_ok-turn.ensures.clean clean)) (c.in_ok-turn.ensures.kept clean)

pub returns-then-not-branch-clause-stored : goal.returns-then-not-branch-clause-stored
returns-then-not-branch-clause-stored g c =
    stored_on c.args.self.now.reading c.loop.self.reading g.L.Naming.opening (position c.args.seat.now.accepted c.args.seat.now.seen) (position c.loop.seat.accepted c.loop.seat.seen)
    (position c.turn.new.seat.accepted c.turn.new.seat.seen) c.args.self.now.shelf.store c.loop.self.shelf.store c.turn.new.self.shelf.store
    c.loop.invariant.reading c.loop.invariant.stored c.in_ok-turn.ensures.stored
