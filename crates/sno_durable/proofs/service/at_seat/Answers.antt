-- The records were performed again, and then lines.
use Rattle.std.proofs.Common.{◌≡◌, ◌+◌, List, arith, length, sym, subst, ◌∙◌}
use Rattle.std.specs.Option.{option_map}
use Rattle.sno_desk.specs.Turns.{position}
use Rattle.sno_store.specs.Shown.{lines_in, lines_left}
use Rattle.sno_durable.specs.declared.earlier.Reading.{Reading}
use Rattle.sno_durable.proofs.Storing.{gone_so}
use Rattle.sno_durable.proofs.service.at_seat.Goals as goal

pub returns-clause-gone : goal.returns-clause-gone
returns-clause-gone g c =
    gone_so c.begin.new.self.reading c.replay_all.new.self.reading c.args.keeper.now.reading g.L.Naming.opening c.accepted-first.result c.begin.new.seat.seen
    (position c.replay_all.new.seat.accepted c.replay_all.new.seat.seen) (position c.serve.new.seat.accepted c.serve.new.seat.seen) (lines_in c.args.earlier.lines)
    c.iter-records.result (option_map (λ l. l.now) c.next-origin.result) c.next-origin.new.self
    c.args.keeper.now.shelf c.begin.new.self.shelf c.replay_all.new.self.shelf (λ s. s.store) c.serve.new.self.shelf.store
    c.begin.ensures.same.0 c.replay_all.ensures.same.0 c.begin.ensures.same.1 c.replay_all.ensures.same.1 c.iter-records.ensures c.next-origin.ensures.steps
    c.in_ok-replay_all.ensures.records (omega (arith, c.accepted-first.ensures, c.in_ok-replay_all.ensures.again)) c.in_ok-more.ensures.stored
