-- each record that was gone through was accepted, and with those that are left they are all
use Rattle.std.proofs.Common.{◌≡◌, ◌+◌, List, length}
use Rattle.sno_book.specs.Entries.{Entry}
use Rattle.sno_store.specs.Shown.{lines_left}
use Rattle.sno_desk.specs.Turns.{Position, position}
use Rattle.sno_durable.specs.Performed.{AreRecords}
use Rattle.sno_durable.specs.Replayed.{HasEnded}
use Rattle.sno_durable.specs.declared.faults.DurableFault.{DurableFault}
use Rattle.sno_durable.proofs.earlier.Reading.replay_all.Given as goal

abbrev pub invariant-loop-record : goal.invariant-loop-record
invariant-loop-record g l = record {
  again : length (lines_left l.fn.records) + l.fn.seat.accepted ≡ length (lines_left l.record-iterator) + l.seat.accepted;
  records : (after : List Entry) → AreRecords l.self g.L.Naming.opening l.seat.seen (lines_left l.record-iterator) after
      → AreRecords l.self g.L.Naming.opening l.fn.seat.seen (lines_left l.fn.records) after;
  ended : (after : Position) (e : DurableFault) → HasEnded l.self g.L.Naming.opening l.place (position l.seat.accepted l.seat.seen) (lines_left l.record-iterator) after e
      → HasEnded l.self g.L.Naming.opening 1 (position l.fn.seat.accepted l.fn.seat.seen) (lines_left l.fn.records) after e;
}
