-- The records of one more line come.
use Rattle.std.proofs.Common.{length, refl, subst, sym, ◌∙◌}
use Rattle.sno_desk.specs.Turns.{position}
use Rattle.sno_store.specs.Shown.{lines_in}
use Rattle.sno_durable.proofs.Keeping.{kept_on}
use Rattle.sno_durable.proofs.Recording.{records_none, records_on}
use Rattle.sno_durable.specs.Performed.{HasRecords}
use Rattle.sno_durable.proofs.keeper.Keeper.gather.Goals as goal
use Rattle.sno_durable.proofs.keeper.Keeper.gather.Goals.{else-loop-test, then-loop-test+in_ok-take+else-not-branch+then-not-has_line}

pub returns-then-not-branch-clause-records : goal.returns-then-not-branch-clause-records
returns-then-not-branch-clause-records g c =
    records_on c.args.self.now.reading c.loop.self.reading g.L.Naming.opening (position c.args.seat.now.accepted c.args.seat.now.seen) (position c.loop.seat.accepted c.loop.seat.seen)
    (position c.take.new.seat.accepted c.take.new.seat.seen) (lines_in c.args.waiting.now.records) (lines_in c.loop.waiting.records) (lines_in c.take.new.waiting.records)
    c.loop.invariant.reading c.loop.invariant.records c.in_ok-take.ensures.records

pub loop-init : goal.loop-init
loop-init g c = record {
  noted = refl;
  records = records_none c.args.self.now.reading g.L.Naming.opening (position c.args.seat.now.accepted c.args.seat.now.seen) (lines_in c.args.waiting.now.records);
  shelf = refl;
  reading = refl;
}

pub loop-preserved : goal.loop-preserved
loop-preserved g c = record {
  noted = kept_on (length (lines_in c.args.waiting.now.records)) (length (lines_in c.loop.waiting.records)) (length (lines_in c.take.new.waiting.records))
      c.args.seat.now.accepted c.loop.seat.accepted c.take.new.seat.accepted c.loop.invariant.noted c.in_ok-take.ensures.noted;
  records =
      records_on c.args.self.now.reading c.loop.self.reading g.L.Naming.opening (position c.args.seat.now.accepted c.args.seat.now.seen) (position c.loop.seat.accepted c.loop.seat.seen)
      (position c.take.new.seat.accepted c.take.new.seat.seen) (lines_in c.args.waiting.now.records) (lines_in c.loop.waiting.records) (lines_in c.take.new.waiting.records)
      c.loop.invariant.reading c.loop.invariant.records c.in_ok-take.ensures.records;
  shelf = c.take.ensures.same.0 ∙ c.loop.invariant.shelf;
  reading = c.take.ensures.same.1 ∙ c.loop.invariant.reading;
}

pub returns-clause-records : goal.returns-clause-records
returns-clause-records g c =
    let reading = c.args.self.now.reading in
    let opening = g.L.Naming.opening in
    let first = position c.args.seat.now.accepted c.args.seat.now.seen in
    let waited = lines_in c.args.waiting.now.records in
    elim c.loop-test.branch [
      | else-loop-test w ↦
          subst (λ s. HasRecords reading opening first (position s.accepted s.seen) waited (lines_in c.loop-test.waiting.records)) (sym w.seat-is)
          (subst (λ x. HasRecords reading opening first (position c.loop.seat.accepted c.loop.seat.seen) waited (lines_in x.records)) (sym w.waiting-is) c.loop.invariant.records)
      | then-loop-test+in_ok-take+else-not-branch+then-not-has_line w ↦
          subst (λ s. HasRecords reading opening first (position s.accepted s.seen) waited (lines_in c.loop-test.waiting.records)) (sym w.seat-is)
          (subst (λ x. HasRecords reading opening first (position w.take.new.seat.accepted w.take.new.seat.seen) waited (lines_in x.records)) (sym w.waiting-is)
          (records_on reading c.loop.self.reading opening first (position c.loop.seat.accepted c.loop.seat.seen) (position w.take.new.seat.accepted w.take.new.seat.seen)
          waited (lines_in c.loop.waiting.records) (lines_in w.take.new.waiting.records) c.loop.invariant.reading c.loop.invariant.records w.in_ok-take.ensures.records))
    ]
