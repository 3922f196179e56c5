-- From one attempt to the next, and from the last one to the result.
use Rattle.std.proofs.Common.{◌≡◌, ◌+◌, true, false, sym, ◌∙◌, arith}
use Rattle.std.specs.Arc.{arc_value}
use Rattle.sno_desk.specs.Replies.{is_lost, receipts_in}
use Rattle.sno_desk.specs.Turns.{position}
use Rattle.sno_desk.proofs.Attempts.{come_next, submitted}
use Rattle.sno_desk.proofs.submissions.Submission.attempts.Goals as goal

pub loop-attempt-preserved : goal.loop-attempt-preserved
loop-attempt-preserved g c =
    let is : is_lost c.attempt-reply.result ≡ true = sym c.is_lost.ensures.value ∙ c.if-not-is_lost.false in
    let none : receipts_in c.attempt-reply.result ≡ 0 = c.is_lost.ensures.none c.if-not-is_lost.false in
    let counted : c.attempt-reply.new.seat.accepted ≡ c.loop-attempt.seat.accepted + receipts_in c.attempt-reply.result = c.attempt-reply.ensures.counted in
    let before : c.loop-attempt.seat.accepted ≡ c.args.seat.now.accepted = c.loop-attempt.invariant.0 in (
      omega (arith, none, counted, before),
      come_next g.L.Naming.opening c.args.seat.now.seen c.loop-attempt.seat.seen c.attempt-reply.new.seat.seen (arc_value c.args.self.now.statement.now) c.loop-attempt.attempt
          c.attempt-reply.result is c.loop-attempt.invariant.1 c.attempt-reply.ensures.begins c.attempt-reply.ensures.at,
    )

pub returns-then-not-is_lost : goal.returns-then-not-is_lost
returns-then-not-is_lost g c =
    let kept : is_lost c.attempt-reply.result ≡ false = sym c.is_lost.ensures.value ∙ c.if-not-is_lost.true in
    let first = c.args.seat.now in
    let before = c.loop-attempt.seat in
    let after = c.attempt-reply.new.seat in
    let one = c.attempt-reply.ensures in
    record {
      submitted = submitted (g.G.Gate.shuts c.args.self.now.gate.now) c.args.self.now.tries g.L.Naming.opening g.L.Ledger.parts (position first.accepted first.seen)
          (position before.accepted before.seen) (position after.accepted after.seen) (arc_value c.args.self.now.statement.now) c.loop-attempt.attempt c.attempt-reply.result
          (λ (lost : is_lost c.attempt-reply.result ≡ true). absurd (cc (kept, lost))) c.loop-attempt.invariant.0 c.loop-attempt.invariant.1 one.no_text one.justified one.at one.begins
          one.index one.spent one.counted;
    }

pub returns : goal.returns
returns g c =
    let last : c.loop-attempt.attempt ≡ c.args.self.now.tries = omega (arith, c.loop-attempt-test.false, c.loop-attempt.auto.attempt-end c.args.self.now.some) in
    let first = c.args.seat.now in
    let before = c.loop-attempt.seat in
    let after = c.attempt.new.seat in
    let one = c.attempt.ensures in
    record {
      submitted = submitted (g.G.Gate.shuts c.args.self.now.gate.now) c.args.self.now.tries g.L.Naming.opening g.L.Ledger.parts (position first.accepted first.seen)
          (position before.accepted before.seen) (position after.accepted after.seen) (arc_value c.args.self.now.statement.now) c.loop-attempt.attempt c.attempt.result
          (λ _. last) c.loop-attempt.invariant.0 c.loop-attempt.invariant.1 one.no_text one.justified one.at one.begins one.index one.spent one.counted;
    }
