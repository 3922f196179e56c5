-- What was accepted for the line is of the statement that it asks for.
use Rattle.std.proofs.Common.{map, ◌∙◌}
use Rattle.std.specs.Arc.{arc_value}
use Rattle.sno_desk.specs.Turns.{position}
use Rattle.sno_serve.proofs.Accepting.{line_served}
use Rattle.sno_serve.proofs.service.Service.reply.Goals as goal

pub returns-in_err-reply : goal.returns-in_err-reply
returns-in_err-reply g c = record {
  served = line_served (arc_value c.args.self.now.rules) (map arc_value c.args.self.now.statements.items) c.args.self.now.mode c.in_ok-line.ensures.0 c.args.line.now c.take_ignored-ignored.new.self.asked
      (position c.args.seat.now.accepted c.args.seat.now.seen) (position c.reply_to.new.seat.accepted c.reply_to.new.seat.seen) (c.take_ignored-ignored.ensures.asked ∙ c.in_ok-line.ensures.1) c.reply_to.ensures.taken;
}

pub returns-in_err-bytes : goal.returns-in_err-bytes
returns-in_err-bytes g c = record {
  served = line_served (arc_value c.args.self.now.rules) (map arc_value c.args.self.now.statements.items) c.args.self.now.mode c.in_ok-line.ensures.0 c.args.line.now c.take_ignored-ignored.new.self.asked
      (position c.args.seat.now.accepted c.args.seat.now.seen) (position c.reply_to.new.seat.accepted c.reply_to.new.seat.seen) (c.take_ignored-ignored.ensures.asked ∙ c.in_ok-line.ensures.1) c.reply_to.ensures.taken;
}

pub returns : goal.returns
returns g c = record {
  served = line_served (arc_value c.args.self.now.rules) (map arc_value c.args.self.now.statements.items) c.args.self.now.mode c.in_ok-line.ensures.0 c.args.line.now c.take_ignored-ignored.new.self.asked
      (position c.args.seat.now.accepted c.args.seat.now.seen) (position c.reply_to.new.seat.accepted c.reply_to.new.seat.seen) (c.take_ignored-ignored.ensures.asked ∙ c.in_ok-line.ensures.1) c.reply_to.ensures.taken;
}
