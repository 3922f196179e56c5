-- A line that isn't there, or is too long, has no record.
use Rattle.sno_desk.specs.Turns.{position}
use Rattle.sno_store.specs.Shown.{lines_in}
use Rattle.sno_durable.proofs.Recording.{records_none, replied_records}
use Rattle.sno_durable.proofs.keeper.Keeper.take.Goals as goal

pub returns-in-End-clause-records : goal.returns-in-End-clause-records
returns-in-End-clause-records g c = records_none c.args.self.now.reading g.L.Naming.opening (position c.args.seat.now.accepted c.args.seat.now.seen) (lines_in c.args.waiting.now.records)

pub returns-in_ok-put_reply-in-TooLong-clause-records : goal.returns-in_ok-put_reply-in-TooLong-clause-records
returns-in_ok-put_reply-in-TooLong-clause-records g c = records_none c.args.self.now.reading g.L.Naming.opening (position c.args.seat.now.accepted c.args.seat.now.seen) (lines_in c.args.waiting.now.records)

pub returns-in_ok-reply-in-Line-clause-records : goal.returns-in_ok-reply-in-Line-clause-records
returns-in_ok-reply-in-Line-clause-records g c =
    replied_records c.args.self.now.reading g.L.Naming.opening (position c.args.seat.now.accepted c.args.seat.now.seen) (position c.reply.new.seat.accepted c.reply.new.seat.seen) c.deref.result.now
    (lines_in c.args.waiting.now.records) (lines_in c.reply.new.waiting.records) c.args.waiting.now.replies.items c.reply.new.waiting.replies.items c.in_ok-reply-in-Line.ensures.replied
