-- What a seat leaves of a line has the line, the text of its reply, and the index that the reply shows.
use Rattle.std.proofs.Common.{ℕ, List, map, ap, subst, ◌∙◌}
use Rattle.std.specs.Option.{option_map}
use Rattle.serde_json.specs.View.{view}
use Rattle.sno_serve.specs.Contents.{content_data}
use Rattle.sno_durable.specs.Queued.{IsLeft}
use Rattle.sno_durable.proofs.Queueing.{left_made}
use Rattle.sno_durable.proofs.Recording.{text_written}
use Rattle.sno_durable.proofs.seats.Shared.perform.Goals as goal

pub returns-clause-left : goal.returns-clause-left
returns-clause-left g c =
    let self = c.args.self.now in
    let line = c.args.line.now in
    let asked = c.in_ok-read.ensures.asked in
    let content = c.in_ok-reply.field-0.reply in
    let text = c.put.new.out.items in
    let is = text_written (content_data content) c.new-text.result.items text c.new-text.ensures.items c.in_ok-put.ensures in
    let there = subst (λ (t : List ℕ). IsLeft self.reading.past.entries line content t c.in_ok-record.record) c.deref.ensures.value c.in_ok-record.ensures.left in
    left_made self.reading self.tries g.L.Naming.opening c.args.seat.now.seen c.reply_here.new.seat.seen line text asked.0 (option_map view c.take_ignored-ignored.new.self.id)
    c.take_ignored-ignored.new.self.asked content c.in_ok-reply.field-0.refused (map view c.take_ignored-ignored.result.items) c.in_ok-record.record c.new-bytes.result.items
    c.put_noted.new.replies.items (ap (option_map view) c.take_ignored-ignored.ensures.id ∙ asked.1) (c.take_ignored-ignored.ensures.asked ∙ asked.2) c.in_ok-reply.ensures.replied is there
    c.new-bytes.ensures.items (c.in_ok-put_noted.ensures (λ whole. c.deref-2.ensures.value ∙ is whole))
