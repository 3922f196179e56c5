-- The reply is that to the line as it was read, before the names of members that mean nothing were taken.
use Rattle.std.proofs.Common.{◌∙◌, ap, map, sym}
use Rattle.std.specs.Option.{option_map}
use Rattle.serde_json.specs.View.{view}
use Rattle.sno_serve.specs.Contents.{content_data}
use Rattle.sno_held_book.specs.Held.{number_after}
use Rattle.sno_held_book.proofs.Replying.{line_reply}
use Rattle.sno_held_book.proofs.held_book.HeldBook.reply_within.Goals as goal

pub returns-clause-replied : goal.returns-clause-replied
returns-clause-replied c =
    line_reply c.args.self.now
    (record { book = c.reply_to.new.book; rules = c.args.self.now.rules; mode = c.args.self.now.mode; number = c.number_after-self.result; refused = c.list_refusal.new.refused; limit = _ })
    c.args.line.now c.in_ok-bytes.bytes.items (option_map view c.take_ignored-ignored.new.self.id) c.take_ignored-ignored.new.self.asked
    (content_data c.in_ok-reply.field-0.reply) c.in_ok-reply.field-0.refused (map view c.take_ignored-ignored.result.items)
    (ap (λ i. option_map view i) c.take_ignored-ignored.ensures.id ∙ c.in_ok-line.ensures.id)
    (c.take_ignored-ignored.ensures.asked ∙ c.in_ok-line.ensures.asked) c.in_ok-reply.ensures.replied
    (c.number_after-self.ensures ∙ ap (λ a. number_after a c.args.self.now.number) (sym c.take_ignored-ignored.ensures.asked))
    c.in_ok-list_refusal.ensures.listed c.in_ok-bytes.ensures
