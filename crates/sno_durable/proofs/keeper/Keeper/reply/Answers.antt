-- The line has its reply, and its record if an entry was accepted.
use Rattle.std.proofs.Common.{◌≡◌, ◌⊎◌, ◌+◌, ℕ, List, [], ◌∷◌, ◌++◌, inl, inr, map, refl, ap, sym, ◌∙◌, arith}
use Rattle.std.specs.Option.{option_map}
use Rattle.serde_json.specs.View.{view}
use Rattle.sno_desk.specs.Turns.{position}
use Rattle.sno_serve.specs.Asked.{within}
use Rattle.sno_serve.specs.Contents.{content_data}
use Rattle.sno_store.specs.Shown.{lines_in}
use Rattle.sno_durable.specs.Records.{record_text}
use Rattle.sno_durable.proofs.Recording.{one_more, replied_made, text_written}
use Rattle.sno_durable.proofs.keeper.Keeper.reply.Goals as goal

pub returns-then-accepted-before-clause-replied : goal.returns-then-accepted-before-clause-replied
returns-then-accepted-before-clause-replied g c =
    let self = c.args.self.now in
    let d = content_data c.in_ok-reply.field-0.reply in
    let text = c.put.new.out.items in
    let is = text_written d c.clear.new.self.items text c.clear.ensures.items c.in_ok-put.ensures in
    let same : c.reply_here.new.seat.accepted ≡ c.args.seat.now.accepted = omega (arith, c.accepted.ensures, c.accepted-before.ensures, c.if-accepted-before.true) in
    replied_made self.reading g.L.Naming.opening (position c.args.seat.now.accepted c.args.seat.now.seen) (position c.reply_here.new.seat.accepted c.reply_here.new.seat.seen) c.args.line.now
    text self.number (option_map view c.take_ignored-ignored.new.self.id) c.take_ignored-ignored.new.self.asked d c.in_ok-reply.field-0.refused (map view c.take_ignored-ignored.result.items)
    (lines_in c.args.waiting.now.records) (lines_in c.args.waiting.now.records) c.args.waiting.now.replies.items c.put_noted.new.replies.items
    (ap (option_map view) (c.take_ignored-ignored.ensures.id ∙ c.keep_within.ensures.id) ∙ c.in_ok-read.ensures.id)
    (c.take_ignored-ignored.ensures.asked ∙ c.keep_within.ensures.asked ∙ ap (within self.reading.mode.trials) c.in_ok-read.ensures.asked)
    c.in_ok-reply.ensures.replied is c.in_ok-reply.ensures.begins (inl (same, refl)) (c.in_ok-put_noted.ensures (λ whole. c.deref.ensures.value ∙ is whole))

pub returns-clause-replied : goal.returns-clause-replied
returns-clause-replied g c =
    let self = c.args.self.now in
    let line = c.args.line.now in
    let d = content_data c.in_ok-reply.field-0.reply in
    let text = c.put.new.out.items in
    let is = text_written d c.clear.new.self.items text c.clear.ensures.items c.in_ok-put.ensures in
    let up : c.reply_here.new.seat.accepted ≡ c.args.seat.now.accepted + 1 =
    one_more c.args.seat.now.accepted c.reply_here.new.seat.accepted c.in_ok-reply.ensures.counted (λ same. c.if-accepted-before.false (c.accepted.ensures ∙ same ∙ sym c.accepted-before.ensures)) in
    let stored = c.deref-3.ensures.value ∙ c.in_ok-record.ensures.text ∙ ap (record_text line) c.deref-2.ensures.value in
    let waits = c.in_ok-push.ensures.pushed.1 ∙ ap (λ (l : List ℕ). lines_in c.args.waiting.now.records ++ l ∷ []) stored in
    replied_made self.reading g.L.Naming.opening (position c.args.seat.now.accepted c.args.seat.now.seen) (position c.reply_here.new.seat.accepted c.reply_here.new.seat.seen) line
    text self.number (option_map view c.take_ignored-ignored.new.self.id) c.take_ignored-ignored.new.self.asked d c.in_ok-reply.field-0.refused (map view c.take_ignored-ignored.result.items)
    (lines_in c.args.waiting.now.records) (lines_in c.push.new.self) c.args.waiting.now.replies.items c.put_noted.new.replies.items
    (ap (option_map view) (c.take_ignored-ignored.ensures.id ∙ c.keep_within.ensures.id) ∙ c.in_ok-read.ensures.id)
    (c.take_ignored-ignored.ensures.asked ∙ c.keep_within.ensures.asked ∙ ap (within self.reading.mode.trials) c.in_ok-read.ensures.asked)
    c.in_ok-reply.ensures.replied is c.in_ok-reply.ensures.begins (inr (up, waits)) (c.in_ok-put_noted.ensures (λ whole. c.deref.ensures.value ∙ is whole))
