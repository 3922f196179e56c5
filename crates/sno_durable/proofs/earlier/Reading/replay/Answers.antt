-- The record has its line, and the text of the reply that it has again; or its statement has another outcome.
use Rattle.std.proofs.Common.{◌≡◌, ℕ, List, [], ◌++◌, ap, inl, inr, refl, sym, ◌∙◌}
use Rattle.std.specs.Option.{option_map}
use Rattle.serde_json.specs.View.{view}
use Rattle.serde_json.specs.Written.{compact_text}
use Rattle.sno_desk.specs.Turns.{position}
use Rattle.sno_serve.specs.Contents.{content_data}
use Rattle.sno_durable.specs.Records.{record_text}
use Rattle.sno_durable.proofs.Recording.{record_again, text_written}
use Rattle.sno_durable.proofs.Replaying.{outcome_other}
use Rattle.sno_durable.proofs.earlier.Reading.replay.Goals as goal

pub returns-clause-record : goal.returns-clause-record
returns-clause-record g c =
    let line = c.as_bytes-line.result.now in
    let text = c.put.new.out.items in
    let d = content_data c.in_ok-reply.field-0.reply in
    let is = text_written d c.new-text.result.items text c.new-text.ensures.items c.in_ok-put.ensures in
    let same = sym (c.is_same.ensures.same c.if-not-is_same.false) ∙ c.deref-3.ensures.value ∙ c.in_ok-again.ensures.text
    ∙ ap (λ (l : List ℕ). record_text l c.deref-2.result.now) (c.deref.ensures ∙ sym c.as_bytes-line.ensures.value) ∙ ap (record_text line) c.deref-2.ensures.value in
    record_again c.args.self.now g.L.Naming.opening c.args.seat.now.seen c.reply_here.new.seat.seen c.args.stored.now line text c.in-Some.record.number (option_map view c.in_ok-read.read.id)
    c.in_ok-read.read.asked d c.in_ok-reply.field-0.refused same c.in_ok-read.ensures.id c.in_ok-read.ensures.asked c.in_ok-reply.ensures.replied is

pub returns-then-accepted-before-clause-cause : goal.returns-then-accepted-before-clause-cause
returns-then-accepted-before-clause-cause g c =
    let d = content_data c.in_ok-reply.field-0.reply in
    let same = sym c.accepted.ensures ∙ c.if-accepted-before.true ∙ c.accepted-before.ensures in
    outcome_other c.args.self.now g.L.Naming.opening (position c.args.seat.now.accepted c.args.seat.now.seen) (position c.reply_here.new.seat.accepted c.reply_here.new.seat.seen) c.args.place
    c.args.stored.now c.as_bytes-line.result.now (compact_text d) c.in_ok-record.field-0 c.in-Some.record (option_map view c.in_ok-read.read.id) c.in_ok-read.read.asked d
    c.in_ok-reply.field-0.refused c.in_ok-record.ensures c.in-Some.is c.as_bytes-line.ensures.value c.in_ok-read.ensures.id c.in_ok-read.ensures.asked c.in_ok-reply.ensures.replied
    (λ whole. refl) (inl same)

pub returns-then-not-is_same-clause-cause : goal.returns-then-not-is_same-clause-cause
returns-then-not-is_same-clause-cause g c =
    let line = c.as_bytes-line.result.now in
    let text = c.put.new.out.items in
    let d = content_data c.in_ok-reply.field-0.reply in
    let is = text_written d c.new-text.result.items text c.new-text.ensures.items c.in_ok-put.ensures in
    let again = c.deref-3.ensures.value ∙ c.in_ok-again.ensures.text
    ∙ ap (λ (l : List ℕ). record_text l c.deref-2.result.now) (c.deref.ensures ∙ sym c.as_bytes-line.ensures.value) ∙ ap (record_text line) c.deref-2.ensures.value in
    outcome_other c.args.self.now g.L.Naming.opening (position c.args.seat.now.accepted c.args.seat.now.seen) (position c.reply_here.new.seat.accepted c.reply_here.new.seat.seen) c.args.place
    c.args.stored.now line text c.in_ok-record.field-0 c.in-Some.record (option_map view c.in_ok-read.read.id) c.in_ok-read.read.asked d
    c.in_ok-reply.field-0.refused c.in_ok-record.ensures c.in-Some.is c.as_bytes-line.ensures.value c.in_ok-read.ensures.id c.in_ok-read.ensures.asked c.in_ok-reply.ensures.replied
    is (inr (λ stored. c.is_same.ensures.other c.if-not-is_same.true (again ∙ sym stored)))
