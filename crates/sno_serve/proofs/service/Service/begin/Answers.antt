-- Each statement that is submitted is the document's.
use Rattle.std.proofs.Common.{Some, map, ap, refl, sym, ◌∙◌, length}
use Rattle.std.specs.Prelude.{slice_get}
use Rattle.std.specs.Option.{option_map}
use Rattle.std.specs.Arc.{arc_value}
use Rattle.std.proofs.lemmas.Option.{slice_get-map, slice_get_read}
use Rattle.sno_desk.specs.Turns.{position}
use Rattle.sno_serve.specs.Accepted.{IsGiven}
use Rattle.sno_serve.proofs.Accepting.{among_served, served_on}
use Rattle.sno_serve.proofs.service.Service.begin.Goals as goal

pub returns-in_err-shared : goal.returns-in_err-shared
returns-in_err-shared g c = record { served = c.loop-statement.invariant }

pub loop-statement-preserved : goal.loop-statement-preserved
loop-statement-preserved g c =
    let arcs = c.args.self.now.statements.items in
    let rules = arc_value c.args.self.now.rules in
    let mode = c.args.self.now.mode in
    let first = position c.args.seat.now.accepted c.args.seat.now.seen in
    let between = position c.loop-statement.seat.accepted c.loop-statement.seat.seen in
    let after = position c.submit-reply.new.seat.accepted c.submit-reply.new.seat.seen in
    let items = c.deref-statement-items.result.now in
    let place = c.loop-statement.statement-index in
    let read = slice_get_read items (length items) place c.statement-item.result refl c.loop-statement-test.true c.statement-item.is in
    let held = ap (λ l. slice_get l place) (sym c.deref-statement-items.ensures.value) ∙ read in
    let there = slice_get-map arc_value arcs place ∙ ap (λ o. option_map arc_value o) held ∙ ap (λ s. Some s) (sym c.in_ok-shared.ensures) in
    served_on (IsGiven rules (map arc_value arcs) mode) first between after c.loop-statement.invariant
    (among_served rules (map arc_value arcs) mode place (arc_value c.in_ok-shared.shared) between after there c.submit-reply.ensures.taken)
