-- What an entry does to the stored texts.
use Rattle.std.proofs.Common.{Some, ap, sym, ◌∙◌}
use Rattle.std.specs.Option.{option_map}
use Rattle.std.specs.Arc.{arc_value}
use Rattle.sno_book.specs.Openings.{names_in}
use Rattle.sno_published.proofs.Replays.{kept, replaced}
use Rattle.sno_published.proofs.stored_texts.renew.Goals as goal

pub returns-in-None : goal.returns-in-None
returns-in-None c = λ opening entries entry new at is has. kept opening entries entry c.args.stored.now.items is has (sym new ∙ ap (option_map (λ t. arc_value t.now)) c.in-None.is)

pub returns-in_ok-put-in-Some : goal.returns-in_ok-put-in-Some
returns-in_ok-put-in-Some c = λ opening entries entry new at is has.
    let some = sym new ∙ ap (option_map (λ t. arc_value t.now)) c.in-Some.is ∙ ap Some (sym c.in_ok-try_clone-in-Some.ensures) in
    let put = c.in_ok-put-in-Some.ensures.put (names_in opening.texts) entry.statement.text at in
    replaced opening entries entry (arc_value c.in_ok-try_clone-in-Some.field-0) c.args.stored.now.items c.put.new.stored.items is has some put c.put.ensures.as_many
