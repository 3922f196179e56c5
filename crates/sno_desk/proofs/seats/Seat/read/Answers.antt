-- The place of a name is one of the opening's.
use Rattle.std.proofs.Common.{◌≡◌, Some, ap, sym, ◌∙◌}
use Rattle.sno_book.specs.Openings.{Opening, place_in}
use Rattle.sno_desk.specs.Seen.{IsLookCause, IsPlaceCause}
use Rattle.sno_desk.proofs.Viewings.{if_err_so, look_cause}
use Rattle.sno_desk.proofs.seats.Seat.read.Goals as goal

pub returns-clause-no_text : goal.returns-clause-no_text
returns-clause-no_text g c =
    let opening = g.L.Naming.opening in
    let name = c.args.name.now in
    let place = c.in-Some.place in
    let placed : place_in opening name ≡ Some place = sym c.place.ensures ∙ c.in-Some.is in
    if_err_so c.read_at.result (λ e. IsPlaceCause e opening place) (λ e. IsLookCause e opening name) (λ e. look_cause e opening name place placed) c.read_at.ensures.no_text
