use Rattle.std.proofs.Common.{All, subst, sym}
use Rattle.std.proofs.lemmas.List.Elements.{All-push}
use Rattle.std.proofs.lemmas.Option.{slice_get-get_or}
use Rattle.sno_files.specs.InThreads.{IsCalled}
use Rattle.sno_files.proofs.in_threads.take_turns.Goals as goal

pub loop-preserved : goal.loop-preserved
loop-preserved g c =
    let P = IsCalled g.F.Fn c.args.f.now c.args.places.now in
    let at = slice_get-get_or c.args.places.now c.fetch_add-number.result c.index-places-number.result c.if-number-places.false in
    let so_far = subst (All P) (sym c.reserve.ensures.items) c.loop.invariant in
    let more = All-push P c.reserve.new.self.items _ so_far (_, at, c.f-result.ensures) in
    subst (All P) {y = c.push_reserved.new.self.items} (sym c.push_reserved.ensures.items) more

pub returns-then-is_err : goal.returns-then-is_err
returns-then-is_err g c = subst (All (IsCalled g.F.Fn c.args.f.now c.args.places.now)) (sym c.reserve.ensures.items) c.loop.invariant

pub returns-then-number-places : goal.returns-then-number-places
returns-then-number-places g c = subst (All (IsCalled g.F.Fn c.args.f.now c.args.places.now)) (sym c.reserve.ensures.items) c.loop.invariant
