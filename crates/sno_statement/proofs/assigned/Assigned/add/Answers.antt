-- One variable more.
use Rattle.std.proofs.Common.{◌≡◌, ◌∙◌, ◌+◌, ◌<◌, ℕ, List, [], ◌∷◌, ◌++◌, length, take, ap, sym, subst, arith}
use Rattle.std.proofs.lemmas.List.{take_more}
use Rattle.std.proofs.lemmas.Option.{get_or_from_slice_get, slice_get_within}
use Rattle.sno_statement.specs.declared.last_assignments.Last.{Last}
use Rattle.sno_statement.specs.MatchLists.{LastList}
use Rattle.sno_statement.proofs.assigned.Assigned.add.Goals as goal

pub loop-place-preserved : goal.loop-place-preserved
loop-place-preserved c =
    let lasts = c.args.lasts.now in
    let place = c.loop-place.place in
    let next = c.at.result in
    let inside : place < length lasts = slice_get_within lasts place next c.at.ensures in
    let more : take place lasts ++ next ∷ [] ≡ take (place + 1) lasts =
    ap (λ (z : List ℕ × Last). take place lasts ++ z ∷ []) (sym (get_or_from_slice_get lasts place next next c.at.ensures)) ∙ sym (take_more lasts place next inside) in
    record {
      first = λ empty. subst (λ (z : LastList). z ≡ take (place + 1) lasts) (sym c.in_ok-push.ensures.items) (subst (λ (z : LastList). z ++ next ∷ [] ≡ take (place + 1) lasts) (sym (c.loop-place.invariant.first empty)) more);
      inside = omega (arith, inside);
    }
