-- A piece for which nothing is spelled, one more piece, or the end.
use Rattle.std.proofs.Common.{◌≡◌, ◌<◌, length, arith}
use Rattle.std.proofs.lemmas.Grind.{common_steps}
use Rattle.sno_rules.proofs.SpellingLaws.{none_left, one_step, stop_here}
use Rattle.sno_rules.proofs.spelling.spelled.Goals as goal

pub returns-in-Err : goal.returns-in-Err
returns-in-Err c =
    let some : 0 < length c.loop-rest.rest.now = grind (arith, common_steps, c.is_empty.ensures, c.loop-rest-test.true) in
    λ known. c.loop-rest.invariant.1 _ (stop_here _ _ _ _ _ some (c.in-Err.ensures.step known))

pub loop-rest-preserved : goal.loop-rest-preserved
loop-rest-preserved c = let some : 0 < length c.loop-rest.rest.now = grind (arith, common_steps, c.is_empty.ensures, c.loop-rest-test.true) in (
  omega (arith, c.in-Ok.ensures.shorter, c.loop-rest.invariant.0),
  λ r others. c.loop-rest.invariant.1 r (one_step _ _ _ _ _ _ r some c.in-Ok.ensures.step others),
)

pub returns : goal.returns
returns c =
    let none : length c.loop-rest.rest.now ≡ 0 = grind (arith, common_steps, c.is_empty.ensures, c.loop-rest-test.false) in
    c.loop-rest.invariant.1 _ (none_left _ _ _ _ none)
