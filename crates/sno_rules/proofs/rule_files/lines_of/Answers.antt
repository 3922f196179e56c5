-- A line that is wrong, one more line, or the end.
use Rattle.std.proofs.Common.{◌≡◌, ◌<◌, length, arith}
use Rattle.std.proofs.lemmas.Grind.{common_steps}
use Rattle.sno_rules.proofs.RuleFileLaws.{none_left, one_line, wrong_line}
use Rattle.sno_rules.proofs.rule_files.lines_of.Goals as goal

pub returns-in-Err : goal.returns-in-Err
returns-in-Err c =
    let some : 0 < length c.loop-rest.rest.now = grind (arith, common_steps, c.is_empty.ensures, c.loop-rest-test.true) in
    λ known. c.loop-rest.invariant.1 _ (wrong_line _ _ _ _ _ some c.first_line.ensures.line (c.in-Err.ensures known))

pub loop-rest-preserved : goal.loop-rest-preserved
loop-rest-preserved c = let some : 0 < length c.loop-rest.rest.now = grind (arith, common_steps, c.is_empty.ensures, c.loop-rest-test.true) in (
  omega (arith, c.first_line.ensures.shorter some, c.loop-rest.invariant.0),
  λ r others. c.loop-rest.invariant.1 r (one_line _ _ _ _ _ _ r some c.first_line.ensures.line c.first_line.ensures.after c.in-Ok.ensures others),
)

pub returns : goal.returns
returns c =
    let none : length c.loop-rest.rest.now ≡ 0 = grind (arith, common_steps, c.is_empty.ensures, c.loop-rest-test.false) in
    c.loop-rest.invariant.1 _ (none_left _ _ _ none)
