-- A part that is wrong, one more part, or the end.
use Rattle.std.proofs.Common.{◌≡◌, sym, ◌∙◌, arith}
use Rattle.sno_rules.specs.Spelling.{ends, wrong}
use Rattle.sno_rules.proofs.SpellingLaws.{one_part}
use Rattle.sno_rules.proofs.arguments.joined.Goals as goal

pub returns-in-Err-clause-joined : goal.returns-in-Err-clause-joined
returns-in-Err-clause-joined c = λ known. c.loop-rest.invariant.1 _ (wrong _ _ _ (sym c.goes_on.ensures.value ∙ c.loop-rest-test.true) (c.in-Err.ensures.part known))

pub loop-rest-preserved : goal.loop-rest-preserved
loop-rest-preserved c = (
  omega (arith, c.in-Ok.ensures.shorter, c.loop-rest.invariant.0),
  λ r others. c.loop-rest.invariant.1 r (one_part _ _ _ _ _ _ _ r c.in_ok-extend_from_slice-in-Ok.ensures.items (sym c.goes_on.ensures.value ∙ c.loop-rest-test.true) c.in-Ok.ensures.part others),
)

pub returns-clause-joined : goal.returns-clause-joined
returns-clause-joined c = c.loop-rest.invariant.1 _ (ends _ _ (sym c.goes_on.ensures.value ∙ c.loop-rest-test.false))
