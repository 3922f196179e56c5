-- What a short walk finds.
use Rattle.std.proofs.Common.{arith}
use Rattle.sno_primitives.proofs.BalancedEnds.{begun, found_here, gone_on}
use Rattle.sno_primitives.proofs.balance.walk_balanced.Goals as goal

pub loop-passed-init : goal.loop-passed-init
loop-passed-init c = record {
  found = begun c.args.text.now c.split_at.result.1.now c.args.c c.split_at.ensures.back;
  few = omega arith;
}

pub returns-then-depth-eq0 : goal.returns-then-depth-eq0
returns-then-depth-eq0 c = (
  found_here c.args.text.now c.split_at.result.1.now c.args.c c.loop-passed.passed c.loop-passed.depth c.in-Some.after
      c.split_at.ensures.back c.loop-passed-test.true c.loop-passed.invariant.found c.in-Some.ensures.exact c.if-depth-eq0.true,
  omega arith,
  omega (arith, c.loop-passed-test.true, c.split_at.ensures.back_len),
)

pub loop-passed-preserved : goal.loop-passed-preserved
loop-passed-preserved c = record {
  found =
      gone_on c.args.text.now c.split_at.result.1.now c.args.c c.loop-passed.passed c.loop-passed.depth c.in-Some.after
      c.split_at.ensures.back c.loop-passed-test.true c.loop-passed.invariant.found c.in-Some.ensures.exact c.if-depth-eq0.false;
  few = omega (arith, c.in-Some.ensures.few, c.loop-passed.invariant.few);
}
