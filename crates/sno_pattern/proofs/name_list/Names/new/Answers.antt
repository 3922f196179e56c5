-- A name that was added was not there, so it comes next after the names so far.
use Rattle.std.proofs.Common.{◌∙◌, sym}
use Rattle.sno_pattern.proofs.NameListLemmas.{more_is_front, rest_is_same, false_of_not}
use Rattle.sno_pattern.proofs.name_list.Names.new.Goals as goal

pub loop-name-preserved : goal.loop-name-preserved
loop-name-preserved c = let absent = false_of_not _ (sym c.if-not-branch.false ∙ c.in_ok-insert.ensures.added) in record {
  front = more_is_front _ _ _ _ _ c.loop-name-test.true c.name-item.is c.in_ok-insert.ensures.keys absent c.loop-name.invariant.front;
  rest = rest_is_same _ _ _ _ _ _ c.loop-name-test.true c.name-item.is c.in_ok-insert.ensures.keys absent c.loop-name.invariant.rest;
}
