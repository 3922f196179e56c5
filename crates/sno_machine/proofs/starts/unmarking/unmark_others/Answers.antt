-- Each member is kept as it was.
use Rattle.std.proofs.Common.{get_or, false, refl, ◌∙◌, arith}
use Rattle.std.proofs.lemmas.List.{length-set}
use Rattle.sno_machine.proofs.TableLaws.{kept_one, none_marked, nothing_kept}
use Rattle.sno_machine.proofs.starts.unmarking.unmark_others.Goals as goal

pub loop-member-init : goal.loop-member-init
loop-member-init c = record { kept = λ x. none_marked 256 x ∙ nothing_kept (get_or c.args.passed.now x false); whole = refl }

pub loop-member-preserved : goal.loop-member-preserved
loop-member-preserved c = record {
  kept = kept_one c.args.passed.now c.loop-member.kept c.members-member-items.result.now c.loop-member.member-index c.loop-member-test.true (omega (arith, c.type_inv.member-items c.loop-member.member-index, c.loop-member.invariant.whole)) c.loop-member.invariant.kept;
  whole = length-set c.loop-member.kept (get_or c.members-member-items.result.now c.loop-member.member-index 0) (get_or c.args.passed.now (get_or c.members-member-items.result.now c.loop-member.member-index 0) false) ∙ c.loop-member.invariant.whole;
}
