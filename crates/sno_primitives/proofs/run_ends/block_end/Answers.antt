-- The run ends in its first part, or where the run from there ends.
use Rattle.std.proofs.Common.{◌∙◌, ap, subst, length, take, IfSome}
use Rattle.std.specs.List.{take_while}
use Rattle.sno_primitives.specs.Rows.{AreRowsOf}
use Rattle.sno_primitives.specs.Runs.{goes_through}
use Rattle.sno_primitives.proofs.Lanes.{same_runs}
use Rattle.sno_primitives.proofs.RunLaws.{ends_there, goes_on}
use Rattle.sno_primitives.proofs.run_ends.block_end.Goals as goal

pub returns-then-run-lt-BLOCK-clause-near : goal.returns-then-run-lt-BLOCK-clause-near
returns-then-run-lt-BLOCK-clause-near c =
    let p = goes_through c.args.inside c.args.set.now in
    let are = subst (λ r. IfSome r (AreRowsOf c.args.set.now)) c.in-Some.is c.requires.rows in
    let same = same_runs c.args.inside c.args.set.now c.in-Some.rows are in
    let is = c.run-run.ensures ∙ ap (λ q. length (take_while q c.front.result.now)) same ∙ ap (λ l. length (take_while p l)) (c.front.ensures ∙ ap (take 64) c.split_at.ensures.back) in
    ends_there c.args.inside c.args.set.now c.args.text.now c.args.c 64 c.run-run.result is c.if-run-lt-BLOCK.true

pub returns-else-run-lt-BLOCK-clause-far : goal.returns-else-run-lt-BLOCK-clause-far
returns-else-run-lt-BLOCK-clause-far c =
    let p = goes_through c.args.inside c.args.set.now in
    let are = subst (λ r. IfSome r (AreRowsOf c.args.set.now)) c.in-Some.is c.requires.rows in
    let same = same_runs c.args.inside c.args.set.now c.in-Some.rows are in
    let is = c.run-run.ensures ∙ ap (λ q. length (take_while q c.front.result.now)) same ∙ ap (λ l. length (take_while p l)) (c.front.ensures ∙ ap (take 64) c.split_at.ensures.back) in
    goes_on c.args.inside c.args.set.now c.args.text.now c.args.c 64 c.run-run.result is c.requires.within c.if-run-lt-BLOCK.false
