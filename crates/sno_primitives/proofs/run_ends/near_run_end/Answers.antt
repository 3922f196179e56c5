-- The run ends in its first part, or where the run from there ends.
use Rattle.std.proofs.Common.{◌∙◌, ap, length, take}
use Rattle.std.specs.List.{take_while}
use Rattle.sno_primitives.specs.Runs.{goes_through}
use Rattle.sno_primitives.proofs.RunLaws.{ends_there, goes_on}
use Rattle.sno_primitives.proofs.run_ends.near_run_end.Goals as goal

pub returns-then-run-most : goal.returns-then-run-most
returns-then-run-most c =
    let p = goes_through c.args.inside c.args.set.now in
    let is = c.run_of-run.ensures.exact ∙ ap (λ l. length (take_while p l)) (c.front.ensures ∙ ap (take c.args.most) c.split_at.ensures.back) in
    record { near = ends_there c.args.inside c.args.set.now c.args.text.now c.args.c c.args.most c.run_of-run.result is c.if-run-most.true; far = tt }

pub returns-else-run-most : goal.returns-else-run-most
returns-else-run-most c =
    let p = goes_through c.args.inside c.args.set.now in
    let is = c.run_of-run.ensures.exact ∙ ap (λ l. length (take_while p l)) (c.front.ensures ∙ ap (take c.args.most) c.split_at.ensures.back) in
    record { near = tt; far = goes_on c.args.inside c.args.set.now c.args.text.now c.args.c c.args.most c.run_of-run.result is c.requires c.if-run-most.false }
