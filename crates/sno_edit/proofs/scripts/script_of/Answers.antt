-- A script with the lines of both texts has both texts.
use Rattle.std.proofs.Common.{◌≡◌, [], arith}
use Rattle.std.proofs.lemmas.Grind.{common_steps}
use Rattle.sno_edit.proofs.ScriptLemmas.{new_text_is, old_text_is}
use Rattle.sno_edit.proofs.scripts.script_of.Goals as goal

pub returns-clause-old : goal.returns-clause-old
returns-clause-old c =
    let none : c.loop-rest.rest.0.now ≡ [] = grind (arith, common_steps, c.is_empty.ensures, c.if-not-is_empty.false) in
    old_text_is c.loop-rest.script.items c.args.old.now c.loop-rest.rest.0.now c.loop-rest.invariant.0 none

pub returns-clause-new : goal.returns-clause-new
returns-clause-new c =
    let none : c.loop-rest.rest.1.now ≡ [] = grind (arith, common_steps, c.is_empty-else-not-is_empty.ensures, c.if-not-is_empty-2.false) in
    new_text_is c.loop-rest.script.items c.args.new.now c.loop-rest.rest.1.now c.loop-rest.invariant.1 none
