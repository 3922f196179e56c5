-- A file that is edited anew has its report in its place.
use Rattle.std.proofs.Common.{arith, length, ◌<◌, ◌∙◌}
use Rattle.std.proofs.lemmas.List.{length-set}
use Rattle.sno_edit.specs.Rules.{rules_seen}
use Rattle.sno_files.proofs.EndLemmas.{end_anew, few_ends, path_count}
use Rattle.sno_files.proofs.editing.edit_some.Goals as goal
use Rattle.sno_files.proofs.editing.edit_some.Goals.{then-is_left, else-is_left}

pub bounds-paths-place : goal.bounds-paths-place
bounds-paths-place g c =
    omega (arith, few_ends _ _ _ c.loop-place.invariant.0, path_count c.args.paths.now, c.loop-place.invariant.1, c.loop-place-test.true, c.len-place-end.ensures)

pub loop-place-preserved : goal.loop-place-preserved
loop-place-preserved g c =
    let within : c.loop-place.place < length c.loop-place.ends.items = omega (arith, c.loop-place.invariant.1, c.loop-place-test.true, c.len-place-end.ensures) in
    elim c.if-is_left.branch [
      | then-is_left w ↦
          rw w.ends-is (
            end_anew (rules_seen c.args.rules.now) c.args.paths.now c.loop-place.ends.items c.loop-place.place _ w.edit_one.result c.loop-place.invariant.0 w.edit_one.ensures within,
            length-set c.loop-place.ends.items c.loop-place.place w.edit_one.result ∙ c.loop-place.invariant.1,
          )
      | else-is_left w ↦ rw w.ends-is c.loop-place.invariant
    ]
