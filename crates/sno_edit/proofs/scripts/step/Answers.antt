-- The lines that are added are those that are no longer left.
use Rattle.sno_edit.proofs.ScriptLemmas.{split_lines, split_lines_after, split_lines_then, split_shared}
use Rattle.sno_edit.proofs.scripts.step.Goals as goal

pub returns-then-shared-gt0-clause-old : goal.returns-then-shared-gt0-clause-old
returns-then-shared-gt0-clause-old c = split_lines _ _ _ _ _ _ c.split_at-then-shared-gt0.ensures.front c.split_at-then-shared-gt0.ensures.back c.in_ok-add.ensures.old

pub returns-then-shared-gt0-clause-new : goal.returns-then-shared-gt0-clause-new
returns-then-shared-gt0-clause-new c = split_shared _ _ _ _ _ _ _ c.split_at-then-shared-gt0.ensures.front c.split_at.ensures.back c.shared-shared.ensures.same c.in_ok-add.ensures.new

pub returns-clause-old : goal.returns-clause-old
returns-clause-old c = split_lines_then _ _ _ _ _ _ _ c.split_at-2.ensures.front c.split_at-2.ensures.back c.in_ok-add-2.ensures.old c.in_ok-add-3.ensures.old

pub returns-clause-new : goal.returns-clause-new
returns-clause-new c = split_lines_after _ _ _ _ _ _ _ c.split_at-3.ensures.front c.split_at-3.ensures.back c.in_ok-add-2.ensures.new c.in_ok-add-3.ensures.new
