-- Each batch adds its reports.
use Rattle.std.proofs.Common.{◌≡◌, ◌≤◌, ◌+◌, length, take, vec_len, vec_capacity, [], arith, ap, sym, subst, ◌∙◌}
use Rattle.sno_edit.specs.Files.{AreFilesEnds}
use Rattle.sno_edit.specs.Rules.{rules_seen}
use Rattle.sno_edit.proofs.BatchLemmas.{batch_more}
use Rattle.sno_edit.proofs.files.edit_files.Goals as goal

pub loop-begin-init : goal.loop-begin-init
loop-begin-init g c = (
  subst (λ e. AreFilesEnds g.F.Folder.holds (rules_seen c.args.rules.now) c.args.folder.now [] c.args.folder.now e) (sym c.in_ok-ends.ensures.items) AreFilesEnds.no_file,
  omega arith,
  c.in_ok-ends.ensures.len,
  c.in_ok-ends.ensures.capacity,
  c.in_ok-planned.ensures.capacity,
)

pub loop-begin-preserved : goal.loop-begin-preserved
loop-begin-preserved g c = (
  batch_more _ _ _ _ _ _ _ _ _ _ _ c.split_at.ensures.back c.split_at-in-loop-begin.ensures.front c.edit_batch-begin.ensures.few
      (c.edit_batch-begin.ensures.ends _ _ c.loop-begin.invariant.0),
  omega (arith, c.split_at-in-loop-begin.ensures.back_len, c.split_at.ensures.back_len),
  omega (arith, c.edit_batch-begin.ensures.len, c.loop-begin.invariant.2),
  omega (arith, c.edit_batch-begin.ensures.capacity, c.loop-begin.invariant.3),
  omega (arith, c.edit_batch-begin.ensures.plans, c.loop-begin.invariant.4),
)
