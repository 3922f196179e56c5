-- The rows are those of the matches; a statement that is refused has none.
use Rattle.std.proofs.Common.{◌∙◌}
use Rattle.sno_find.specs.Findings.{is_refused}
use Rattle.sno_find.specs.Hits.{IsRefusal}
use Rattle.sno_find.specs.declared.faults.FindFault.TheVariants.{TooManyTrials}
use Rattle.sno_find.proofs.EditRows.{rows_found, rows_refused}
use Rattle.sno_find.proofs.edit_rows.write_once.Goals as goal

pub returns-in_ok-write_findings-in-Ok-clause-written : goal.returns-in_ok-write_findings-in-Ok-clause-written
returns-in_ok-write_findings-in-Ok-clause-written g c =
    rows_found c.args.trials c.args.path.now c.args.text.now c.args.statement.now (g.W.Write.contents c.args.writer.now) (g.W.Write.contents c.write_findings.new.writer) c.deref.result.now
    c.in-Ok.ensures.within (c.deref.ensures.value ∙ c.in-Ok.ensures.found) c.in_ok-write_findings-in-Ok.ensures

pub returns-in-Err-TooManyTrials-clause-written : goal.returns-in-Err-TooManyTrials-clause-written
returns-in-Err-TooManyTrials-clause-written g c =
    let wanted = is_refused c.args.trials c.args.path.now c.args.text.now c.args.statement.now in
    let refused : IsRefusal wanted c.args.statement.now.number (TooManyTrials c.in-Err-TooManyTrials.field-0-0) = rw c.in-Err-TooManyTrials.field-0-is at c.in-Err-TooManyTrials.ensures.refused in
    rows_refused c.args.trials c.args.path.now c.args.text.now c.args.statement.now (g.W.Write.contents c.args.writer.now) refused.0
