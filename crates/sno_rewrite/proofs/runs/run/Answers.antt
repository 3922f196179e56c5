-- Why reading is refused, and what is written. What is said of the latter is here so that this proof alone refuses a
-- wrong body.
use Rattle.std.proofs.Common.{rules}
use Rattle.sno_rewrite.proofs.ReadLemmas.{read_fault}
use Rattle.sno_rewrite.specs.Modes.{mode_of}
use Rattle.sno_rewrite.proofs.runs.run.Goals as goal

pub returns-in_err-bytes-clause-fault : goal.returns-in_err-bytes-clause-fault
returns-in_err-bytes-clause-fault g c =
    read_fault c.args.options.now.workers (mode_of c.args.options.now) (g.R.Read.remaining c.args.reader.now) _ _ _ c.from_residual.ensures.1 c.in_err-bytes.ensures.fault

pub returns-clause-done : goal.returns-clause-done
returns-clause-done g c = search rules

pub returns-in_err-write_all-clause-nothing : goal.returns-in_err-write_all-clause-nothing
returns-in_err-write_all-clause-nothing g c = search rules
