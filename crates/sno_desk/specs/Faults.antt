-- Refusals of the lower calls, as the desk's calls return them.
use Rattle.sno_book.specs.declared.faults.CommitFault.{CommitFault as BookRefusal}
use Rattle.sno_book.specs.declared.faults.CommitFault.TheVariants as book
use Rattle.sno_published.specs.declared.faults.ViewFault.{ViewFault}
use Rattle.sno_published.specs.declared.faults.ViewFault.TheVariants as shown
use Rattle.sno_statement.specs.declared.outcomes.StatementFault.{StatementFault}
use Rattle.sno_statement.specs.declared.outcomes.StatementFault.TheVariants as statement
use Rattle.sno_desk.specs.declared.faults.CommitFault.{CommitFault}
use Rattle.sno_desk.specs.declared.faults.CommitFault.TheVariants as commit
use Rattle.sno_desk.specs.declared.faults.SnapshotFault.{SnapshotFault}
use Rattle.sno_desk.specs.declared.faults.SnapshotFault.TheVariants as snapshot
use Rattle.sno_desk.specs.declared.faults.SubmitFault.{SubmitFault}
use Rattle.sno_desk.specs.declared.faults.SubmitFault.TheVariants as submit

-- if a viewer sees nothing more, its seat is stopped
abbrev pub of_view : ViewFault → SnapshotFault
of_view shown.Ended = snapshot.Stopped
of_view shown.Older = snapshot.Stopped
of_view shown.Memory = snapshot.Memory

abbrev pub of_book : BookRefusal → CommitFault
of_book book.NoText = commit.NoText
of_book (book.Changed seen now) = commit.Changed seen now
of_book book.Full = commit.Full
of_book book.Memory = commit.Memory

abbrev pub of_snapshot : SnapshotFault → SubmitFault
of_snapshot snapshot.NoText = submit.NoText
of_snapshot snapshot.Stopped = submit.Stopped
of_snapshot snapshot.Memory = submit.Memory

abbrev pub of_statement : StatementFault → SubmitFault
of_statement statement.TextTooLong = submit.TextTooLong
of_statement statement.Memory = submit.Memory
of_statement statement.TooManyTrials = submit.TooManyTrials

-- a text that rose during the last try has used up all tries
abbrev pub of_commit : CommitFault → SubmitFault
of_commit commit.Stopped = submit.Stopped
of_commit commit.NoText = submit.NoText
of_commit (commit.Changed seen now) = submit.TriesSpent seen now
of_commit commit.Full = submit.Full
of_commit commit.Memory = submit.Memory
