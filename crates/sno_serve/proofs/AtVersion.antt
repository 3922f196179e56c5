-- What the one attempt at a version returns, by the step that decides it.
use Rattle.std.proofs.Common.{◌≡◌, ◌≢◌, ◌≤◌, ℕ, List, length, ap, sym, ◌∙◌}
use Rattle.std.specs.Prelude.{Ok, Err}
use Rattle.std.specs.Result.{IsErrAnd}
use mathlib.Core.List.{IsPrefix as Begins}
use Rattle.sno_statement.specs.Statement.{Statement}
use Rattle.sno_statement.specs.declared.outcomes.StatementFault.{StatementFault}
use Rattle.sno_statement.specs.declared.outcomes.StatementFault.TheVariants as statement
use Rattle.sno_book.specs.Entries.{Entry}
use Rattle.sno_book.specs.Openings.{Opening}
use Rattle.sno_book.specs.Proposals.{Proposal, Receipt, GivesProposal}
use Rattle.sno_book.specs.Snapshots.{Snapshot}
use Rattle.sno_book.specs.declared.faults.CommitFault.TheVariants as book
use Rattle.sno_published.specs.Tables.{text_at}
use Rattle.sno_published.proofs.Prefixes.{prefix_self}
use Rattle.sno_desk.specs.declared.faults.CommitFault.{CommitFault}
use Rattle.sno_desk.specs.declared.faults.CommitFault.TheVariants as commit
use Rattle.sno_desk.specs.declared.faults.SnapshotFault.{SnapshotFault}
use Rattle.sno_desk.specs.declared.faults.SnapshotFault.TheVariants as snapshot
use Rattle.sno_desk.specs.Faults.{of_snapshot, of_statement}
use Rattle.sno_desk.specs.Receipts.{IsCause, IsFor}
use Rattle.sno_desk.specs.Seen.{GivesSeen, IsSeen, IsInView, view_after}
use Rattle.sno_desk.proofs.Attempts.{IsProposed, committed_at, committed_no_text, has_place, performed_at}
use Rattle.sno_desk.proofs.Causes.{explained}
use Rattle.sno_serve.specs.AtVersion.{AtResult, IsResultAt, Refuses, at_commit}
use Rattle.sno_serve.specs.declared.at_version.AtFault.{AtFault}
use Rattle.sno_serve.specs.declared.at_version.AtFault.TheVariants as at

-- the snapshot was refused
pub seen_refuses : (e : SnapshotFault) (opening : Opening) (after : List Entry) (s : Statement) → GivesSeen (Err e) opening after s.text → Refuses opening after s (of_snapshot e)
seen_refuses snapshot.NoText opening after s h = h
seen_refuses snapshot.Stopped opening after s h = h
seen_refuses snapshot.Memory opening after s h = h

-- the statement was refused on the snapshot
pub performed_refuses : (e : StatementFault) (opening : Opening) (after : List Entry) (s : Statement) (taken : Snapshot) → IsSeen opening after s.text taken → GivesProposal (Err e) s taken
    → Refuses opening after s (of_statement e)
performed_refuses statement.TextTooLong opening after s taken h given = performed_at statement.TextTooLong opening after after s taken h given
performed_refuses statement.Memory opening after s taken h given = has_place opening s.text taken.place h.place
performed_refuses statement.TooManyTrials opening after s taken h given = performed_at statement.TooManyTrials opening after after s taken h given

-- the snapshot had another version
pub seen_changed : (opening : Opening) (before after : List Entry) (s : Statement) (version : ℕ) (taken : Snapshot) → IsSeen opening after s.text taken → taken.version ≢ version
    → IsResultAt opening before after s version (Err (at.Changed taken.version))
seen_changed opening before after s version taken h other = record {
  place = taken.place;
  named = h.place;
  versioned = record { text = taken.text; name = (text_at opening taken.place taken.text taken.version).name; there = h.there };
  other = other;
}

-- the commit was refused
pub committed_refuses : (e : CommitFault) (opening : Opening) (before seen after : List Entry) (s : Statement) (version : ℕ) (p : Proposal) → p.version ≡ version → IsProposed opening seen s p
    → Begins seen after → IsCause e (view_after opening after) p → IsResultAt opening before after s version (Err (at_commit e))
committed_refuses commit.NoText opening before seen after s version p at_version made begins why = committed_no_text commit.NoText opening seen after s p made why
committed_refuses commit.Stopped opening before seen after s version p at_version made begins why = has_place opening s.text p.place made.named
committed_refuses commit.Memory opening before seen after s version p at_version made begins why = has_place opening s.text p.place made.named
committed_refuses commit.Full opening before seen after s version p at_version made begins why =
    committed_at commit.Full opening seen seen after s p made (prefix_self seen) begins why
committed_refuses (commit.Changed was now) opening before seen after s version p at_version made begins because =
    let why = explained (view_after opening after) p (book.Changed was now) because in
    let is : was ≡ version = why.0 ∙ at_version in
    record { place = p.place; named = made.named; versioned = why.2; other = λ q. why.1 (q ∙ sym is) }

-- the commit was accepted
pub committed : (opening : Opening) (before seen after : List Entry) (s : Statement) (version : ℕ) (p : Proposal) (r : Receipt) → p.version ≡ version → IsProposed opening seen s p
    → length before ≤ r.index → IsFor r p → IsInView opening after r → IsResultAt opening before after s version (Ok r)
committed opening before seen after s version p r at_version made later for shown = record {
  statement = ap (λ (e : Entry). e.statement) for.entry ∙ made.statement;
  at_version = ap (λ (e : Entry). e.version) for.entry ∙ at_version;
  later = later;
  shown = shown;
}

-- an error that a step returned is the one that it says
pub is_err : (r : AtResult) (fault : AtFault) → IsErrAnd r (λ e. e ≡ fault) → r ≡ Err fault
is_err (Ok receipt) fault h = absurd h
is_err (Err e) fault h = ap (λ (x : AtFault). Err x) h
