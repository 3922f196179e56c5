-- Which proposals have a view that begins the book's: for callers that keep a proposal over several calls.
use Rattle.std.proofs.Common.{◌≡◌, ℕ, List, [], ◌∷◌, ◌++◌, Result, Ok, Err, ap, sym, subst, ◌∙◌, inl, append_assoc}
use Rattle.std.specs.Prelude.{IfOk}
use Rattle.std.proofs.lemmas.List.{append-nil}
use Rattle.sno_statement.specs.Statement.{Statement}
use Rattle.sno_statement.specs.declared.outcomes.StatementFault.{StatementFault}
use Rattle.sno_book.specs.Books.{Book, view_of}
use Rattle.sno_book.specs.Entries.{Entry}
use Rattle.sno_book.specs.Views.{View, IsPrefix, AreRelated, and_then}
use Rattle.sno_book.specs.Commits.{GivesSnapshot, IsReady, IsRefused}
use Rattle.sno_book.specs.Proposals.{Proposal, GivesProposal}
use Rattle.sno_book.specs.Snapshots.{Snapshot}
use Rattle.sno_book.specs.declared.faults.CommitFault.{CommitFault}
use Rattle.sno_book.specs.declared.faults.SnapshotFault.{SnapshotFault}

pub is_related : (v w : View) → IsPrefix v w → AreRelated v w
is_related v w begins = inl begins

pub of_snapshot : (r : Result Snapshot SnapshotFault) (v : View) (name : List ℕ) → GivesSnapshot r v name → IfOk r (λ s. s.origin ≡ v)
of_snapshot (Ok s) v name given = given.origin
of_snapshot (Err e) v name given = tt

pub of_proposal : (r : Result Proposal StatementFault) (s : Statement) (snapshot : Snapshot) (v : View) → GivesProposal r s snapshot → snapshot.origin ≡ v → IfOk r (λ p. p.origin ≡ v)
of_proposal (Ok p) s snapshot v given is = given.origin ∙ is
of_proposal (Err e) s snapshot v given is = tt

-- a view begins itself
pub begins_itself : (v w : View) → v ≡ w → IsPrefix v w
begins_itself v w is = record { opening = ap (λ (x : View). x.opening) (sym is); more = []; journal = ap (λ (x : View). x.journal) (sym is) ∙ sym (append-nil v.journal) }

-- and so does a proposal's view, if the book gets one entry more
pub grows : (v before after : View) (e : Entry) → IsPrefix v before → after ≡ and_then before e → IsPrefix v after
grows v before after e begins is = record {
  opening = ap (λ (x : View). x.opening) is ∙ begins.opening;
  more = begins.more ++ e ∷ [];
  journal = ap (λ (x : View). x.journal) is ∙ ap (λ (l : List Entry). l ++ e ∷ []) begins.journal ∙ append_assoc v.journal begins.more (e ∷ []);
}

moved : (v w : View) (p q : Proposal) → w ≡ v → q ≡ p → IsPrefix p.origin v → IsPrefix q.origin w
moved v w p q views proposals begins =
    let P : View → Type 0 = λ x. IsPrefix q.origin x in
    let Q : Proposal → Type 0 = λ x. IsPrefix x.origin v in
    subst P (sym views) (subst Q (sym proposals) begins)

-- a proposal that was refused
pub still : (before after : View) (p back : Proposal) (e : CommitFault) → IsPrefix p.origin before → IsRefused before after p back e → IsPrefix back.origin after
still before after p back e begins refused = moved before after p back refused.unchanged refused.handed_back begins

-- a proposal that was prepared
pub held : (before after : Book) (p ready : Proposal) → IsPrefix p.origin (view_of before) → IsReady before after p ready → IsPrefix ready.origin (view_of after)
held before after p ready begins done = moved (view_of before) (view_of after) p ready done.unchanged done.holds begins

pub related_after : (before after : Book) (p ready : Proposal) → IsPrefix p.origin (view_of before) → IsReady before after p ready → AreRelated ready.origin (view_of after)
related_after before after p ready begins done = inl (held before after p ready begins done)
