-- What a statement does to a book.
use Rattle.std.proofs.Common.{◌≡◌, ◌≢◌, ℕ, List, [], ◌∷◌, ◌++◌, length, Option, Some, None, Result, Ok, Err, refl, ap, sym, subst, ◌∙◌, arith}
use Rattle.std.specs.Prelude.{option_and_then}
use Rattle.std.specs.Option.{option_map}
use Rattle.sno_statement.specs.Statement.{Statement}
use Rattle.sno_statement.specs.Perform.{Outcome, perform}
use Rattle.sno_statement.proofs.NotMemory.{IsNotMemory, of_perform}
use Rattle.sno_statement.specs.declared.outcomes.StatementFault.{StatementFault}
use Rattle.sno_statement.specs.declared.outcomes.StatementFault.TheVariants as fault
use Rattle.sno_book.specs.States.{VersionedText, find}
use Rattle.sno_book.specs.Entries.{Entry}
use Rattle.sno_book.specs.Views.{View, state_of}
use Rattle.sno_book.specs.Books.{Book, view_of}
use Rattle.sno_book.specs.Laws.{FreshIsFree}
use Rattle.sno_book.specs.declared.faults.CommitFault.{CommitFault}
use Rattle.sno_book.specs.declared.faults.CommitFault.TheVariants as commits
use Rattle.sno_rewrite.specs.Histories.{HasRoom}
use Rattle.sno_book.specs.Proposals.{Proposal, Proposes, GivesProposal, Receipt, entry_of}
use Rattle.sno_book.specs.Commits.{IsSnapshot, GivesSnapshot, IsAccepted, IsRefused, refusal}
use Rattle.sno_book.specs.declared.faults.SnapshotFault.{SnapshotFault}
use Rattle.sno_book.specs.declared.faults.SnapshotFault.TheVariants as snapshots
use Rattle.sno_book.specs.Snapshots.{Snapshot}
use Rattle.sno_listing.specs.History.{History, history_of}
use Rattle.sno_listing.specs.declared.refusals.Refusal.{Refusal}
use Rattle.sno_book.specs.Openings.{start}
use Rattle.sno_document.specs.Document.{room}
use Rattle.sno_rewrite.specs.Serial.{HasSerial, refuse, accept, settle, reason_of, perform_on, advance, run}
use Rattle.sno_listing.specs.declared.refusals.Reason.{Reason}
use Rattle.sno_listing.specs.declared.refusals.Reason.TheVariants.{NoText, TextTooLong, TooManyTrials}

-- there is no text of that name
pub advance_none : (h : History) (s : Statement) → find s.text h.state ≡ None → advance h s ≡ Some (refuse h s NoText)
unfolding advance
advance_none h s none = ap (λ (o : Option VersionedText). perform_on h s o) none

-- performing it is refused
pub advance_refused : (h : History) (s : Statement) (held : VersionedText) (e : StatementFault) (reason : Reason) → find s.text h.state ≡ Some held → perform s held.text ≡ Err e → reason_of e ≡ Some reason
    → advance h s ≡ Some (refuse h s reason)
unfolding advance
advance_refused h s held e reason found performed is =
    ap (λ (o : Option VersionedText). perform_on h s o) found ∙ ap (λ (r : Result Outcome StatementFault). settle h s held.version r) performed
    ∙ ap (option_map (λ (r : Reason). refuse h s r)) is

-- the statement is performed
pub advance_done : (h : History) (s : Statement) (held : VersionedText) (done : Outcome) → find s.text h.state ≡ Some held → perform s held.text ≡ Ok done
    → advance h s ≡ Some (accept h (record { statement = s; version = held.version; outcome = done }))
unfolding advance
advance_done h s held done found performed =
    ap (λ (o : Option VersionedText). perform_on h s o) found ∙ ap (λ (r : Result Outcome StatementFault). settle h s held.version r) performed

-- the same for a book with its refused statements
pub refused_none : (v : View) (s : Statement) (number : ℕ) (old new : List Refusal) → number ≡ s.number → find s.text (state_of v) ≡ None
    → new ≡ old ++ record { number = number; reason = NoText } ∷ [] → advance (history_of v old) s ≡ Some (history_of v new)
refused_none v s number old new same none grown =
    advance_none (history_of v old) s none ∙ ap (λ (n : ℕ). Some (history_of v (old ++ record { number = n; reason = NoText } ∷ []))) (sym same)
    ∙ ap (λ (l : List Refusal). Some (history_of v l)) (sym grown)

pub refused_for : (v : View) (s : Statement) (number : ℕ) (snapshot : Snapshot) (old new : List Refusal) (e : StatementFault) (reason : Reason) → number ≡ s.number → IsSnapshot v s.text snapshot
    → perform s snapshot.text ≡ Err e → reason_of e ≡ Some reason → new ≡ old ++ record { number = number; reason = reason } ∷ []
    → advance (history_of v old) s ≡ Some (history_of v new)
refused_for v s number snapshot old new e reason same taken performed is grown =
    advance_refused (history_of v old) s (record { name = s.text; text = snapshot.text; version = snapshot.version }) e reason taken.found performed is
    ∙ ap (λ (n : ℕ). Some (history_of v (old ++ record { number = n; reason = reason } ∷ []))) (sym same)
    ∙ ap (λ (l : List Refusal). Some (history_of v l)) (sym grown)

pub committed : (v w : View) (s : Statement) (snapshot : Snapshot) (p : Proposal) (r : Receipt) (refused : List Refusal) → IsSnapshot v s.text snapshot → Proposes p s snapshot
    → IsAccepted v w p r → advance (history_of v refused) s ≡ Some (history_of w refused)
committed v w s snapshot p r refused taken proposed accepted =
    let entry : Entry = record { statement = s; version = snapshot.version; outcome = p.outcome } in
    let same : entry_of p ≡ entry = (λ i. record { statement = proposed.statement i; version = proposed.version i; outcome = p.outcome }) in
    let journal : w.journal ≡ v.journal ++ entry_of p ∷ [] = ap (λ (x : View). x.journal) accepted.appended in
    let stepped : history_of w refused ≡ accept (history_of v refused) (entry_of p) = (λ i. record { state = accepted.stepped i; journal = journal i; refused = refused }) in
    advance_done (history_of v refused) s (record { name = s.text; text = snapshot.text; version = snapshot.version }) p.outcome taken.found proposed.outcome
    ∙ ap (λ (e : Entry). Some (accept (history_of v refused) e)) (sym same) ∙ ap (λ (h : History). Some h) (sym stepped)

-- one statement more, and then those that are left
pub run_more : (h g : History) (s : Statement) (statements : List Statement) → advance h s ≡ Some g → run h (s ∷ statements) ≡ run g statements
run_more h g s statements advanced = ap (option_and_then (λ (x : History). run x statements)) advanced

-- a result other than out of memory is entered or refused
settled_result : (h : History) (s : Statement) (version : ℕ) (result : Result Outcome StatementFault) → IsNotMemory result → (g : History) × (settle h s version result ≡ Some g)
settled_result h s version (Ok done) allowed = (accept h (record { statement = s; version = version; outcome = done }), refl)
settled_result h s version (Err fault.TextTooLong) allowed = (refuse h s TextTooLong, refl)
settled_result h s version (Err fault.Memory) allowed = absurd allowed
settled_result h s version (Err fault.TooManyTrials) allowed = (refuse h s TooManyTrials, refl)

-- by its definition, performing a statement never runs out of memory
perform_settled : (h : History) (s : Statement) (held : Option VersionedText) → (g : History) × (perform_on h s held ≡ Some g)
perform_settled h s None = (refuse h s NoText, refl)
perform_settled h s (Some held) = settled_result h s held.version (perform s held.text) (of_perform s held.text)

advance_settled : (h : History) (s : Statement) → (g : History) × (advance h s ≡ Some g)
unfolding advance
advance_settled h s = perform_settled h s (find s.text h.state)

run_settled : (h : History) (statements : List Statement) → (g : History) × (run h statements ≡ Some g)
run_settled h [] = (h, refl)
run_settled h (s ∷ statements) =
    let first = advance_settled h s in
    let rest = run_settled first.0 statements in (rest.0, run_more h first.0 s statements first.1 ∙ rest.1)

-- each document has a serial run
pub has_serial : HasSerial
has_serial d = run_settled (record { state = start (record { texts = d.texts; room = room }); journal = []; refused = [] }) d.statements

-- the name by which the snapshot was taken, and the statement that was proposed
pub taken_as : (v : View) (name other : List ℕ) (snapshot : Snapshot) → name ≡ other → IsSnapshot v name snapshot → IsSnapshot v other snapshot
taken_as v name other snapshot same taken = subst (λ n. IsSnapshot v n snapshot) same taken

pub proposed_as : (p : Proposal) (s other : Statement) (snapshot : Snapshot) → s ≡ other → Proposes p s snapshot → Proposes p other snapshot
proposed_as p s other snapshot same proposed = subst (λ t. Proposes p t snapshot) same proposed

-- what the refusals say
pub no_text : (v : View) (name other : List ℕ) (e : SnapshotFault) → name ≡ other → e ≡ snapshots.NoText → GivesSnapshot (Err e) v name → find other (state_of v) ≡ None
no_text v name other snapshots.NoText same is h = ap (λ (n : List ℕ). find n (state_of v)) (sym same) ∙ h.1
no_text v name other snapshots.Memory same is h = cc

pub too_long : (s other : Statement) (snapshot : Snapshot) (e : StatementFault) → s ≡ other → e ≡ fault.TextTooLong → GivesProposal (Err e) s snapshot
    → perform other snapshot.text ≡ Err fault.TextTooLong
too_long s other snapshot fault.TextTooLong same is h = ap (λ (t : Statement). perform t snapshot.text) (sym same) ∙ h
too_long s other snapshot fault.Memory same is h = cc
too_long s other snapshot fault.TooManyTrials same is h = cc

pub too_many : (s other : Statement) (snapshot : Snapshot) (e : StatementFault) → s ≡ other → e ≡ fault.TooManyTrials → GivesProposal (Err e) s snapshot
    → perform other snapshot.text ≡ Err fault.TooManyTrials
too_many s other snapshot fault.TooManyTrials same is h = ap (λ (t : Statement). perform t snapshot.text) (sym same) ∙ h
too_many s other snapshot fault.Memory same is h = cc
too_many s other snapshot fault.TextTooLong same is h = cc

-- ---- a proposal on a current text

refused_memory : (v : View) (p : Proposal) (e : CommitFault) → refusal v p ≡ None → (e ≢ commits.Memory → refusal v p ≡ Some e) → e ≡ commits.Memory
refused_memory v p commits.Memory none cause = refl
refused_memory v p commits.NoText none cause = let is = cause (λ q. cc) in cc
refused_memory v p (commits.Changed seen now) none cause = let is = cause (λ q. cc) in cc
refused_memory v p commits.Full none cause = let is = cause (λ q. cc) in cc

-- if there is room, it is refused only if memory runs out
pub only_memory : FreshIsFree → (book : Book) (after : View) (s : Statement) (snapshot : Snapshot) (p back : Proposal) (e : CommitFault) → HasRoom book 1
    → IsSnapshot (view_of book) s.text snapshot → Proposes p s snapshot → IsRefused (view_of book) after p back e → e ≡ commits.Memory
only_memory law book after s snapshot p back e has_room taken proposed refused =
    refused_memory (view_of book) p e (law (view_of book) snapshot s p taken proposed (λ (full : length book.journal ≡ book.opening.room). omega (arith, full, has_room.opening, has_room.few))) refused.cause
