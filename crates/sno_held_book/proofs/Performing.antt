-- What the steps of an attempt say together.
use Rattle.std.proofs.Common.{◌≡◌, ◌≢◌, ◌∙◌, ◌⊎◌, inl, inr, ℕ, List, [], ◌∷◌, ◌++◌, length, Some, refl, sym, ap, subst}
use Rattle.std.specs.Prelude.{Ok, Err, slice_get}
use Rattle.std.proofs.lemmas.List.{append-nil}
use Rattle.sno_statement.specs.Statement.{Statement}
use Rattle.sno_statement.specs.Perform.{perform}
use Rattle.sno_statement.specs.declared.outcomes.StatementFault.{StatementFault}
use Rattle.sno_statement.specs.declared.outcomes.StatementFault.TheVariants as statement
use Rattle.sno_book.specs.Commits.{IsAccepted, IsRefused, IsSnapshot}
use Rattle.sno_book.specs.Entries.{Entry}
use Rattle.sno_book.specs.Openings.{place_in}
use Rattle.sno_book.specs.Proposals.{Proposal, Proposes, GivesProposal, Receipt, entry_of}
use Rattle.sno_book.specs.Snapshots.{Snapshot}
use Rattle.sno_book.specs.States.{VersionedText}
use Rattle.sno_book.specs.Views.{View, AreRelated, IsPrefix, state_of}
use Rattle.sno_book.specs.declared.faults.CommitFault.{CommitFault as BookRefusal}
use Rattle.sno_book.specs.declared.faults.CommitFault.TheVariants as book
use Rattle.sno_desk.specs.Faults.{of_book, of_commit, of_snapshot, of_statement}
use Rattle.sno_desk.specs.Replies.{Reply}
use Rattle.sno_desk.specs.Seen.{HasVersion}
use Rattle.sno_desk.specs.declared.faults.SnapshotFault.{SnapshotFault}
use Rattle.sno_desk.specs.declared.faults.SnapshotFault.TheVariants as snapshots
use Rattle.sno_desk.specs.declared.faults.SubmitFault.{SubmitFault}
use Rattle.sno_desk.specs.declared.faults.SubmitFault.TheVariants as submits
use Rattle.sno_desk.proofs.Causes.{explained}
use Rattle.sno_serve.specs.AtVersion.{AtResult, IsChanged}
use Rattle.sno_serve.specs.declared.at_version.AtFault.TheVariants as at
use Rattle.sno_held_book.specs.Lines.{GivesAttempt, GivesTaken, HasTaken, IsAppended, IsAttempted, IsDone, IsDoneAt, IsHindered}

-- a text has one version
one_version : (v : View) (place a b : ℕ) → HasVersion v.opening v.journal place a → HasVersion v.opening v.journal place b → a ≡ b
one_version v place a b h k =
    let both : Some (record { name = h.name; text = h.text; version = a }) ≡ Some (record { name = k.name; text = k.text; version = b }) = sym h.there ∙ k.there in
    let same : record { name = h.name; text = h.text; version = a } ≡ record { name = k.name; text = k.text; version = b } = cc in
    ap (λ (x : VersionedText). x.version) same

-- there is no snapshot of the text
pub untaken : (v : View) (s its : Statement) (name : List ℕ) (e : SnapshotFault) (fault : SubmitFault) → name ≡ its.text → its ≡ s → GivesTaken (Err e) v name → fault ≡ of_snapshot e
    → IsHindered v s fault × (fault ≢ submits.Full)
untaken v s its name e fault called same h is =
    let named : name ≡ s.text = called ∙ ap (λ (t : Statement). t.text) same in
    subst (λ (f : SubmitFault). IsHindered v s f × (f ≢ submits.Full)) (sym is) (by_cause e (subst (λ (n : List ℕ). GivesTaken (Err e) v n) named h))
  where
    by_cause : (d : SnapshotFault) → GivesTaken (Err d) v s.text → IsHindered v s (of_snapshot d) × (of_snapshot d ≢ submits.Full)
    by_cause snapshots.NoText k = (k, λ q. cc)
    by_cause snapshots.Memory k = (k, λ q. cc)
    by_cause snapshots.Stopped k = absurd k

-- the text has its place, if there is a snapshot of it
has_text : (v : View) (s : Statement) (taken : Snapshot) → IsSnapshot v s.text taken → IsHindered v s submits.Memory
has_text v s taken h = λ q. let place = h.place in cc

-- the statement can't be shared
pub unshared : (v : View) (s its : Statement) (name : List ℕ) (taken : Snapshot) → name ≡ its.text → its ≡ s → GivesTaken (Ok taken) v name
    → IsHindered v s submits.Memory × (submits.Memory ≢ submits.Full)
unshared v s its name taken called same h =
    let named : name ≡ s.text = called ∙ ap (λ (t : Statement). t.text) same in (has_text v s taken (subst (λ (n : List ℕ). IsSnapshot v n taken) named h), λ q. cc)

-- performing it is refused
pub unperformed : (v : View) (s its shared : Statement) (name : List ℕ) (taken : Snapshot) (e : StatementFault) (fault : SubmitFault) → name ≡ its.text → its ≡ s → GivesTaken (Ok taken) v name
    → shared ≡ s → GivesProposal (Err e) shared taken → fault ≡ of_statement e → IsHindered v s fault × (fault ≢ submits.Full)
unperformed v s its shared name taken e fault called same h own given is =
    let named : name ≡ s.text = called ∙ ap (λ (t : Statement). t.text) same in
    subst (λ (f : SubmitFault). IsHindered v s f × (f ≢ submits.Full)) (sym is)
    (by_cause e (subst (λ (n : List ℕ). IsSnapshot v n taken) named h) (subst (λ (t : Statement). GivesProposal (Err e) t taken) own given))
  where
    by_cause : (d : StatementFault) → IsSnapshot v s.text taken → GivesProposal (Err d) s taken → IsHindered v s (of_statement d) × (of_statement d ≢ submits.Full)
    by_cause statement.TextTooLong k g =
        (record { place = taken.place; named = k.place; held = record { name = s.text; text = taken.text; version = taken.version }; there = k.there; performed = g }, λ q. cc)
    by_cause statement.TooManyTrials k g =
        (record { place = taken.place; named = k.place; held = record { name = s.text; text = taken.text; version = taken.version }; there = k.there; performed = g }, λ q. cc)
    by_cause statement.Memory k g = (has_text v s taken k, λ q. cc)

-- it is performed
pub attempted : (v : View) (s its shared : Statement) (name : List ℕ) (taken : Snapshot) (p : Proposal) → name ≡ its.text → its ≡ s → GivesTaken (Ok taken) v name → shared ≡ s
    → Proposes p shared taken → IsAttempted v s p
attempted v s its shared name taken p called same h own made =
    let named : name ≡ s.text = called ∙ ap (λ (t : Statement). t.text) same in
    let k : IsSnapshot v s.text taken = subst (λ (n : List ℕ). IsSnapshot v n taken) named h in
    let version : taken.version ≡ p.version = sym made.version in
    record {
      statement = made.statement ∙ own;
      origin = made.origin ∙ k.origin;
      place = k.place ∙ ap (λ (n : ℕ). Some n) (sym made.place);
      text = taken.text;
      there = ap (λ (n : ℕ). slice_get (state_of v) n) made.place ∙ k.there ∙ ap (λ (n : ℕ). Some (record { name = s.text; text = taken.text; version = n })) version;
      performed = ap (λ (t : Statement). perform t taken.text) (sym own) ∙ made.outcome;
    }

-- a proposal on the book as it is now has its view
pub related : (v : View) (s : Statement) (p : Proposal) → IsAttempted v s p → AreRelated p.origin v
related v s p h =
    let whole : IsPrefix v v = record { opening = refl; more = []; journal = sym (append-nil v.journal) } in
    subst (λ (w : View). AreRelated w v) (sym h.origin) (inl whole)

-- the commit was accepted
pub accepted : (v w : View) (s : Statement) (p : Proposal) (r : Receipt) → IsAttempted v s p → IsAccepted v w p r → IsAppended v w s r
accepted v w s p r h a =
    let entry : r.entry ≡ entry_of p = a.entry in
    let version : p.version ≡ r.entry.version = ap (λ (e : Entry). e.version) (sym entry) in
    let text : slice_get (state_of v) p.place ≡ Some (record { name = s.text; text = r.text; version = p.version })
    = a.text ∙ ap (λ (t : Statement). Some (record { name = t.text; text = r.text; version = p.version })) h.statement in
    let both : Some (record { name = s.text; text = h.text; version = p.version }) ≡ Some (record { name = s.text; text = r.text; version = p.version }) = sym h.there ∙ text in
    let held : record { name = s.text; text = h.text; version = p.version } ≡ record { name = s.text; text = r.text; version = p.version } = cc in
    let same : h.text ≡ r.text = ap (λ (x : VersionedText). x.text) held in
    record {
      statement = ap (λ (e : Entry). e.statement) entry ∙ h.statement;
      index = a.index;
      place = p.place;
      named = h.place;
      text = text ∙ ap (λ (n : ℕ). Some (record { name = s.text; text = r.text; version = n })) version;
      performed = ap (λ (t : List ℕ). perform s t) (sym same) ∙ h.performed ∙ ap (λ (e : Entry). Ok e.outcome) (sym entry);
      appended = subst (λ (e : Entry). w ≡ record { opening = v.opening; journal = v.journal ++ e ∷ [] }) (sym entry) a.appended;
    }

-- the commit was refused
pub uncommitted : (v w : View) (s : Statement) (p back : Proposal) (e : BookRefusal) (fault : SubmitFault) → IsAttempted v s p → IsRefused v w p back e → fault ≡ of_commit (of_book e)
    → IsHindered v s fault × (w ≡ v)
uncommitted v w s p back e fault h refused is = subst (λ (f : SubmitFault). IsHindered v s f × (w ≡ v)) (sym is) (by_cause e refused, refused.unchanged)
  where
    placed : place_in v.opening p.statement.text ≡ Some p.place
    placed = ap (λ (t : Statement). place_in v.opening t.text) h.statement ∙ h.place

    by_cause : (d : BookRefusal) → IsRefused v w p back d → IsHindered v s (of_commit (of_book d))
    by_cause book.NoText r = absurd (explained v p book.NoText (r.cause (λ q. cc)) placed)
    by_cause (book.Changed seen now) r =
        let told = explained v p (book.Changed seen now) (r.cause (λ q. cc)) in
        let own : HasVersion v.opening v.journal p.place p.version = record { text = h.text; name = s.text; there = h.there } in
        let level : now ≡ p.version = one_version v p.place now p.version told.2 own in
        absurd (told.1 (level ∙ sym told.0))
    by_cause book.Full r =
        let told = explained v p book.Full (r.cause (λ q. cc)) in
        (told.0, record { place = p.place; named = h.place; held = record { name = s.text; text = h.text; version = p.version }; there = h.there; outcome = p.outcome; performed = h.performed })
    by_cause book.Memory r = λ q. let place = h.place in cc

-- the text has another version
pub changed : (v : View) (s its : Statement) (name : List ℕ) (taken : Snapshot) (version : ℕ) → name ≡ its.text → its ≡ s → GivesTaken (Ok taken) v name → taken.version ≢ version
    → IsChanged v.opening v.journal s version taken.version
changed v s its name taken version called same h other =
    let named : name ≡ s.text = called ∙ ap (λ (t : Statement). t.text) same in
    let k : IsSnapshot v s.text taken = subst (λ (n : List ℕ). IsSnapshot v n taken) named h in
    record { place = taken.place; named = k.place; versioned = record { text = taken.text; name = s.text; there = k.there }; other = other }

-- an entry of a text that has this version
pub done_at : (v w : View) (s its : Statement) (name : List ℕ) (taken : Snapshot) (version : ℕ) (r : Receipt) → name ≡ its.text → its ≡ s → GivesTaken (Ok taken) v name → taken.version ≡ version
    → IsAppended v w s r → IsAppended v w s r × (r.entry.version ≡ version)
done_at v w s its name taken version r called same h at_version done =
    let named : name ≡ s.text = called ∙ ap (λ (t : Statement). t.text) same in
    let k : IsSnapshot v s.text taken = subst (λ (n : List ℕ). IsSnapshot v n taken) named h in
    let both : Some done.place ≡ Some taken.place = sym done.named ∙ k.place in
    let place : done.place ≡ taken.place = cc in
    let its_own : HasVersion v.opening v.journal taken.place taken.version = record { text = taken.text; name = s.text; there = k.there } in
    let found : HasVersion v.opening v.journal done.place r.entry.version = record { text = r.text; name = s.text; there = done.text } in
    let level = one_version v taken.place r.entry.version taken.version (subst (λ (n : ℕ). HasVersion v.opening v.journal n r.entry.version) place found) its_own in
    (done, level ∙ at_version)

-- at most one entry is appended, of the statement
pub taken : (v w : View) (s its : Statement) (gave : Reply) → its ≡ s → IsDone v w its gave → HasTaken (λ t. t ≡ s) v w
taken v w s its (Ok r) same h = inr (record { entry = r.entry; asked = h.statement ∙ same; appended = h.appended })
taken v w s its (Err fault) same h = inl h.1

-- .. if its text has one version
pub taken_at : (v w : View) (s its : Statement) (version : ℕ) (gave : AtResult) → its ≡ s → IsDoneAt v w its version gave → HasTaken (λ t. t ≡ s) v w
taken_at v w s its version (Ok r) same h = inr (record { entry = r.entry; asked = h.0.statement ∙ same; appended = h.0.appended })
taken_at v w s its version (Err (at.Changed now)) same h = inl h.1
taken_at v w s its version (Err (at.Refused fault)) same h = inl h.1
