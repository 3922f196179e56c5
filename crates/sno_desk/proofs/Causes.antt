-- What a book's refusal says of the proposal.
use Rattle.std.proofs.Common.{◌≡◌, ◌≢◌, ◌≤◌, ◌<◌, ℕ, zero, suc, ◌+◌, Bool, true, false, Some, None, Option, List, [], ◌∷◌, ◌++◌, length, refl, sym, ap, subst, ◌∙◌, arith}
use Rattle.std.specs.Prelude.{nat_eq, slice_get, if◌then◌else◌, Result, Ok, Err, IfOk, IfErr, OnErr}
use Rattle.std.proofs.lemmas.Bool.{eqb-true, eqb-false}
use Rattle.sno_pattern.specs.Identifiers.{same}
use Rattle.sno_book.specs.Books.{Book, view_of}
use Rattle.sno_book.specs.Entries.{Entry}
use Rattle.sno_book.specs.Journals.{HasStep, Legal, replay}
use Rattle.sno_book.specs.Openings.{Opening, start, place_in}
use Rattle.sno_book.specs.Origins.{IsPerformed}
use Rattle.sno_book.specs.Views.{View, IsValid, AreRelated, state_of}
use Rattle.sno_book.specs.States.{VersionedText, State, find}
use Rattle.sno_book.specs.Commits.{IsAccepted, IsRefused, refusal, at_place, beside, full}
use Rattle.sno_book.specs.Proposals.{Proposal, Receipt, entry_of}
use Rattle.sno_book.specs.Laws.{RelatedAgree, VersionsCountEntries}
use Rattle.sno_book.specs.declared.faults.CommitFault.{CommitFault as BookRefusal}
use Rattle.sno_book.specs.declared.faults.CommitFault.TheVariants as fault
use Rattle.sno_book.proofs.BookLaws.{free}
use Rattle.sno_statement.specs.Perform.{perform}
use Rattle.sno_desk.specs.declared.faults.CommitFault.{CommitFault}
use Rattle.sno_desk.specs.declared.faults.CommitFault.TheVariants as commit
use Rattle.sno_desk.specs.Commits.{IsCommitted, IsReturned}
use Rattle.sno_desk.specs.Receipts.{IsCause, IsFor, NamesVersion, StandsAfter}
use Rattle.sno_desk.specs.Replies.{Reply, MayFollow, SpentAt}
use Rattle.sno_desk.specs.Faults.{of_book, of_commit}
use Rattle.sno_desk.specs.Seen.{HasVersion, IsInView, view_after}
use Rattle.sno_desk.specs.Turns.{Position}
use Rattle.sno_book.proofs.Standing.{standing}
use Rattle.sno_published.specs.Tables.{text_after}
use mathlib.Core.List.{IsPrefix as Begins}

-- a property of each refusal that may come holds for the one that comes
module _ (v : View) (p : Proposal) (P : BookRefusal → Type 0) (no_text : place_in v.opening p.statement.text ≢ Some p.place → P fault.NoText)
    (at_end : (held : VersionedText) → slice_get (state_of v) p.place ≡ Some held → p.version ≡ held.version → length v.journal ≡ v.opening.room → P fault.Full)
    (another : (held : VersionedText) → slice_get (state_of v) p.place ≡ Some held → p.version ≢ held.version → P (fault.Changed p.version held.version)) where
  carried : (e d : BookRefusal) → P e → Some e ≡ Some d → P d
  carried e d k h = let q : e ≡ d = cc in subst P q k

  of_full : (e : BookRefusal) (held : VersionedText) (b : Bool) → slice_get (state_of v) p.place ≡ Some held → p.version ≡ held.version → nat_eq (length v.journal) v.opening.room ≡ b
      → (if b then Some fault.Full else None) ≡ Some e → P e
  of_full e held true there same was h = carried fault.Full e (at_end held there same (eqb-true (length v.journal) v.opening.room was)) h
  of_full e held false there same was h = absurd cc

  of_version : (e : BookRefusal) (held : VersionedText) (b : Bool) → slice_get (state_of v) p.place ≡ Some held → nat_eq p.version held.version ≡ b
      → (if b then full v else Some (fault.Changed p.version held.version)) ≡ Some e → P e
  of_version e held true there was h = of_full e held (nat_eq (length v.journal) v.opening.room) there (eqb-true p.version held.version was) refl h
  of_version e held false there was h = carried (fault.Changed p.version held.version) e (another held there (eqb-false p.version held.version was)) h

  of_there : (e : BookRefusal) (held : VersionedText) → slice_get (state_of v) p.place ≡ Some held → beside v p (Some held) ≡ Some e → P e
  of_there e held there h = of_version e held (nat_eq p.version held.version) there refl h

  of_place : (e : BookRefusal) (place : ℕ) (b : Bool) → nat_eq place p.place ≡ b → place_in v.opening p.statement.text ≡ Some place
      → (if b then beside v p (slice_get (state_of v) place) else Some fault.NoText) ≡ Some e → P e
  of_place e place true was at h =
      let same : place ≡ p.place = eqb-true place p.place was in
      let stood = standing v.opening v.journal p.statement.text place at in
      let there = ap (λ (k : ℕ). slice_get (state_of v) k) (sym same) ∙ stood.there in
      of_there e stood.held there (ap (λ (o : Option VersionedText). beside v p o) (sym stood.there) ∙ h)
  of_place e place false was at h =
      let apart : place ≢ p.place = eqb-false place p.place was in
      carried fault.NoText e (no_text (λ q. let same : place ≡ p.place = cc (at, q) in apart same)) h

  of_at : (e : BookRefusal) (o : Option ℕ) → place_in v.opening p.statement.text ≡ o → at_place v p o ≡ Some e → P e
  of_at e None at h = carried fault.NoText e (no_text (λ q. absurd (cc (at, q)))) h
  of_at e (Some place) at h = of_place e place (nat_eq place p.place) refl at h

  by_refusal : (e : BookRefusal) → refusal v p ≡ Some e → P e
  by_refusal e h = of_at e (place_in v.opening p.statement.text) refl h

-- what the book's refusal says of its texts. A text that changed has another version than the proposal's, and the
-- refusal names both. A full journal has as many entries as the opening has room for, and the text has the proposal's
-- version. `NoText` comes only if the opening doesn't have the statement's name at the proposal's place
abbrev pub Explains : BookRefusal → View → Proposal → Type 0
Explains (fault.Changed seen now) v p = (seen ≡ p.version) × (now ≢ seen) × HasVersion v.opening v.journal p.place now
Explains fault.NoText v p = place_in v.opening p.statement.text ≢ Some p.place
Explains fault.Full v p = (length v.journal ≡ v.opening.room) × HasVersion v.opening v.journal p.place p.version
Explains fault.Memory v p = Unit {0}

pub explained : (v : View) (p : Proposal) (e : BookRefusal) → refusal v p ≡ Some e → Explains e v p
explained v p e h =
    by_refusal v p (λ d. Explains d v p) (λ q. q)
    (λ held there same full. (
      full,
      record {
        text = held.text;
        name = held.name;
        there = there ∙ (λ i. Some (record { name = held.name; text = held.text; version = sym same i }));
      },
    ))
    (λ held there differ. (refl, (λ q. differ (sym q)), record { text = held.text; name = held.name; there = there })) e h

-- the desk's refusal has its cause in the view after what the seat has seen, which is the book's
pub cause : (before after : View) (p back : Proposal) (e : BookRefusal) (opening : Opening) (seen : List Entry) → IsRefused before after p back e
    → before.opening ≡ opening → before.journal ≡ seen → IsCause (of_book e) (view_after opening seen) p
cause before after p back e opening seen refused opens is =
    subst (λ (o : Opening). IsCause (of_book e) (view_after o seen) p) opens (subst (λ (l : List Entry). IsCause (of_book e) (view_after before.opening l) p) is (by_cause e refused.cause refused.memory))
  where
    by_cause : (d : BookRefusal) → (d ≢ fault.Memory → refusal before p ≡ Some d) → (d ≡ fault.Memory → refusal before p ≡ None) → IsCause (of_book d) (view_after before.opening before.journal) p
    by_cause fault.NoText h m = h (λ q. cc)
    by_cause (fault.Changed seen now) h m = h (λ q. cc)
    by_cause fault.Full h m = h (λ q. cc)
    by_cause fault.Memory h m = m refl

-- the version that a refusal names is one that a text can have
pub named : (before after : View) (p back : Proposal) (e : BookRefusal) (seats accepted total : ℕ) → IsRefused before after p back e → IsValid before → VersionsCountEntries
    → (seats ≡ 1 → accepted ≡ total) → length before.journal ≡ total → NamesVersion seats accepted (of_book e)
named before after p back (fault.Changed seen now) seats accepted total refused valid law alone counted =
    by_refusal before p (λ d. NamesVersion seats accepted (of_book d)) (λ _. tt) (λ _ _ _ _. tt)
    (λ held there differ.
    let small = law before p.place held there in
    record { within = omega (arith, small, valid.within, valid.opening.room); alone = λ one. let all = alone one in omega (arith, small, all, counted) })
    (fault.Changed seen now) (refused.cause (λ q. cc))
named before after p back e seats accepted total refused valid law alone counted = tt

-- and so is the one that a submit returns
pub spent : (seats accepted : ℕ) (e : CommitFault) → NamesVersion seats accepted e → SpentAt seats accepted (of_commit e)
spent seats accepted (commit.Changed seen now) h = h
spent seats accepted e h = tt

-- ---- views

-- a proposal that nothing refuses has a step
pub has_step : (v : View) (p : Proposal) → refusal v p ≡ None → IsPerformed p.origin p.place p.version p.statement p.outcome → AreRelated p.origin v → RelatedAgree → HasStep (state_of v) (entry_of p)
has_step v p none performed related law =
    let is_free = free v p none in
    let stood = standing v.opening v.journal p.statement.text p.place is_free.placed in
    let held : is_free.versioned ≡ stood.held = cc (is_free.there, stood.there) in
    let version : stood.held.version ≡ p.version = ap (λ (x : VersionedText). x.version) (sym held) ∙ sym is_free.version in
    let text : performed.text ≡ stood.held.text = law p.origin v related p.place _ stood.held performed.held.there stood.there (sym version) in
    record { versioned = stood.held; found = stood.found; at_version = version; performed = subst (λ (l : List ℕ). perform p.statement l ≡ Ok p.outcome) text performed.performed }

-- and so has its entry, from what is shown of the book
pub next_step : (v : View) (p : Proposal) (opening : Opening) (shown : List Entry) (entry : Entry) → HasStep (state_of v) (entry_of p) → v.opening ≡ opening → shown ≡ v.journal
    → entry ≡ entry_of p → HasStep (replay (start opening) shown) entry
next_step v p opening shown entry step opens is same =
    let there : HasStep (replay (start opening) v.journal) (entry_of p) = subst (λ (o : Opening). HasStep (replay (start o) v.journal) (entry_of p)) opens step in
    let on_screen : HasStep (replay (start opening) shown) (entry_of p) = subst (λ (l : List Entry). HasStep (replay (start opening) l) (entry_of p)) (sym is) there in
    subst (λ (e : Entry). HasStep (replay (start opening) shown) e) (sym same) on_screen

-- ---- receipts

-- the entry is in the seat's view, with the text that the entry is for
pub in_view : (before after : View) (p : Proposal) (given : Receipt) (opening : Opening) (seen : List Entry) → IsAccepted before after p given → before.opening ≡ opening
    → Legal (start opening) (before.journal ++ given.entry ∷ []) → Begins (before.journal ++ given.entry ∷ []) seen → IsInView opening seen given
in_view before after p given opening seen a opens legal begins =
    let named : place_in before.opening p.statement.text ≡ Some p.place = (free before p a.free).placed in
    record {
      front = before.journal;
      legal = legal;
      many = sym a.index;
      begins = begins;
      place = p.place;
      named = subst (λ (o : Opening). place_in o given.entry.statement.text ≡ Some p.place) opens (subst (λ (e : Entry). place_in before.opening e.statement.text ≡ Some p.place) (sym a.entry) named);
      text = subst (λ (o : Opening). text_after o before.journal p.place ≡ Some (record { name = given.entry.statement.text; text = given.text; version = given.entry.version })) opens
          (subst (λ (e : Entry). text_after before.opening before.journal p.place ≡ Some (record { name = e.statement.text; text = given.text; version = e.version })) (sym a.entry) a.text);
    }

-- a text that is found by its name is at a place
place_of : (name : List ℕ) (state : State) (held : VersionedText) → find name state ≡ Some held → (place : ℕ) × (slice_get state place ≡ Some held)
place_of name [] held h = absurd cc
place_of name (first ∷ state) held h = by_name (same name first.name) h (place_of name state held)
  where
    by_name : (b : Bool) → (if b then Some first else find name state) ≡ Some held
        → (find name state ≡ Some held → (place : ℕ) × (slice_get state place ≡ Some held)) → (place : ℕ) × (slice_get (first ∷ state) place ≡ Some held)
    by_name true h later = (zero, h)
    by_name false h later = let there = later h in (suc there.0, there.1)

-- no entry has a version above the number of entries before it
pub version_counts : (before after : View) (p : Proposal) (given : Receipt) → IsAccepted before after p given → VersionsCountEntries → given.entry.version ≤ given.index
version_counts before after p given a law =
    let held = a.has_step.versioned in
    let there = place_of p.statement.text (state_of before) held a.has_step.found in
    let small : held.version ≤ length before.journal = law before there.0 held there.1 in
    let at : held.version ≡ p.version = a.has_step.at_version in
    let entry : given.entry.version ≡ p.version = ap (λ (r : Entry). r.version) a.entry in
    let index : given.index ≡ length before.journal = a.index in
    omega arith

-- the receipt's index is no lower than the number of entries that the seat had accepted
pub stands : (before after : View) (p : Proposal) (given : Receipt) (seats accepted total : ℕ) → IsAccepted before after p given → VersionsCountEntries → accepted ≤ total
    → (seats ≡ 1 → accepted ≡ total) → length before.journal ≡ total → length before.journal < before.opening.room → before.opening.room ≤ 1000000
    → StandsAfter seats accepted given
stands before after p given seats accepted total a law below alone counted room few =
    let version = version_counts before after p given a law in
    let index : given.index ≡ length before.journal = a.index in
    record { after = omega arith; alone = λ one. let all : accepted ≡ total = alone one in omega arith; within = omega arith; version = version }

-- a submit may return a receipt with a possible index, or a refusal with a possible version
pub follows : (seats accepted : ℕ) (r : Reply) → IfOk r (λ receipt. StandsAfter seats accepted receipt) → IfErr r (λ e. SpentAt seats accepted e) → MayFollow seats accepted r
follows seats accepted (Ok receipt) stands spent = stands
follows seats accepted (Err e) stands spent = spent

-- ---- a commit, from the publish at its end

-- the seat has seen more since the commit began, and the proposal is the one that was made ready
pub committed_since : (opening : Opening) (seats : ℕ) (first before after : Position) (p ready : Proposal) (reply : Result Receipt (CommitFault × Proposal)) → before.accepted ≡ first.accepted
    → length first.seen ≤ length before.seen → ready ≡ p → IfOk reply (λ r. IsCommitted opening seats before after ready r) → IfOk reply (λ r. IsCommitted opening seats first after p r)
committed_since opening seats first before after p ready (Ok r) count more is h = record {
  receipt = subst (λ (q : Proposal). IsFor r q) is h.receipt;
  index = subst (λ (n : ℕ). StandsAfter seats n r) count h.index;
  later = let later = h.later in omega (arith, more, later);
  in_view = h.in_view;
  counted = h.counted ∙ ap (λ (n : ℕ). n + 1) count;
}
committed_since opening seats first before after p ready (Err e) count more is h = tt

-- the publish had no memory, and nothing else refuses the proposal
pub returned_since : (opening : Opening) (seats : ℕ) (first before after : Position) (held : Book) (p ready : Proposal) (reply : Result Receipt (CommitFault × Proposal)) → before.accepted ≡ first.accepted
    → held.opening ≡ opening → held.journal ≡ before.seen → refusal (view_of held) p ≡ None → ready ≡ p → IfErr reply (λ r. (r.0 ≡ commit.Memory) × (r.1 ≡ ready))
    → OnErr reply (after.accepted ≡ before.accepted) → OnErr reply (after.seen ≡ before.seen) → IfErr reply (λ r. IsReturned opening seats first after p r.0 r.1)
returned_since opening seats first before after held p ready (Ok r) count opens level free is back same seen = tt
returned_since opening seats first before after held p ready (Err r) count opens level free is back same seen =
    let cause : refusal (view_after opening after.seen) p ≡ None =
    subst (λ (o : Opening). refusal (view_after o after.seen) p ≡ None) opens (subst (λ (l : List Entry). refusal (view_after held.opening l) p ≡ None) (level ∙ sym seen) free) in
    record {
      back = back.1 ∙ is;
      cause = subst (λ (e : CommitFault). IsCause e (view_after opening after.seen) p) (sym back.0) cause;
      version = subst (λ (e : CommitFault). NamesVersion seats first.accepted e) (sym back.0) tt;
      same = same ∙ count;
    }
