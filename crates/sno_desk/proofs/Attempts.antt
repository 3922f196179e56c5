-- From one attempt to the next: what a seat has seen only grows, and with each lost try the text's version rises by at
-- least one.
use Rattle.std.proofs.Common.{◌≡◌, ◌≢◌, ◌≤◌, ◌<◌, ℕ, ◌+◌, true, List, [], length, Some, None, refl, sym, ap, subst, ◌∙◌, arith}
use Rattle.std.specs.Prelude.{Ok, Err, IfOk, IfErr, IsTrue}
use Rattle.std.specs.List.{list_all}
use Rattle.std.specs.Char.{is_ascii}
use Rattle.std.proofs.lemmas.List.{append-nil}
use mathlib.Core.List.{IsPrefix as Begins}
use Rattle.sno_statement.specs.Statement.{Statement}
use Rattle.sno_statement.specs.Perform.{perform}
use Rattle.sno_statement.specs.declared.outcomes.StatementFault.{StatementFault}
use Rattle.sno_statement.specs.declared.outcomes.StatementFault.TheVariants as statement
use Rattle.sno_book.specs.Entries.{Entry}
use Rattle.sno_book.specs.Openings.{Opening, place_in}
use Rattle.sno_book.specs.Proposals.{Proposal, Receipt, Proposes, GivesProposal}
use Rattle.sno_book.specs.Snapshots.{Snapshot}
use Rattle.sno_book.specs.States.{VersionedText}
use Rattle.sno_book.specs.Views.{View, IsPrefix}
use Rattle.sno_book.specs.declared.faults.CommitFault.TheVariants as book
use Rattle.sno_book.proofs.Rising.{versions_only_rise_in_place}
use Rattle.sno_published.specs.Tables.{text_after, text_at}
use Rattle.sno_published.proofs.Prefixes.{prefix_self, prefix_trans, prefix_length}
use Rattle.sno_desk.specs.declared.faults.CommitFault.{CommitFault}
use Rattle.sno_desk.specs.declared.faults.CommitFault.TheVariants as commit
use Rattle.sno_desk.specs.declared.faults.SnapshotFault.{SnapshotFault}
use Rattle.sno_desk.specs.declared.faults.SnapshotFault.TheVariants as snapshot
use Rattle.sno_desk.specs.declared.faults.SubmitFault.TheVariants as submit
use Rattle.sno_desk.specs.Replies.{Reply, IsReplyAt, DecidesNoText, HasRisen, IsJustified, MayFollow, SpentAt, is_lost, receipts_in}
use Rattle.sno_desk.specs.Faults.{of_commit, of_snapshot, of_statement}
use Rattle.sno_desk.specs.Receipts.{IsCause, StandsAfter}
use Rattle.sno_desk.specs.Seen.{GivesSeen, HasVersion, IsSeen, IsInView, view_after}
use Rattle.sno_desk.specs.Turns.{IsSubmitted, Position}
use Rattle.sno_book.proofs.Standing.{standing}
use Rattle.sno_desk.proofs.Causes.{explained, follows}

-- ---- versions

abbrev held : List ℕ → List ℕ → ℕ → VersionedText
held name text version = record { name = name; text = text; version = version }

one_version : (opening : Opening) (seen : List Entry) (place a b : ℕ) → HasVersion opening seen place a → HasVersion opening seen place b → a ≡ b
one_version opening seen place a b h k =
    let both : Some (held h.name h.text a) ≡ Some (held k.name k.text b) = sym h.there ∙ k.there in
    let same : held h.name h.text a ≡ held k.name k.text b = cc in
    ap (λ (x : VersionedText). x.version) same

rises : (opening : Opening) (before after : List Entry) (place a b : ℕ) → Begins before after → HasVersion opening before place a → HasVersion opening after place b → a ≤ b
rises opening before after place a b begins h k =
    let prefix : IsPrefix (view_after opening before) (view_after opening after) = record { opening = refl; more = begins.0; journal = sym begins.1 } in
    (versions_only_rise_in_place (view_after opening before) (view_after opening after) prefix place (held h.name h.text a) (held k.name k.text b) h.there k.there).version

-- a text that has kept its version has kept its characters
one_text : (opening : Opening) (before after : List Entry) (place version : ℕ) → Begins before after → (h : HasVersion opening before place version)
    → (k : HasVersion opening after place version) → h.text ≡ k.text
one_text opening before after place version begins h k =
    let prefix : IsPrefix (view_after opening before) (view_after opening after) = record { opening = refl; more = begins.0; journal = sym begins.1 } in
    (versions_only_rise_in_place (view_after opening before) (view_after opening after) prefix place (held h.name h.text version) (held k.name k.text version) h.there k.there).text refl

-- the text of a name has a version after any entries
versioned : (opening : Opening) (seen : List Entry) (name : List ℕ) (place : ℕ) → place_in opening name ≡ Some place → (version : ℕ) × HasVersion opening seen place version
versioned opening seen name place h =
    let stood = standing opening seen name place h in
    (stood.held.version, record { text = stood.held.text; name = stood.held.name; there = stood.there })

one_place : (opening : Opening) (name : List ℕ) (a b : ℕ) → place_in opening name ≡ Some a → place_in opening name ≡ Some b → a ≡ b
one_place opening name a b h k = let both : Some a ≡ Some b = sym h ∙ k in cc

-- ---- the attempts so far

-- at the beginning of this attempt, counted from 1: what the seat has seen begins with what it had seen; the version of
-- the statement's text has risen by at least one with each earlier attempt
pub record HasCome (opening : Opening) (earlier seen : List Entry) (s : Statement) (attempt : ℕ) : Type 0 where
  pub begins : Begins earlier seen
  pub risen : (place was is : ℕ) → place_in opening s.text ≡ Some place → HasVersion opening earlier place was → HasVersion opening seen place is → was + attempt ≤ is + 1

pub come_first : (opening : Opening) (seen : List Entry) (s : Statement) → HasCome opening seen seen s 1
come_first opening seen s = record {
  begins = prefix_self seen;
  risen = λ place was is named h k. let same = one_version opening seen place was is h k in omega (arith, same);
}

-- after a lost try: the version that the text had, and the one that this try saw
lost_more : (opening : Opening) (earlier seen after : List Entry) (s : Statement) (attempt saw now : ℕ) → HasCome opening earlier seen s attempt → HasRisen opening seen after s 1 saw now
    → (place was : ℕ) → place_in opening s.text ≡ Some place → HasVersion opening earlier place was → was + attempt ≤ saw + 1
lost_more opening earlier seen after s attempt saw now come last place was named h =
    let mid = versioned opening seen s.text place named in
    let same : place ≡ last.place = one_place opening s.text place last.place named last.named in
    let there : HasVersion opening seen last.place mid.0 = subst (λ (k : ℕ). HasVersion opening seen k mid.0) same mid.1 in
    let before : was + attempt ≤ mid.0 + 1 = come.risen place was mid.0 named h mid.1 in
    let more : mid.0 + 1 ≤ saw + 1 = last.risen mid.0 there in
    omega (arith, before, more)

pub come_next : (opening : Opening) (earlier seen after : List Entry) (s : Statement) (attempt : ℕ) (reply : Reply) → is_lost reply ≡ true → HasCome opening earlier seen s attempt
    → Begins seen after → IsReplyAt 1 opening seen after s reply → HasCome opening earlier after s (attempt + 1)
come_next opening earlier seen after s attempt (Err (submit.TriesSpent was_seen now)) lost come begins last = record {
  begins = prefix_trans earlier seen after come.begins begins;
  risen = λ place was is named h k.
      let more = lost_more opening earlier seen after s attempt was_seen now come last place was named h in
      let higher : was_seen < now = last.higher in
      let same : place ≡ last.place = one_place opening s.text place last.place named last.named in
      let there : HasVersion opening after last.place is = subst (λ (p : ℕ). HasVersion opening after p is) same k in
      let level = one_version opening after last.place is now there last.versioned in
      omega (arith, more, higher, level);
}
come_next opening earlier seen after s attempt reply lost come begins last = absurd cc

-- ---- the result of the last attempt is that of all

pub last_at : (tries : ℕ) (opening : Opening) (earlier seen after : List Entry) (s : Statement) (attempt : ℕ) (reply : Reply) → (is_lost reply ≡ true → attempt ≡ tries)
    → HasCome opening earlier seen s attempt → IsReplyAt 1 opening seen after s reply → IsReplyAt tries opening earlier after s reply
last_at tries opening earlier seen after s attempt (Err (submit.TriesSpent was_seen now)) all come last =
    let level : attempt ≡ tries = all refl in
    record {
      place = last.place;
      named = last.named;
      between = last.between;
      since = prefix_trans earlier seen last.between come.begins last.since;
      until = last.until;
      saw = last.saw;
      outcome = last.outcome;
      performed = last.performed;
      versioned = last.versioned;
      higher = last.higher;
      risen = λ version h.
          let more = lost_more opening earlier seen after s attempt was_seen now come last last.place version last.named h in omega (arith, more, level);
    }
last_at tries opening earlier seen after s attempt (Ok receipt) all come last =
    let more = prefix_length earlier seen come.begins in
    let many = last.0 in
    (omega (arith, more, many), last.1)
last_at tries opening earlier seen after s attempt reply all come last = last

pub last_justified : (shuts : ℕ → ℕ → Type 0) (tries : ℕ) (opening : Opening) (earlier seen after : List Entry) (s : Statement) (attempt : ℕ) (reply : Reply)
    → (is_lost reply ≡ true → attempt ≡ tries) → HasCome opening earlier seen s attempt → IsReplyAt 1 opening seen after s reply → IsJustified shuts tries 1 s reply → IsJustified shuts tries tries s reply
last_justified shuts tries opening earlier seen after s attempt (Err (submit.TriesSpent was_seen now)) all come last justified =
    let level : attempt ≡ tries = all refl in
    let was = versioned opening earlier s.text last.place last.named in
    let more = lost_more opening earlier seen after s attempt was_seen now come last last.place was.0 last.named was.1 in
    let higher : was_seen < now = justified.0 in
    (justified.0, omega (arith, more, higher, level))
last_justified shuts tries opening earlier seen after s attempt reply all come last justified = justified

-- so the submit ends with it
pub submitted : (shuts : ℕ → ℕ → Type 0) (tries : ℕ) (opening : Opening) (seats : ℕ) (first before after : Position) (s : Statement) (attempt : ℕ) (reply : Reply)
    → (is_lost reply ≡ true → attempt ≡ tries) → before.accepted ≡ first.accepted → HasCome opening first.seen before.seen s attempt → DecidesNoText opening s reply
    → IsJustified shuts tries 1 s reply → IsReplyAt 1 opening before.seen after.seen s reply → Begins before.seen after.seen → IfOk reply (λ r. StandsAfter seats before.accepted r)
    → IfErr reply (λ e. SpentAt seats before.accepted e) → after.accepted ≡ before.accepted + receipts_in reply → IsSubmitted shuts tries opening seats first after s reply
submitted shuts tries opening seats first before after s attempt reply all same come no_text justified last begins index spent counted = record {
  allowed = (no_text, last_justified shuts tries opening first.seen before.seen after.seen s attempt reply all come last justified);
  at = last_at tries opening first.seen before.seen after.seen s attempt reply all come last;
  begins = prefix_trans first.seen before.seen after.seen come.begins begins;
  follows = subst (λ (n : ℕ). MayFollow seats n reply) same (follows seats before.accepted reply index spent);
  counted = counted ∙ ap (λ (n : ℕ). n + receipts_in reply) same;
}

-- ---- one attempt: the snapshot

pub seen_no_text : (e : SnapshotFault) (opening : Opening) (seen : List Entry) (s : Statement) → GivesSeen (Err e) opening seen s.text → DecidesNoText opening s (Err (of_snapshot e))
seen_no_text snapshot.NoText opening seen s h = h
seen_no_text snapshot.Stopped opening seen s h = h
seen_no_text snapshot.Memory opening seen s h = h

pub seen_justified : (e : SnapshotFault) (shuts : ℕ → ℕ → Type 0) (tries : ℕ) (s : Statement) → IsJustified shuts tries 1 s (Err (of_snapshot e))
seen_justified snapshot.NoText shuts tries s = tt
seen_justified snapshot.Stopped shuts tries s = tt
seen_justified snapshot.Memory shuts tries s = tt

pub seen_at : (e : SnapshotFault) (opening : Opening) (before after : List Entry) (s : Statement) → IsReplyAt 1 opening before after s (Err (of_snapshot e))
seen_at snapshot.NoText opening before after s = tt
seen_at snapshot.Stopped opening before after s = tt
seen_at snapshot.Memory opening before after s = tt

-- if the name has a place, `place_in` doesn't return `None`
pub has_place : (opening : Opening) (name : List ℕ) (place : ℕ) → place_in opening name ≡ Some place → place_in opening name ≢ None
has_place opening name place h = λ q. cc

-- ---- one attempt: the statement on the snapshot

pub performed_no_text : (e : StatementFault) (opening : Opening) (s : Statement) → place_in opening s.text ≢ None → DecidesNoText opening s (Err (of_statement e))
performed_no_text statement.TextTooLong opening s h = h
performed_no_text statement.Memory opening s h = h
performed_no_text statement.TooManyTrials opening s h = h

pub performed_justified : (e : StatementFault) (shuts : ℕ → ℕ → Type 0) (tries : ℕ) (s : Statement) (taken : Snapshot) → length taken.text ≤ 65536 → IsTrue (list_all is_ascii taken.text)
    → GivesProposal (Err e) s taken → IsJustified shuts tries 1 s (Err (of_statement e))
performed_justified statement.TextTooLong shuts tries s taken short ascii h = record { text = taken.text; short = short; ascii = ascii; performed = h }
performed_justified statement.Memory shuts tries s taken short ascii h = tt
performed_justified statement.TooManyTrials shuts tries s taken short ascii h = record { text = taken.text; short = short; ascii = ascii; performed = h }

pub performed_at : (e : StatementFault) (opening : Opening) (before seen : List Entry) (s : Statement) (taken : Snapshot) → IsSeen opening seen s.text taken → GivesProposal (Err e) s taken
    → IsReplyAt 1 opening before seen s (Err (of_statement e))
performed_at statement.TextTooLong opening before seen s taken h given =
    record { place = taken.place; named = h.place; held = text_at opening taken.place taken.text taken.version; there = h.there; performed = given }
performed_at statement.Memory opening before seen s taken h given = tt
performed_at statement.TooManyTrials opening before seen s taken h given =
    record { place = taken.place; named = h.place; held = text_at opening taken.place taken.text taken.version; there = h.there; performed = given }

-- ---- one attempt: the commit

-- a proposal of the statement on what the seat has seen
pub record IsProposed (opening : Opening) (seen : List Entry) (s : Statement) (p : Proposal) : Type 0 where
  pub statement : p.statement ≡ s
  pub named : place_in opening s.text ≡ Some p.place
  pub versioned : HasVersion opening seen p.place p.version
  pub performed : perform s versioned.text ≡ Ok p.outcome
  pub prefix : IsPrefix p.origin (view_after opening seen)

pub proposed : (opening : Opening) (seen : List Entry) (s : Statement) (taken : Snapshot) (p : Proposal) → IsSeen opening seen s.text taken → Proposes p s taken → IsProposed opening seen s p
proposed opening seen s taken p h made =
    let origin : view_after opening seen ≡ p.origin = sym (made.origin ∙ h.origin) in
    let whole : IsPrefix (view_after opening seen) (view_after opening seen) = record { opening = refl; more = []; journal = sym (append-nil seen) } in
    let name = (text_at opening taken.place taken.text taken.version).name in
    let at : text_after opening seen taken.place ≡ Some (held name taken.text p.version)
    = h.there ∙ ap (λ (v : ℕ). Some (held name taken.text v)) (sym made.version) in
    record {
      statement = made.statement;
      named = h.place ∙ ap (λ (k : ℕ). Some k) (sym made.place);
      versioned = record { text = taken.text; name = name; there = ap (λ (k : ℕ). text_after opening seen k) made.place ∙ at };
      performed = made.outcome;
      prefix = subst (λ (v : View). IsPrefix v (view_after opening seen)) origin whole;
    }

-- the same from the results of the calls
pub proposed_on : (opening : Opening) (seen : List Entry) (s its : Statement) (name : List ℕ) (taken : Snapshot) (p : Proposal) → name ≡ s.text → its ≡ s → IsSeen opening seen name taken → Proposes p its taken
    → IsProposed opening seen s p
proposed_on opening seen s its name taken p called same h made =
    proposed opening seen s taken p (subst (λ (n : List ℕ). IsSeen opening seen n taken) called h) (subst (λ (t : Statement). Proposes p t taken) same made)

pub committed_no_text : (e : CommitFault) (opening : Opening) (seen after : List Entry) (s : Statement) (p : Proposal) → IsProposed opening seen s p → IsCause e (view_after opening after) p → DecidesNoText opening s (Err (of_commit e))
committed_no_text commit.NoText opening seen after s p h why =
    let away = explained (view_after opening after) p book.NoText why in absurd (away (ap (λ (t : Statement). place_in opening t.text) h.statement ∙ h.named))
committed_no_text e opening seen after s p h why = has_place opening s.text p.place h.named

-- a text that changed has risen past the proposal's version
changed : (opening : Opening) (seen after : List Entry) (s : Statement) (p : Proposal) (was now : ℕ) → IsProposed opening seen s p → Begins seen after → IsCause (commit.Changed was now) (view_after opening after) p → was < now
changed opening seen after s p was now h begins why =
    let told = explained (view_after opening after) p (book.Changed was now) why in
    let up = rises opening seen after p.place p.version now begins h.versioned told.2 in
    let is : was ≡ p.version = told.0 in
    let apart : now ≢ was = told.1 in
    omega (arith, up, is, apart)

pub committed_justified : (e : CommitFault) (shuts : ℕ → ℕ → Type 0) (tries : ℕ) (opening : Opening) (seen after : List Entry) (s : Statement) (p : Proposal) → IsProposed opening seen s p → Begins seen after
    → IsCause e (view_after opening after) p → IsJustified shuts tries 1 s (Err (of_commit e))
committed_justified (commit.Changed was now) shuts tries opening seen after s p h begins why = let up = changed opening seen after s p was now h begins why in (up, omega (arith, up))
committed_justified e shuts tries opening seen after s p h begins why = tt

pub committed_at : (e : CommitFault) (opening : Opening) (before seen after : List Entry) (s : Statement) (p : Proposal) → IsProposed opening seen s p → Begins before seen → Begins seen after
    → IsCause e (view_after opening after) p → IsReplyAt 1 opening before after s (Err (of_commit e))
committed_at (commit.Changed was now) opening before seen after s p h first then_on why =
    let up = changed opening seen after s p was now h then_on why in
    let told = explained (view_after opening after) p (book.Changed was now) why in
    let is : was ≡ p.version = told.0 in
    record {
      place = p.place;
      named = h.named;
      between = seen;
      since = first;
      until = then_on;
      saw = record {
        text = h.versioned.text;
        name = h.versioned.name;
        there = h.versioned.there ∙ ap (λ (v : ℕ). Some (held h.versioned.name h.versioned.text v)) (sym is);
      };
      outcome = p.outcome;
      performed = h.performed;
      versioned = told.2;
      higher = up;
      risen = λ version k. let below = rises opening before seen p.place version p.version first k h.versioned in omega (arith, below, is);
    }
committed_at commit.Full opening before seen after s p h first then_on why =
    let told = explained (view_after opening after) p book.Full why in
    let same = one_text opening seen after p.place p.version then_on h.versioned told.1 in (
      told.0,
      record {
        place = p.place;
        named = h.named;
        held = held told.1.name told.1.text p.version;
        there = told.1.there;
        outcome = p.outcome;
        performed = subst (λ (l : List ℕ). perform s l ≡ Ok p.outcome) same h.performed;
      },
    )
committed_at e opening before seen after s p h first then_on why = tt

pub received_at : (opening : Opening) (before seen after : List Entry) (s : Statement) (receipt : Receipt) → Begins before seen → length seen ≤ receipt.index → IsInView opening after receipt
    → IsReplyAt 1 opening before after s (Ok receipt)
received_at opening before seen after s receipt begins later told = let more = prefix_length before seen begins in (omega (arith, more, later), told)
