-- What is accepted through a seat that serves, one step after the other.
use Rattle.std.proofs.Common.{◌≡◌, ◌≤◌, ◌+◌, ℕ, List, [], ◌∷◌, ◌++◌, length, refl, ap, sym, subst, ◌∙◌, arith, inl, inr}
use Rattle.std.specs.Prelude.{Ok, Err, Some, slice_get}
use mathlib.Core.List.{IsPrefix as Begins}
use Rattle.sno_statement.specs.Statement.{Statement}
use Rattle.sno_book.specs.Entries.{Entry}
use Rattle.sno_book.specs.Openings.{Opening}
use Rattle.sno_published.proofs.Prefixes.{prefix_length, prefix_self, prefix_trans}
use Rattle.sno_desk.specs.Replies.{Reply, IsReply, IsReplyAt, receipts_in}
use Rattle.sno_desk.specs.Turns.{Position, position}
use Rattle.sno_serve.specs.Accepted.{Accepts, AsksFor, HasAccepted, HasLooked, HasServed, HasTaken, IsGiven}
use Rattle.sno_serve.specs.Asked.{asked_in, within}
use Rattle.sno_serve.specs.AtVersion.{AtResult, IsResultAt, receipts_at}
use Rattle.sno_serve.specs.declared.asked.Asked.{Asked}
use Rattle.sno_pattern.specs.Definitions.{Definitions}
use Rattle.sno_document.specs.declared.modes.Mode.{Mode}

-- a seat that did nothing has looked
pub looked_self : (p : Position) → HasLooked p p
looked_self p = record { begins = prefix_self p.seen; same = refl }

looked_on : (first between after : Position) → HasLooked first between → HasLooked between after → HasLooked first after
looked_on first between after before then_on = record {
  begins = prefix_trans first.seen between.seen after.seen before.begins then_on.begins;
  same = then_on.same ∙ before.same;
}

module _ (may : Statement → Type 0) where
  -- what was accepted after a look was accepted after what came before it
  accepted_later : (entry : Entry) (first between after : Position) → HasLooked first between → HasAccepted may entry between after → HasAccepted may entry first after
  accepted_later entry first between after looked accepted =
      let few : length first.seen ≤ length between.seen = prefix_length first.seen between.seen looked.begins in
      let later : length between.seen ≤ length accepted.front = accepted.later in
      record {
        asked = accepted.asked;
        front = accepted.front;
        begins = prefix_trans first.seen between.seen after.seen looked.begins accepted.begins;
        later = omega (arith, few, later);
        seen = accepted.seen;
        counted = accepted.counted ∙ ap (λ (n : ℕ). n + 1) looked.same;
      }

  after_look : (entries : List Entry) (first between after : Position) → HasLooked first between → Accepts may entries between after → Accepts may entries first after
  after_look [] first between after looked rest = looked_on first between after looked rest
  after_look (entry ∷ entries) first between after looked (at, (accepted, rest)) = (at, (accepted_later entry first between at looked accepted, rest))

  accepts_on : (one other : List Entry) (first between after : Position) → Accepts may one first between → Accepts may other between after → Accepts may (one ++ other) first after
  accepts_on [] other first between after looked rest = after_look other first between after looked rest
  accepts_on (entry ∷ one) other first between after (at, (accepted, more)) rest = (at, (accepted, accepts_on one other at between after more rest))

  -- a seat that did nothing has served
  pub served_self : (p : Position) → HasServed may p p
  served_self p = record { entries = []; accepted = looked_self p }

  pub served_on : (first between after : Position) → HasServed may first between → HasServed may between after → HasServed may first after
  served_on first between after one other = record { entries = one.entries ++ other.entries; accepted = accepts_on one.entries other.entries first between after one.accepted other.accepted }

  -- a seat that took at most one statement has served
  pub served_taken : (first after : Position) → HasTaken may first after → HasServed may first after
  served_taken first after (inl looked) = record { entries = []; accepted = looked }
  served_taken first after (inr (entry, accepted)) = record { entries = entry ∷ []; accepted = (after, (accepted, looked_self after)) }

-- what is accepted of one kind of statements is accepted of another that has them
pub taken_wider : (may wide : Statement → Type 0) → ((s : Statement) → may s → wide s) → (first after : Position) → HasTaken may first after → HasTaken wide first after
taken_wider may wide wider first after (inl looked) = inl looked
taken_wider may wide wider first after (inr (entry, accepted)) = inr (
  entry,
  record {
    asked = wider entry.statement accepted.asked;
    front = accepted.front;
    begins = accepted.begins;
    later = accepted.later;
    seen = accepted.seen;
    counted = accepted.counted;
  },
)

-- a submit takes at most one statement
pub taken : (tries : ℕ) (opening : Opening) (count counted : ℕ) (before after : List Entry) (s : Statement) (returned : Reply) → IsReply (λ _ _. ⊥) tries opening s returned
    → IsReplyAt tries opening before after s returned → Begins before after → counted ≡ count + receipts_in returned
    → HasTaken (λ t. t ≡ s) (position count before) (position counted after)
taken tries opening count counted before after s (Ok receipt) allowed at begins risen = inr (
  receipt.entry,
  record {
    asked = allowed.1;
    front = at.1.front;
    begins = begins;
    later = let index : length at.1.front ≡ receipt.index = at.1.many in let later : length before ≤ receipt.index = at.0 in omega (arith, index, later);
    seen = at.1.begins;
    counted = risen;
  },
)
taken tries opening count counted before after s (Err fault) allowed at begins risen = inl (record { begins = begins; same = omega (arith, risen) })

-- one attempt at a version takes at most one statement
pub taken_at : (opening : Opening) (count counted : ℕ) (before after : List Entry) (s : Statement) (version : ℕ) (gave : AtResult) → IsResultAt opening before after s version gave
    → Begins before after → counted ≡ count + receipts_at gave → HasTaken (λ t. t ≡ s) (position count before) (position counted after)
taken_at opening count counted before after s version (Ok receipt) done begins risen = inr (
  receipt.entry,
  record {
    asked = done.statement;
    front = done.shown.front;
    begins = begins;
    later = let index : length done.shown.front ≡ receipt.index = done.shown.many in let later : length before ≤ receipt.index = done.later in omega (arith, index, later);
    seen = done.shown.begins;
    counted = risen;
  },
)
taken_at opening count counted before after s version (Err fault) done begins risen = inl (record { begins = begins; same = omega (arith, risen) })

-- what a seat took for a line that asks for a statement is of a statement that was read
pub line_served : (rules : Definitions) (statements : List Statement) (mode : Mode) (number : ℕ) (line : List ℕ) (asked : Asked) (first after : Position)
    → asked ≡ within mode.trials (asked_in rules mode number line) → HasTaken (AsksFor asked) first after → HasServed (IsGiven rules statements mode) first after
line_served rules statements mode number line asked first after is took =
    let read : (s : Statement) → AsksFor asked s → IsGiven rules statements mode s = λ s q. inr (record { number = number; line = line; asked = subst (λ (a : Asked). AsksFor a s) is q }) in
    served_taken (IsGiven rules statements mode) first after (taken_wider (AsksFor asked) (IsGiven rules statements mode) read first after took)

-- what a seat took for a statement of the document is of that statement
pub among_served : (rules : Definitions) (statements : List Statement) (mode : Mode) (place : ℕ) (s : Statement) (first after : Position)
    → slice_get statements place ≡ Some s → HasTaken (λ t. t ≡ s) first after → HasServed (IsGiven rules statements mode) first after
among_served rules statements mode place s first after there took =
    let among : (t : Statement) → t ≡ s → IsGiven rules statements mode t = λ t same. inl (record { place = place; there = there ∙ ap (λ (u : Statement). Some u) (sym same) }) in
    served_taken (IsGiven rules statements mode) first after (taken_wider (λ t. t ≡ s) (IsGiven rules statements mode) among first after took)
