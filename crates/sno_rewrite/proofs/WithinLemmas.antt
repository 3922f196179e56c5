-- Each reply of the workers is one that a submit returns at points of the closed journal.
use Rattle.std.proofs.Common.{◌≡◌, ◌<◌, ◌≤◌, ℕ, List, [], ◌∷◌, length, get_or, sym, subst, arith}
use Rattle.std.specs.List.{All}
use Rattle.std.proofs.lemmas.List.Elements.{All-get_or}
use mathlib.Core.List.{IsPrefix as Begins}
use Rattle.sno_statement.specs.Statement.{Statement}
use Rattle.sno_book.specs.Entries.{Entry}
use Rattle.sno_book.specs.Openings.{Opening}
use Rattle.sno_published.proofs.Prefixes.{prefix_self, prefix_trans}
use Rattle.sno_desk.specs.Replies.{Reply}
use Rattle.sno_desk.specs.Turns.{AreReplies, InTurn, IsSubmitted, Position, every, position}
use Rattle.sno_desk.proofs.Turns.{all_replies}
use Rattle.sno_rewrite.specs.Owners.{IsReplyWithin}
use Rattle.sno_rewrite.proofs.TurnLemmas.{first_of}

module _ (shuts : ℕ → ℕ → Type 0) (tries : ℕ) (opening : Opening) (seats : ℕ) where
  -- over the replies of a seat, what it has seen only grows
  seen_grows : (before after : Position) (jobs : List Statement) (replies : List Reply) → InTurn (IsSubmitted shuts tries opening seats) before after jobs replies → Begins before.seen after.seen
  seen_grows before after [] [] a = subst (λ (p : Position). Begins before.seen p.seen) a (prefix_self before.seen)
  seen_grows before after [] (r ∷ replies) a = absurd a
  seen_grows before after (s ∷ jobs) [] a = absurd a
  seen_grows before after (s ∷ jobs) (r ∷ replies) a = prefix_trans before.seen a.0.seen after.seen a.1.begins (seen_grows a.0 after jobs replies a.2)

  module _ (journal : List Entry) where
    abbrev Within : Statement → Reply → Type 0
    Within = IsReplyWithin tries (record { opening = opening; journal = journal })

    -- the replies of one seat
    within_turns : (before after : Position) (jobs : List Statement) (replies : List Reply) → InTurn (IsSubmitted shuts tries opening seats) before after jobs replies → Begins after.seen journal
        → AreReplies Within jobs replies
    within_turns before after [] [] a begins = tt
    within_turns before after [] (r ∷ replies) a begins = absurd a
    within_turns before after (s ∷ jobs) [] a begins = absurd a
    within_turns before after (s ∷ jobs) (r ∷ replies) a begins = (
      record {
        before = before.seen;
        after = a.0.seen;
        grown = a.1.begins;
        begins = prefix_trans a.0.seen after.seen journal (seen_grows a.0 after jobs replies a.2) begins;
        at = a.1.at;
      },
      within_turns a.0 after jobs replies a.2 begins,
    )

    -- the replies of all seats
    within_all : {X : Type 0} (share : X → ℕ) (view : X → List Entry) (jobs : List Statement) (replies : List Reply) (old new : List X)
        → 1 ≤ length old → length new ≡ length old → length replies ≡ length jobs
        → ((k : ℕ) (d : X) → k < length old → InTurn (IsSubmitted shuts tries opening seats) (position (share (get_or old k d)) (view (get_or old k d))) (position (share (get_or new k d)) (view (get_or new k d)))
        (every (length old) k jobs) (every (length old) k replies))
        → All (λ x. Begins (view x) journal) new → AreReplies Within jobs replies
    within_all share view jobs replies old new some even many turns seen =
        all_replies Within (length old) some jobs replies many
        (λ k h.
        let d = first_of old k h in
        let before = position (share (get_or old k d)) (view (get_or old k d)) in
        let after = position (share (get_or new k d)) (view (get_or new k d)) in
        within_turns before after (every (length old) k jobs) (every (length old) k replies) (turns k d h)
        (All-get_or (λ x. Begins (view x) journal) new k d (omega (arith, h, even)) seen))

-- the same for a book with that opening
pub within_book : {X : Type 0} (shuts : ℕ → ℕ → Type 0) (tries : ℕ) (opening its : Opening) (seats : ℕ) (journal : List Entry) (share : X → ℕ) (view : X → List Entry) (jobs : List Statement) (replies : List Reply) (old new : List X)
    → its ≡ opening → 1 ≤ length old → length new ≡ length old → length replies ≡ length jobs
    → ((k : ℕ) (d : X) → k < length old → InTurn (IsSubmitted shuts tries opening seats) (position (share (get_or old k d)) (view (get_or old k d))) (position (share (get_or new k d)) (view (get_or new k d)))
    (every (length old) k jobs) (every (length old) k replies))
    → All (λ x. Begins (view x) journal) new → AreReplies (IsReplyWithin tries (record { opening = its; journal = journal })) jobs replies
within_book shuts tries opening its seats journal share view jobs replies old new same some even many turns seen =
    subst (λ (o : Opening). AreReplies (IsReplyWithin tries (record { opening = o; journal = journal })) jobs replies) (sym same)
    (within_all shuts tries opening seats journal share view jobs replies old new some even many turns seen)
