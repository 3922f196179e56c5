-- What a commit does to its seat, which it takes from one position to another.
use Rattle.std.specs.Prelude.{◌≡◌, ◌≤◌, ℕ, ◌+◌, length}
use Rattle.sno_book.specs.Openings.{Opening}
use Rattle.sno_book.specs.Proposals.{Proposal, Receipt}
use Rattle.sno_desk.specs.declared.faults.CommitFault.{CommitFault}
use Rattle.sno_desk.specs.Receipts.{IsCause, IsFor, NamesVersion, StandsAfter}
use Rattle.sno_desk.specs.Seen.{IsInView, view_after}
use Rattle.sno_desk.specs.Turns.{Position}

-- the proposal was accepted with this receipt
pub record IsCommitted (opening : Opening) (seats : ℕ) (before after : Position) (p : Proposal) (r : Receipt) : Type 0 where
  pub receipt : IsFor r p
  pub index : StandsAfter seats before.accepted r
  pub later : length before.seen ≤ r.index
  pub in_view : IsInView opening after.seen r
  pub counted : after.accepted ≡ before.accepted + 1

-- the proposal was refused, and came back
pub record IsReturned (opening : Opening) (seats : ℕ) (before after : Position) (p : Proposal) (fault : CommitFault) (returned : Proposal) : Type 0 where
  pub back : returned ≡ p
  pub cause : IsCause fault (view_after opening after.seen) p
  pub version : NamesVersion seats before.accepted fault
  pub same : after.accepted ≡ before.accepted
