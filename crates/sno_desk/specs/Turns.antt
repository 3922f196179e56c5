-- How jobs are dealt out to the seats in turn, and how their replies are put back in order.
use Rattle.std.specs.Prelude.{◌≡◌, ◌≤◌, ℕ, zero, suc, ◌+◌, ◌-◌, List, [], ◌∷◌, ◌++◌, Option, Some, None, length, sum_by}
use mathlib.Core.List.{IsPrefix as Begins}
use Rattle.sno_statement.specs.Statement.{Statement}
use Rattle.sno_book.specs.Entries.{Entry}
use Rattle.sno_book.specs.Openings.{Opening}
use Rattle.sno_desk.specs.Replies.{Reply, IsReply, IsReplyAt, MayFollow, receipts_in}

-- the elements at the place `first` and then at each `count`-th place after it: those of the seat `first` of `count`
-- seats
abbrev pub every : {A : Type 0} → ℕ → ℕ → List A → List A
every count first [] = []
every count zero (x ∷ xs) = x ∷ every count (count - 1) xs
every count (suc first) (x ∷ xs) = every count first xs

-- there are as many replies as jobs, and each is for the job at its place
abbrev pub AreReplies : (Statement → Reply → Type 0) → List Statement → List Reply → Type 0
AreReplies A [] [] = Unit {0}
AreReplies A [] (r ∷ replies) = ⊥
AreReplies A (s ∷ jobs) [] = ⊥
AreReplies A (s ∷ jobs) (r ∷ replies) = A s r × AreReplies A jobs replies

-- the position of a seat: how many proposals were accepted through it, and what it has seen
pub record Position : Type 0 where
  pub accepted : ℕ
  pub seen : List Entry

abbrev pub position : ℕ → List Entry → Position
position accepted seen = record { accepted = accepted; seen = seen }

-- a seat has gone on from the first position to the second: its count is no lower, and what it had seen begins what it
-- has seen
pub record HasGrown (before after : Position) : Type 0 where
  pub accepted : before.accepted ≤ after.accepted
  pub begins : Begins before.seen after.seen

-- a submit of this statement by a seat, which takes it from the first position to the second
pub record IsSubmitted (shuts : ℕ → ℕ → Type 0) (tries : ℕ) (opening : Opening) (seats : ℕ) (before after : Position) (s : Statement) (r : Reply) : Type 0 where
  pub allowed : IsReply shuts tries opening s r
  pub at : IsReplyAt tries opening before.seen after.seen s r
  pub begins : Begins before.seen after.seen
  pub follows : MayFollow seats before.accepted r
  pub counted : after.accepted ≡ before.accepted + receipts_in r

-- the replies to the jobs of one seat, in their order. Each submit begins at the position in which the one before it
-- left the seat, and the last one leaves it at `after`. So the index of each receipt is above that of the receipt
-- before, and it is the next one if the desk has no other seat
abbrev pub InTurn : (Position → Position → Statement → Reply → Type 0) → Position → Position → List Statement → List Reply → Type 0
InTurn A before after [] [] = before ≡ after
InTurn A before after [] (r ∷ replies) = ⊥
InTurn A before after (s ∷ jobs) [] = ⊥
InTurn A before after (s ∷ jobs) (r ∷ replies) = (between : Position) × A before between s r × InTurn A between after jobs replies

-- these replies take the seat from `before` to `now`; followed by those to the jobs that are left, they are for all
-- jobs of the seat
pub record Goes (A : Position → Position → Statement → Reply → Type 0) (before now : Position) (all left : List Statement) (replies : List Reply) : Type 0 where
  pub on : (after : Position) (more : List Reply) → InTurn A now after left more → InTurn A before after all (replies ++ more)

-- each seat's share, raised by the number of receipts among its replies
abbrev pub shares_after : ℕ → ℕ → List ℕ → List Reply → List ℕ
shares_after count first [] replies = []
shares_after count first (share ∷ shares) replies = (share + sum_by receipts_in (every count first replies)) ∷ shares_after count (suc first) shares replies

-- a seat that kept its replies has one for each of its jobs, in turn; nothing is known of a seat that ran out of memory
abbrev pub HasWorked : (Position → Position → Statement → Reply → Type 0) → List Statement → Position → Position → Option (List Reply) → Type 0
HasWorked A jobs before after None = Unit {0}
HasWorked A jobs before after (Some replies) = InTurn A before after jobs replies

-- the list begins with these elements
pub record BeginsWith {A : Type 0} (xs front : List A) : Type 0 where
  pub left : List A
  pub joined : xs ≡ front ++ left

-- each queue begins with its seat's replies
abbrev pub Deals : {A : Type 0} → ℕ → ℕ → List (List A) → List A → Type 0
Deals count first [] replies = Unit {0}
Deals count first (queue ∷ queues) replies = BeginsWith queue (every count first replies) × Deals count (suc first) queues replies

-- each queue has as many replies as there are jobs for its seat
abbrev pub HasTurns : {X : Type 0} → ℕ → ℕ → List (List X) → List Statement → Type 0
HasTurns count first [] jobs = Unit {0}
HasTurns count first (queue ∷ queues) jobs = (length queue ≡ length (every count first jobs)) × HasTurns count (suc first) queues jobs
