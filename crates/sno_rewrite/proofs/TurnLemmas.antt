-- The receipts of one worker are in the journal in the order of its statements.
use Rattle.std.proofs.Common.{◌≡◌, ◌<◌, ◌≤◌, ◌⊎◌, inl, inr, ℕ, zero, suc, ◌+◌, ◌-◌, ◌*◌, List, [], ◌∷◌, ◌++◌, length, length-append, get_or, Ok, Some, slice_get, refl, ap, sym, subst, ◌∙◌, arith}
use Rattle.std.proofs.Math.Nat.{suc-mul, add-mul}
use Rattle.std.proofs.lemmas.Bool.{cases_lt}
use Rattle.sno_statement.specs.Statement.{Statement}
use Rattle.sno_book.specs.Entries.{Entry}
use Rattle.sno_book.specs.Openings.{Opening}
use Rattle.sno_book.specs.Proposals.{Receipt}
use Rattle.sno_published.proofs.Prefixes.{prefix_length}
use Rattle.sno_desk.specs.Replies.{Reply, IsReplyAt}
use Rattle.sno_desk.specs.Seen.{IsInView}
use Rattle.sno_desk.specs.Turns.{InTurn, IsSubmitted, Position, every, position}
use Rattle.sno_rewrite.specs.Owners.{AreInTurn}

-- ---- places

-- the element at one of a worker's turns, by its place among all elements
every_at : {X : Type 0} (count first turn place : ℕ) (xs : List X) → 1 ≤ count → place ≡ first + turn * count → slice_get (every count first xs) turn ≡ slice_get xs place
every_at count first turn place [] some e = refl
every_at count zero zero place (x ∷ xs) some e = let front : place ≡ 0 = omega arith in ap (λ k. slice_get (x ∷ xs) k) (sym front)
every_at count zero (suc turn) zero (x ∷ xs) some e = let grown = suc-mul turn count in absurd (omega (arith, grown))
every_at count zero (suc turn) (suc place) (x ∷ xs) some e = let grown = suc-mul turn count in every_at count (count - 1) turn place xs some (omega (arith, grown))
every_at count (suc first) turn zero (x ∷ xs) some e = absurd (omega arith)
every_at count (suc first) turn (suc place) (x ∷ xs) some e = every_at count first turn place xs some (omega arith)

-- the worker whose turn a place is, and the number of that turn among the worker's turns
record IsTurn (count place : ℕ) : Type 0 where
  first : ℕ
  turn : ℕ
  inside : first < count
  is : place ≡ first + turn * count

next_turn : (count place : ℕ) → (before : IsTurn count place) → ((before.first + 1) < count) ⊎ (count ≤ (before.first + 1)) → IsTurn count (suc place)
next_turn count place before (inl more) =
    let is : place ≡ before.first + before.turn * count = before.is in
    record { first = before.first + 1; turn = before.turn; inside = more; is = omega (arith, is) }
next_turn count place before (inr last) =
    let is : place ≡ before.first + before.turn * count = before.is in
    let inside : before.first < count = before.inside in
    let grown = suc-mul before.turn count in
    record { first = 0; turn = suc before.turn; inside = omega (arith, inside); is = omega (arith, is, inside, last, grown) }

turn_of : (count place : ℕ) → 1 ≤ count → IsTurn count place
turn_of count zero some = record { first = 0; turn = 0; inside = omega arith; is = omega arith }
turn_of count (suc place) some = let before = turn_of count place some in next_turn count place before (cases_lt (before.first + 1) count)

-- an element of a list that is not empty
pub first_of : {X : Type 0} (xs : List X) (k : ℕ) → k < length xs → X
first_of [] k h = absurd (omega arith)
first_of (x ∷ xs) k h = x

-- ---- the receipts of one seat

module _ (shuts : ℕ → ℕ → Type 0) (tries : ℕ) (opening : Opening) (seats : ℕ) where
  -- a receipt's entry is among those that its seat has seen
  told_inside : (seen : List Entry) (receipt : Receipt) → IsInView opening seen receipt → receipt.index < length seen
  told_inside seen receipt told =
      let many = told.many in
      let grown = length-append told.front (receipt.entry ∷ []) in
      let inside = prefix_length (told.front ++ receipt.entry ∷ []) seen told.begins in omega (arith, many, grown, inside)

  -- and comes after all that the seat had seen before
  index_after : (before after : Position) (jobs : List Statement) (replies : List Reply) → InTurn (IsSubmitted shuts tries opening seats) before after jobs replies
      → (turn : ℕ) (receipt : Receipt) → slice_get replies turn ≡ Some (Ok receipt) → length before.seen ≤ receipt.index
  index_after before after [] [] a turn receipt h = absurd cc
  index_after before after [] (x ∷ replies) a turn receipt h = absurd a
  index_after before after (s ∷ jobs) [] a turn receipt h = absurd a
  index_after before after (s ∷ jobs) (x ∷ replies) a zero receipt h =
      let is : x ≡ Ok receipt = cc in (subst (λ (y : Reply). IsReplyAt tries opening before.seen a.0.seen s y) is a.1.at).0
  index_after before after (s ∷ jobs) (x ∷ replies) a (suc turn) receipt h =
      let more = prefix_length before.seen a.0.seen a.1.begins in
      let rest = index_after a.0 after jobs replies a.2 turn receipt h in omega (arith, more, rest)

  -- so the later of two has the higher index
  rises : (before after : Position) (jobs : List Statement) (replies : List Reply) → InTurn (IsSubmitted shuts tries opening seats) before after jobs replies
      → (turn later at : ℕ) (one other : Receipt) → at ≡ turn + suc later → slice_get replies turn ≡ Some (Ok one) → slice_get replies at ≡ Some (Ok other) → one.index < other.index
  rises before after [] [] a turn later at one other e h g = absurd cc
  rises before after [] (x ∷ replies) a turn later at one other e h g = absurd a
  rises before after (s ∷ jobs) [] a turn later at one other e h g = absurd a
  rises before after (s ∷ jobs) (x ∷ replies) a zero later zero one other e h g = absurd (omega arith)
  rises before after (s ∷ jobs) (x ∷ replies) a zero later (suc at) one other e h g =
      let is : x ≡ Ok one = cc in
      let told = (subst (λ (y : Reply). IsReplyAt tries opening before.seen a.0.seen s y) is a.1.at).1 in
      let low = told_inside a.0.seen one told in
      let high = index_after a.0 after jobs replies a.2 at other g in omega (arith, low, high)
  rises before after (s ∷ jobs) (x ∷ replies) a (suc turn) later zero one other e h g = absurd (omega arith)
  rises before after (s ∷ jobs) (x ∷ replies) a (suc turn) later (suc at) one other e h g = rises a.0 after jobs replies a.2 turn later at one other (omega arith) h g

  -- ---- the receipts of all seats

  pub turns_all : {X : Type 0} (share : X → ℕ) (view : X → List Entry) (jobs : List Statement) (replies : List Reply) (old new : List X) → 1 ≤ length old
      → ((k : ℕ) (d : X) → k < length old → InTurn (IsSubmitted shuts tries opening seats) (position (share (get_or old k d)) (view (get_or old k d))) (position (share (get_or new k d)) (view (get_or new k d)))
      (every (length old) k jobs) (every (length old) k replies))
      → AreInTurn (length old) replies
  turns_all share view jobs replies old new some turns = λ p later one other h g.
      let count = length old in
      let mine = turn_of count p some in
      let is : p ≡ mine.first + mine.turn * count = mine.is in
      let d = first_of old mine.first mine.inside in
      let further = add-mul mine.turn (suc later) count in
      let next : later + 1 ≡ suc later = omega arith in
      let same : (later + 1) * count ≡ suc later * count = ap (λ (n : ℕ). n * count) next in
      let its : p + (later + 1) * count ≡ mine.first + (mine.turn + suc later) * count = omega (arith, is, further, same) in
      let here = every_at count mine.first mine.turn p replies some is in
      let there = every_at count mine.first (mine.turn + suc later) (p + (later + 1) * count) replies some its in
      rises (position (share (get_or old mine.first d)) (view (get_or old mine.first d))) (position (share (get_or new mine.first d)) (view (get_or new mine.first d)))
      (every count mine.first jobs) (every count mine.first replies) (turns mine.first d mine.inside) mine.turn later (mine.turn + suc later) one other refl (here ∙ h) (there ∙ g)
