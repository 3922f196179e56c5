-- Terms for the steps in which lists of events are made.
use Rattle.std.specs.Prelude.{ℕ, suc, ◌-◌, Bool, true, false, List, [], ◌∷◌}
use Rattle.std.specs.List.{range_with_len}
use Rattle.sno_pattern.specs.Tree.{Tree, Arbno, Ref, Seq, Alt, Cond, Imm}
use Rattle.sno_pattern.specs.declared.events.Event.{Event}
use Rattle.sno_pattern.specs.declared.events.Event.TheVariants.{Try, Set, End, Halt}

-- the whole match fails
abbrev pub is_halt : Event → Bool
is_halt Halt = true
is_halt Try = false
is_halt (Set a) = false
is_halt (End e a) = false

-- a pattern that has no part and refers to none
abbrev pub is_leaf : Tree → Bool
is_leaf (Arbno p) = false
is_leaf (Ref i) = false
is_leaf (Seq p q) = false
is_leaf (Alt p q) = false
is_leaf (Cond p v) = false
is_leaf (Imm p v) = false
is_leaf _ = true

-- the trials before the first End or Halt
abbrev pub trials_of : List Event → ℕ
trials_of [] = 0
trials_of (Try ∷ l) = suc (trials_of l)
trials_of (Set a ∷ l) = trials_of l
trials_of (End e a ∷ l) = 0
trials_of (Halt ∷ l) = 0

-- the cursors from i to n
abbrev pub up_to : ℕ → ℕ → List ℕ
up_to i n = range_with_len i (suc n - i)
