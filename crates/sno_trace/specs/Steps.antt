-- Terms for the steps in which noted lists are made.
use Rattle.std.specs.Prelude.{ℕ, suc, Bool, true, false, List, [], ◌∷◌}
use Rattle.sno_pattern.specs.Tree.{Tree, Arbno, Ref, Seq, Alt, Cond, Imm}
use Rattle.sno_trace.specs.declared.events.Noted.{Noted}
use Rattle.sno_trace.specs.declared.events.Noted.TheVariants.{Try, Set, Mark, End, Halt, Stop}

-- nothing comes after it: the whole match fails, or no more is shown
abbrev pub is_last : Noted → Bool
is_last Halt = true
is_last Stop = true
is_last (Try x) = false
is_last (Set a) = false
is_last (Mark d) = false
is_last (End e a) = false

-- a pattern that has no part and refers to none
abbrev pub is_leaf : Tree → Bool
is_leaf (Arbno p) = false
is_leaf (Ref i) = false
is_leaf (Seq p q) = false
is_leaf (Alt p q) = false
is_leaf (Cond p v) = false
is_leaf (Imm p v) = false
is_leaf _ = true

-- all trials of a list
abbrev pub trials_of : List Noted → ℕ
trials_of [] = 0
trials_of (Try x ∷ l) = suc (trials_of l)
trials_of (Set a ∷ l) = trials_of l
trials_of (Mark d ∷ l) = trials_of l
trials_of (End e a ∷ l) = trials_of l
trials_of (Halt ∷ l) = trials_of l
trials_of (Stop ∷ l) = trials_of l

-- the match ends, or what is shown of it
abbrev pub is_ending : Noted → Bool
is_ending (End e a) = true
is_ending Halt = true
is_ending Stop = true
is_ending (Try x) = false
is_ending (Set a) = false
is_ending (Mark d) = false
