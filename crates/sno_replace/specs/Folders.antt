-- Which files the three names of a store lead to, and what a crash may leave of them. A file is a number that no other file has.
use Rattle.std.specs.Prelude.{◌≡◌, ◌≤◌, ℕ, Bool, true, false, ⊤, List, [], ◌∷◌, Option, Some, None}
use Rattle.std.specs.List.{AllByRecursion}
use Rattle.sno_replace.specs.declared.calls.Done.{Done}
use Rattle.sno_replace.specs.declared.calls.Done.TheVariants.{RemovedOld, RemovedNew, Linked, Renamed, Waited}

-- which file each of the names leads to, if it leads to one: that of the store, of the new one, and of the old one that is left
pub record Names : Type 0 where
  pub store : Option ℕ
  pub new : Option ℕ
  pub old : Option ℕ

abbrev pub names : Option ℕ → Option ℕ → Option ℕ → Names
names s n o = record { store = s; new = n; old = o }

-- the store's name leads to the new file, if there is one
abbrev pub renamed : Names → Option ℕ → Names
renamed n None = n
renamed n (Some f) = names (Some f) None n.old

-- the names after a call
abbrev pub after : Done → Names → Names
after RemovedOld n = names n.store n.new None
after RemovedNew n = names n.store None n.old
after Linked n = names n.store n.new n.store
after Renamed n = renamed n n.new
after Waited n = n

-- each of these, and what the call makes of it
abbrev pub either_way : Done → List Names → List Names
either_way d [] = []
either_way d (n ∷ left) = n ∷ after d n ∷ either_way d left

-- What a crash may leave after a call, if the names are these and a crash before it might leave those. A wait leaves the names as they are;
-- any other call may be lost or not, whatever became of those before it.
abbrev pub left_after : Done → Names → List Names → List Names
left_after RemovedOld n left = either_way RemovedOld left
left_after RemovedNew n left = either_way RemovedNew left
left_after Linked n left = either_way Linked left
left_after Renamed n left = either_way Renamed left
left_after Waited n left = n ∷ []

-- the names after these calls
abbrev pub seen : Names → List Done → Names
seen n [] = n
seen n (d ∷ done) = seen (after d n) done

-- what a crash may leave after these calls
abbrev pub left : Names → List Names → List Done → List Names
left n before [] = before
left n before (d ∷ done) = left (after d n) (left_after d n before) done

-- all that a crash may leave before these calls, between them and after them
abbrev pub AtEachMoment : (Names → Type 0) → Names → List Names → List Done → Type 0
AtEachMoment P n before [] = AllByRecursion P before
AtEachMoment P n before (d ∷ done) = AllByRecursion P before × AtEachMoment P (after d n) (left_after d n before) done

-- the same, if the names are on the disk at first
abbrev pub Always : (Names → Type 0) → Names → List Done → Type 0
Always P n done = AtEachMoment P n (n ∷ []) done

-- all that a crash may leave after these calls, if the names are on the disk at first
abbrev pub Leaves : (Names → Type 0) → Names → List Done → Type 0
Leaves P n done = AllByRecursion P (left n (n ∷ []) done)

-- there is a store, and its file has at least this many entries
abbrev pub Keeps : (ℕ → ℕ) → ℕ → Names → Type 0
Keeps entries least n = (f : ℕ) × (n.store ≡ Some f) × (least ≤ entries f)

-- the store is this file
abbrev pub HasStore : ℕ → Names → Type 0
HasStore f n = n.store ≡ Some f

-- no call gives the store's name to another file
abbrev pub IsQuiet : List Done → Type 0
IsQuiet [] = ⊤
IsQuiet (RemovedOld ∷ done) = IsQuiet done
IsQuiet (RemovedNew ∷ done) = IsQuiet done
IsQuiet (Linked ∷ done) = IsQuiet done
IsQuiet (Renamed ∷ done) = ⊥
IsQuiet (Waited ∷ done) = IsQuiet done

-- the calls before a new store gets its place: what is under the name of the old one, if there is something, loses it; the store's file gets
-- it; and that is on the disk
abbrev pub prepared : Bool → List Done
prepared true = RemovedOld ∷ Linked ∷ Waited ∷ []
prepared false = Linked ∷ Waited ∷ []

-- the calls until the new store has its place
abbrev pub moved : Bool → List Done
moved true = RemovedOld ∷ Linked ∷ Waited ∷ Renamed ∷ []
moved false = Linked ∷ Waited ∷ Renamed ∷ []

-- and until that is on the disk
abbrev pub replaced : Bool → List Done
replaced true = RemovedOld ∷ Linked ∷ Waited ∷ Renamed ∷ Waited ∷ []
replaced false = Linked ∷ Waited ∷ Renamed ∷ Waited ∷ []
