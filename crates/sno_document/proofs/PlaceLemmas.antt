-- A place that is returned for a list lies in it.
use Rattle.std.proofs.Common.{◌≡◌, ℕ, suc, ◌+◌, ◌<◌, ◌≤◌, ◌^◌, Bool, true, false, cond, List, [], ◌∷◌, ◌++◌, length, Option, Some, None, Result, Err, nat_lt, arith}
use Rattle.std.specs.List.{list_any, position_from}
use Rattle.sno_pattern.specs.Identifiers.{same, is_reserved}
use Rattle.sno_pattern.specs.NameList.{repeat_from, first_repeat, first_reserved, unless_repeated, unless_reserved, names_of}
use Rattle.sno_pattern.specs.declared.name_list.NamesFault.{NamesFault}
use Rattle.sno_pattern.specs.declared.name_list.NamesFault.TheVariants as fault

here_or_later : (b : Bool) (i k n : ℕ) (later : Option ℕ) → (later ≡ Some k → k < i + 1 + n) → cond b (Some i) later ≡ Some k → k < i + suc n
here_or_later true i k n later more h = let e : i ≡ k = cc in omega arith
here_or_later false i k n later more h = let m = more h in omega arith

pub position_inside : {X : Type 0} (p : X → Bool) (i k : ℕ) (xs : List X) → position_from p i xs ≡ Some k → k < i + length xs
position_inside p i k [] h = cc
position_inside p i k (x ∷ xs) h = here_or_later (p x) i k (length xs) (position_from p (i + 1) xs) (position_inside p (i + 1) k xs) h

pub repeat_inside : (seen : List (List ℕ)) (i k : ℕ) (names : List (List ℕ)) → repeat_from seen i names ≡ Some k → k < i + length names
repeat_inside seen i k [] h = cc
repeat_inside seen i k (n ∷ names) h =
    here_or_later (list_any (same n) seen) i k (length names) (repeat_from (seen ++ n ∷ []) (i + 1) names) (repeat_inside (seen ++ n ∷ []) (i + 1) k names) h

duplicate_inside : (o : Option ℕ) (k n : ℕ) (names : List (List ℕ)) → (o ≡ Some k → k < n) → unless_repeated o names ≡ Err (fault.Duplicate k) → k < n
duplicate_inside None k n names inside h = cc
duplicate_inside (Some i) k n names inside h = inside (cc)

never_reserved : (o : Option ℕ) (k : ℕ) (names : List (List ℕ)) → unless_repeated o names ≡ Err (fault.Reserved k) → ⊥
never_reserved None k names h = cc
never_reserved (Some i) k names h = cc

reserved_inside : (o : Option ℕ) (k n : ℕ) (names : List (List ℕ)) → (o ≡ Some k → k < n) → unless_reserved o names ≡ Err (fault.Reserved k) → k < n
reserved_inside None k n names inside h = absurd (never_reserved (first_repeat names) k names h)
reserved_inside (Some i) k n names inside h = inside (cc)

later_duplicate : (o : Option ℕ) (k : ℕ) (names : List (List ℕ)) → unless_reserved o names ≡ Err (fault.Duplicate k) → k < length names
later_duplicate None k names h = duplicate_inside (first_repeat names) k (length names) names (λ g. let m = repeat_inside [] 0 k names g in omega arith) h
later_duplicate (Some i) k names h = cc

abbrev choice : Bool → List (List ℕ) → Result (List (List ℕ)) NamesFault
choice long names = cond long (Err fault.TooMany) (unless_reserved (first_reserved names) names)

reserved_choice : (long : Bool) (k : ℕ) (names : List (List ℕ)) → choice long names ≡ Err (fault.Reserved k) → k < length names
reserved_choice true k names h = cc
reserved_choice false k names h = reserved_inside (first_reserved names) k (length names) names (λ g. let m = position_inside is_reserved 0 k names g in omega arith) h

duplicate_choice : (long : Bool) (k : ℕ) (names : List (List ℕ)) → choice long names ≡ Err (fault.Duplicate k) → k < length names
duplicate_choice true k names h = cc
duplicate_choice false k names h = later_duplicate (first_reserved names) k names h

pub reserved_place : (names : List (List ℕ)) (k : ℕ) → names_of names ≡ Err (fault.Reserved k) → length names ≤ 64 → k + 1 < 2 ^ 64
reserved_place names k h short = let m = reserved_choice (nat_lt 64 (length names)) k names h in omega arith

pub duplicate_place : (names : List (List ℕ)) (k : ℕ) → names_of names ≡ Err (fault.Duplicate k) → length names ≤ 64 → k + 1 < 2 ^ 64
duplicate_place names k h short = let m = duplicate_choice (nat_lt 64 (length names)) k names h in omega arith
