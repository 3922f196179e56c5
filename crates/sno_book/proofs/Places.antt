-- Texts at the places of their names.
use Rattle.std.proofs.Common.{◌≡◌, ℕ, zero, suc, ◌+◌, ◌<◌, ◌≤◌, Bool, true, false, cond, nat_eq, List, [], ◌∷◌, length, set, Option, Some, None, slice_get, refl, ap, sym, ◌∙◌, arith}
use Rattle.std.specs.List.{position_from}
use Rattle.std.specs.Arc.{arc_value}
use Rattle.std.specs.declared.sync.Arc.{Arc}
use Rattle.std.proofs.Common.{Global}
use Rattle.std.specs.Option.{option_map}
use Rattle.std.proofs.lemmas.Bool.{eqb-true, and_parts}
use Rattle.sno_pattern.specs.Identifiers.{same}
use Rattle.sno_pattern.specs.NameList.{place_of}
use Rattle.sno_book.specs.States.{VersionedText, State, find, renew, renew_by}
use Rattle.sno_book.specs.VersionedTexts.{with_names}
use Rattle.sno_book.specs.declared.versioned_texts.VersionedText.{VersionedText as StoredText}
use Rattle.sno_book.proofs.Steps.{VersionsBelow}

-- names of the same characters are equal
pub same_is : (a b : List ℕ) → same a b ≡ true → a ≡ b
same_is [] [] h = refl
same_is [] (y ∷ b) h = cc
same_is (x ∷ a) [] h = cc
same_is (x ∷ a) (y ∷ b) h =
    let hs = and_parts (nat_eq x y) (same a b) h in
    let head : x ≡ y = eqb-true x y hs.0 in
    let tail = same_is a b hs.1 in cc

-- the first of the names that is this one is at place k
abbrev pub StandsAt : List ℕ → List (List ℕ) → ℕ → Type 0
StandsAt name [] k = ⊥
StandsAt name (n ∷ names) zero = same name n ≡ true
StandsAt name (n ∷ names) (suc k) = (same name n ≡ false) × StandsAt name names k

past_if : (b : Bool) (i k : ℕ) (later : Option ℕ) → (later ≡ Some k → i + 1 ≤ k) → cond b (Some i) later ≡ Some k → i ≤ k
past_if true i k later past h = let e : i ≡ k = cc in omega (arith, e)
past_if false i k later past h = let p = past h in omega (arith, p)

past : (p : List ℕ → Bool) (i k : ℕ) (names : List (List ℕ)) → position_from p i names ≡ Some k → i ≤ k
past p i k [] h = cc
past p i k (n ∷ names) h = past_if (p n) i k (position_from p (i + 1) names) (past p (i + 1) k names) h

here_if : (b : Bool) (i : ℕ) (later : Option ℕ) → (later ≡ Some i → i + 1 ≤ i) → cond b (Some i) later ≡ Some i → b ≡ true
here_if true i later past h = refl
here_if false i later past h = let p = past h in absurd (omega (arith, p))

later_if : (b : Bool) (i k : ℕ) (later : Option ℕ) → cond b (Some i) later ≡ Some (i + suc k) → (b ≡ false) × (later ≡ Some (i + 1 + k))
later_if true i k later h = let e : i ≡ i + suc k = cc in absurd (omega (arith, e))
later_if false i k later h = let e : i + suc k ≡ i + 1 + k = omega arith in (refl, h ∙ ap (λ (x : ℕ). Some x) e)

stands : (name : List ℕ) (i k : ℕ) (names : List (List ℕ)) → position_from (same name) i names ≡ Some (i + k) → StandsAt name names k
stands name i k [] h = cc
stands name i zero (n ∷ names) h =
    let zeros : i + zero ≡ i = omega arith in
    here_if (same name n) i (position_from (same name) (i + 1) names) (past (same name) (i + 1) i names) (h ∙ ap (λ (x : ℕ). Some x) zeros)
stands name i (suc k) (n ∷ names) h =
    let l = later_if (same name n) i k (position_from (same name) (i + 1) names) h in (l.0, stands name (i + 1) k names l.1)

pub stands_at : (name : List ℕ) (k : ℕ) (names : List (List ℕ)) → place_of names name ≡ Some k → StandsAt name names k
stands_at name k names h = let zeros : k ≡ 0 + k = omega arith in stands name 0 k names (h ∙ ap (λ (x : ℕ). Some x) zeros)

pub stands_inside : (name : List ℕ) (k : ℕ) (names : List (List ℕ)) → StandsAt name names k → k < length names
stands_inside name k [] h = absurd h
stands_inside name zero (n ∷ names) h = omega arith
stands_inside name (suc k) (n ∷ names) h = let i = stands_inside name k names h.1 in omega (arith, i)

abbrev seen : List ℕ → StoredText → VersionedText
seen name s = record { name = name; text = arc_value s.text; version = s.version }

-- `find` returns the text at the place of the name
pub find_held : (name : List ℕ) (k : ℕ) (names : List (List ℕ)) (stored : List StoredText) (versioned : VersionedText) → StandsAt name names k → slice_get (with_names names stored) k ≡ Some versioned
    → find name (with_names names stored) ≡ Some versioned
find_held name k [] stored versioned at there = absurd at
find_held name k (n ∷ names) [] versioned at there = cc
find_held name zero (n ∷ names) (x ∷ stored) versioned at there = rw at there
find_held name (suc k) (n ∷ names) (x ∷ stored) versioned at there = rw at.0 (find_held name k names stored versioned at.1 there)

none_if : (b : Bool) (i : ℕ) (later : Option ℕ) (x : VersionedText) (rest : Option VersionedText) → cond b (Some i) later ≡ None → (later ≡ None → rest ≡ None) → cond b (Some x) rest ≡ None
none_if true i later x rest h more = cc
none_if false i later x rest h more = more h

-- if no name is this one, `find` returns `None`
pub find_none : (name : List ℕ) (i : ℕ) (names : List (List ℕ)) (stored : List StoredText) → position_from (same name) i names ≡ None → find name (with_names names stored) ≡ None
find_none name i [] stored h = refl
find_none name i (n ∷ names) [] h = refl
find_none name i (n ∷ names) (s ∷ stored) h =
    none_if (same name n) i (position_from (same name) (i + 1) names) (seen n s) (find name (with_names names stored)) h (find_none name (i + 1) names stored)

pub get_at : (name : List ℕ) (k : ℕ) (names : List (List ℕ)) (stored : List StoredText) (s : StoredText) → StandsAt name names k → slice_get stored k ≡ Some s
    → slice_get (with_names names stored) k ≡ Some (record { name = name; text = arc_value s.text; version = s.version })
get_at name k [] stored s at there = absurd at
get_at name k (n ∷ names) [] s at there = cc
get_at name zero (n ∷ names) (x ∷ stored) s at there =
    let is : x ≡ s = cc in let called = sym (same_is name n at) in (λ i. Some (seen (called i) (is i)))
get_at name (suc k) (n ∷ names) (x ∷ stored) s at there = get_at name k names stored s at.1 there

-- a text that is put at the place of a name replaces the text of that name
pub renew_at : (name text : List ℕ) (k : ℕ) (names : List (List ℕ)) (stored : List StoredText) (s new : StoredText) → StandsAt name names k → slice_get stored k ≡ Some s
    → arc_value new.text ≡ text → new.version ≡ s.version + 1 → with_names names (set stored k new) ≡ renew name text (with_names names stored)
renew_at name text k [] stored s new at there is raised = absurd at
renew_at name text k (n ∷ names) [] s new at there is raised = cc
renew_at name text zero (n ∷ names) (x ∷ stored) s new at there is raised =
    let same : s ≡ x = cc in
    let version : new.version ≡ x.version + 1 = raised ∙ ap (λ (y : StoredText). y.version + 1) same in
    rw at (λ i. record { name = n; text = is i; version = version i } ∷ with_names names stored)
renew_at name text (suc k) (n ∷ names) (x ∷ stored) s new at there is raised =
    rw at.0 (ap (λ (l : State). seen n x ∷ l) (renew_at name text k names stored s new at.1 there is raised))

-- the same if there is a new text
pub renewed : (name : List ℕ) (k : ℕ) (names : List (List ℕ)) (stored : List StoredText) (s : StoredText) (text : Arc (List ℕ) Global) (after : Option (Arc (List ℕ) Global))
    → place_of names name ≡ Some k → slice_get stored k ≡ Some s → after ≡ Some text
    → with_names names (set stored k (record { text = text; version = s.version + 1 })) ≡ renew_by name (option_map arc_value after) (with_names names stored)
renewed name k names stored s text after at there is =
    rw is (renew_at name (arc_value text) k names stored s (record { text = text; version = s.version + 1 }) (stands_at name k names at) there refl refl)

abbrev version_in : Option StoredText → ℕ
version_in None = 0
version_in (Some s) = s.version

-- if no version is above n, neither is that of the text at a place
pub held_small : (n k : ℕ) (names : List (List ℕ)) (stored : List StoredText) (s : StoredText) → slice_get stored k ≡ Some s → length stored ≤ length names
    → VersionsBelow n (with_names names stored) → s.version ≤ n
held_small n k names [] s there few h = cc
held_small n k [] (x ∷ stored) s there few h = absurd (omega (arith, few))
held_small n zero (name ∷ names) (x ∷ stored) s there few h = let same : x.version ≡ s.version = ap (λ (o : Option StoredText). version_in o) there in omega (arith, h.0, same)
held_small n (suc k) (name ∷ names) (x ∷ stored) s there few h = held_small n k names stored s there (omega (arith, few)) h.1
