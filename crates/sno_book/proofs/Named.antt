-- The name at a place of an opening, and the place of a name.
use Rattle.std.proofs.Common.{◌≡◌, ℕ, zero, suc, ◌+◌, Bool, true, false, cond, List, [], ◌∷◌, Some, None, slice_get, ap, sym, subst, ◌∙◌, arith}
use Rattle.std.specs.Bool.{Decides}
use Rattle.std.specs.List.{position_from}
use Rattle.sno_pattern.specs.Identifiers.{same}
use Rattle.sno_pattern.specs.NameList.{IsNone, AreApart, place_of}
use Rattle.sno_pattern.proofs.Repeats.{repeats_are_found}
use Rattle.sno_book.specs.Openings.{Opening, IsOpening, names_in, place_in}
use Rattle.sno_book.proofs.Places.{StandsAt, stands_at, same_is}
use Rattle.sno_book.proofs.Fresh.{same_equal}

other_at : (k : ℕ) (x name : List ℕ) (names : List (List ℕ)) → IsNone x names → slice_get names k ≡ Some name → same name x ≡ false
other_at k x name [] h there = cc
other_at zero x name (n ∷ names) h there = let here : n ≡ name = cc in subst (λ (m : List ℕ). same m x ≡ false) here h.0
other_at (suc k) x name (n ∷ names) h there = other_at k x name names h.1 there

-- if no two names are equal, a name's place is its index
placed_from : (i k : ℕ) (name : List ℕ) (names : List (List ℕ)) → AreApart names → slice_get names k ≡ Some name → position_from (same name) i names ≡ Some (i + k)
placed_from i k name [] h there = cc
placed_from i zero name (n ∷ names) h there =
    let here : name ≡ n = cc in
    let count : i ≡ i + zero = omega arith in
    ap (λ (b : Bool). cond b (Some i) (position_from (same name) (i + 1) names)) (same_equal name n here) ∙ ap (λ (m : ℕ). Some m) count
placed_from i (suc k) name (n ∷ names) h there =
    let count : i + 1 + k ≡ i + suc k = omega arith in
    ap (λ (b : Bool). cond b (Some i) (position_from (same name) (i + 1) names)) (other_at k n name names h.0 there)
    ∙ placed_from (i + 1) k name names h.1 there ∙ ap (λ (m : ℕ). Some m) count

pub placed_at : (k : ℕ) (name : List ℕ) (names : List (List ℕ)) → AreApart names → slice_get names k ≡ Some name → place_of names name ≡ Some k
placed_at k name names h there = let count : 0 + k ≡ k = omega arith in placed_from 0 k name names h there ∙ ap (λ (m : ℕ). Some m) count

-- the name of a row is the one at its place
name_in : (k : ℕ) (texts : List (List ℕ × List ℕ)) (t : List ℕ × List ℕ) → slice_get texts k ≡ Some t → slice_get (names_in texts) k ≡ Some t.0
name_in k [] t row = cc
name_in zero (u ∷ texts) t row = let is : u ≡ t = cc in ap (λ (r : List ℕ × List ℕ). Some r.0) is
name_in (suc k) (u ∷ texts) t row = name_in k texts t row

-- the row at the place of a name has that name
row_named : (k : ℕ) (texts : List (List ℕ × List ℕ)) (t : List ℕ × List ℕ) (name : List ℕ) → StandsAt name (names_in texts) k → slice_get texts k ≡ Some t → t.0 ≡ name
row_named k [] t name at row = absurd at
row_named zero (u ∷ texts) t name at row = let is : t ≡ u = cc in ap (λ (r : List ℕ × List ℕ). r.0) is ∙ sym (same_is name u.0 at)
row_named (suc k) (u ∷ texts) t name at row = row_named k texts t name at.1 row

-- the place of a name has a row
no_row : (k : ℕ) (texts : List (List ℕ × List ℕ)) (name : List ℕ) → StandsAt name (names_in texts) k → slice_get texts k ≡ None → ⊥
no_row k [] name at row = at
no_row zero (u ∷ texts) name at row = cc
no_row (suc k) (u ∷ texts) name at row = no_row k texts name at.1 row

-- a name has this place exactly if the row there has the name
pub decides_row : (opening : Opening) (k : ℕ) (t : List ℕ × List ℕ) (name : List ℕ) (b : Bool) → IsOpening opening → slice_get opening.texts k ≡ Some t → b ≡ same t.0 name
    → Decides b (place_in opening name ≡ Some k)
decides_row opening k t name b is_opening row is = (
  (λ (h : b ≡ true).
      let equal : t.0 ≡ name = same_is t.0 name (sym is ∙ h) in
      let there : slice_get (names_in opening.texts) k ≡ Some name = name_in k opening.texts t row ∙ ap (λ (n : List ℕ). Some n) equal in
      placed_at k name (names_in opening.texts) ((repeats_are_found (names_in opening.texts)).0 is_opening.apart) there),
  (λ (h : place_in opening name ≡ Some k). is ∙ same_equal t.0 name (row_named k opening.texts t name (stands_at name k (names_in opening.texts) h) row)),
)

-- no name has a place past the last row
pub decides_no_row : (opening : Opening) (k : ℕ) (name : List ℕ) → slice_get opening.texts k ≡ None → Decides false (place_in opening name ≡ Some k)
decides_no_row opening k name row = (
  (λ (h : false ≡ true). absurd cc),
  (λ (h : place_in opening name ≡ Some k). absurd (no_row k opening.texts name (stands_at name k (names_in opening.texts) h) row)),
)
