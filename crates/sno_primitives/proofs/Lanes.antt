-- Sixteen characters looked up at once, lane by lane.
use Rattle.std.proofs.Common.{◌≡◌, ℕ, zero, suc, ◌+◌, ◌-◌, ◌*◌, ◌/◌, ◌%◌, ◌^◌, ◌<◌, ◌≤◌, ◌≢◌, ◌||◌, ◌&&◌, Bool, true, false, not, cond, eqb, leb, nat_eq, nat_lt, List, [], ◌∷◌, map, length, get_or, set, replicate, take, drop, bit_and, bit_or, refl, sym, ap, ap₂, ◌∙◌, inl, inr, arith, w8, Fits, eq-eqb, get_or-set_other, get_or-set_same}
use Rattle.std.proofs.lemmas.Bool.{ne_eqb, cases_lt, cases_eq, lt-ltb, le-ltb, lt-leb}
use Rattle.std.proofs.Math.Nat.{one-le-pow}
use Rattle.std.proofs.lemmas.List.{get_or-map, length-map, length-take, length-drop}
use Rattle.std.proofs.lemmas.List.Folds.{length-prefix_len}
use Rattle.std.proofs.lemmas.List.Sums.{prefix_len-le-length}
use Rattle.std.proofs.Math.Seq.{drop-drop}
use Rattle.std.proofs.lemmas.Nat.{and_le_r, and_mask}
use Rattle.std.proofs.lemmas.Nat.Bits.{bit_at_not, and_pow, bit_at-lt, bit_at_set_same, bit_at_set_other}
use Rattle.std.proofs.lemmas.Simd.{Each1-all, Each1-weaker, Each1-zip2, Each2-splat, below_from_Fits, bitmask_splat, leading_from_mask_l, length-zip2, map-map, trailing_mask_l, zip2_of_maps, zip2_splat, swz_l, SwzOk, SwzOk-from_below}
use Rattle.std.specs.List.{prefix_len}
use Rattle.std.specs.Int.{bit_at, bit_not}
use Rattle.std.specs.Int.Bits.{and_zero_r}
use lib.Count.{count_trailing_zeros}
use lib.Lanes.{zip2, mask_l, top, Each1}
use Rattle.sno_pattern.specs.Tables.{is_set}
use Rattle.sno_primitives.proofs.RunLaws.{count, count-stops, count-goes_on}
use Rattle.sno_primitives.specs.Rows.{rows_have, goes_by_rows, AreRowsOf}
use Rattle.sno_primitives.specs.Runs.{goes_through}
use Rattle.sno_primitives.specs.declared.rows.Rows.{Rows}
use Rattle.sno_primitives.specs.declared.rows.TheConstants.{BITS}

-- sixteen bytes
abbrev pub AreLanes : List ℕ → Type 0
AreLanes v = (length v ≡ 16) × Each1 (Fits w8) v

-- ---- look-ups

not_high : (j : ℕ) → j < 16 → leb 128 j ≡ false
not_high j small = lt-leb 128 j (omega arith)

at_place : (t : List ℕ) (i j : ℕ) → i < 16 → j < 16 → cond (leb 128 j) 0 (get_or t (16 * (i / 16) + j) 0) ≡ get_or t j 0
at_place t i j lane small =
    let place : 16 * (i / 16) + j ≡ j = omega arith in
    ap (λ b. cond b 0 (get_or t (16 * (i / 16) + j) 0)) (not_high j small) ∙ ap (λ k. get_or t k 0) place

looked_up : (t : List ℕ) (g : ℕ → ℕ) (v : List ℕ) (i : ℕ) → ((x : ℕ) → x < 256 → g x < 16) → i + length v ≤ 16 → Each1 (Fits w8) v
    → swz_l w8 16 t i (map g v) ≡ map (λ x. get_or t (g x) 0) v
looked_up t g [] i small room fits = refl
looked_up t g (x ∷ v) i small room fits =
    ap₂ (λ a l. a ∷ l) (at_place t i (g x) (omega arith) (small x fits.0.fits)) (looked_up t g v (suc i) small (omega arith) fits.1)

abbrev down : ℕ → ℕ → ℕ
down a b = a / 2 ^ b

low_small : (x : ℕ) → bit_and x 15 < 16
low_small x = omega (arith, and_le_r x 15)

pub low_ok : (v : List ℕ) → AreLanes v → SwzOk w8 16 16 0 (zip2 bit_and v (replicate 16 15))
low_ok v fits =
    SwzOk-from_below w8 16 1 16 0 (zip2 bit_and v (replicate 16 15)) refl (omega (arith, length-zip2 bit_and v (replicate 16 15) fits.0))
    (Each1-zip2 bit_and (λ j. j < 16) v (replicate 16 15) (Each2-splat (λ a b. bit_and a b < 16) v 16 15 (Each1-all (λ a. bit_and a 15 < 16) low_small v)))

pub high_ok : (v : List ℕ) → AreLanes v → SwzOk w8 16 16 0 (zip2 down v (replicate 16 4))
high_ok v fits =
    let small = Each1-weaker (λ a. a < 256) (λ a. a / 16 < 16) (λ a h. omega arith) v (below_from_Fits w8 v fits.1) in
    SwzOk-from_below w8 16 1 16 0 (zip2 down v (replicate 16 4)) refl (omega (arith, length-zip2 down v (replicate 16 4) fits.0))
    (Each1-zip2 down (λ j. j < 16) v (replicate 16 4) (Each2-splat (λ a b. down a b < 16) v 16 4 small))

-- by the low four bits
pub low_looked_up : (t v : List ℕ) → AreLanes v → swz_l w8 16 t 0 (zip2 bit_and v (replicate 16 15)) ≡ map (λ x. get_or t (x % 16) 0) v
low_looked_up t v fits =
    ap (swz_l w8 16 t 0) (zip2_splat bit_and v 16 15 fits.0)
    ∙ looked_up t (λ x. bit_and x 15) v 0 (λ x h. low_small x) (omega (arith, fits.0)) fits.1
    ∙ ap (λ f. map f v) (λ i x. get_or t (and_mask x 4 i) 0)

-- by the high four bits
pub high_looked_up : (t v : List ℕ) → AreLanes v → swz_l w8 16 t 0 (zip2 down v (replicate 16 4)) ≡ map (λ x. get_or t (x / 16) 0) v
high_looked_up t v fits =
    ap (swz_l w8 16 t 0) (zip2_splat down v 16 4 fits.0)
    ∙ looked_up t (λ x. x / 16) v 0 (λ x h. omega arith) (omega (arith, fits.0)) fits.1

-- ---- a character in its row

bit_at_place : (k : ℕ) → k < 8 → get_or BITS k 0 ≡ 2 ^ k
bit_at_place zero h = refl
bit_at_place (suc zero) h = refl
bit_at_place (suc (suc zero)) h = refl
bit_at_place (suc (suc (suc zero))) h = refl
bit_at_place (suc (suc (suc (suc zero)))) h = refl
bit_at_place (suc (suc (suc (suc (suc zero))))) h = refl
bit_at_place (suc (suc (suc (suc (suc (suc zero)))))) h = refl
bit_at_place (suc (suc (suc (suc (suc (suc (suc zero))))))) h = refl
bit_at_place (suc (suc (suc (suc (suc (suc (suc (suc k)))))))) h = absurd (omega arith)

no_bit_from : (n k : ℕ) → let none : List ℕ = replicate n 0 in get_or none k 0 ≡ 0
no_bit_from zero k = refl
no_bit_from (suc n) zero = refl
no_bit_from (suc n) (suc k) = no_bit_from n k

no_bit_at_place : (k : ℕ) → 8 ≤ k → get_or BITS k 0 ≡ 0
no_bit_at_place (suc (suc (suc (suc (suc (suc (suc (suc k)))))))) h = no_bit_from 8 k
no_bit_at_place k h = absurd (omega arith)

one_or_none : (b k : ℕ) → b < 2 → eqb (b * 2 ^ k) 0 ≡ not (nat_eq b 1)
one_or_none zero k h = eq-eqb (0 * 2 ^ k) 0 (omega arith)
one_or_none (suc zero) k h = ne_eqb (1 * 2 ^ k) 0 (λ none. omega (arith, one-le-pow k 2 (omega arith)))
one_or_none (suc (suc b)) k h = absurd (omega arith)

-- the bit of the character in its row, if it is 1, and otherwise 0
abbrev met : Rows → ℕ → ℕ
met rows x = bit_and (get_or rows.rows (x % 16) 0) (get_or BITS (x / 16) 0)

none_met : (rows : Rows) (x : ℕ) → eqb (met rows x) 0 ≡ not (rows_have rows x)
none_met rows x =
    let row : ℕ = get_or rows.rows (x % 16) 0 in
    elim (cases_lt x 128) [
      | inl low ↦
          ap (λ b. eqb (bit_and row b) 0) (bit_at_place (x / 16) (omega arith))
          ∙ ap (λ n. eqb n 0) (and_pow row (x / 16))
          ∙ one_or_none (bit_at row (x / 16)) (x / 16) (bit_at-lt row (x / 16))
          ∙ ap (λ b. not (b && is_set row (x / 16))) (sym (lt-ltb x 128 low))
      | inr high ↦
          ap (λ b. eqb (bit_and row b) 0) (no_bit_at_place (x / 16) (omega arith))
          ∙ ap (λ n. eqb n 0) (and_zero_r row)
          ∙ ap (λ b. not (b && is_set row (x / 16))) (sym (le-ltb x 128 high))
    ]

-- ---- the lanes that stop a run

module _ (rows : Rows) (v row bit : List ℕ) (fits : AreLanes v) (is_row : row ≡ map (λ x. get_or rows.rows (x % 16) 0) v) (is_bit : bit ≡ map (λ x. get_or BITS (x / 16) 0) v) where
  met_is : zip2 bit_and row bit ≡ map (met rows) v
  met_is = zip2_of_maps bit_and (λ x. get_or rows.rows (x % 16) 0) (λ x. get_or BITS (x / 16) 0) v is_row is_bit

  by_test : (t : ℕ → ℕ → Bool) → mask_l (map (top 7) (zip2 (λ a b. cond (t a b) 255 0) (zip2 bit_and row bit) (replicate 16 0))) % 2 ^ 64 ≡ mask_l (map (λ x. t (met rows x) 0) v)
  by_test t =
      bitmask_splat w8 t (zip2 bit_and row bit) 16 0 (ap length met_is ∙ length-map v (met rows) ∙ fits.0) (omega arith)
      ∙ ap (λ l. mask_l (map (λ x. t x 0) l)) met_is
      ∙ ap mask_l (map-map (λ x. t x 0) (met rows) v)

  pub stops_inside : mask_l (map (top 7) (zip2 (λ a b. cond (eqb a b) 255 0) (zip2 bit_and row bit) (replicate 16 0))) % 2 ^ 64 ≡ mask_l (map (λ x. not (goes_by_rows true rows x)) v)
  stops_inside = by_test eqb ∙ ap (λ f. mask_l (map f v)) (λ i x. none_met rows x i)

  pub stops_outside : mask_l (map (top 7) (zip2 (λ a b. cond (not (eqb a b)) 255 0) (zip2 bit_and row bit) (replicate 16 0))) % 2 ^ 64 ≡ mask_l (map (λ x. not (goes_by_rows false rows x)) v)
  stops_outside = by_test (λ a b. not (eqb a b)) ∙ ap (λ f. mask_l (map f v)) (λ i x. not (none_met rows x i))

-- ---- one character more

module _ (rows : Rows) (x : ℕ) where
  abbrev with_it : Rows
  with_it = record { rows = set rows.rows (x % 16) (bit_or (get_or rows.rows (x % 16) 0) (1 * 2 ^ (x / 16) % 2 ^ 8)) }

  or_no : (b : Bool) → b ≡ (b || false)
  or_no true = refl
  or_no false = refl

  or_yes : (b : Bool) → true ≡ (b || true)
  or_yes true = refl
  or_yes false = refl

  another : (y : ℕ) → (x ≡ y → ⊥) → rows_have with_it y ≡ rows_have rows y → rows_have with_it y ≡ (rows_have rows y || nat_eq x y)
  another y isnt same = same ∙ or_no (rows_have rows y) ∙ ap (λ b. rows_have rows y || b) (sym (ne_eqb x y isnt))

  in_row : (y : ℕ) → length rows.rows ≡ 16 → x < 128 → y % 16 ≡ x % 16
      → rows_have with_it y ≡ (nat_lt y 128 && is_set (bit_or (get_or rows.rows (x % 16) 0) (1 * 2 ^ (x / 16) % 2 ^ 8)) (y / 16))
  in_row y long low row =
      let within : x % 16 < length rows.rows = omega arith in
      ap (λ r. nat_lt y 128 && is_set (get_or (with_it.rows) r 0) (y / 16)) row
      ∙ ap (λ n. nat_lt y 128 && is_set n (y / 16)) (get_or-set_same rows.rows (x % 16) (bit_or (get_or rows.rows (x % 16) 0) (1 * 2 ^ (x / 16) % 2 ^ 8)) 0 within)

  pub one_more : length rows.rows ≡ 16 → x < 128 → (y : ℕ) → rows_have with_it y ≡ (rows_have rows y || nat_eq x y)
  one_more long low y =
      let word : ℕ = get_or rows.rows (x % 16) 0 in
      elim (cases_eq (y % 16) (x % 16)) [
        | inr row ↦
            another y (λ is. row (ap (λ n. n % 16) (sym is)))
            (ap (λ n. nat_lt y 128 && is_set n (y / 16)) (get_or-set_other rows.rows (x % 16) (y % 16) (bit_or word (1 * 2 ^ (x / 16) % 2 ^ 8)) 0 row))
        | inl row ↦
            elim (cases_eq (y / 16) (x / 16)) [
              | inl place ↦
                  let is : y ≡ x = omega arith in
                  in_row y long low row
                  ∙ ap (λ b. b && is_set (bit_or word (1 * 2 ^ (x / 16) % 2 ^ 8)) (y / 16)) (lt-ltb y 128 (omega arith))
                  ∙ ap (λ k. is_set (bit_or word (1 * 2 ^ (x / 16) % 2 ^ 8)) k) place
                  ∙ ap (λ n. nat_eq n 1) (bit_at_set_same w8 word (x / 16) (omega arith))
                  ∙ or_yes (rows_have rows y) ∙ ap (λ b. rows_have rows y || b) (sym (eq-eqb x y (sym is)))
              | inr place ↦
                  another y (λ is. place (ap (λ n. n / 16) (sym is)))
                  (in_row y long low row
                  ∙ ap (λ n. nat_lt y 128 && nat_eq n 1) (bit_at_set_other w8 word (x / 16) (omega arith) (y / 16) place)
                  ∙ ap (λ r. nat_lt y 128 && is_set (get_or rows.rows r 0) (y / 16)) (sym row))
            ]
      ]

-- ---- the other characters

turned_bit : (b : ℕ) → b < 2 → nat_eq (1 - b) 1 ≡ not (nat_eq b 1)
turned_bit zero h = refl
turned_bit (suc zero) h = refl
turned_bit (suc (suc b)) h = absurd (omega arith)

not_both : (a b : Bool) → (a && not b) ≡ (a && not (a && b))
not_both true b = refl
not_both false b = refl

turned : (row k : ℕ) → row < 256 → k < 8 → is_set (bit_not w8 row) k ≡ not (is_set row k)
turned row k small below = ap (λ n. nat_eq n 1) (bit_at_not w8 row k small below) ∙ turned_bit (bit_at row k) (bit_at-lt row k)

pub lane_small : (v : List ℕ) → Each1 (Fits w8) v → (k : ℕ) → get_or v k 0 < 256
lane_small [] fits k = omega arith
lane_small (x ∷ v) fits zero = fits.0.fits
lane_small (x ∷ v) fits (suc k) = lane_small v fits.1 k

module _ (rows : Rows) (long : length rows.rows ≡ 16) (small : (k : ℕ) → get_or rows.rows k 0 < 256) where
  abbrev turned_rows : Rows
  turned_rows = record { rows = map (bit_not w8) rows.rows }

  pub others_are : (x : ℕ) → rows_have turned_rows x ≡ (nat_lt x 128 && not (rows_have rows x))
  others_are x =
      let row = get_or-map (bit_not w8) rows.rows (x % 16) 0 0 (omega arith) in
      ap (λ n. nat_lt x 128 && is_set n (x / 16)) row
      ∙ elim (cases_lt x 128) [
        | inl low ↦ ap (λ b. nat_lt x 128 && b) (turned (get_or rows.rows (x % 16) 0) (x / 16) (small (x % 16)) (omega arith))
        | inr high ↦
            ap (λ b. b && is_set (bit_not w8 (get_or rows.rows (x % 16) 0)) (x / 16)) (le-ltb x 128 high)
            ∙ ap (λ b. b && not (is_set (get_or rows.rows (x % 16) 0) (x / 16))) (sym (le-ltb x 128 high))
      ]
      ∙ not_both (nat_lt x 128) (is_set (get_or rows.rows (x % 16) 0) (x / 16))

-- ---- a run by the mask of what stops it

twice : (b : Bool) → not (not b) ≡ b
twice true = refl
twice false = refl

stopped : (b : Bool) (n l m : ℕ) → n ≤ l → cond (not b) (1 + n) 0 ≡ 1 + l → (n ≡ l → m ≡ 0) → cond b 1 0 + 2 * m ≡ 0
stopped true n l m few all others = absurd (omega arith)
stopped false n l m few all others = let none = others (omega arith) in omega arith

-- if no lane stops, no bit is set
none_set : (p : ℕ → Bool) (v : List ℕ) → prefix_len (λ x. not (p x)) v ≡ length v → mask_l (map p v) ≡ 0
none_set p [] all = refl
none_set p (x ∷ v) all = stopped (p x) (prefix_len (λ y. not (p y)) v) (length v) (mask_l (map p v)) (prefix_len-le-length (λ y. not (p y)) v) (omega arith) (none_set p v)

module _ (go : ℕ → Bool) where
  abbrev stops : List ℕ → ℕ
  stops v = mask_l (map (λ x. not (go x)) v)

  run_is : (v : List ℕ) → prefix_len (λ x. not (not (go x))) v ≡ count go v
  run_is v = ap (λ p. prefix_len p v) (λ i x. twice (go x) i) ∙ sym (length-prefix_len go v)

  module _ (t : List ℕ) (i mask : ℕ) (room : i + 16 ≤ length t) (is : mask ≡ stops (take 16 (drop i t))) where
    whole : length (take 16 (drop i t)) ≡ 16
    whole = omega (arith, length-take 16 (drop i t), length-drop i t)

    -- a run that no lane stops
    pub through : mask ≡ 0 → count go (drop i t) ≡ 16 + count go (drop (i + 16) t)
    through none =
        let all = leading_from_mask_l (λ x. not (go x)) (take 16 (drop i t)) (sym is ∙ none) in
        count-goes_on go 16 (drop i t) (sym (run_is (take 16 (drop i t))) ∙ all ∙ whole)
        ∙ ap (λ l. 16 + count go l) (drop-drop 16 i t)

    -- a run that a lane stops
    pub stopped_at : mask ≢ 0 → count go (drop i t) ≡ count_trailing_zeros 64 mask
    stopped_at some =
        let l : List ℕ = take 16 (drop i t) in
        let few : prefix_len (λ x. not (not (go x))) l ≢ length l = λ all. some (is ∙ none_set (λ x. not (go x)) l all) in
        let trailing = trailing_mask_l (λ x. not (go x)) 64 l (omega (arith, whole)) (omega (arith, is)) in
        count-stops go 16 (drop i t) (omega (arith, run_is l, whole, prefix_len-le-length (λ x. not (not (go x))) l))
        ∙ sym (run_is l) ∙ sym trailing ∙ ap (count_trailing_zeros 64) (sym is)

-- ---- the rows of a set

pub same_runs : (inside : Bool) (members : List ℕ) (rows : Rows) → AreRowsOf members rows → goes_by_rows inside rows ≡ goes_through inside members
same_runs true members rows are = λ i x. are x i
same_runs false members rows are = λ i x. not (are x i)
