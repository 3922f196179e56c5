-- Steps of the listing's loops.
use Rattle.std.proofs.Common.{◌≡◌, ℕ, zero, suc, ◌+◌, ◌<◌, Bool, true, false, cond, List, [], ◌∷◌, ◌++◌, length, get_or, take, drop, Some, None, slice_get, refl, sym, ap, ◌∙◌, arith, add-one, drop-cons, append_assoc}
use Rattle.std.specs.List.{All, flat_map, list_all}
use Rattle.std.specs.Char.{is_ascii}
use Rattle.std.specs.Fmt.{decimal}
use Rattle.std.specs.Prelude.{codes, IsTrue, ◌^◌}
use Rattle.std.specs.Str.{IsAscii}
use Rattle.std.proofs.lemmas.Bool.{and_from, and_parts, lt-ltb}
use Rattle.std.proofs.lemmas.Fmt.{IsAscii-decimal}
use Rattle.std.proofs.lemmas.List.Elements.{All-head, All-tail}
use Rattle.std.proofs.lemmas.List.Folds.{list_all-append}
use Rattle.std.proofs.lemmas.Str.Ascii.{All-from_ascii}
use Rattle.sno_listing.specs.Listing.{tries_words}
use Rattle.std.proofs.lemmas.Option.{slice_get-get_or, slice_get_within}
use Rattle.sno_listing.specs.Listing.{escaped_text, is_plain}

put_plain : (b : Bool) (c : ℕ) (escaped xs : List ℕ) → b ≡ true → cond b (c ∷ []) escaped ++ xs ≡ c ∷ xs
put_plain true c escaped xs h = refl
put_plain false c escaped xs h = cc

-- the first n characters, if they are printed as themselves
plain_front : (cs : List ℕ) (n : ℕ) → IsTrue (list_all is_plain (take n cs)) → take n cs ++ escaped_text (drop n cs) ≡ escaped_text cs
plain_front [] zero h = refl
plain_front [] (suc n) h = refl
plain_front (c ∷ cs) zero h = refl
plain_front (c ∷ cs) (suc n) h =
    let parts = and_parts (is_plain c) (list_all is_plain (take n cs)) h in
    ap (λ (l : List ℕ). c ∷ l) (plain_front cs n parts.1) ∙ sym (put_plain (is_plain c) c _ (escaped_text cs) parts.0)

-- the first characters are put
pub front_step : (out new rest front back all : List ℕ) (n : ℕ) → new ≡ out ++ front → front ≡ take n rest → back ≡ drop n rest
    → IsTrue (list_all is_plain (take n rest)) → out ++ escaped_text rest ≡ all → new ++ escaped_text back ≡ all
front_step out new rest front back all n put is left plain so_far =
    ap (λ (l : List ℕ). l ++ escaped_text back) put ∙ append_assoc out front (escaped_text back)
    ∙ ap (λ (l : List ℕ). out ++ (l ++ escaped_text back)) is ∙ ap (λ (l : List ℕ). out ++ (take n rest ++ escaped_text l)) left
    ∙ ap (λ (l : List ℕ). out ++ l) (plain_front rest n plain) ∙ so_far

-- the rows from a place on are the row at that place and those after it
pub row_next : {A : Type 0} (rows : List A) (i : ℕ) (row : A) → slice_get rows i ≡ Some row → drop i rows ≡ row ∷ drop (i + 1) rows
row_next {A} rows i row is =
    let inside : i < length rows = slice_get_within rows i row is in
    let there : get_or rows i row ≡ row = (let e = slice_get-get_or rows i row inside in cc) in
    rw (add-one) (drop-cons rows i row inside ∙ ap (λ (x : A). x ∷ drop (suc i) rows) there)

-- there is a row at each place before the end
pub row_there : {A : Type 0} (rows : List A) (i : ℕ) → i < length rows → slice_get rows i ≡ None → ⊥
row_there [] i inside h = omega (arith, inside)
row_there (row ∷ rows) zero inside h = cc
row_there (row ∷ rows) (suc i) inside h = row_there rows i (omega (arith, inside)) h

-- one more row is put
pub row_step : {A : Type 0} (line : A → List ℕ) (out new all : List ℕ) (rows : List A) (i : ℕ) (row : A) → slice_get rows i ≡ Some row → new ≡ out ++ line row
    → out ++ flat_map line (drop i rows) ≡ all → new ++ flat_map line (drop (i + 1) rows) ≡ all
row_step line out new all rows i row is put so_far =
    ap (λ (l : List ℕ). l ++ flat_map line (drop (i + 1) rows)) put ∙ append_assoc out (line row) (flat_map line (drop (i + 1) rows))
    ∙ ap (λ (l : List ℕ). out ++ l) (sym (ap (flat_map line) (row_next rows i row is))) ∙ so_far

joined_ascii : (xs ys : List ℕ) → list_all is_ascii xs ≡ true → list_all is_ascii ys ≡ true → list_all is_ascii (xs ++ ys) ≡ true
joined_ascii xs ys h g = list_all-append is_ascii xs ys ∙ and_from (list_all is_ascii xs) (list_all is_ascii ys) h g

below_ascii : (xs : List ℕ) → All (λ b. b < 128) xs → list_all is_ascii xs ≡ true
below_ascii [] h = refl
below_ascii (x ∷ xs) h = and_from (is_ascii x) (list_all is_ascii xs) (lt-ltb x 128 (All-head (λ b. b < 128) x xs h)) (below_ascii xs (All-tail (λ b. b < 128) x xs h))

all_ascii : (xs : List ℕ) → IsAscii xs → list_all is_ascii xs ≡ true
all_ascii xs h = below_ascii xs (All-from_ascii xs h)

-- decimals are ASCII
pub tries_ascii : (seen now : ℕ) → seen < 2 ^ 64 → now < 2 ^ 64 → IsTrue (list_all is_ascii (tries_words seen now))
unfolding tries_words
tries_ascii seen now h g =
    joined_ascii (codes "tries spent ") (decimal seen ++ (32 ∷ [] ++ decimal now)) refl
    (joined_ascii (decimal seen) (32 ∷ [] ++ decimal now) (all_ascii (decimal seen) (IsAscii-decimal seen h)) (all_ascii (decimal now) (IsAscii-decimal now g)))
