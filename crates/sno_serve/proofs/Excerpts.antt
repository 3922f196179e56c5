-- Entries that a line asks for, one after the other.
use Rattle.std.proofs.Common.{◌≡◌, ◌≤◌, ℕ, ◌+◌, Bool, true, false, Option, Some, None, List, [], ◌∷◌, ◌++◌, length, take, refl, sym, ap, ◌∙◌, arith}
use Rattle.std.specs.Prelude.{nat_lt, if◌then◌else◌}
use Rattle.std.proofs.lemmas.List.{take_all, take-append-le}
use Rattle.std.proofs.lemmas.Bool.{ltb-false}
use Rattle.serde_json.specs.Data.{Data}
use Rattle.sno_book.specs.Entries.{Entry}
use Rattle.sno_listing.specs.JsonListing.{entry_data}
use Rattle.sno_serve.specs.Excerpts.{is_of, most_of, rows_of, up_to}

-- there are no more of them than entries
pub few_rows : (name : Option (List ℕ)) (index : ℕ) (entries : List Entry) → length (rows_of name index entries) ≤ length entries
few_rows name index [] = arith_zero
  where
    arith_zero : 0 ≤ 0
    arith_zero = omega arith
few_rows name index (e ∷ entries) = by_test (is_of name e) (few_rows name (index + 1) entries)
  where
    by_test : (b : Bool) → length (rows_of name (index + 1) entries) ≤ length entries
        → length (if b then entry_data index e ∷ rows_of name (index + 1) entries else rows_of name (index + 1) entries) ≤ length (e ∷ entries)
    by_test true h = omega (arith, h)
    by_test false h = omega (arith, h)

-- the limit, and the number of entries, are a limit together
pub limited : (limit : Option ℕ) (name : Option (List ℕ)) (index : ℕ) (entries : List Entry)
    → take (most_of limit (length entries)) (rows_of name index entries) ≡ up_to limit (rows_of name index entries)
limited None name index entries = take_all (length entries) (rows_of name index entries) (few_rows name index entries)
limited (Some n) name index entries = by_test (nat_lt n (length entries)) refl
  where
    by_test : (b : Bool) → nat_lt n (length entries) ≡ b → take (if b then n else length entries) (rows_of name index entries) ≡ take n (rows_of name index entries)
    by_test true h = refl
    by_test false h =
        let few = few_rows name index entries in
        let most : length entries ≤ n = ltb-false n (length entries) h in
        let enough : length (rows_of name index entries) ≤ n = omega (arith, few, most) in
        take_all (length entries) (rows_of name index entries) few ∙ sym (take_all n (rows_of name index entries) enough)

-- the first of them, as soon as there are as many as the limit
pub first_of : (most : ℕ) (ds rest whole : List Data) → ds ++ rest ≡ whole → length ds ≡ most → ds ≡ take most whole
first_of most ds rest whole joined many =
    let enough : most ≤ length ds = omega (arith, many) in
    let few : length ds ≤ most = omega (arith, many) in
    sym (ap (take most) (sym joined) ∙ take-append-le most ds rest enough ∙ take_all most ds few)
