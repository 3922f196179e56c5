-- Entries token by token.
use Rattle.std.proofs.Common.{◌≡◌, ℕ, ◌+◌, List, [], ◌∷◌, ◌++◌, drop, map, Some, None, slice_get, refl, sym, ap, ◌∙◌, append_assoc}
use Rattle.std.specs.Prelude.{codes}
use Rattle.std.specs.Fmt.{decimal}
use Rattle.json.specs.Token.{Token, key, end_object}
use Rattle.json.specs.Tree.{items_tokens}
use Rattle.serde_json.specs.Data.{Data, object, put}
use Rattle.serde_json.specs.View.{items_of}
use Rattle.serde_json.specs.Written.{items_outline}
use Rattle.sno_statement.specs.Perform.{Outcome, Matched, Failed, Repeated, All}
use Rattle.sno_book.specs.Entries.{Entry}
use Rattle.sno_listing.specs.JsonListing.{subject_members, matched_members, failed_members, repeated_members, all_members, done_members, entry_data}
use Rattle.sno_listing.specs.Tokens.{data_tokens, found_tokens, head_tokens, result_tokens, subject_tokens, tail_tokens}
use Rattle.sno_listing.proofs.ListingLemmas.{row_next}

-- the tokens of rows, with the bracket that closes their array
abbrev pub rows_tokens : {A : Type 0} → (A → Data) → List A → List Token
rows_tokens shown rows = items_tokens (items_outline (items_of (map shown rows)))

-- one more row is written
pub token_step : {A : Type 0} (shown : A → Data) (out new all : List Token) (rows : List A) (i : ℕ) (row : A) → slice_get rows i ≡ Some row
    → new ≡ out ++ data_tokens (shown row) → out ++ rows_tokens shown (drop i rows) ≡ all → new ++ rows_tokens shown (drop (i + 1) rows) ≡ all
token_step shown out new all rows i row is put so_far =
    ap (λ (l : List Token). l ++ rows_tokens shown (drop (i + 1) rows)) put ∙ append_assoc out (data_tokens (shown row)) (rows_tokens shown (drop (i + 1) rows))
    ∙ ap (λ l. out ++ rows_tokens shown l) (sym (row_next rows i row is)) ∙ so_far

-- the members of a statement are written one after the other
pub subject_written : (old count name new : List Token) (from number : ℕ) (text : List ℕ) (version : ℕ) → from ≡ number
    → count ≡ old ++ key (codes "statement") ∷ Token.number (decimal from) ∷ []
    → name ≡ count ++ key (codes "text") ∷ Token.string text ∷ key (codes "version") ∷ Token.number (decimal version) ∷ [] → new ≡ name ++ end_object ∷ []
    → new ≡ old ++ subject_tokens number text version
unfolding subject_tokens
subject_written old count name new from number text version is first then_ last =
    let middle : List Token = key (codes "text") ∷ Token.string text ∷ key (codes "version") ∷ Token.number (decimal version) ∷ [] in
    last ∙ ap (λ (l : List Token). l ++ end_object ∷ []) then_ ∙ append_assoc count middle (end_object ∷ [])
    ∙ ap (λ (l : List Token). l ++ (middle ++ end_object ∷ [])) first
    ∙ append_assoc old (key (codes "statement") ∷ Token.number (decimal from) ∷ []) (middle ++ end_object ∷ [])
    ∙ ap (λ (n : ℕ). old ++ (key (codes "statement") ∷ Token.number (decimal n) ∷ (middle ++ end_object ∷ []))) is

pub parts_of : (index : ℕ) (e : Entry) (done : Outcome) → head_tokens index done ++ tail_tokens e done ≡ data_tokens (object (done_members index e done))
unfolding found_tokens head_tokens result_tokens subject_tokens subject_members matched_members failed_members repeated_members all_members
parts_of index e (Matched s t bound None) = simp append_assoc
parts_of index e (Matched s t bound (Some after)) = simp append_assoc
parts_of index e (Failed bound) = simp append_assoc
parts_of index e (Repeated n bound after) = simp append_assoc
parts_of index e (All matches None) = simp append_assoc
parts_of index e (All matches (Some after)) = simp append_assoc

-- the two parts of an entry
pub entry_parts : (index : ℕ) (e : Entry) → head_tokens index e.outcome ++ tail_tokens e e.outcome ≡ data_tokens (entry_data index e)
entry_parts index e = parts_of index e e.outcome

-- the same with an id between the two
pub id_parts : (id : Data) (index : ℕ) (e : Entry) (done : Outcome)
    → head_tokens index done ++ (key (codes "id") ∷ (data_tokens id ++ tail_tokens e done)) ≡ data_tokens (object (put (codes "id") id (done_members index e done)))
unfolding found_tokens head_tokens result_tokens subject_tokens subject_members matched_members failed_members repeated_members all_members
id_parts id index e (Matched s t bound None) = simp append_assoc
id_parts id index e (Matched s t bound (Some after)) = simp append_assoc
id_parts id index e (Failed bound) = simp append_assoc
id_parts id index e (Repeated n bound after) = simp append_assoc
id_parts id index e (All matches None) = simp append_assoc
id_parts id index e (All matches (Some after)) = simp append_assoc
