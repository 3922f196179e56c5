-- What is written of an entry as JSON, token by token. A reply has its id between the two parts: after the index, and before what
-- says whether the statement matched.
use Rattle.std.specs.Prelude.{◌≡◌, ℕ, true, false, List, [], ◌∷◌, ◌++◌, map, Option, Some, None, codes}
use Rattle.std.specs.Fmt.{decimal}
use Rattle.json.specs.Token.{Token, key, begin_object, end_object}
use Rattle.json.specs.Tree.{json_tokens}
use Rattle.json.specs.Written.{Written}
use Rattle.serde_json.specs.Data.{Data}
use Rattle.serde_json.specs.Written.{outline}
use Rattle.sno_statement.specs.Perform.{Outcome, Matched, Failed, Repeated, All}
use Rattle.sno_book.specs.Entries.{Entry}
use Rattle.sno_listing.specs.JsonListing.{array_of, bindings_data, match_data}

-- the tokens come after those that were written before, and what the buffer held at the start stays
abbrev pub Adds : Written → Written → List Token → Type 0
Adds old new ts = (new.tokens ≡ old.tokens ++ ts) × (new.before ≡ old.before)

-- a value without a float
abbrev pub data_tokens : Data → List Token
data_tokens d = json_tokens (outline d)

-- the new text, if there is one
abbrev pub after_tokens : Option (List ℕ) → List Token
after_tokens None = []
after_tokens (Some text) = key (codes "after") ∷ Token.string text ∷ []

-- what was found: the new text, and what was bound, or all matches
unfoldable pub found_tokens : Outcome → List Token
found_tokens (Matched start end bound after) = after_tokens after ++ (key (codes "bindings") ∷ (data_tokens (bindings_data bound) ++ (key (codes "end") ∷ Token.number (decimal end) ∷ [])))
found_tokens (Failed bound) = key (codes "bindings") ∷ data_tokens (bindings_data bound)
found_tokens (Repeated n bound after) = after_tokens (Some after) ++ (key (codes "bindings") ∷ data_tokens (bindings_data bound))
found_tokens (All matches after) = after_tokens after ++ (key (codes "all") ∷ data_tokens (array_of (map match_data matches)))

-- an entry up to its index
unfoldable pub head_tokens : ℕ → Outcome → List Token
head_tokens index done = begin_object ∷ (found_tokens done ++ (key (codes "entry") ∷ Token.number (decimal index) ∷ []))

-- whether the statement matched: where the match began, or how many matches there were
unfoldable pub result_tokens : Outcome → List Token
result_tokens (Matched start end bound after) = key (codes "matched") ∷ Token.boolean true ∷ key (codes "start") ∷ Token.number (decimal start) ∷ []
result_tokens (Failed bound) = key (codes "matched") ∷ Token.boolean false ∷ []
result_tokens (Repeated n bound after) = key (codes "matched") ∷ Token.boolean true ∷ key (codes "repeated") ∷ Token.number (decimal n) ∷ []
result_tokens (All matches after) = key (codes "matched") ∷ Token.boolean true ∷ []

-- what an entry says of its statement, with the brace that closes its object
unfoldable pub subject_tokens : ℕ → List ℕ → ℕ → List Token
subject_tokens number name version =
    key (codes "statement") ∷ Token.number (decimal number) ∷ key (codes "text") ∷ Token.string name ∷ key (codes "version") ∷ Token.number (decimal version) ∷ end_object ∷ []

-- an entry after its index
abbrev pub tail_tokens : Entry → Outcome → List Token
tail_tokens e done = result_tokens done ++ subject_tokens e.statement.number e.statement.text e.version
