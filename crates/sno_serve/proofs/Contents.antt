-- Replies token by token.
use Rattle.std.proofs.Common.{◌≡◌, ◌+◌, ℕ, suc, true, false, List, [], ◌∷◌, ◌++◌, take, Option, Some, None, refl, sym, ap, ◌∙◌, append_assoc}
use Rattle.std.specs.Prelude.{codes}
use Rattle.json.specs.Token.{Token, key, begin_object, begin_array, end_object}
use Rattle.json.specs.Print.{print}
use Rattle.json.specs.Tree.{items_tokens}
use Rattle.serde_json.specs.Data.{Data, object}
use Rattle.serde_json.specs.View.{items_of}
use Rattle.serde_json.specs.Written.{compact_text, items_outline}
use Rattle.serde_json.proofs.Texts.{print-outline}
use Rattle.sno_statement.specs.Perform.{Outcome}
use Rattle.sno_book.specs.Entries.{Entry}
use Rattle.sno_book.specs.Proposals.{Receipt}
use Rattle.sno_listing.specs.JsonListing.{done_members, entry_data}
use Rattle.sno_listing.specs.Tokens.{data_tokens, head_tokens, tail_tokens}
use Rattle.sno_listing.proofs.TokenLemmas.{parts_of, id_parts}
use Rattle.sno_serve.specs.Contents.{entry_reply, id_tokens}
use Rattle.sno_serve.specs.Excerpts.{is_of, rows_of}
use Rattle.sno_serve.specs.Replies.{since_reply, with_id}

done_parts : (i : Option Data) (index : ℕ) (e : Entry) (done : Outcome) → head_tokens index done ++ (id_tokens i ++ tail_tokens e done) ≡ data_tokens (with_id i (done_members index e done))
done_parts None index e done = parts_of index e done
done_parts (Some d) index e done = id_parts d index e done

-- an entry with its id is one reply
pub entry_parts : (i : Option Data) (receipt : Receipt)
    → head_tokens receipt.index receipt.entry.outcome ++ (id_tokens i ++ tail_tokens receipt.entry receipt.entry.outcome) ≡ data_tokens (entry_reply i receipt)
entry_parts i receipt = done_parts i receipt.index receipt.entry receipt.entry.outcome

-- rows, with the bracket that closes their array
abbrev pub rows_tokens : List Data → List Token
rows_tokens rows = items_tokens (items_outline (items_of rows))

-- rows with an id are one reply
pub listed_parts : (i : Option Data) (rows : List Data)
    → begin_object ∷ key (codes "entries") ∷ begin_array ∷ (rows_tokens rows ++ (id_tokens i ++ end_object ∷ [])) ≡ data_tokens (since_reply i rows)
listed_parts None rows = refl
listed_parts (Some d) rows = refl

-- the text of a value's tokens
pub written : (d : Data) → print (data_tokens d) ≡ compact_text d
written d = print-outline d

-- the first row is one more that is written
pub row_written : (name : Option (List ℕ)) (index left next : ℕ) (e : Entry) (entries : List Entry) (out new all : List Token) → is_of name e ≡ true → left ≡ suc next
    → new ≡ out ++ data_tokens (entry_data index e) → out ++ rows_tokens (take left (rows_of name index (e ∷ entries))) ≡ all
    → new ++ rows_tokens (take next (rows_of name (index + 1) entries)) ≡ all
row_written name index left next e entries out new all of_it one_less put so_far =
    let rows = rows_of name (index + 1) entries in
    let first : rows_of name index (e ∷ entries) ≡ entry_data index e ∷ rows = rw of_it in
    ap (λ (l : List Token). l ++ rows_tokens (take next rows)) put ∙ append_assoc out (data_tokens (entry_data index e)) (rows_tokens (take next rows))
    ∙ ap (λ (ds : List Data). out ++ rows_tokens (take (suc next) ds)) (sym first)
    ∙ ap (λ (n : ℕ). out ++ rows_tokens (take n (rows_of name index (e ∷ entries)))) (sym one_less) ∙ so_far

-- the first row isn't wanted
pub row_passed : (name : Option (List ℕ)) (index left : ℕ) (e : Entry) (entries : List Entry) (out all : List Token) → is_of name e ≡ false
    → out ++ rows_tokens (take left (rows_of name index (e ∷ entries))) ≡ all → out ++ rows_tokens (take left (rows_of name (index + 1) entries)) ≡ all
row_passed name index left e entries out all other so_far =
    let passed : rows_of name index (e ∷ entries) ≡ rows_of name (index + 1) entries = rw other in
    ap (λ (ds : List Data). out ++ rows_tokens (take left ds)) (sym passed) ∙ so_far
