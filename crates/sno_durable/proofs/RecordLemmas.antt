-- The text of a record.
use Rattle.std.proofs.Common.{◌≡◌, ℕ, List, [], ◌∷◌, ◌++◌, ap, append_assoc}
use Rattle.std.specs.Prelude.{codes}
use Rattle.json.specs.Token.{Token, key, begin_object}
use Rattle.json.specs.Print.{print, print_from}
use Rattle.serde_json.specs.Data.{Data}
use Rattle.serde_json.specs.Written.{compact_text}
use Rattle.sno_durable.specs.Records.{record_data, record_text}

-- with the text of the reply's data it is the text of the record's data
pub record_of : (line reply : List ℕ) (d : Data) → reply ≡ compact_text d → record_text line reply ≡ compact_text (record_data line d)
record_of line reply d is = ap (record_text line) is

-- what is printed before the reply, and the brace after it
pub record_printed : (line reply : List ℕ)
    → (print (begin_object ∷ key (codes "line") ∷ Token.string line ∷ key (codes "reply") ∷ []) ++ reply) ++ 125 ∷ [] ≡ record_text line reply
unfolding print_from
record_printed line reply = simp append_assoc
