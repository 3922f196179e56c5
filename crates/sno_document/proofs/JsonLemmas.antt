-- Elements of arrays, and rows.
use Rattle.std.proofs.Common.{◌≡◌, ℕ, Bool, true, false, cond, List, [], ◌∷◌, Option, Some, None, refl, ap, ◌∙◌, sym}
use Rattle.std.specs.Option.{option_map}
use Rattle.std.specs.Str.{is_utf8, IsUtf8}
use Rattle.std.proofs.lemmas.Str.{IsUtf8-from_is_utf8, is_utf8-from_IsUtf8}
use Rattle.serde_json.specs.Read.{read}
use Rattle.serde_json.specs.Data.{Data, Items}
use Rattle.serde_json.specs.View.{items_of}
use Rattle.sno_document.specs.Json.{elements, json_of}

-- an array's elements are those that it was made of
elements-items_of : (ds : List Data) → elements (items_of ds) ≡ ds
elements-items_of [] = refl
elements-items_of (d ∷ ds) = ap (λ (l : List Data). d ∷ l) (elements-items_of ds)

pub elements_read : (ds : List Data) (o : Option Items) → Some (items_of ds) ≡ o → Some ds ≡ option_map elements o
elements_read ds o is = ap (λ (l : List Data). Some l) (sym (elements-items_of ds)) ∙ ap (λ (p : Option Items). option_map elements p) is

if_utf8 : (b : Bool) (o : Option Data) → b ≡ true → cond b o None ≡ o
if_utf8 true o h = refl
if_utf8 false o h = cc

-- bytes that are JSON
pub json_found : (bytes : List ℕ) (d : Data) → IsUtf8 bytes → read bytes ≡ Some d → json_of bytes ≡ Some d
json_found bytes d utf8 is = if_utf8 (is_utf8 bytes) (read bytes) (is_utf8-from_IsUtf8 bytes utf8) ∙ is

none_by : (b : Bool) (o : Option Data) → (b ≡ true → o ≡ None) → cond b o None ≡ None
none_by true o h = h refl
none_by false o h = refl

-- bytes that are not JSON
pub json_none : (bytes : List ℕ) → (IsUtf8 bytes → read bytes ≡ None) → json_of bytes ≡ None
json_none bytes h = none_by (is_utf8 bytes) (read bytes) (λ b. h (IsUtf8-from_is_utf8 bytes b))
