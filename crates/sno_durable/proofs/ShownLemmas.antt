-- Lists of rows as a client is shown them.
use Rattle.std.proofs.Common.{◌≡◌, ℕ, List, [], ◌∷◌, Some, map, refl, sym, ap, ◌∙◌}
use Rattle.std.specs.Prelude.{option_and_then}
use Rattle.serde_json.specs.Data.{Data, Items, array, item}
use Rattle.serde_json.specs.Find.{as_array, get}
use Rattle.serde_json.specs.View.{view, items_of, items_view}
use Rattle.serde_json.specs.declared.value.Value.{Value}
use Rattle.sno_serve.specs.Replies.{with_further}
use Rattle.sno_durable.specs.Past.{items_shown, named_row_shown, rows_in, rows_shown}

items_all : (entries : ℕ) (versions : Data) (key : List ℕ) (rows : List Value)
    → items_of (map (λ r. named_row_shown entries versions key (view r)) rows) ≡ items_shown entries versions key (items_view rows)
items_all entries versions key [] = refl
items_all entries versions key (r ∷ rows) = ap (λ ds. item (named_row_shown entries versions key (view r)) ds) (items_all entries versions key rows)

-- the object with a list as a client is shown it
pub rows_found : (entries : ℕ) (versions : Data) (list key : List ℕ) (d : Data) (rows shown : List Value) → option_and_then as_array (get list d) ≡ Some (items_view rows)
    → map view shown ≡ map (λ r. named_row_shown entries versions key (view r)) rows
    → with_further list (array (items_view shown)) d ≡ rows_shown entries versions list key d
rows_found entries versions list key d rows shown found all =
    ap (λ ds. with_further list (array ds) d) (ap items_of all ∙ items_all entries versions key rows) ∙ sym (ap (rows_in entries versions list key d) found)
