-- An array of the tree is an array of the value.
use Rattle.std.proofs.Common.{◌≡◌, List, map, Some, option_map, sym, ap, ◌∙◌}
use Rattle.json.specs.Json as json
use Rattle.json.specs.Value.{value_view, items_view}
use Rattle.json.specs.declared.value.Value.{Value}
use Rattle.json.proofs.Trees.{view-Array}
use Rattle.serde_json.specs.Data.{Data}
use Rattle.serde_json.specs.Find.{as_array}
use Rattle.std.specs.declared.alloc.Global.{Global}
use Rattle.sno_document.specs.Json.{elements}
use Rattle.sno_document.specs.Trees.{data_of, tree_seen}
use Rattle.sno_document.proofs.TreeLemmas.{elements_seen}
use Rattle.sno_document.proofs.members.elements.Goals as goal

pub returns-in-Array : goal.returns-in-Array
returns-in-Array c =
    let vs = c.in-Array.list.items in
    let seen : value_view c.args.value.now ≡ json.array (items_view vs) = ap value_view c.in-Array.is ∙ view-Array c.in-Array.list in
    ap (λ (l : List (Value Global)). Some (map tree_seen l)) c.as_slice.ensures.value
    ∙ sym (ap (λ (j : json.Json). option_map elements (as_array (data_of j))) seen ∙ ap (λ (l : List Data). Some l) (elements_seen vs))
