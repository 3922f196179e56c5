-- The value that a tree of JSON represents. A tree is a value as `Json` reads it, except that its numbers may be out of
-- range.
use Rattle.std.specs.Prelude.{ℕ, Bool, true, ◌&&◌, List, Option, option_and_then, unwrap_or, is_some}
use Rattle.std.specs.declared.alloc.Global.{Global}
use Rattle.json.specs.Json as json
use Rattle.json.specs.Lex.{tokens}
use Rattle.json.specs.Value.{value_view}
use Rattle.json.specs.declared.value.Value.{Value}
use Rattle.serde_json.specs.Data.{Num, Data, null, boolean, number, string, array, object, Items, no_items, item, Members, no_members, put, unsigned}
use Rattle.serde_json.specs.Read.{number_of, max_depth}

-- the tree of a text, if it has one
abbrev pub tree_of_text : List ℕ → Option json.Json
tree_of_text text = option_and_then (λ p. json.if_last p.0 p.1) (json.value max_depth (tokens text))

-- whether each number of a tree is in range
abbrev mutual
  pub is_in_range : json.Json → Bool
  is_in_range json.null = true
  is_in_range (json.boolean b) = true
  is_in_range (json.number s) = is_some (number_of s)
  is_in_range (json.string s) = true
  is_in_range (json.array js) = are_items_in_range js
  is_in_range (json.object ms) = are_members_in_range ms

  pub are_items_in_range : json.Items → Bool
  are_items_in_range json.no_items = true
  are_items_in_range (json.item j js) = is_in_range j && are_items_in_range js

  pub are_members_in_range : json.Members → Bool
  are_members_in_range json.no_members = true
  are_members_in_range (json.member k j ms) = is_in_range j && are_members_in_range ms

-- the number that its text represents, or 0 if it is out of range
abbrev pub number_seen : List ℕ → Num
number_seen s = unwrap_or (number_of s) (unsigned 0)

-- The value of a tree, with 0 for a number out of range. The members are added one after another, so the last value of
-- a key stays.
abbrev mutual
  pub data_of : json.Json → Data
  data_of json.null = null
  data_of (json.boolean b) = boolean b
  data_of (json.number s) = number (number_seen s)
  data_of (json.string s) = string s
  data_of (json.array js) = array (data_items js)
  data_of (json.object ms) = object (data_members ms no_members)

  pub data_items : json.Items → Items
  data_items json.no_items = no_items
  data_items (json.item j js) = item (data_of j) (data_items js)

  pub data_members : json.Members → Members → Members
  data_members json.no_members found = found
  data_members (json.member k j ms) found = data_members ms (put k (data_of j) found)

-- the value of the program's tree
abbrev pub tree_seen : Value Global → Data
tree_seen v = data_of (value_view v)
