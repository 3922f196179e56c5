-- Trees and the values that they represent.
use Rattle.std.proofs.Common.{◌≡◌, ℕ, Bool, true, false, cond, ◌&&◌, List, [], ◌∷◌, map, Option, Some, None, option_map, option_and_then, is_some, unwrap_or, Global, Bor, refl, ap, sym, ◌∙◌, bytes_eq}
use Rattle.std.proofs.lemmas.Slice.Eq.{bytes_eq-Decides}
use Rattle.json.specs.Json as json
use Rattle.json.specs.Find as found
use Rattle.json.specs.Value.{value_view, items_of}
use Rattle.json.specs.declared.value.Value.{Value}
use Rattle.serde_json.specs.Data.{Data, Num, number, item, array, object, Items, Members, no_members, put, unsigned}
use Rattle.serde_json.specs.Find.{get, get_member, as_str, as_bool}
use Rattle.serde_json.specs.Read.{of_json, of_items, of_members, number_of, read}
use Rattle.serde_json.proofs.Views.{get_member-put, get_member-put_other}
use Rattle.std.specs.Str.{IsUtf8}
use Rattle.sno_document.specs.Json.{elements, json_of}
use Rattle.sno_document.specs.Trees.{is_in_range, are_items_in_range, are_members_in_range, data_of, data_items, data_members, tree_of_text, tree_seen}
use Rattle.sno_document.proofs.JsonLemmas.{json_found, json_none}

number_read : (o : Option Num) → option_map number o ≡ cond (is_some o) (Some (number (unwrap_or o (unsigned 0)))) None
number_read None = refl
number_read (Some n) = refl

item_read : (a b : Bool) (d : Data) (ds : Items)
    → option_and_then (λ e. option_map (item e) (cond b (Some ds) None)) (cond a (Some d) None) ≡ cond (a && b) (Some (item d ds)) None
item_read true true d ds = refl
item_read true false d ds = refl
item_read false b d ds = refl

member_read : (a b : Bool) (d : Data) (more : Data → Option Members) (ms : Members) → more d ≡ cond b (Some ms) None
    → option_and_then more (cond a (Some d) None) ≡ cond (a && b) (Some ms) None
member_read true b d more ms is = is
member_read false b d more ms is = refl

array_read : (b : Bool) (ds : Items) → option_map array (cond b (Some ds) None) ≡ cond b (Some (array ds)) None
array_read true ds = refl
array_read false ds = refl

object_read : (b : Bool) (ms : Members) → option_map object (cond b (Some ms) None) ≡ cond b (Some (object ms)) None
object_read true ms = refl
object_read false ms = refl

-- a tree is read as its value if its numbers are in range
mutual
  pub tree_read : (j : json.Json) → of_json j ≡ cond (is_in_range j) (Some (data_of j)) None
  tree_read json.null = refl
  tree_read (json.boolean b) = refl
  tree_read (json.number s) = number_read (number_of s)
  tree_read (json.string s) = refl
  tree_read (json.array js) = ap (option_map array) (items_read js) ∙ array_read (are_items_in_range js) (data_items js)
  tree_read (json.object ms) =
      ap (option_map object) (members_read ms no_members) ∙ object_read (are_members_in_range ms) (data_members ms no_members)

  items_read : (js : json.Items) → of_items js ≡ cond (are_items_in_range js) (Some (data_items js)) None
  items_read json.no_items = refl
  items_read (json.item j js) = rw (tree_read j, items_read js) (item_read (is_in_range j) (are_items_in_range js) (data_of j) (data_items js))

  members_read : (ms : json.Members) (done : Members) → of_members ms done ≡ cond (are_members_in_range ms) (Some (data_members ms done)) None
  members_read json.no_members done = refl
  members_read (json.member k j ms) done =
      rw (tree_read j) (member_read (is_in_range j) (are_members_in_range ms) (data_of j) (λ d. of_members ms (put k d done))
      (data_members ms (put k (data_of j) done)) (members_read ms (put k (data_of j) done)))

-- the member of a name among those of a tree, or otherwise among those before it
abbrev later_or : Option Data → Option Data → Option Data
later_or None earlier = earlier
later_or (Some d) earlier = Some d

differs : (k name : List ℕ) (b : Bool) → bytes_eq k name ≡ b → b ≡ false → name ≡ k → ⊥
differs k name b is other same = let yes = (bytes_eq-Decides k name).1 (sym same) in cc

here_or : (b : Bool) (name k : List ℕ) (d : Data) (done : Members) → bytes_eq k name ≡ b
    → get_member name (put k d done) ≡ later_or (cond b (Some d) None) (get_member name done)
here_or true name k d done is =
    let same : k ≡ name = (bytes_eq-Decides k name).0 is in
    rw same (get_member-put name d done)
here_or false name k d done is = get_member-put_other name k d done (differs k name false is refl)

joined : (o : Option json.Json) (b : Bool) (j : json.Json) (e : Option Data)
    → later_or (option_map data_of o) (later_or (cond b (Some (data_of j)) None) e)
    ≡ later_or (option_map data_of (found.later_or o (cond b (Some j) None))) e
joined None true j e = refl
joined None false j e = refl
joined (Some x) b j e = refl

members_found : (name : List ℕ) (ms : json.Members) (done : Members)
    → get_member name (data_members ms done) ≡ later_or (option_map data_of (found.get_member name ms)) (get_member name done)
members_found name json.no_members done = refl
members_found name (json.member k j ms) done =
    members_found name ms (put k (data_of j) done)
    ∙ ap (later_or (option_map data_of (found.get_member name ms))) (here_or (bytes_eq k name) name k (data_of j) done refl)
    ∙ joined (found.get_member name ms) (bytes_eq k name) j (get_member name done)

or_none : (o : Option Data) → later_or o None ≡ o
or_none None = refl
or_none (Some d) = refl

-- the member found in the value is the value of the member found in the tree
member_seen : (name : List ℕ) (j : json.Json) → get name (data_of j) ≡ option_map data_of (found.get name j)
member_seen name json.null = refl
member_seen name (json.boolean b) = refl
member_seen name (json.number s) = refl
member_seen name (json.string s) = refl
member_seen name (json.array js) = refl
member_seen name (json.object ms) = members_found name ms no_members ∙ or_none (option_map data_of (found.get_member name ms))

seen_of : (r : Option (Bor (Value Global))) → option_map (λ v. tree_seen v.now) r ≡ option_map data_of (option_map (λ v. value_view v.now) r)
seen_of None = refl
seen_of (Some v) = refl

-- the same for the program's tree
pub member_found : (name : List ℕ) (v : Value Global) (r : Option (Bor (Value Global)))
    → option_map (λ v. value_view v.now) r ≡ found.get name (value_view v)
    → option_map (λ v. tree_seen v.now) r ≡ get name (tree_seen v)
member_found name v r is = seen_of r ∙ ap (option_map data_of) is ∙ sym (member_seen name (value_view v))

-- a string of the tree is a string of the value
pub string_seen : (j : json.Json) → as_str (data_of j) ≡ found.as_str j
string_seen json.null = refl
string_seen (json.boolean b) = refl
string_seen (json.number s) = refl
string_seen (json.string s) = refl
string_seen (json.array js) = refl
string_seen (json.object ms) = refl

-- and so is true or false
pub bool_seen : (j : json.Json) → as_bool (data_of j) ≡ found.as_bool j
bool_seen json.null = refl
bool_seen (json.boolean b) = refl
bool_seen (json.number s) = refl
bool_seen (json.string s) = refl
bool_seen (json.array js) = refl
bool_seen (json.object ms) = refl

-- the elements of an array
pub elements_seen : (vs : List (Value Global)) → elements (data_items (items_of (map value_view vs))) ≡ map tree_seen vs
elements_seen [] = refl
elements_seen (v ∷ vs) = ap (λ (l : List Data). tree_seen v ∷ l) (elements_seen vs)

in_range_read : (b : Bool) (text : List ℕ) (j : json.Json) → is_in_range j ≡ b → tree_of_text text ≡ Some j
    → read text ≡ cond b (Some (data_of j)) None
in_range_read b text j in_range is = ap (option_and_then of_json) is ∙ tree_read j ∙ ap (λ (c : Bool). cond c (Some (data_of j)) None) in_range

-- if bytes are a tree and its numbers are in range, they have its value
pub tree_json : (bytes text : List ℕ) (j : json.Json) → text ≡ bytes → IsUtf8 bytes → tree_of_text text ≡ Some j
    → is_in_range j ≡ true → json_of bytes ≡ Some (data_of j)
tree_json bytes text j same utf8 is in_range = json_found bytes (data_of j) utf8 (ap read (sym same) ∙ in_range_read true text j in_range is)

-- and no value if one is out of range
pub tree_no_json : (bytes text : List ℕ) (j : json.Json) → text ≡ bytes → tree_of_text text ≡ Some j
    → is_in_range j ≡ false → json_of bytes ≡ None
tree_no_json bytes text j same is out = json_none bytes (λ _. ap read (sym same) ∙ in_range_read false text j out is)
