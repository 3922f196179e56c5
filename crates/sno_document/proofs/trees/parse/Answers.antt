-- A tree represents the value of the bytes if its numbers are in range.
use Rattle.std.proofs.Common.{◌≡◌, true, false, ap, arith}
use Rattle.json.specs.Value.{value_view}
use Rattle.sno_document.specs.Document.{value_or}
use Rattle.sno_document.specs.Trees.{is_in_range}
use Rattle.sno_document.proofs.JsonLemmas.{json_none}
use Rattle.sno_document.proofs.TreeLemmas.{tree_json, tree_no_json}
use Rattle.sno_document.proofs.trees.parse.Goals as goal

pub returns-in_default : goal.returns-in_default
returns-in_default c = λ _. ap value_or (json_none c.args.bytes.now (λ utf8. absurd (c.in_default.ensures.cases.0 utf8)))

pub returns-then-not-is_in_range : goal.returns-then-not-is_in_range
returns-then-not-is_in_range c = λ _.
    let out : is_in_range (value_view c.in_ok-value.value) ≡ false = grind arith in
    ap value_or (tree_no_json c.args.bytes.now c.in-Ok.text.now (value_view c.in_ok-value.value) c.in-Ok.ensures.cases.0 c.in_ok-value.ensures out)

pub returns : goal.returns
returns c =
    let inside : is_in_range (value_view c.in_ok-value.value) ≡ true = grind arith in
    ap value_or (tree_json c.args.bytes.now c.in-Ok.text.now (value_view c.in_ok-value.value) c.in-Ok.ensures.cases.0 c.in-Ok.ensures.cases.1 c.in_ok-value.ensures inside)
