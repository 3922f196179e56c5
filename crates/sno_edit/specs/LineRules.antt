-- Rules in lines, as the rows of a document have them.
use Rattle.std.specs.Prelude.{ℕ, Bool, true, not, ◌&&◌, List, Option, Some, None, codes, unwrap_or, if◌then◌else◌}
use Rattle.std.specs.Option.{option_map, is_none}
use Rattle.sno_document.specs.Shape.{StatementRow}
use Rattle.sno_document.specs.Trees.{number_seen}
use Rattle.sno_rules.specs.declared.rules.LineRule.{LineRule}

-- The row of a rule: for every file if it names none, and for all matches unless it is for the first alone or repeated.
abbrev pub row_of : LineRule → StatementRow
row_of rule = record {
  text = unwrap_or (option_map (λ s. s.now) rule.text) (codes "*");
  pattern = rule.pattern.now;
  object = option_map (λ s. s.now) rule.object;
  anchored = if rule.anchored then Some true else None;
  repeat = option_map (λ s. number_seen s.now) rule.repeat;
  all = Some (not rule.first && is_none rule.repeat);
}
