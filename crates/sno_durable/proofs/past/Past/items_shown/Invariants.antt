-- The rows so far, with those that are left.
use Rattle.std.proofs.Common.{◌≡◌, ◌++◌, drop, map}
use Rattle.serde_json.specs.View.{view}
use Rattle.sno_durable.specs.Past.{named_row_shown}
use Rattle.sno_durable.proofs.past.Past.items_shown.Given as goal

abbrev pub invariant-loop-row : goal.invariant-loop-row
invariant-loop-row l =
    map view l.shown.items ++ map (λ r. named_row_shown l.self.entries (view l.self.versions) l.key (view r)) (drop l.row-index l.rows)
    ≡ map (λ r. named_row_shown l.self.entries (view l.self.versions) l.key (view r)) l.rows
