-- The rows so far, with those that are left, are all.
use Rattle.std.proofs.Common.{◌≡◌, ◌++◌, drop, map}
use Rattle.serde_json.specs.View.{view}
use Rattle.sno_serve.specs.Replies.{rows_data}
use Rattle.sno_serve.proofs.replies.row_values.Given as goal

abbrev pub invariant-loop-place : goal.invariant-loop-place
invariant-loop-place l = map view l.rows.items ++ rows_data (map (λ n. n.now) (drop l.place l.names)) (drop l.place l.taken) ≡ rows_data (map (λ n. n.now) l.names) l.taken
