-- The values so far, with those of the entries that are left, and no more of them than the limit.
use Rattle.std.proofs.Common.{◌≡◌, ◌≤◌, ◌+◌, ◌++◌, drop, length, map}
use Rattle.std.specs.Option.{option_map}
use Rattle.serde_json.specs.View.{view}
use Rattle.sno_serve.specs.Excerpts.{rows_of}
use Rattle.sno_serve.proofs.excerpt.first_values.Given as goal

abbrev pub invariant-loop-place : goal.invariant-loop-place
invariant-loop-place l = (map view l.values.items ++ rows_of (option_map (λ n. n.now) l.name) (l.from + l.place) (drop l.place l.entries) ≡ rows_of (option_map (λ n. n.now) l.name) l.from l.entries) × (length l.values.items ≤ l.most)
