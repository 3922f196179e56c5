-- The files so far are planned.
use Rattle.std.proofs.Common.{◌≡◌, ◌≤◌, ◌+◌, map, take, vec_len, vec_capacity}
use Rattle.sno_edit.specs.Batches.{ArePlanned}
use Rattle.sno_edit.specs.Rules.{rules_seen}
use Rattle.sno_edit.proofs.batches.plan_files.Given as goal

abbrev pub invariant-loop-path : goal.invariant-loop-path
invariant-loop-path g l =
    ArePlanned (rules_seen l.rules) (g.F.Folder.holds l.folder) (map (λ p. p.now) (take l.path-index l.paths)) l.planned.items l.writes.items
    × (vec_len l.planned ≡ l.path-index) × (vec_capacity l.fn.planned ≤ vec_capacity l.planned)
