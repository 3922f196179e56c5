-- The findings so far, with those that are left, are all.
use Rattle.std.proofs.Common.{◌≡◌, ◌++◌, drop, map, string_bytes}
use Rattle.serde_json.specs.View.{view}
use Rattle.sno_serve.specs.Replies.{finding_data}
use Rattle.sno_serve.proofs.findings.finding_values.Given as goal

abbrev pub invariant-loop-warning : goal.invariant-loop-warning
invariant-loop-warning l =
    map view l.values.items ++ map (finding_data l.number) (map (λ w. string_bytes w.message) (drop l.warning-index l.warnings))
    ≡ map (finding_data l.number) (map (λ w. string_bytes w.message) l.warnings)
