-- A match is replaced by the object's value for its own bindings.
use Rattle.std.proofs.Common.{◌≡◌, ◌≤◌, ℕ, List, length, Some, ap, subst}
use Rattle.sno_pattern.specs.declared.byte_texts.TheConstants.{MAX_BYTES}
use Rattle.sno_statement.specs.Bindings.{bindings_of}
use Rattle.sno_statement.specs.Passes.{match_by}
use Rattle.sno_statement.specs.Perform.{finish_within}
use Rattle.sno_statement.specs.Value.{new_text, value_of}
use Rattle.sno_statement.proofs.RewritingRounds.{replaced_once}
use Rattle.sno_statement.proofs.rewriting.finish.Goals as goal

pub returns-in-None : goal.returns-in-None
returns-in-None c =
    let t = c.args.subject.now in
    let bound = bindings_of t c.args.found.now in
    (bound, ap (finish_within MAX_BYTES (Some c.args.object.now) t bound) c.in-None.is)

pub returns-in_ok-after-in-Some : goal.returns-in_ok-after-in-Some
returns-in_ok-after-in-Some c =
    let t = c.args.subject.now in
    let parts = c.args.object.now in
    let hit = c.in-Some.hit in
    let after = c.in_ok-after-in-Some.after in
    let made =
    subst (λ (z : List ℕ). (after ≡ new_text z hit.start hit.end (value_of (match_by z c.args.found.now.sets hit).bindings parts))
    × (length (new_text z hit.start hit.end (value_of (match_by z c.args.found.now.sets hit).bindings parts)) ≤ MAX_BYTES)) c.bytes.ensures.value c.in_ok-after-in-Some.ensures in
    replaced_once t parts c.args.found.now hit after c.in-Some.is made.0 made.1
