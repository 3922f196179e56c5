-- One more part, at each turn.
use Rattle.std.proofs.Common.{◌-◌, is_ok, ap, map, arith, rules}
use Rattle.std.proofs.lemmas.List.{map-append}
use Rattle.std.proofs.ResultArms.{chosen}
use Rattle.std.proofs.lemmas.Result.{err_from_is_err_and}
use Rattle.sno_read.specs.ByteParts.{part_of}
use Rattle.sno_read.specs.Views.{env_of}
use Rattle.sno_read.proofs.Parts.{parts_end, part_stops, gap_stops, part_more}
use Rattle.sno_read.proofs.reader.Reader.byte_parts.Goals as goal

pub returns-in_err-part : goal.returns-in_err-part
returns-in_err-part c =
    let p = err_from_is_err_and c.from_residual.result c.from_residual.ensures.1 in
    rw (p.1, p.2) (part_stops (env_of c.args.self.now) c.loop-rest.invariant.0 _ c.loop-rest.rest.characters.now (map part_of c.loop-rest.parts.items) _ c.loop-rest.invariant.1 c.loop-rest.invariant.2 _ (search (rules, c.loop-rest-test.ensures)) c.in_err-part.ensures.read)

pub returns-in_err-rest : goal.returns-in_err-rest
returns-in_err-rest c =
    let p = err_from_is_err_and c.from_residual-in_err-rest.result c.from_residual-in_err-rest.ensures.1 in
    rw (p.1, p.2) (gap_stops (env_of c.args.self.now) c.loop-rest.invariant.0 _ c.loop-rest.rest.characters.now (map part_of c.loop-rest.parts.items) _ c.loop-rest.invariant.1 c.loop-rest.invariant.2 (part_of c.in_ok-part.part) c.in_ok-part.rest_after.characters.now _ (search (rules, c.loop-rest-test.ensures)) c.in_ok-part.ensures.read c.in_err-rest.ensures.read)

pub loop-rest-preserved : goal.loop-rest-preserved
loop-rest-preserved c =
    let pushed = chosen _ _ _ _ c.push.ensures.items (ap is_ok c.in_ok-push.was) in (
      c.loop-rest.invariant.0 - 1,
      omega (arith, c.loop-rest.invariant.1, c.in_ok-part.ensures.shorter, c.in_ok-rest.ensures.shorter),
      rw (pushed, map-append) (part_more (env_of c.args.self.now) c.loop-rest.invariant.0 _ c.loop-rest.rest.characters.now (map part_of c.loop-rest.parts.items) _ c.loop-rest.invariant.1 c.loop-rest.invariant.2 (part_of c.in_ok-part.part) c.in_ok-part.rest_after.characters.now _ (search (rules, c.loop-rest-test.ensures)) c.in_ok-part.ensures.read c.in_ok-rest.ensures.read),
    )

pub returns : goal.returns
returns c = parts_end (env_of c.args.self.now) c.loop-rest.invariant.0 _ c.loop-rest.rest.characters.now (map part_of c.loop-rest.parts.items) _ c.loop-rest.invariant.1 c.loop-rest.invariant.2 (search (rules, c.loop-rest-test.ensures))
