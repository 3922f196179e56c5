-- One more literal, at each turn.
use Rattle.std.proofs.Common.{◌≡◌, true, false, ◌-◌, is_ok, ap, arith, rules}
use Rattle.std.proofs.ResultArms.{chosen}
use Rattle.std.proofs.lemmas.Result.{err_from_is_err_and}
use Rattle.sno_read.specs.Characters.{goes_on}
use Rattle.sno_read.specs.Views.{env_of}
use Rattle.sno_read.proofs.Ascii.{ascii_joined}
use Rattle.sno_read.proofs.SetsMade.{literal_stops, literal_last, literal_more}
use Rattle.sno_read.proofs.reader.Reader.joined.Goals as goal

pub returns-in_err-content-clause-read : goal.returns-in_err-content-clause-read
returns-in_err-content-clause-read c =
    let p = err_from_is_err_and c.from_residual.result c.from_residual.ensures.1 in
    rw (p.1, p.2) (literal_stops (env_of c.args.self.now) c.loop-members.invariant.0 _ c.loop-members.rest.characters.now c.loop-members.members.items _ c.loop-members.invariant.1 c.loop-members.invariant.4 _ c.in_err-content.ensures.read)

pub returns-then-not-goes_on-clause-read : goal.returns-then-not-goes_on-clause-read
returns-then-not-goes_on-clause-read c =
    let joined = chosen _ _ _ _ c.extend_from_slice.ensures.items (ap is_ok c.in_ok-extend_from_slice.was) in
    let stops : goes_on c.in_ok-content.rest_after.characters.now ≡ false = search (rules, c.goes_on.ensures, c.if-not-goes_on.true, c.if-not-goes_on.ensures) in
    rw joined (literal_last (env_of c.args.self.now) c.loop-members.invariant.0 _ c.loop-members.rest.characters.now c.loop-members.members.items _ c.loop-members.invariant.1 c.loop-members.invariant.4 c.in_ok-content.content.characters.now c.in_ok-content.rest_after.characters.now c.in_ok-content.ensures.read stops)

pub loop-members-preserved : goal.loop-members-preserved
loop-members-preserved c =
    let joined = chosen _ _ _ _ c.extend_from_slice.ensures.items (ap is_ok c.in_ok-extend_from_slice.was) in
    let more : goes_on c.in_ok-content.rest_after.characters.now ≡ true = search (rules, c.goes_on.ensures, c.if-not-goes_on.false, c.if-not-goes_on.ensures) in (
      c.loop-members.invariant.0 - 1,
      omega (arith, c.loop-members.invariant.1, c.in_ok-content.ensures.shorter, c.after_blanks-rest.ensures.size),
      omega (arith, c.loop-members.invariant.2, c.in_ok-content.ensures.shorter, c.after_blanks-rest.ensures.size),
      rw joined (ascii_joined c.loop-members.members.items c.in_ok-content.content.characters.now c.loop-members.invariant.3 c.in_ok-content.ensures.ascii),
      rw (joined, c.after_blanks-rest.ensures.value) (literal_more (env_of c.args.self.now) c.loop-members.invariant.0 _ c.loop-members.rest.characters.now c.loop-members.members.items _ c.loop-members.invariant.1 c.loop-members.invariant.4 c.in_ok-content.content.characters.now c.in_ok-content.rest_after.characters.now c.in_ok-content.ensures.read more),
    )
