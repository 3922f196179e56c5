-- No field, one that is unknown, or one more.
use Rattle.std.proofs.Common.{◌≡◌, ℕ, List, [], ◌∷◌, length, ap, sym, subst, arith, Ok, Err}
use Rattle.std.proofs.lemmas.List.{length-drop}
use Rattle.sno_rules.specs.Lines.{fields_seen, before_sign}
use Rattle.sno_rules.proofs.FieldLaws.{nothing, within, none_left, one_unknown, one_field}
use Rattle.sno_rules.proofs.fields.fields_in.Goals as goal

pub returns-in-Err : goal.returns-in-Err
returns-in-Err c =
    c.loop-after.invariant.1 _ (one_unknown c.args.total (fields_seen c.loop-after.fields) c.loop-after.rest.now c.in-Some.field-0-0.now c.in-Some.after.now c.split.result.0.now c.in-Err.fault
    c.in-Some.ensures.cases.0 c.split.ensures.front c.in-Err.ensures)

pub loop-after-preserved : goal.loop-after-preserved
loop-after-preserved c = (
  within c.args.total (before_sign 58 0 c.in-Some.after.now) c.in-Some.after.now c.split.result.1.now c.loop-after.rest.now c.split.ensures.rest c.in-Some.ensures.cases.1 c.loop-after.invariant.0,
  λ r others. c.loop-after.invariant.1 r (one_field c.args.total (fields_seen c.loop-after.fields) (fields_seen c.in-Ok.more) c.loop-after.rest.now c.in-Some.field-0-0.now c.in-Some.after.now
      c.split.result.0.now c.split.result.1.now r c.in-Some.ensures.cases.0 c.split.ensures.front c.split.ensures.rest c.in-Ok.ensures others),
)

pub returns : goal.returns
returns c = c.loop-after.invariant.1 _ (none_left c.args.total (fields_seen c.loop-after.fields) c.loop-after.rest.now (nothing c.loop-after.rest.now c.in_default.ensures.cases))
