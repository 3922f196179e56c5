-- Something else is given than the store was made of.
use Rattle.sno_durable.specs.Origins.{bytes_given}
use Rattle.sno_durable.proofs.Originating.{other_document, other_trials}
use Rattle.sno_durable.proofs.service.old_origin.Goals as goal

pub returns-then-not-is_of-clause-cause : goal.returns-then-not-is_of-clause-cause
returns-then-not-is_of-clause-cause c =
    other_document (bytes_given c.args.document) c.args.trials c.args.first.now c.in_ok-origin.field-0 c.in-Some.origin c.made_of.result.now c.in_ok-origin.ensures c.in-Some.is c.made_of.ensures
    (c.is_of.ensures.other c.if-not-is_of.true)

pub returns-then-not-is_with-clause-cause : goal.returns-then-not-is_with-clause-cause
returns-then-not-is_with-clause-cause c =
    other_trials (bytes_given c.args.document) c.args.trials c.args.first.now c.in_ok-origin.field-0 c.in-Some.origin c.in_ok-origin.ensures c.in-Some.is
    (c.is_with.ensures.other c.if-not-is_with.true)
