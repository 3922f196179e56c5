-- What a statement does to a book.
use Rattle.std.proofs.Common.{◌≡◌, refl, ap, ◌∙◌, rules}
use Rattle.sno_statement.specs.declared.outcomes.StatementFault.TheVariants as fault
use Rattle.sno_listing.specs.declared.refusals.Reason.TheVariants as reason
use Rattle.std.specs.Arc.{arc_value}
use Rattle.sno_statement.specs.Statement.{Statement}
use Rattle.sno_book.specs.Books.{view_of}
use Rattle.sno_book.specs.declared.faults.CommitFault.TheVariants as commits
use Rattle.sno_rewrite.proofs.SerialLemmas.{refused_none, refused_for, committed, taken_as, proposed_as, no_text, too_long, too_many, only_memory}
use Rattle.sno_rewrite.proofs.serial.advance.Goals as goal

pub returns-in-Err-NoText-clause-advanced : goal.returns-in-Err-NoText-clause-advanced
returns-in-Err-NoText-clause-advanced c =
    let name = c.text.ensures ∙ ap (λ (s : Statement). s.text) c.deref.ensures in
    refused_none (view_of c.args.performed.now.book) (arc_value c.args.statement.now) _ c.args.performed.now.refused.items c.refuse.new.refused.items
    (ap (λ (s : Statement). s.number) c.deref-in-Err-NoText.ensures) (no_text (view_of c.args.performed.now.book) _ _ c.in-Err-NoText.field-0 name c.in-Err-NoText.field-0-is c.in-Err-NoText.ensures) c.in_ok-refuse-in-Err-NoText.ensures.refused

pub returns-in-Err-TextTooLong-clause-advanced : goal.returns-in-Err-TextTooLong-clause-advanced
returns-in-Err-TextTooLong-clause-advanced c =
    let name = c.text.ensures ∙ ap (λ (s : Statement). s.text) c.deref.ensures in
    refused_for (view_of c.args.performed.now.book) (arc_value c.args.statement.now) _ c.in-Ok.snapshot c.args.performed.now.refused.items c.refuse-in-Err-TextTooLong.new.refused.items fault.TextTooLong reason.TextTooLong
    (ap (λ (s : Statement). s.number) c.deref-in-Err-TextTooLong.ensures) (taken_as _ _ _ c.in-Ok.snapshot name c.in-Ok.ensures)
    (too_long _ _ c.in-Ok.snapshot c.in-Err-TextTooLong.field-0 c.in_ok-try_clone.ensures c.in-Err-TextTooLong.field-0-is c.in-Err-TextTooLong.ensures) refl c.in_ok-refuse-in-Err-TextTooLong.ensures.refused

pub returns-in-Err-TooManyTrials-clause-advanced : goal.returns-in-Err-TooManyTrials-clause-advanced
returns-in-Err-TooManyTrials-clause-advanced c =
    let name = c.text.ensures ∙ ap (λ (s : Statement). s.text) c.deref.ensures in
    refused_for (view_of c.args.performed.now.book) (arc_value c.args.statement.now) _ c.in-Ok.snapshot c.args.performed.now.refused.items c.refuse-in-Err-TooManyTrials.new.refused.items fault.TooManyTrials reason.TooManyTrials
    (ap (λ (s : Statement). s.number) c.deref-in-Err-TooManyTrials.ensures) (taken_as _ _ _ c.in-Ok.snapshot name c.in-Ok.ensures)
    (too_many _ _ c.in-Ok.snapshot c.in-Err-TooManyTrials.field-0 c.in_ok-try_clone.ensures c.in-Err-TooManyTrials.field-0-is c.in-Err-TooManyTrials.ensures) refl c.in_ok-refuse-in-Err-TooManyTrials.ensures.refused

pub returns-in-Ok-commit-clause-advanced : goal.returns-in-Ok-commit-clause-advanced
returns-in-Ok-commit-clause-advanced c =
    let name = c.text.ensures ∙ ap (λ (s : Statement). s.text) c.deref.ensures in
    committed (view_of c.args.performed.now.book) (view_of c.commit.new.self) (arc_value c.args.statement.now) c.in-Ok.snapshot c.in-Ok-propose.proposal c.in-Ok-commit.field-0 c.args.performed.now.refused.items
    (taken_as _ _ _ c.in-Ok.snapshot name c.in-Ok.ensures) (proposed_as _ _ _ c.in-Ok.snapshot c.in_ok-try_clone.ensures c.in-Ok-propose.ensures) c.in-Ok-commit.ensures.accepted

pub unreachable-requires : goal.unreachable-requires
unreachable-requires c =
    let name = c.text.ensures ∙ ap (λ (s : Statement). s.text) c.deref.ensures in
    let memory : c.in-Err.field-0.0 ≡ commits.Memory =
    only_memory c.fresh_is_free.ensures c.args.performed.now.book (view_of c.commit.new.self) (arc_value c.args.statement.now) c.in-Ok.snapshot c.in-Ok-propose.proposal c.in-Err.field-0.1
    c.in-Err.field-0.0 c.requires (taken_as _ _ _ c.in-Ok.snapshot name c.in-Ok.ensures) (proposed_as _ _ _ c.in-Ok.snapshot c.in_ok-try_clone.ensures c.in-Ok-propose.ensures)
    c.in-Err.ensures.refused in
    search rules
