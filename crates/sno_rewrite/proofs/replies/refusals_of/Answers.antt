-- One reply more, and all of them.
use Rattle.std.proofs.Common.{◌≡◌, ◌++◌, [], ◌∷◌, ℕ, suc, map, length, length-append, take, refl, sym, subst, ap, ◌∙◌, arith}
use Rattle.std.specs.Arc.{arc_value}
use Rattle.std.proofs.Math.ListN.{length-map}
use Rattle.std.proofs.lemmas.Option.{slice_get_read}
use Rattle.std.proofs.lemmas.Slice.Zip.{zip_turn, zip_end}
use Rattle.sno_rewrite.specs.Owners.{Lists}
use Rattle.sno_rewrite.proofs.ReplyLemmas.{lists_all, lists_more, lists_none, seen_at}
use Rattle.sno_rewrite.proofs.replies.refusals_of.Goals as goal

pub loop-statement-init : goal.loop-statement-init
loop-statement-init c = subst (λ l. Lists [] [] l) (sym c.new-refused.ensures.items) lists_none

pub loop-statement-preserved : goal.loop-statement-preserved
loop-statement-preserved c =
    let first = ap (λ z. z.a.rest.now) c.into_iter-statement-iterator.ensures.into_iter_gives ∙ ap (λ z. z.rest.now) c.zip-statement-items.ensures.first ∙ c.iter.ensures.rest in
    let second = ap (λ z. z.b.rest.now) c.into_iter-statement-iterator.ensures.into_iter_gives ∙ ap (λ z. z.rest.now) c.zip-statement-items.ensures.second ∙ c.iter-2.ensures.rest in
    let turn = zip_turn c.args.statements.now c.args.replies.now c.loop-statement.yielded c.into_iter-statement-iterator.result c.loop-statement.statement-iterator c.next.new.self c.next.result first second c.loop-statement.yielded_by (c.in-Some.statement, c.in-Some.reply) c.in-Some.is c.next.ensures.steps in
    let n = length c.loop-statement.yielded in
    let more = lists_more (map arc_value c.args.statements.now) c.args.replies.now n c.deref.result.now c.in-Some.reply.now c.loop-statement.refused.items c.list.new.refused.items c.loop-statement.invariant
    (seen_at arc_value c.args.statements.now n c.in-Some.statement.now c.deref.result.now turn.0 (turn.2 c.in-Some.statement.now) c.deref.ensures)
    (slice_get_read c.args.replies.now (length c.args.replies.now) n c.in-Some.reply.now refl turn.1 (turn.3 c.in-Some.reply.now))
    c.in_ok-list.ensures.listed in
    let grown = length-append c.loop-statement.yielded ((c.in-Some.statement, c.in-Some.reply) ∷ []) in
    let next : suc n ≡ length (c.loop-statement.yielded ++ (c.in-Some.statement, c.in-Some.reply) ∷ []) = omega (arith, grown) in
    subst (λ (m : ℕ). Lists (take m (map arc_value c.args.statements.now)) (take m c.args.replies.now) c.list.new.refused.items) next more

pub returns-clause-lists : goal.returns-clause-lists
returns-clause-lists c =
    let even = c.requires in
    let seen = length-map c.args.statements.now arc_value in
    let first = ap (λ z. z.a.rest.now) c.into_iter-statement-iterator.ensures.into_iter_gives ∙ ap (λ z. z.rest.now) c.zip-statement-items.ensures.first ∙ c.iter.ensures.rest in
    let second = ap (λ z. z.b.rest.now) c.into_iter-statement-iterator.ensures.into_iter_gives ∙ ap (λ z. z.rest.now) c.zip-statement-items.ensures.second ∙ c.iter-2.ensures.rest in
    let many = zip_end c.args.statements.now c.args.replies.now c.loop-statement.yielded c.into_iter-statement-iterator.result c.loop-statement.statement-iterator c.next.new.self c.next.result first second c.loop-statement.yielded_by c.in-None.is c.next.ensures.steps in
    lists_all (map arc_value c.args.statements.now) c.args.replies.now (length c.loop-statement.yielded)
    c.loop-statement.refused.items (omega (arith, seen, many, even)) (omega (arith, seen, many, even)) c.loop-statement.invariant
