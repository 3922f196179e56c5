-- Each match is counted. At the end no search is left, and the trials that were spent are those of all searches.
use Rattle.std.proofs.Common.{◌≡◌, ◌≤◌, ◌∷◌, [], length, ap, subst, ◌∙◌, arith}
use Rattle.sno_pattern.specs.declared.byte_texts.TheConstants.{MAX_BYTES}
use Rattle.sno_statement.specs.Statement.{Statement}
use Rattle.sno_statement.specs.Passes.{Pass, match_by, matches_left, most_searches, trials_together}
use Rattle.sno_statement.proofs.PassLaws.{ended_within, matches_few}
use Rattle.sno_statement.proofs.searches.Searches.count_left.Goals as goal

pub overflow_add-matches : goal.overflow_add-matches
overflow_add-matches c =
    let next : matches_left c.loop-sets.self ≡ match_by c.loop-sets.self.text c.in-Some.sets c.in-Some.hit ∷ matches_left c.next_hit.new.self = rw c.in-Some.is at c.in_ok-sets.ensures.next in
    let here = ap length next in
    let p = c.args.self.now in
    let few = matches_few p.statement p.text (most_searches p.text) p.before p.at in
    let short : length p.text ≤ MAX_BYTES = subst (λ (z : Pass). length z.text ≤ MAX_BYTES) c.self.view_is c.characters-short.ensures.short in
    omega (arith, here, c.loop-sets.invariant.counted, few, short)

pub loop-sets-preserved : goal.loop-sets-preserved
loop-sets-preserved c =
    let next : matches_left c.loop-sets.self ≡ match_by c.loop-sets.self.text c.in-Some.sets c.in-Some.hit ∷ matches_left c.next_hit.new.self = rw c.in-Some.is at c.in_ok-sets.ensures.next in
    let here = ap length next in
    let kept = ap (λ (z : Pass). length (matches_left z)) c.give_back.ensures in
    record {
      counted = omega (arith, here, kept, c.loop-sets.invariant.counted);
      trials = ap trials_together c.give_back.ensures ∙ c.in_ok-sets.ensures.trials ∙ c.loop-sets.invariant.trials;
      text = ap (λ (z : Pass). z.text) c.give_back.ensures ∙ c.in_ok-sets.ensures.same.1 ∙ c.loop-sets.invariant.text;
      statement = ap (λ (z : Pass). z.statement) c.give_back.ensures ∙ c.in_ok-sets.ensures.same.0 ∙ c.loop-sets.invariant.statement;
    }

pub returns-clause-counted : goal.returns-clause-counted
returns-clause-counted c =
    let nothing : matches_left c.loop-sets.self ≡ [] = rw c.in_default.is at c.in_ok-sets.ensures.next in
    let here = ap length nothing in
    omega (arith, here, c.loop-sets.invariant.counted)

pub returns-clause-within : goal.returns-clause-within
returns-clause-within c =
    let kept = c.in_ok-sets.ensures.trials ∙ c.loop-sets.invariant.trials in
    let limit = ap (λ (z : Statement). z.limit) (c.in_ok-sets.ensures.same.0 ∙ c.loop-sets.invariant.statement) in
    let spent = ended_within c.next_hit.new.self (rw c.in_default.is at c.in_ok-sets.ensures.ended) c.in_ok-sets.ensures.within in
    omega (arith, kept, limit, spent)
