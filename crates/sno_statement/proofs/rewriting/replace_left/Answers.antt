-- Each match is written. At the end no search is left, and the trials that were spent are those of all searches.
use Rattle.std.proofs.Common.{◌≡◌, ◌<◌, ◌++◌, ◌∷◌, [], ℕ, List, length, drop, ap, sym, subst, ◌∙◌, arith, refl, MatchOption}
use Rattle.sno_pattern.specs.Ends.{part}
use Rattle.sno_pattern.specs.declared.byte_texts.TheConstants.{MAX_BYTES}
use Rattle.sno_statement.specs.Statement.{Statement}
use Rattle.sno_statement.specs.declared.match_lists.Match.{Match}
use Rattle.sno_statement.specs.Passes.{Pass, match_by, matches_left, replaced, trials_together}
use Rattle.sno_statement.proofs.PassLaws.{ended_within}
use Rattle.sno_statement.proofs.Replacing.{end_written, match_written}
use Rattle.sno_statement.proofs.rewriting.replace_left.Goals as goal

pub overflow_add-matches : goal.overflow_add-matches
overflow_add-matches c =
    let next : matches_left c.loop-text.pass ≡ match_by c.loop-text.pass.text c.in-Some.sets c.in-Some.hit ∷ matches_left c.next_in_file.new.self = rw c.in-Some.is at c.in_ok-sets.ensures.next in
    let here = ap length next in
    omega (arith, here, c.loop-text.invariant.counted, c.requires.few)

pub loop-text-preserved : goal.loop-text-preserved
loop-text-preserved c =
    let t = c.args.subject.now in
    let parts = c.args.object.now in
    let before = c.loop-text.invariant in
    let found : Match = match_by t c.in-Some.sets c.in-Some.hit in
    let kept = c.give_back.ensures in
    let next : matches_left c.loop-text.pass ≡ match_by c.loop-text.pass.text c.in-Some.sets c.in-Some.hit ∷ matches_left c.next_in_file.new.self = rw c.in-Some.is at c.in_ok-sets.ensures.next in
    let left : matches_left c.loop-text.pass ≡ found ∷ matches_left c.give_back.new.self =
    next ∙ ap (λ (z : List ℕ). match_by z c.in-Some.sets c.in-Some.hit ∷ matches_left c.next_in_file.new.self) before.text ∙ ap (λ (z : Pass). found ∷ matches_left z) (sym kept) in
    let here = ap length left in
    let all = replaced parts t 0 (matches_left c.args.pass.now) in
    let so_far : MatchOption c.loop-text.text (MAX_BYTES < length all) (λ v. v.items ++ replaced parts t c.loop-text.cursor (found ∷ matches_left c.give_back.new.self) ≡ all) =
    subst (λ (z : List Match). MatchOption c.loop-text.text (MAX_BYTES < length all) (λ v. v.items ++ replaced parts t c.loop-text.cursor z ≡ all)) left before.written in
    record {
      written = match_written parts t (part t c.loop-text.cursor c.in-Some.hit.start) all c.loop-text.cursor found (matches_left c.give_back.new.self) c.loop-text.text c.in_ok-text.text refl so_far c.in_ok-text.ensures.added;
      short = c.in_ok-text.ensures.short;
      counted = omega (arith, here, before.counted);
      trials = ap trials_together kept ∙ c.in_ok-sets.ensures.trials ∙ before.trials;
      statement = ap (λ (z : Pass). z.statement) kept ∙ c.in_ok-sets.ensures.same.0 ∙ before.statement;
      text = ap (λ (z : Pass). z.text) kept ∙ c.in_ok-sets.ensures.same.1 ∙ before.text;
    }

pub returns-clause-counted : goal.returns-clause-counted
returns-clause-counted c =
    let nothing : matches_left c.loop-text.pass ≡ [] = rw c.in_default.is at c.in_ok-sets.ensures.next in
    let here = ap length nothing in
    omega (arith, here, c.loop-text.invariant.counted)

pub returns-clause-replaced : goal.returns-clause-replaced
returns-clause-replaced c =
    let t = c.args.subject.now in
    let parts = c.args.object.now in
    let all = replaced parts t 0 (matches_left c.args.pass.now) in
    let nothing : matches_left c.loop-text.pass ≡ [] = rw c.in_default.is at c.in_ok-sets.ensures.next in
    let so_far : MatchOption c.loop-text.text (MAX_BYTES < length all) (λ v. v.items ++ drop c.loop-text.cursor t ≡ all) =
    subst (λ (z : List Match). MatchOption c.loop-text.text (MAX_BYTES < length all) (λ v. v.items ++ replaced parts t c.loop-text.cursor z ≡ all)) nothing c.loop-text.invariant.written in
    let end : drop c.loop-text.cursor t ≡ c.back-end.result.now = sym c.back-end.ensures in
    let there : MatchOption c.loop-text.text (MAX_BYTES < length all) (λ v. v.items ++ c.back-end.result.now ≡ all) =
    subst (λ (z : List ℕ). MatchOption c.loop-text.text (MAX_BYTES < length all) (λ v. v.items ++ z ≡ all)) end so_far in
    end_written c.back-end.result.now all c.loop-text.text c.in_ok-text-2.text there c.in_ok-text-2.ensures.added c.in_ok-text-2.ensures.short

pub returns-clause-within : goal.returns-clause-within
returns-clause-within c =
    let kept = c.in_ok-sets.ensures.trials ∙ c.loop-text.invariant.trials in
    let limit = ap (λ (z : Statement). z.limit) (c.in_ok-sets.ensures.same.0 ∙ c.loop-text.invariant.statement) in
    let spent = ended_within c.next_in_file.new.self (rw c.in_default.is at c.in_ok-sets.ensures.ended) c.in_ok-sets.ensures.within in
    omega (arith, kept, limit, spent)
