-- Each round is one of those that are left.
use Rattle.std.proofs.Common.{◌≡◌, ◌-◌, ◌+◌, ◌∙◌, ℕ, List, Option, Some, Ok, Err, unwrap_or, subst, ap, sym, arith}
use Rattle.std.proofs.lemmas.Result.{err_from_is_err_and}
use Rattle.sno_pattern.specs.declared.byte_texts.TheConstants.{MAX_BYTES}
use Rattle.sno_statement.specs.Statement.{with_limit}
use Rattle.sno_statement.specs.Perform.{perform_once_within}
use Rattle.sno_statement.specs.Rewriting.{GivesRewritten, GivesRound, left_by}
use Rattle.sno_statement.proofs.RewritingRounds.{all_rounds, round_failed, round_matched, round_refused, rounds_left}
use Rattle.sno_statement.proofs.rewriting.rewrite_rounds.Goals as goal

pub returns-in_err-round-clause-rewritten : goal.returns-in_err-round-clause-rewritten
returns-in_err-round-clause-rewritten c =
    let s = with_limit c.args.rounds.statement.now c.args.rounds.trials in
    let t = c.args.subject.now in
    let m = c.loop-matches.matches in
    let fault = c.in_err-round.field-0.0 in
    let e = err_from_is_err_and c.from_residual.result c.from_residual.ensures.1 in
    let refused = subst (λ (z : List ℕ). GivesRound (Err fault) (perform_once_within MAX_BYTES s z)) c.latest-text.ensures c.in_err-round.ensures in
    let all = sym c.loop-matches.invariant.same ∙ all_rounds s t c.args.times c.requires.some in
    rw (e.1, e.2) (subst (GivesRewritten (Err fault)) all (round_refused s t (c.args.times - m) m c.loop-matches.last fault (omega (arith, c.loop-matches-test.true)) refused))

pub returns-in-None-clause-rewritten : goal.returns-in-None-clause-rewritten
returns-in-None-clause-rewritten c =
    let s = with_limit c.args.rounds.statement.now c.args.rounds.trials in
    let t = c.args.subject.now in
    let m = c.loop-matches.matches in
    let round = subst (λ (z : List ℕ). GivesRound (Ok c.in_ok-round.field-0) (perform_once_within MAX_BYTES s z)) c.latest-text.ensures c.in_ok-round.ensures in
    let failed = subst (λ (o : Option (List ℕ)). GivesRound (Ok o) (perform_once_within MAX_BYTES s (unwrap_or c.loop-matches.last t))) c.in-None.is round in
    let ended = round_failed s t (c.args.times - m) m c.loop-matches.last (omega (arith, c.loop-matches-test.true)) failed in
    subst (GivesRewritten c.left_by.result) (sym ended ∙ sym c.loop-matches.invariant.same ∙ all_rounds s t c.args.times c.requires.some) c.left_by.ensures.rewritten

pub loop-matches-preserved : goal.loop-matches-preserved
loop-matches-preserved c =
    let s = with_limit c.args.rounds.statement.now c.args.rounds.trials in
    let t = c.args.subject.now in
    let m = c.loop-matches.matches in
    let next = c.in-Some.next in
    let round = subst (λ (z : List ℕ). GivesRound (Ok c.in_ok-round.field-0) (perform_once_within MAX_BYTES s z)) c.latest-text.ensures c.in_ok-round.ensures in
    let matched = subst (λ (o : Option (List ℕ)). GivesRound (Ok o) (perform_once_within MAX_BYTES s (unwrap_or c.loop-matches.last t))) c.in-Some.is round in
    let fewer : c.args.times - m - 1 ≡ c.args.times - (m + 1) = omega arith in
    record {
      same =
          c.loop-matches.invariant.same
          ∙ round_matched s t (c.args.times - m) m c.loop-matches.last next (omega (arith, c.loop-matches-test.true)) matched
          ∙ ap (λ (k : ℕ). rounds_left s t k (m + 1) (Some next)) fewer;
      within = omega (arith, c.loop-matches-test.true);
    }

pub returns-clause-rewritten : goal.returns-clause-rewritten
returns-clause-rewritten c =
    let s = with_limit c.args.rounds.statement.now c.args.rounds.trials in
    let t = c.args.subject.now in
    let m = c.loop-matches.matches in
    let last = c.loop-matches.last in
    let none : c.args.times - m ≡ 0 = omega (arith, c.loop-matches-test.false) in
    let count : m ≡ c.args.times = omega (arith, c.loop-matches-test.false, c.loop-matches.invariant.within) in
    let ended = ap (λ (k : ℕ). rounds_left s t k m last) none ∙ ap (λ (n : ℕ). left_by n last) count in
    subst (GivesRewritten c.left_by-2.result) (sym ended ∙ sym c.loop-matches.invariant.same ∙ all_rounds s t c.args.times c.requires.some) c.left_by-2.ensures.rewritten
