-- Each round is one of those that are left.
use Rattle.std.proofs.Common.{◌≡◌, ◌-◌, ◌+◌, ◌∙◌, Ok, Err, subst, ap, sym, arith}
use Rattle.std.proofs.lemmas.Result.{err_from_is_err_and}
use Rattle.std.specs.Arc.{arc_value}
use Rattle.sno_statement.specs.Perform.{Repeated, Gives, outcome_seen, follow, rounds, perform_once}
use Rattle.sno_statement.proofs.Rounds.{refused_after, left_after, ended_after}
use Rattle.sno_statement.proofs.performing.go_on.Goals as goal

pub returns-in_err-perform_once : goal.returns-in_err-perform_once
returns-in_err-perform_once c =
    let e = err_from_is_err_and c.from_residual.result c.from_residual.ensures.1 in
    let s = c.args.statement.now in
    let m = c.loop-matches.matches in
    let last = c.loop-matches.last in
    let refused = subst (λ z. Gives (Err c.in_err-perform_once.field-0.0) (perform_once s z)) c.deref.ensures c.in_err-perform_once.ensures in
    rw (e.1, e.2, c.loop-matches.invariant.same)
    (refused_after s (c.args.times - m) m last.0 (arc_value last.1) c.in_err-perform_once.field-0.0 (omega (arith, c.loop-matches-test.true)) refused)

pub returns-in-Err : goal.returns-in-Err
returns-in-Err c =
    let s = c.args.statement.now in
    let m = c.loop-matches.matches in
    let last = c.loop-matches.last in
    let round = outcome_seen c.in_ok-perform_once.field-0 in
    let is = subst (λ z. perform_once s z ≡ Ok round) c.deref.ensures c.in_ok-perform_once.ensures in
    c.loop-matches.invariant.same
    ∙ ended_after s (c.args.times - m) m last.0 (arc_value last.1) round _ (omega (arith, c.loop-matches-test.true)) is
    (λ go_on. ap (λ z. follow (Ok (outcome_seen z)) (λ _. Repeated m last.0 (arc_value last.1)) go_on) (sym c.in-Err.ensures.none.0) ∙ c.end_with.ensures go_on)

pub loop-matches-preserved : goal.loop-matches-preserved
loop-matches-preserved c =
    let s = c.args.statement.now in
    let m = c.loop-matches.matches in
    let last = c.loop-matches.last in
    let next = c.in-Ok.left in
    let round = outcome_seen c.in_ok-perform_once.field-0 in
    let is = subst (λ z. perform_once s z ≡ Ok round) c.deref.ensures c.in_ok-perform_once.ensures in
    let fewer : c.args.times - m - 1 ≡ c.args.times - (m + 1) = omega arith in
    record {
      same =
          c.loop-matches.invariant.same
          ∙ left_after s (c.args.times - m) m last.0 (arc_value last.1) round next.0 (arc_value next.1) (omega (arith, c.loop-matches-test.true)) is c.in-Ok.ensures.left
          ∙ ap (λ k. rounds s k (m + 1) next.0 (arc_value next.1)) fewer;
      within = omega (arith, c.loop-matches-test.true);
    }
