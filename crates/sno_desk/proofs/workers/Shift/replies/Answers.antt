use Rattle.std.proofs.Common.{◌≡◌, ◌+◌, suc, ◌∷◌, ◌∙◌, drop, map, ap, sym, subst, arith, add-one, drop-cons}
use Rattle.std.specs.Arc.{arc_value}
use Rattle.std.proofs.lemmas.List.{drop_all}
use Rattle.sno_desk.specs.Turns.{Goes, IsSubmitted, every, position}
use Rattle.sno_desk.proofs.Turns.{goes_end, grown_on}
use Rattle.sno_desk.proofs.workers.Shift.replies.Goals as goal

pub returns-clause-in_turn : goal.returns-clause-in_turn
returns-clause-in_turn g c =
    goes_end _ _ _ _ _ _ _ _ (ap (map arc_value) (drop_all c.loop-job.job-index c.args.self.now.jobs.now (omega arith))) c.loop-job.invariant.goes

pub loop-job-preserved : goal.loop-job-preserved
loop-job-preserved g c =
    let jobs = c.args.self.now.jobs.now in
    let job = c.job-item.result in
    let Submitted = IsSubmitted (g.G.Gate.shuts c.args.self.now.gate.now) c.args.self.now.tries g.L.Naming.opening g.L.Ledger.parts in
    let all = every c.args.self.now.workers c.args.first (map arc_value jobs) in
    let left = map arc_value (drop (c.loop-job.job-index + 1) jobs) in
    let first = position c.args.seat.now.accepted c.args.seat.now.seen in
    let now = position c.loop-job.seat.accepted c.loop-job.seat.seen in
    let split : drop c.loop-job.job-index jobs ≡ job ∷ drop (c.loop-job.job-index + 1) jobs =
    rw add-one (drop-cons jobs c.loop-job.job-index job c.loop-job-test.true ∙ ap (λ x. x ∷ drop (suc c.loop-job.job-index) jobs) (sym c.job-item.is)) in
    let before = subst (λ l. Goes Submitted first now all
    (every c.args.self.now.workers c.loop-job.wait (map arc_value l)) c.loop-job.replies.items) split c.loop-job.invariant.goes in
    record {
      goes = c.in_ok-wait.ensures.goes first all left before;
      grown = grown_on first now (position c.turn.new.seat.accepted c.turn.new.seat.seen) c.loop-job.invariant.grown c.turn.ensures.grown;
    }
