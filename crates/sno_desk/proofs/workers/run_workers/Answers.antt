use Rattle.std.proofs.Common.{◌≡◌, ℕ, length, map, subst, sym, arith}
use Rattle.std.specs.Arc.{arc_value}
use Rattle.std.proofs.lemmas.List.{length-map}
use Rattle.sno_desk.specs.Turns.{Deals, HasTurns}
use Rattle.sno_desk.proofs.Turns.{Settles, grown_still, settled_results, settled_turns, settled_shares, shares_total, taken_turns}
use Rattle.sno_desk.proofs.workers.run_workers.Goals as goal
use Rattle.sno_desk.proofs.workers.run_workers.Goals.{After-drop-queues-2}

settles : (g : _) (c : After-drop-queues-2 g) → Settles (λ s. s.accepted) (λ s. s.seen) (λ s. s.replies) (λ q. q.items)
    (g.G.Gate.shuts c.args.gate.now) c.args.tries g.L.Naming.opening g.L.Ledger.parts
    (map arc_value c.args.jobs.now) c.args.seats.now c.work_all.new.seats c.collect.new.seats c.in_ok-queues.queues.items c.in_ok-replies.replies.items
settles g c =
    let kept = c.in_ok-queues.ensures in
    let many : length c.in_ok-queues.queues.items ≡ length c.args.seats.now = omega (arith, kept.as_many) in
    let P : ℕ → Type 0 = λ n. Deals n 0 (map (λ q. q.items) c.in_ok-queues.queues.items) c.in_ok-replies.replies.items in
    record {
      some = omega arith;
      worked_as_many = omega arith;
      after_as_many = omega arith;
      queues_as_many = many;
      at_work = c.work_all.ensures.worked;
      taken = λ k d e h. kept.taken k d e (omega arith);
      same = λ k d h. kept.same k d (omega arith);
      same_view = λ k d h. kept.same_view k d (omega arith);
      dealt = subst P many c.in_ok-replies.ensures.dealt;
      in_all = rw length-map c.in_ok-replies.ensures.in_all;
    }

pub in_order-requires-clause-turns : goal.in_order-requires-clause-turns
in_order-requires-clause-turns g c =
    let kept = c.in_ok-queues.ensures in
    let many : length c.in_ok-queues.queues.items ≡ length c.args.seats.now = omega (arith, kept.as_many) in
    let P : ℕ → Type 0 = λ n. HasTurns n 0 (map (λ q. q.items) c.in_ok-queues.queues.items) (map arc_value c.args.jobs.now) in
    subst P (sym many)
    (taken_turns (λ s. s.accepted) (λ s. s.seen) (λ s. s.replies) (λ q. q.items) (g.G.Gate.shuts c.args.gate.now) c.args.tries g.L.Naming.opening g.L.Ledger.parts
    (map arc_value c.args.jobs.now) c.args.seats.now c.work_all.new.seats c.in_ok-queues.queues.items many c.work_all.ensures.worked (λ k d e h. kept.taken k d e (omega arith)))

pub returns-clause-allowed : goal.returns-clause-allowed
returns-clause-allowed g c = settled_results _ _ _ _ _ _ _ _ _ _ _ _ _ _ (settles g c)

pub returns-clause-in_turn : goal.returns-clause-in_turn
returns-clause-in_turn g c k d h = settled_turns _ _ _ _ _ _ _ _ _ _ _ _ _ _ (settles g c) k d h

pub returns-clause-shares : goal.returns-clause-shares
returns-clause-shares g c = settled_shares _ _ _ _ _ _ _ _ _ _ _ _ _ _ (settles g c)

pub returns-clause-total : goal.returns-clause-total
returns-clause-total g c =
    let risen = settled_shares _ _ _ _ _ _ _ _ _ _ _ _ _ _ (settles g c) in
    shares_total (λ s. s.accepted) c.args.seats.now c.collect.new.seats c.in_ok-replies.replies.items (omega arith) risen

pub returns-in_err-queues-clause-grown : goal.returns-in_err-queues-clause-grown
returns-in_err-queues-clause-grown g c k d h = grown_still _ _ _ (c.work_all.ensures.grown k d h) (c.collect.ensures.same k d (omega arith)) (c.collect.ensures.same_view k d (omega arith))

pub returns-in_err-replies-clause-grown : goal.returns-in_err-replies-clause-grown
returns-in_err-replies-clause-grown g c k d h = grown_still _ _ _ (c.work_all.ensures.grown k d h) (c.collect.ensures.same k d (omega arith)) (c.collect.ensures.same_view k d (omega arith))

pub returns-clause-grown : goal.returns-clause-grown
returns-clause-grown g c k d h = grown_still _ _ _ (c.work_all.ensures.grown k d h) (c.collect.ensures.same k d (omega arith)) (c.collect.ensures.same_view k d (omega arith))
