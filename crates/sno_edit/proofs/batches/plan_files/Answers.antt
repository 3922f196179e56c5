-- Each file adds its plan.
use Rattle.std.proofs.Common.{◌≡◌, ℕ, List, map, take, vec_len, subst, arith}
use Rattle.sno_edit.specs.Batches.{ArePlanned}
use Rattle.sno_edit.specs.Rules.{rules_seen}
use Rattle.sno_edit.proofs.BatchLemmas.{planned_more}
use Rattle.sno_edit.proofs.batches.plan_files.Goals as goal

pub loop-path-preserved : goal.loop-path-preserved
loop-path-preserved g c = (
  planned_more (rules_seen c.args.rules.now) (g.F.Folder.holds c.args.folder.now) _ _ _ _ _ _ c.loop-path.writes.items _ c.plan_one.ensures.0 c.loop-path-test.true c.loop-path.invariant.0 c.plan_one.ensures.2 c.in-Ok.ensures.items c.plan_one.ensures.1,
  omega (arith, c.in-Ok.ensures.len, c.loop-path.invariant.1),
  omega (arith, c.in-Ok.ensures.capacity, c.loop-path.invariant.2),
)

pub returns-then-is_full-clause-planned : goal.returns-then-is_full-clause-planned
returns-then-is_full-clause-planned g c =
    subst (λ n. ArePlanned (rules_seen c.args.rules.now) (g.F.Folder.holds c.args.folder.now) (map (λ p. p.now) (take n c.args.paths.now)) c.push.new.self.items c.plan_one.new.writes.items)
    (omega (arith, c.in-Ok.ensures.len, c.loop-path.invariant.1))
    (planned_more (rules_seen c.args.rules.now) (g.F.Folder.holds c.args.folder.now) _ _ _ _ _ _ c.loop-path.writes.items _ c.plan_one.ensures.0 c.loop-path-test.true c.loop-path.invariant.0 c.plan_one.ensures.2 c.in-Ok.ensures.items c.plan_one.ensures.1)
