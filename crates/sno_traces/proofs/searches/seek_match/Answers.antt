-- One search after the other, until one is the one that is sought, or the last.
use Rattle.std.proofs.Common.{◌≡◌, ◌+◌, ◌≤◌, List, ℕ, length, ap, sym, subst, ◌∙◌, arith}
use Rattle.sno_traces.specs.Searches.{GoesOn, after_search}
use Rattle.sno_traces.proofs.SearchSteps.{goes_on, is_done, none_left}
use Rattle.sno_traces.proofs.searches.seek_match.Goals as goal

pub returns-in-Done-clause-sought : goal.returns-in-Done-clause-sought
returns-in-Done-clause-sought c =
    let s = c.args.statement.now in
    let p = c.loop-passed.search in
    sym (is_done s c.args.text.now c.args.earlier (length c.bytes.result.now + 1) c.loop-passed._passed p c.in-Done.counts (omega arith)
    (sym c.in-Done.is ∙ c.in_ok-next.ensures.after ∙ ap (λ (z : List ℕ). after_search s z c.args.earlier p) c.loop-passed.invariant.same))
    ∙ c.loop-passed.invariant.sought

pub loop-passed-preserved : goal.loop-passed-preserved
loop-passed-preserved c =
    let s = c.args.statement.now in
    let p = c.loop-passed.search in
    let on = subst (GoesOn c.loop-passed.searched c.args.earlier) c.in-Next.is c.in_ok-next.ensures.goes_on in
    record {
      sought =
          sym (goes_on s c.args.text.now c.args.earlier (length c.bytes.result.now + 1) c.loop-passed._passed p c.in-Next.next (omega arith)
          (sym c.in-Next.is ∙ c.in_ok-next.ensures.after ∙ ap (λ (z : List ℕ). after_search s z c.args.earlier p) c.loop-passed.invariant.same))
          ∙ c.loop-passed.invariant.sought;
      same = c.in_ok-next.ensures.same ∙ c.loop-passed.invariant.same;
      inside = subst (λ (z : List ℕ). c.in-Next.next.from ≤ length z) c.loop-passed.invariant.same on.0;
      few = on.1;
    }

pub returns-clause-sought : goal.returns-clause-sought
returns-clause-sought c =
    sym (none_left c.args.statement.now c.args.text.now c.args.earlier (length c.bytes.result.now + 1) c.loop-passed._passed c.loop-passed.search (omega arith)) ∙ c.loop-passed.invariant.sought
