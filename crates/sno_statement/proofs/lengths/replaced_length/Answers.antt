-- One more match is counted.
use Rattle.std.proofs.Common.{◌≡◌, ◌+◌, List, ℕ, drop, length, ap, sym, ◌∙◌, arith}
use Rattle.sno_pattern.specs.Ends.{part}
use Rattle.sno_statement.specs.declared.match_lists.Match.{Match}
use Rattle.sno_statement.specs.MatchLists.{match_lent}
use Rattle.sno_statement.specs.Passes.{replaced}
use Rattle.sno_statement.proofs.Replacing.{counted, next_there}
use Rattle.sno_statement.proofs.lengths.replaced_length.Goals as goal

pub returns-in_err-total-clause-long : goal.returns-in_err-total-clause-long
returns-in_err-total-clause-long c =
    let t = c.args.subject.now in
    let parts = c.args.parts.now in
    let matches = c.args.matches.now in
    let cursor = c.loop-place.cursor in
    let m = match_lent c.in-Some.m in
    let rest = drop (c.loop-place.place + 1) matches in
    let kept = c.between-kept.result.now in
    let before : kept ≡ part t cursor m.start = c.between-kept.ensures ∙ ap (λ (z : List ℕ). part z cursor m.start) c.bytes.ensures.value in
    let so_far = ap (λ (z : List Match). c.loop-place.total + length (replaced parts t cursor z)) (sym (next_there matches c.loop-place.place m c.in-Some.ensures)) ∙ c.loop-place.invariant.counted in
    let all = counted parts t kept cursor c.loop-place.total (length (replaced parts t 0 matches)) m rest before so_far in
    let more = c.in_err-total.ensures.long in
    rw c.from_residual.ensures (omega (arith, all, more))

pub loop-place-preserved : goal.loop-place-preserved
loop-place-preserved c =
    let t = c.args.subject.now in
    let parts = c.args.parts.now in
    let matches = c.args.matches.now in
    let cursor = c.loop-place.cursor in
    let m = match_lent c.in-Some.m in
    let rest = drop (c.loop-place.place + 1) matches in
    let kept = c.between-kept.result.now in
    let before : kept ≡ part t cursor m.start = c.between-kept.ensures ∙ ap (λ (z : List ℕ). part z cursor m.start) c.bytes.ensures.value in
    let so_far = ap (λ (z : List Match). c.loop-place.total + length (replaced parts t cursor z)) (sym (next_there matches c.loop-place.place m c.in-Some.ensures)) ∙ c.loop-place.invariant.counted in
    let all = counted parts t kept cursor c.loop-place.total (length (replaced parts t 0 matches)) m rest before so_far in
    let total = c.in_ok-total.ensures.value in
    record {
      counted = omega (arith, all, total);
      few = c.in_ok-total.ensures.short;
    }
