-- The loop ends at the line feed before the last line, or at the beginning.
use Rattle.std.proofs.Common.{◌≡◌, ℕ, List, ◌++◌, drop, take, ap, sym, ◌∙◌, arith}
use Rattle.sno_edit.specs.Positions.{last_line}
use Rattle.sno_find.proofs.LastLine.{feed_before, one_before}
use Rattle.sno_find.proofs.lines.last_line.Goals.{then-loop-start-test+else-not-is_line_feed, else-loop-start-test}
use Rattle.sno_find.proofs.lines.last_line.Goals as goal

pub loop-start-preserved : goal.loop-start-preserved
loop-start-preserved c =
    let so = c.loop-start.invariant in
    let other = sym c.is_line_feed.ensures ∙ c.if-not-is_line_feed.true in
    record {
      within = omega (arith, so.within);
      line = one_before c.args.bytes.now c.loop-start.start c.loop-start-test.true so.within other ∙ so.line;
    }

pub returns : goal.returns
returns c =
    let bytes = c.args.bytes.now in
    let start = c.loop-start.start in
    let so = c.loop-start.invariant in
    c.split_at.ensures.back ∙ elim c.loop-start-test.branch [
      | then-loop-start-test+else-not-is_line_feed w ↦
          sym (ap (λ (l : List ℕ). l ++ drop start bytes) (feed_before bytes start w.loop-start-test.true so.within (sym w.is_line_feed.ensures ∙ w.if-not-is_line_feed.false))) ∙ so.line
      | else-loop-start-test w ↦
          (let none : start ≡ 0 = omega (arith, w.loop-start-test.false) in
          sym (ap (λ (n : ℕ). last_line (take n bytes) ++ drop start bytes) none) ∙ so.line)
    ]
