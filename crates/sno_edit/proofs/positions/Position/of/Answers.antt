-- One byte more.
use Rattle.std.proofs.Common.{◌≡◌, ◌≤◌, ◌+◌, get_or, if◌then◌else◌, ap, subst, sym, ◌∙◌}
use Rattle.sno_edit.specs.Positions.{begins_character}
use Rattle.sno_edit.specs.Scripts.{is_line_feed}
use Rattle.sno_edit.proofs.PositionLemmas.{column_more, line_more, one_at_most, one_or_more}
use Rattle.sno_edit.proofs.positions.Position.of.Goals as goal

pub loop-byte-preserved : goal.loop-byte-preserved
loop-byte-preserved c =
    let before = c.split_at.result.0.now in
    let i = c.loop-byte.byte-index in
    let byte = get_or before i 0 in
    let so = c.loop-byte.invariant in (
      c.next_line-line.ensures ∙ ap (λ n. if is_line_feed byte then n + 1 else n) so.0 ∙ line_more before i 0 c.loop-byte-test.true,
      c.next_column-column.ensures ∙ ap (λ n. if is_line_feed byte then 1 else (if begins_character byte then n + 1 else n)) so.1
          ∙ column_more before i 0 c.loop-byte-test.true,
      subst (λ n. n ≤ i + 1 + 1) (sym c.next_line-line.ensures) (one_at_most c.loop-byte.line i (is_line_feed byte) so.2),
      subst (λ n. n ≤ i + 1 + 1) (sym c.next_column-column.ensures) (one_or_more c.loop-byte.column i (is_line_feed byte) (begins_character byte) so.3),
    )
