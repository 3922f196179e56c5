-- One byte more.
use Rattle.std.proofs.Common.{◌<◌, ◌+◌, length, get_or, if◌then◌else◌, ap, ◌∙◌, arith}
use Rattle.sno_edit.specs.Positions.{begins_character}
use Rattle.sno_edit.specs.Scripts.{is_line_feed}
use Rattle.sno_edit.proofs.PositionLemmas.{column_more, line_more}
use Rattle.sno_find.proofs.places.further.Goals as goal

pub loop-index-preserved : goal.loop-index-preserved
loop-index-preserved c =
    let bytes = c.args.bytes.now in
    let i = c.loop-index.index in
    let byte = get_or bytes i 0 in
    let so = c.loop-index.invariant in
    let inside : i < length bytes = omega (arith, c.loop-index-test.true, c.requires.within) in
    record {
      line = c.next_line-line.ensures ∙ ap (λ n. if is_line_feed byte then n + 1 else n) so.line ∙ line_more bytes i 0 inside;
      column = c.next_column-column.ensures ∙ ap (λ n. if is_line_feed byte then 1 else (if begins_character byte then n + 1 else n)) so.column
          ∙ column_more bytes i 0 inside;
    }
