-- A line has neither a line feed nor a NUL.
use Rattle.std.proofs.Common.{◌≡◌}
use Rattle.sno_sealed.proofs.LineLemmas.{nowhere, plain_line}
use Rattle.sno_sealed.proofs.batches.push_line.Goals as goal

pub unreachable-requires-in-Err-LineFeed : goal.unreachable-requires-in-Err-LineFeed
unreachable-requires-in-Err-LineFeed c =
    let cause = rw (c.in-Err-LineFeed.is, c.in-Err-LineFeed.field-0-is) at c.push.ensures.cause in
    (nowhere c.args.line.now (plain_line c.args.line.now c.requires) cause.0 cause.1).0 cause.2

pub unreachable-requires-in-Err-Nul : goal.unreachable-requires-in-Err-Nul
unreachable-requires-in-Err-Nul c =
    let cause = rw (c.in-Err-Nul.is, c.in-Err-Nul.field-0-is) at c.push.ensures.cause in
    (nowhere c.args.line.now (plain_line c.args.line.now c.requires) cause.0 cause.1).1 cause.2
