-- A line ends at the first line feed or NUL, if that is a line feed.
use Rattle.std.proofs.Common.{arith, length, get_or, ◌<◌}
use Rattle.sno_store.proofs.Splits.{found, cut_by_nul, not_ended, first_is_nul}
use Rattle.sno_store.proofs.splitting.split_line.Goals as goal

pub returns : goal.returns
returns c =
    let first = c.in-Some.ensures in
    let low : c.in-Some.at < length c.args.bytes.now = first.0.high in
    let is = found c.args.bytes.now c.in-Some.at c.if-bytes-ne123.false (λ j below. first.0.before j (omega arith) below) low c.if-bytes-at-ne10.false in
    rw (c.split_at.ensures.front, c.split_at-2.ensures.back) is

pub returns-then-bytes-at-ne10 : goal.returns-then-bytes-at-ne10
returns-then-bytes-at-ne10 c =
    let first = c.in-Some.ensures in
    cut_by_nul c.args.bytes.now c.in-Some.at c.if-bytes-ne123.false (λ j below. first.0.before j (omega arith) below) first.0.high
    (first_is_nul (get_or c.args.bytes.now c.in-Some.at 0) first.1 c.if-bytes-at-ne10.true)

pub returns-in_default : goal.returns-in_default
returns-in_default c = not_ended c.args.bytes.now c.if-bytes-ne123.false (λ j below. c.in_default.ensures j (omega arith) below)
