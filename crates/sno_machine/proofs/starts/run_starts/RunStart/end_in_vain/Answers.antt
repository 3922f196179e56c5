-- What holds for the run from the cursor holds from each of its cursors.
use Rattle.std.proofs.Common.{sym}
use Rattle.sno_machine.proofs.RunStartLaws.{ends_in_vain, span_moves}
use Rattle.sno_machine.proofs.starts.run_starts.RunStart.end_in_vain.Goals as goal

pub returns-in-None : goal.returns-in-None
returns-in-None c =
    let t = c.args.text.now in
    let x = c.args.self.now in
    let end = c.in_ok-end.end in
    (span_moves t x.set.now c.args.c end (sym c.in_ok-end.ensures.exact), c.in_ok-end.ensures.past.1, ends_in_vain t x c.args.c end (sym c.in_ok-end.ensures.exact) (sym c.in-None.ensures.exact))
