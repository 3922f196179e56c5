-- A seat may go to another thread, from what is known of entries.
use denote.Exit.{yes}
use denote.Param.{param}
use denote.Param.Send.{param_send, arg_send}
use Rattle.sno_desk.proofs.Crossings.{receipt_send, seat_send}
use Rattle.test_desk.proofs.beside.use_seats.Lts as Lts
use Rattle.test_desk.proofs.beside.use_seats.Goals as goal

pub submit_beside-seen-requires-send-S : goal.submit_beside-seen-requires-send-S
submit_beside-seen-requires-send-S g c κs within =
    let seat = seat_send (param 0 g.row.L) g.L.Naming g.L.Ledger (receipt_send c.entries_may_cross.ensures.sends) in
    param_send 1 (Lts.arg-3-1 g.row.L g.row.R g.L.laws g.R.laws g.L.Naming g.L.Naming-dict g.L.Ledger g.L.Ledger-dict g.R.Threads g.R.Threads-dict g.R.Wait g.R.Wait-dict g.R.Clock g.R.Clock-dict g.R.Abort g.R.Abort-dict κs)
    (arg_send _ yes _ seat)
