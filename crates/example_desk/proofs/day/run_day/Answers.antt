-- Threads may share the day: its clock, its statements and its count.
use denote.Exit.{yes}
use denote.Param.{param}
use denote.Param.Send.{IsSend, IsSync, param_sync, arg_sync, shr_sync, sendable}
use denote.Param.SendFields.{declared_sync}
use Rattle.std.proofs.Crossing.{crosses, Arc-sync}
use Rattle.std.specs.contracts.sync.atomic.AtomicUsize as AtomicUsize
use Rattle.sno_statement.specs.contracts.statements.Statement as Statement
use Rattle.example_desk.specs.contracts.statements.Edits as Edits
use Rattle.example_desk.specs.contracts.day.Day as Day
use Rattle.example_desk.proofs.day.run_day.Lts as Lts
use Rattle.example_desk.proofs.day.run_day.Goals as goal

pub at_desk-requires-sync-W : goal.at_desk-requires-sync-W
at_desk-requires-sync-W g c κs within =
    let sent : IsSend Statement.the_row = record { owned = c.may_cross.ensures.sends.owned; leaving = λ k d w. tt } in
    let shared : IsSync Statement.the_row = record { shared = c.may_cross.ensures.shares.shared } in
    let statement = Arc-sync Statement.the_row sent shared in
    let edits : IsSync Edits.the_row = declared_sync Edits.the_type (statement, (statement, tt)) in
    let counter : IsSync AtomicUsize.the_row = search (sendable, crosses) depth 40 fits 100000 in
    param_sync 0 (Lts.arg-6-0 g.row.R g.R.laws g.R.Threads-dict g.R.Wait-dict g.R.Clock-dict κs)
    (arg_sync _ yes _ (declared_sync (Day.the_type _ (param 0 g.row.R)) (shr_sync _ _ _ c.type_bounds.sync-R, (shr_sync _ _ _ edits, (counter, tt)))))
