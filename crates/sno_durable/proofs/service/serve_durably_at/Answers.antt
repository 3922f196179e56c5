-- Threads may share what the seats share: what lines mean, the statements, and what is behind its locks.
use denote.Exit.{yes}
use denote.Builtin.{u32, u64}
use denote.Param.{param}
use denote.Param.Send.{IsSend, IsSync, param_sync, arg_sync, sendable}
use denote.Param.SendFields.{declared_sync}
use Rattle.std.proofs.Crossing.{crosses, Arc-sync, Vec-sync}
use Rattle.std.proofs.sync.Mutex.TheSendSync as mutex
use Rattle.std.specs.contracts.sync.Mutex as Mutex
use Rattle.sno_statement.specs.contracts.statements.Statement as Statement
use Rattle.std.specs.contracts.option.Option as Option
use Rattle.sno_durable.specs.contracts.earlier.Reading as Reading
use Rattle.sno_durable.specs.contracts.faults.DurableFault as DurableFault
use Rattle.sno_durable.specs.contracts.queue.Queue as Queue
use Rattle.sno_durable.specs.contracts.seats.Door as Door
use Rattle.sno_durable.specs.contracts.seats.Shared as Shared
use Rattle.sno_durable.specs.contracts.shelf.Shelf as Shelf
use Rattle.sno_durable.proofs.service.serve_durably_at.Lts as Lts
use Rattle.sno_durable.proofs.service.serve_durably_at.Goals as goal

pub at_desk-requires-sync-W : goal.at_desk-requires-sync-W
at_desk-requires-sync-W g c κs within =
    let sent : IsSend Statement.the_row = record { owned = c.may_cross.ensures.sends.owned; leaving = λ k d w. tt } in
    let shared : IsSync Statement.the_row = record { shared = c.may_cross.ensures.shares.shared } in
    let reading : IsSync Reading.the_row = record { shared = c.may_share.ensures.shared } in
    let statements = Vec-sync _ (Arc-sync Statement.the_row sent shared) in
    let tries : IsSync u32 = search (sendable, crosses) depth 40 fits 100000 in
    let most : IsSync u64 = search (sendable, crosses) depth 40 fits 100000 in
    let numbers : IsSync (Mutex.the_row u32) = search (sendable, crosses, mutex.the_sync) depth 40 fits 100000 in
    let queue : IsSend Queue.the_row = search (sendable, crosses) depth 60 fits 1000000 in
    let disk : IsSend (param 0 g.row.D) = c.type_bounds.send-D in
    let reader : IsSend (param 1 g.row.I) = c.type_bounds.send-I in
    let writer : IsSend (param 2 g.row.W) = c.type_bounds.send-W in
    let door : IsSend (Door.the_row (param 1 g.row.I)) = search (sendable, crosses) depth 60 fits 1000000 in
    let shelf : IsSend (Shelf.the_row (param 0 g.row.D) (param 2 g.row.W) g.D.Disk) = search (sendable, crosses) depth 60 fits 1000000 in
    let fault : IsSend (Option.the_row DurableFault.the_row) = search (sendable, crosses) depth 60 fits 1000000 in
    param_sync 0 (Lts.arg-21-0 g.row.D g.row.I g.row.W g.row.R g.D.laws g.I.laws g.W.laws g.R.laws g.D.Disk g.D.Disk-dict g.I.Read g.I.Read-dict g.W.Write g.W.Write-dict g.R.Threads g.R.Threads-dict g.R.Wait g.R.Wait-dict g.D.Destruct-dict g.I.Destruct-dict g.W.Destruct-dict κs)
    (arg_sync _ yes _ (declared_sync (Shared.the_type (param 0 g.row.D) (param 1 g.row.I) (param 2 g.row.W) g.D.Disk g.I.Read g.W.Write)
    (reading, (statements, (tries, (most, (numbers, (mutex.the_sync _ door, (mutex.the_sync _ queue, (mutex.the_sync _ shelf, (mutex.the_sync _ fault, tt)))))))))))
