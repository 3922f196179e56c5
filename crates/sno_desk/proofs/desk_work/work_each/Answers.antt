-- A seat may go to another thread, several threads may share the desk, and each call leaves its seat where it may.
use mathlib.Core.List.{[], ◌∷◌}
use mir.Syntax.{named}
use denote.Ref.{ShrRef}
use denote.Exit.{yes}
use denote.Param.{param}
use denote.Param.Send.{IsSend, IsSync, param_send, param_sync, arg_send, arg_sync, shr_sync}
use Rattle.std.proofs.Crossing.{sync}
use Rattle.std.specs.contracts.alloc.Global as Global
use Rattle.sno_desk.specs.contracts.desk.Desk as Desk
use Rattle.sno_book.specs.contracts.books.Book as Book
use Rattle.sno_book.specs.contracts.entries.Entry as Entry
use Rattle.sno_book.specs.contracts.entries.Receipt as Receipt
use Rattle.sno_desk.proofs.Crossings.{entry_send, entry_sync, book_send, book_sync, receipt_send, receipt_sync, seat_send, desk_sync, closure_sync}
use Rattle.sno_desk.proofs.desk_work.work_each.Lts as Lts
use Rattle.sno_desk.proofs.desk_work.work_each.Goals as goal

pub may_cross-requires-send-T : goal.may_cross-requires-send-T
may_cross-requires-send-T g c κs = param_send 0 (Lts.arg-0-0 g.row.L g.row.W g.row.R g.L.laws g.W.laws g.R.laws g.L.Naming g.L.Naming-dict g.L.Ledger g.L.Ledger-dict g.W.DeskWork g.W.DeskWork-dict g.R.Threads g.R.Threads-dict g.R.Wait g.R.Wait-dict κs) (arg_send _ yes _ entry_send)

pub may_cross-requires-sync-T : goal.may_cross-requires-sync-T
may_cross-requires-sync-T g c κs = param_sync 0 (Lts.arg-0-0 g.row.L g.row.W g.row.R g.L.laws g.W.laws g.R.laws g.L.Naming g.L.Naming-dict g.L.Ledger g.L.Ledger-dict g.W.DeskWork g.W.DeskWork-dict g.R.Threads g.R.Threads-dict g.R.Wait g.R.Wait-dict κs) (arg_sync _ yes _ entry_sync)

pub may_cross-requires-2-send-T : goal.may_cross-requires-2-send-T
may_cross-requires-2-send-T g c κs =
    let entry : IsSend Entry.the_row = record { owned = c.may_cross.ensures.sends.owned; leaving = λ k d w. tt } in
    param_send 0 (Lts.arg-1-0 g.row.L g.row.W g.row.R g.L.laws g.W.laws g.R.laws g.L.Naming g.L.Naming-dict g.L.Ledger g.L.Ledger-dict g.W.DeskWork g.W.DeskWork-dict g.R.Threads g.R.Threads-dict g.R.Wait g.R.Wait-dict κs)
    (arg_send _ yes _ (book_send entry))

pub may_cross-requires-2-sync-T : goal.may_cross-requires-2-sync-T
may_cross-requires-2-sync-T g c κs =
    let entry : IsSync Entry.the_row = record { shared = c.may_cross.ensures.shares.shared } in
    param_sync 0 (Lts.arg-1-0 g.row.L g.row.W g.row.R g.L.laws g.W.laws g.R.laws g.L.Naming g.L.Naming-dict g.L.Ledger g.L.Ledger-dict g.W.DeskWork g.W.DeskWork-dict g.R.Threads g.R.Threads-dict g.R.Wait g.R.Wait-dict κs)
    (arg_sync _ yes _ (book_sync entry))

pub may_cross-requires-3-send-T : goal.may_cross-requires-3-send-T
may_cross-requires-3-send-T g c κs =
    let entry : IsSend Entry.the_row = record { owned = c.may_cross.ensures.sends.owned; leaving = λ k d w. tt } in
    param_send 0 (Lts.arg-2-0 g.row.L g.row.W g.row.R g.L.laws g.W.laws g.R.laws g.L.Naming g.L.Naming-dict g.L.Ledger g.L.Ledger-dict g.W.DeskWork g.W.DeskWork-dict g.R.Threads g.R.Threads-dict g.R.Wait g.R.Wait-dict κs)
    (arg_send _ yes _ (receipt_send entry))

pub may_cross-requires-3-sync-T : goal.may_cross-requires-3-sync-T
may_cross-requires-3-sync-T g c κs =
    let entry : IsSync Entry.the_row = record { shared = c.may_cross.ensures.shares.shared } in
    param_sync 0 (Lts.arg-2-0 g.row.L g.row.W g.row.R g.L.laws g.W.laws g.R.laws g.L.Naming g.L.Naming-dict g.L.Ledger g.L.Ledger-dict g.W.DeskWork g.W.DeskWork-dict g.R.Threads g.R.Threads-dict g.R.Wait g.R.Wait-dict κs)
    (arg_sync _ yes _ (receipt_sync entry))

pub for_each_mut-requires-send-T : goal.for_each_mut-requires-send-T
for_each_mut-requires-send-T g c κs within =
    let receipt : IsSend Receipt.the_row = record { owned = c.may_cross-3.ensures.sends.owned; leaving = λ k d w. tt } in
    let seat = seat_send (param 0 g.row.L) g.L.Naming g.L.Ledger receipt in
    param_send 1 (Lts.arg-3-1 g.row.L g.row.W g.row.R g.L.laws g.W.laws g.R.laws g.L.Naming g.L.Naming-dict g.L.Ledger g.L.Ledger-dict g.W.DeskWork g.W.DeskWork-dict g.R.Threads g.R.Threads-dict g.R.Wait g.R.Wait-dict κs)
    (arg_send _ yes _ seat)

pub for_each_mut-requires-sync-F : goal.for_each_mut-requires-sync-F
for_each_mut-requires-sync-F g c κs within =
    let book : IsSend Book.the_row = record { owned = c.may_cross-2.ensures.sends.owned; leaving = λ k d w. tt } in
    let desk = desk_sync (param 0 g.row.L) g.L.Naming g.L.Ledger book in
    let closure = closure_sync [] (
    ShrRef (named 6) κs.1.1.1.1.1.1.0 (param 1 g.row.W)
    ∷ ShrRef (named 7) κs.1.1.1.1.1.1.1.0 (param 2 g.row.R)
    ∷ ShrRef (named 8) κs.1.1.1.1.1.1.1.1.0 Global.the_row
    ∷ ShrRef (named 9) κs.1.1.1.1.1.1.1.1.1.0 (Desk.the_row (param 0 g.row.L) g.L.Naming g.L.Ledger)
    ∷ [])
    (shr_sync _ _ _ c.type_bounds.sync-W, (shr_sync _ _ _ c.type_bounds.sync-R, (shr_sync _ _ _ sync, (shr_sync _ _ _ desk, tt))))
    in
    record { shared = closure.shared }
