use Rattle.std.proofs.Common.{get_or, subst}
use mathlib.Core.List.{[], ◌∷◌}
use mir.Syntax.{named, w32, w64}
use denote.Plain.{UInt}
use denote.Ref.{ShrRef}
use denote.Slice.{ShrSlice}
use denote.Exit.{yes}
use denote.Param.{param}
use denote.Param.Send.{IsSend, IsSync, param_send, param_sync, arg_send, arg_sync, shr_sync, shr_slice_sync, sendable}
use Rattle.std.proofs.Crossing.{Arc-sync}
use Rattle.std.specs.contracts.sync.Arc as Arc
use Rattle.std.specs.contracts.alloc.Global as Global
use Rattle.std.specs.contracts.impls.GlobalAllocator.TheImpl.{ghosts}
use Rattle.sno_desk.specs.contracts.desk.Desk as Desk
use Rattle.sno_book.specs.contracts.books.Book as Book
use Rattle.sno_book.specs.contracts.entries.Entry as Entry
use Rattle.sno_book.specs.contracts.entries.Receipt as Receipt
use Rattle.sno_statement.specs.contracts.statements.Statement as Statement
use Rattle.sno_desk.specs.Turns.{HasGrown, position}
use Rattle.sno_desk.specs.declared.seats.Seat.{Seat}
use Rattle.sno_desk.proofs.Crossings.{entry_send, entry_sync, book_send, book_sync, receipt_send, receipt_sync, seat_send, desk_sync, closure_sync}
use Rattle.sno_desk.proofs.workers.work_all.Lts as Lts
use Rattle.sno_desk.proofs.workers.work_all.Goals as goal

pub may_cross-requires-send-T : goal.may_cross-requires-send-T
may_cross-requires-send-T g c κs = param_send 0 (Lts.arg-0-0 g.row.L g.row.G g.row.R g.L.laws g.G.laws g.R.laws g.L.Naming g.L.Naming-dict g.L.Ledger g.L.Ledger-dict g.G.Gate g.G.Gate-dict g.R.Threads g.R.Threads-dict g.R.Wait g.R.Wait-dict κs) (arg_send _ yes _ entry_send)

pub may_cross-requires-sync-T : goal.may_cross-requires-sync-T
may_cross-requires-sync-T g c κs = param_sync 0 (Lts.arg-0-0 g.row.L g.row.G g.row.R g.L.laws g.G.laws g.R.laws g.L.Naming g.L.Naming-dict g.L.Ledger g.L.Ledger-dict g.G.Gate g.G.Gate-dict g.R.Threads g.R.Threads-dict g.R.Wait g.R.Wait-dict κs) (arg_sync _ yes _ entry_sync)

pub may_cross-requires-2-send-T : goal.may_cross-requires-2-send-T
may_cross-requires-2-send-T g c κs =
    let entry : IsSend Entry.the_row = record { owned = c.may_cross.ensures.sends.owned; leaving = λ k d w. tt } in
    param_send 0 (Lts.arg-1-0 g.row.L g.row.G g.row.R g.L.laws g.G.laws g.R.laws g.L.Naming g.L.Naming-dict g.L.Ledger g.L.Ledger-dict g.G.Gate g.G.Gate-dict g.R.Threads g.R.Threads-dict g.R.Wait g.R.Wait-dict κs)
    (arg_send _ yes _ (book_send entry))

pub may_cross-requires-2-sync-T : goal.may_cross-requires-2-sync-T
may_cross-requires-2-sync-T g c κs =
    let entry : IsSync Entry.the_row = record { shared = c.may_cross.ensures.shares.shared } in
    param_sync 0 (Lts.arg-1-0 g.row.L g.row.G g.row.R g.L.laws g.G.laws g.R.laws g.L.Naming g.L.Naming-dict g.L.Ledger g.L.Ledger-dict g.G.Gate g.G.Gate-dict g.R.Threads g.R.Threads-dict g.R.Wait g.R.Wait-dict κs)
    (arg_sync _ yes _ (book_sync entry))

pub may_cross-requires-4-send-T : goal.may_cross-requires-4-send-T
may_cross-requires-4-send-T g c κs =
    let entry : IsSend Entry.the_row = record { owned = c.may_cross.ensures.sends.owned; leaving = λ k d w. tt } in
    param_send 0 (Lts.arg-3-0 g.row.L g.row.G g.row.R g.L.laws g.G.laws g.R.laws g.L.Naming g.L.Naming-dict g.L.Ledger g.L.Ledger-dict g.G.Gate g.G.Gate-dict g.R.Threads g.R.Threads-dict g.R.Wait g.R.Wait-dict κs)
    (arg_send _ yes _ (receipt_send entry))

pub may_cross-requires-4-sync-T : goal.may_cross-requires-4-sync-T
may_cross-requires-4-sync-T g c κs =
    let entry : IsSync Entry.the_row = record { shared = c.may_cross.ensures.shares.shared } in
    param_sync 0 (Lts.arg-3-0 g.row.L g.row.G g.row.R g.L.laws g.G.laws g.R.laws g.L.Naming g.L.Naming-dict g.L.Ledger g.L.Ledger-dict g.G.Gate g.G.Gate-dict g.R.Threads g.R.Threads-dict g.R.Wait g.R.Wait-dict κs)
    (arg_sync _ yes _ (receipt_sync entry))

pub for_each_mut-requires-send-T : goal.for_each_mut-requires-send-T
for_each_mut-requires-send-T g c κs within =
    let receipt : IsSend Receipt.the_row = record { owned = c.may_cross-4.ensures.sends.owned; leaving = λ k d w. tt } in
    let seat = seat_send (param 0 g.row.L) g.L.Naming g.L.Ledger receipt in
    param_send 1 (Lts.arg-4-1 g.row.L g.row.G g.row.R g.L.laws g.G.laws g.R.laws g.L.Naming g.L.Naming-dict g.L.Ledger g.L.Ledger-dict g.G.Gate g.G.Gate-dict g.R.Threads g.R.Threads-dict g.R.Wait g.R.Wait-dict κs)
    (arg_send _ yes _ seat)

pub for_each_mut-requires-sync-F : goal.for_each_mut-requires-sync-F
for_each_mut-requires-sync-F g c κs within =
    let book : IsSend Book.the_row = record { owned = c.may_cross-2.ensures.sends.owned; leaving = λ k d w. tt } in
    let desk = desk_sync (param 0 g.row.L) g.L.Naming g.L.Ledger book in
    let sent : IsSend Statement.the_row = record { owned = c.may_cross-3.ensures.sends.owned; leaving = λ k d w. tt } in
    let shared : IsSync Statement.the_row = record { shared = c.may_cross-3.ensures.shares.shared } in
    let job = Arc-sync Statement.the_row sent shared in
    let closure = closure_sync [] (
    ShrRef (named 6) κs.1.1.1.1.1.1.0 (Desk.the_row (param 0 g.row.L) g.L.Naming g.L.Ledger)
    ∷ ShrSlice (named 7) κs.1.1.1.1.1.1.1.0 (Arc.the_row Statement.the_row Global.the_row ghosts)
    ∷ ShrRef (named 8) κs.1.1.1.1.1.1.1.1.0 (UInt w64)
    ∷ ShrRef (named 9) κs.1.1.1.1.1.1.1.1.1.0 (UInt w32)
    ∷ ShrRef (named 10) κs.1.1.1.1.1.1.1.1.1.1.0 (param 1 g.row.G)
    ∷ ShrRef (named 11) κs.1.1.1.1.1.1.1.1.1.1.1.0 (param 2 g.row.R)
    ∷ [])
    (shr_sync _ _ _ desk, (shr_slice_sync _ _ _ job, (search sendable, (search sendable, (shr_sync _ _ _ c.type_bounds.sync-G, (shr_sync _ _ _ c.type_bounds.sync-R, tt))))))
    in
    record { shared = closure.shared }

pub returns-clause-grown : goal.returns-clause-grown
returns-clause-grown g c k d h =
    let at = (c.for_each_mut.ensures k d h).1 in
    let was = at.argument.now in
    let next = get_or c.for_each_mut.new.s k d in
    let grown : HasGrown (position was.accepted was.seen) (position at.after_call.now.accepted at.after_call.now.seen) = at.call.1 in
    subst (λ (s : Seat g.row.L.Denot). HasGrown (position s.accepted s.seen) (position next.accepted next.seen)) at.argument_is
    (subst (λ (s : Seat g.row.L.Denot). HasGrown (position was.accepted was.seen) (position s.accepted s.seen)) at.left grown)
