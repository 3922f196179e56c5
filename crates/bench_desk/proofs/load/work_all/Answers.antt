-- The seats go to the threads, and what they share is shared there.
use mathlib.Core.List.{[], ◌∷◌}
use mir.Syntax.{named}
use denote.Ref.{ShrRef}
use denote.Exit.{yes}
use denote.Param.{param}
use denote.Param.Send.{IsSend, IsSync, param_send, param_sync, arg_send, arg_sync, shr_sync, sendable}
use denote.Param.SendFields.{declared_sync}
use Rattle.std.proofs.Crossing.{crosses, sync, Arc-sync, Vec-sync}
use Rattle.std.specs.contracts.sync.atomic.AtomicU64 as AtomicU64
use Rattle.std.specs.contracts.alloc.Global as Global
use Rattle.sno_pattern.proofs.text_names.TextName.TheSendSync as text_name
use Rattle.sno_desk.specs.contracts.desk.Desk as Desk
use Rattle.sno_book.specs.contracts.entries.Entry as Entry
use Rattle.sno_book.specs.contracts.entries.Receipt as Receipt
use Rattle.sno_statement.specs.contracts.statements.Statement as Statement
use Rattle.sno_desk.proofs.Crossings.{entry_send, entry_sync, receipt_send, book_send, desk_sync, closure_sync}
use Rattle.bench_desk.specs.contracts.posts.Shared as Shared
use Rattle.bench_desk.proofs.words.Load.TheSendSync as load
use Rattle.bench_desk.proofs.Crossings.{post_send}
use Rattle.bench_desk.proofs.load.work_all.Lts as Lts
use Rattle.bench_desk.proofs.load.work_all.Goals as goal

pub may_cross-requires-send-T : goal.may_cross-requires-send-T
may_cross-requires-send-T g c κs = param_send 0 (Lts.arg-0-0 g.row.L g.row.R g.L.laws g.R.laws g.L.Naming g.L.Naming-dict g.L.Ledger g.L.Ledger-dict g.R.Threads g.R.Threads-dict g.R.Wait g.R.Wait-dict κs) (arg_send _ yes _ entry_send)

pub may_cross-requires-sync-T : goal.may_cross-requires-sync-T
may_cross-requires-sync-T g c κs = param_sync 0 (Lts.arg-0-0 g.row.L g.row.R g.L.laws g.R.laws g.L.Naming g.L.Naming-dict g.L.Ledger g.L.Ledger-dict g.R.Threads g.R.Threads-dict g.R.Wait g.R.Wait-dict κs) (arg_sync _ yes _ entry_sync)

pub may_cross-requires-3-send-T : goal.may_cross-requires-3-send-T
may_cross-requires-3-send-T g c κs = param_send 0 (Lts.arg-2-0 g.row.L g.row.R g.L.laws g.R.laws g.L.Naming g.L.Naming-dict g.L.Ledger g.L.Ledger-dict g.R.Threads g.R.Threads-dict g.R.Wait g.R.Wait-dict κs) (arg_send _ yes _ (receipt_send entry_send))

pub for_each_mut-requires-send-T : goal.for_each_mut-requires-send-T
for_each_mut-requires-send-T g c κs within =
    let receipt : IsSend Receipt.the_row = record { owned = c.may_cross-3.ensures.sends.owned; leaving = λ k d w. tt } in
    let post = post_send (param 0 g.row.L) g.L.Naming g.L.Ledger receipt in
    param_send 1 (Lts.arg-3-1 g.row.L g.row.R g.L.laws g.R.laws g.L.Naming g.L.Naming-dict g.L.Ledger g.L.Ledger-dict g.R.Threads g.R.Threads-dict g.R.Wait g.R.Wait-dict κs)
    (arg_send _ yes _ post)

pub for_each_mut-requires-sync-F : goal.for_each_mut-requires-sync-F
for_each_mut-requires-sync-F g c κs within =
    let entry : IsSend Entry.the_row = record { owned = c.may_cross.ensures.sends.owned; leaving = λ k d w. tt } in
    let desk = desk_sync (param 0 g.row.L) g.L.Naming g.L.Ledger (book_send entry) in
    let sent : IsSend Statement.the_row = record { owned = c.may_cross-2.ensures.sends.owned; leaving = λ k d w. tt } in
    let shared : IsSync Statement.the_row = record { shared = c.may_cross-2.ensures.shares.shared } in
    let job = Arc-sync Statement.the_row sent shared in
    let counter : IsSync AtomicU64.the_row = search (sendable, crosses) depth 40 fits 100000 in
    let shared : IsSync Shared.the_row = declared_sync Shared.the_type (Vec-sync _ job, (Vec-sync _ text_name.the_sync, (load.the_sync, (counter, tt)))) in
    let closure = closure_sync [] (
    ShrRef (named 6) κs.1.1.1.1.1.1.0 (Desk.the_row (param 0 g.row.L) g.L.Naming g.L.Ledger)
    ∷ ShrRef (named 7) κs.1.1.1.1.1.1.1.0 Shared.the_row
    ∷ ShrRef (named 8) κs.1.1.1.1.1.1.1.1.0 (param 1 g.row.R)
    ∷ ShrRef (named 9) κs.1.1.1.1.1.1.1.1.1.0 Global.the_row
    ∷ [])
    (shr_sync _ _ _ desk, (shr_sync _ _ _ shared, (shr_sync _ _ _ c.type_bounds.sync-R, (shr_sync _ _ _ sync, tt))))
    in
    record { shared = closure.shared }
