-- Threads may share the service: its statements, and what is behind its locks.
use denote.Exit.{yes}
use Rattle.std.proofs.lemmas.List.Sorted.{IsNonDecreasingBy-from_sort_by_key}
use Rattle.std.proofs.Common.{rules}
use denote.Param.{param}
use denote.Param.Send.{IsSend, IsSync, param_sync, arg_sync, sendable}
use denote.Param.SendFields.{declared_sync}
use Rattle.std.proofs.Crossing.{crosses, Arc-sync, Vec-sync}
use Rattle.std.proofs.sync.Mutex.TheSendSync as mutex
use Rattle.std.specs.contracts.sync.Mutex as Mutex
use Rattle.sno_pattern.specs.contracts.definitions.Rules as Rules
use Rattle.sno_statement.specs.contracts.statements.Statement as Statement
use denote.Builtin.{u32}
use Rattle.sno_document.specs.contracts.modes.Mode as Mode
use Rattle.sno_serve.specs.contracts.intake.Intake as Intake
use Rattle.sno_serve.specs.contracts.outlet.Outlet as Outlet
use Rattle.sno_serve.specs.contracts.service.Service as Service
use Rattle.sno_serve.proofs.service.serve.Lts as Lts
use Rattle.sno_serve.proofs.service.serve.Goals as goal

pub at_desk-requires-sync-W : goal.at_desk-requires-sync-W
at_desk-requires-sync-W g c κs within =
    let sent : IsSend Statement.the_row = record { owned = c.may_cross.ensures.sends.owned; leaving = λ k d w. tt } in
    let shared : IsSync Statement.the_row = record { shared = c.may_cross.ensures.shares.shared } in
    let rules_sent : IsSend Rules.the_row = record { owned = c.may_cross-2.ensures.sends.owned; leaving = λ k d w. tt } in
    let rules_shared : IsSync Rules.the_row = record { shared = c.may_cross-2.ensures.shares.shared } in
    let rules = Arc-sync Rules.the_row rules_sent rules_shared in
    let statements = Vec-sync _ (Arc-sync Statement.the_row sent shared) in
    let mode : IsSync Mode.the_row = search (sendable, crosses) depth 40 fits 100000 in
    let tries : IsSync u32 = search (sendable, crosses) depth 40 fits 100000 in
    let numbers : IsSync (Mutex.the_row u32) = search (sendable, crosses, mutex.the_sync) depth 40 fits 100000 in
    let reader : IsSend (param 0 g.row.I) = c.type_bounds.send-I in
    let writer : IsSend (param 1 g.row.W) = c.type_bounds.send-W in
    let intake : IsSend (Intake.the_row (param 0 g.row.I)) = search (sendable, crosses) depth 40 fits 100000 in
    let outlet : IsSend (Outlet.the_row (param 1 g.row.W)) = search (sendable, crosses) depth 40 fits 100000 in
    param_sync 0 (Lts.arg-17-0 g.row.I g.row.W g.row.R g.I.laws g.W.laws g.R.laws g.I.Read g.I.Read-dict g.W.Write g.W.Write-dict g.R.Threads g.R.Threads-dict g.R.Wait g.R.Wait-dict g.I.Destruct-dict g.W.Destruct-dict κs)
    (arg_sync _ yes _ (declared_sync (Service.the_type (param 0 g.row.I) (param 1 g.row.W) g.I.Read g.W.Write) (rules, (statements, (mode, (tries, (numbers, (mutex.the_sync _ intake, (mutex.the_sync _ outlet, tt)))))))))

pub returns-clause-rising : goal.returns-clause-rising
returns-clause-rising g c = IsNonDecreasingBy-from_sort_by_key (λ r. r.number) _ c.in_ok-sort_by_key.ensures.sorted (λ a r q k. search rules)
