-- A file isn't whole if something follows its lines that isn't zeros.
use Rattle.std.proofs.Common.{◌≡◌, ap, inl, inr, true, false, arith}
use Rattle.std.proofs.lemmas.Bool.{cases_lt, lt-ltb, ltb-true}
use Rattle.sno_store.specs.States.{is_found, is_ready}
use Rattle.sno_store.proofs.Places.{whole_if, whole_then, file_is}
use Rattle.sno_store.proofs.store.Store.is_torn.Goals as goal

pub returns-in-Found-clause-torn : goal.returns-in-Found-clause-torn
returns-in-Found-clause-torn g c is clean =
    let store = c.args.self.now in
    let found : is_found store.state ≡ true = ap is_found c.in-Found.is in
    let file = g.D.Disk.seen store.disk in (
      λ test whole. store.torn found clean (ltb-true 0 store.room test) (whole_then file store.end store.room (store.lines is clean) (store.all is clean) whole),
      λ not_whole. elim (cases_lt 0 store.room) [
        | inl some ↦ lt-ltb 0 store.room some
        | inr few ↦ absurd (not_whole (whole_if file store.end store.room (store.lines is clean) (store.all is clean) (omega (arith, few))))
      ],
    )

pub returns-in-Ready-clause-torn : goal.returns-in-Ready-clause-torn
returns-in-Ready-clause-torn g c is clean =
    let store = c.args.self.now in
    let ready : is_ready store.state ≡ true = ap is_ready c.in-Ready.is in
    let file = g.D.Disk.seen store.disk in (
      λ no_test. absurd (let e : false ≡ true = no_test in cc),
      λ not_whole. absurd (not_whole (store.room, file_is file store.end store.room (store.lines is clean) (store.zeros ready clean))),
    )
