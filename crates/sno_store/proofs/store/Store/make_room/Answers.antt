-- Zeros past the end leave the lines.
use Rattle.std.proofs.Common.{◌≡◌, ◌+◌, ℕ, true, false, List, ◌∙◌, subst, arith}
use Rattle.sqlite_disk.specs.Disk.{Mixed}
use Rattle.sno_store.specs.Lines.{recovered}
use Rattle.sno_store.proofs.Scans.{are_lines}
use Rattle.sno_store.proofs.Causes.{ready_is_open}
use Rattle.sno_store.proofs.Places.{grown_crash, grown_done, its_lines, its_end, its_length, its_zeros, file_is}
use Rattle.sno_store.proofs.store.Store.make_room.Goals as goal

pub returns-in_err-write_through-clause-crash : goal.returns-in_err-write_through-clause-crash
returns-in_err-write_through-clause-crash g c clean f left =
    let old = c.args.self.now in
    let is = ready_is_open old.state c.requires in
    let was = c.write_through.ensures.clean clean in
    let file = g.D.Disk.seen old.disk in
    let from = c.write_through.ensures.crash f left in
    let here = subst (λ (d : List ℕ). Mixed (old.end + old.room) c.deref.result.now d f) (old.durable is was from.0 from.1) from.2 in
    grown_crash (recovered file) (are_lines file) file old.end old.room c.max-more.result (old.lines is was) (file_is file old.end old.room (old.lines is was) (old.zeros c.requires was)) (old.some c.requires)
    c.deref.result.now (c.deref.ensures.value ∙ c.in_ok-zeros.ensures.zeros) f here

pub returns-clause-crash : goal.returns-clause-crash
returns-clause-crash g c clean f left =
    let old = c.args.self.now in
    let is = ready_is_open old.state c.requires in
    let was = c.write_through.ensures.clean clean in
    let file = g.D.Disk.seen old.disk in
    let from = c.write_through.ensures.crash f left in
    let here = subst (λ (d : List ℕ). Mixed (old.end + old.room) c.deref.result.now d f) (old.durable is was from.0 from.1) from.2 in
    grown_crash (recovered file) (are_lines file) file old.end old.room c.max-more.result (old.lines is was) (file_is file old.end old.room (old.lines is was) (old.zeros c.requires was)) (old.some c.requires)
    c.deref.result.now (c.deref.ensures.value ∙ c.in_ok-zeros.ensures.zeros) f here

pub returns-clause-same : goal.returns-clause-same
returns-clause-same g c clean =
    let old = c.args.self.now in
    let is = ready_is_open old.state c.requires in
    let was = c.write_through.ensures.clean clean in
    let file = g.D.Disk.seen old.disk in
    let now = g.D.Disk.seen c.write_through.new.disk in
    let done = grown_done (recovered file) (are_lines file) file old.end old.room c.max-more.result (old.lines is was) (file_is file old.end old.room (old.lines is was) (old.zeros c.requires was)) (old.some c.requires)
    c.deref.result.now (c.deref.ensures.value ∙ c.in_ok-zeros.ensures.zeros) now c.in_ok-write_through.ensures.others c.in_ok-write_through.ensures.written in
    its_lines (recovered file) (are_lines file) now old.end (old.room + c.max-more.result) (old.lines is was) done

pub invariant_of-self-2 : goal.invariant_of-self-2
invariant_of-self-2 g c =
    let old = c.args.self.now in
    let is = ready_is_open old.state c.requires in
    let file = g.D.Disk.seen old.disk in
    let now = g.D.Disk.seen c.write_through.new.disk in
    let some = old.some c.requires in
    let short = old.short is in
    let done = λ (was : g.D.Disk.is_clean old.disk ≡ true). grown_done (recovered file) (are_lines file) file old.end old.room c.max-more.result (old.lines is was) (file_is file old.end old.room (old.lines is was) (old.zeros c.requires was)) some
    c.deref.result.now (c.deref.ensures.value ∙ c.in_ok-zeros.ensures.zeros) now c.in_ok-write_through.ensures.others c.in_ok-write_through.ensures.written in
    record {
      usable = λ o. c.in_ok-write_through.ensures.usable;
      short = λ o. omega (arith, short, some, c.if-more-len.false);
      some = λ o. omega (arith, some);
      lines = λ o clean. let was = c.write_through.ensures.clean clean in its_end (recovered file) (are_lines file) now old.end (old.room + c.max-more.result) (old.lines is was) (done was);
      all = λ o clean. let was = c.write_through.ensures.clean clean in its_length (recovered file) (are_lines file) now old.end (old.room + c.max-more.result) (old.lines is was) (done was);
      durable = λ o clean. c.in_ok-write_through.ensures.durable;
      zeros = λ o clean. let was = c.write_through.ensures.clean clean in its_zeros (recovered file) (are_lines file) now old.end (old.room + c.max-more.result) (old.lines is was) (done was);
      torn = λ found. absurd (let e : false ≡ true = found in cc);
    }
