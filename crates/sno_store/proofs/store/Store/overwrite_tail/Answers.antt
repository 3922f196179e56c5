-- Zeros over the tail of a file leave its lines.
use Rattle.std.proofs.Common.{◌≡◌, ℕ, List, length, replicate, ◌∙◌, ap, subst, arith}
use Rattle.std.proofs.lemmas.List.{length-replicate}
use Rattle.std.proofs.lemmas.Result.{err_from_is_err_and}
use Rattle.sqlite_disk.specs.Disk.{Mixed}
use Rattle.sno_store.specs.States.{is_open}
use Rattle.sno_store.specs.Lines.{recovered}
use Rattle.sno_store.proofs.Scans.{are_lines}
use Rattle.sno_store.proofs.Causes.{put_fault}
use Rattle.sno_store.proofs.Places.{over_crash, over_done, its_lines, its_end, its_zeros}
use Rattle.sno_store.proofs.store.Store.overwrite_tail.Goals as goal

pub returns-in_err-write_through-clause-crash : goal.returns-in_err-write_through-clause-crash
returns-in_err-write_through-clause-crash g c clean f left =
    let old = c.args.self.now in
    let was = c.write_through.ensures.clean clean in
    let from = c.write_through.ensures.crash f left in
    let here = subst (λ (d : List ℕ). Mixed old.end c.deref.result.now d f) (old.durable c.requires was from.0 from.1) from.2 in
    over_crash (g.D.Disk.seen old.disk) old.end old.room c.max.result (old.lines c.requires was) (old.all c.requires was) (omega arith) c.deref.result.now (c.deref.ensures.value ∙ c.in_ok-zeros.ensures.zeros) f here

pub returns-in_err-write_through-clause-cause : goal.returns-in_err-write_through-clause-cause
returns-in_err-write_through-clause-cause g c =
    let p = err_from_is_err_and c.from_residual-in_err-write_through.result c.from_residual-in_err-write_through.ensures.1 in
    rw (p.1, p.2) (put_fault g.D.Disk (is_open c.args.self.now.state) 0 c.args.self.now.disk c.write_through.new.disk c.in_err-write_through.field-0.0 c.in_err-write_through.ensures.cause)

pub returns-clause-same : goal.returns-clause-same
returns-clause-same g c clean =
    let old = c.args.self.now in
    let was = c.write_through.ensures.clean clean in
    let file = g.D.Disk.seen old.disk in
    let done = over_done file old.end old.room c.max.result (old.lines c.requires was) (old.all c.requires was) (omega arith) c.deref.result.now (c.deref.ensures.value ∙ c.in_ok-zeros.ensures.zeros) (g.D.Disk.seen c.write_through.new.disk) c.in_ok-write_through.ensures.others c.in_ok-write_through.ensures.written in
    its_lines (recovered file) (are_lines file) (g.D.Disk.seen c.write_through.new.disk) old.end c.max.result (old.lines c.requires was) done

pub returns-clause-crash : goal.returns-clause-crash
returns-clause-crash g c clean f left =
    let old = c.args.self.now in
    let was = c.write_through.ensures.clean clean in
    let from = c.write_through.ensures.crash f left in
    let here = subst (λ (d : List ℕ). Mixed old.end c.deref.result.now d f) (old.durable c.requires was from.0 from.1) from.2 in
    over_crash (g.D.Disk.seen old.disk) old.end old.room c.max.result (old.lines c.requires was) (old.all c.requires was) (omega arith) c.deref.result.now (c.deref.ensures.value ∙ c.in_ok-zeros.ensures.zeros) f here

pub invariant_of-self-2-clause-zeros : goal.invariant_of-self-2-clause-zeros
invariant_of-self-2-clause-zeros g c ready clean =
    let old = c.args.self.now in
    let was = c.write_through.ensures.clean clean in
    let file = g.D.Disk.seen old.disk in
    let done = over_done file old.end old.room c.max.result (old.lines c.requires was) (old.all c.requires was) (omega arith) c.deref.result.now (c.deref.ensures.value ∙ c.in_ok-zeros.ensures.zeros) (g.D.Disk.seen c.write_through.new.disk) c.in_ok-write_through.ensures.others c.in_ok-write_through.ensures.written in
    let count : c.max.result ≡ c.len-self.result = omega (arith, c.len-self.ensures, ap length c.in_ok-zeros.ensures.zeros, length-replicate {A = ℕ} c.max.result 0) in
    its_zeros (recovered file) (are_lines file) (g.D.Disk.seen c.write_through.new.disk) old.end c.max.result (old.lines c.requires was) done ∙ ap (λ (n : ℕ). replicate n 0) count

pub invariant_of-self-2-clause-lines : goal.invariant_of-self-2-clause-lines
invariant_of-self-2-clause-lines g c open' clean =
    let old = c.args.self.now in
    let was = c.write_through.ensures.clean clean in
    let file = g.D.Disk.seen old.disk in
    let done = over_done file old.end old.room c.max.result (old.lines c.requires was) (old.all c.requires was) (omega arith) c.deref.result.now (c.deref.ensures.value ∙ c.in_ok-zeros.ensures.zeros) (g.D.Disk.seen c.write_through.new.disk) c.in_ok-write_through.ensures.others c.in_ok-write_through.ensures.written in
    its_end (recovered file) (are_lines file) (g.D.Disk.seen c.write_through.new.disk) old.end c.max.result (old.lines c.requires was) done
