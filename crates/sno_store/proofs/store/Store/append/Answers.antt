-- Lines over zeros.
use Rattle.std.proofs.Common.{◌≡◌, ◌+◌, ◌-◌, ◌++◌, ℕ, true, false, List, length, subst, arith}
use Rattle.sqlite_disk.specs.Disk.{Mixed}
use Rattle.sno_store.specs.Lines.{recovered}
use Rattle.sno_store.proofs.Scans.{are_lines, AreLines-append}
use Rattle.sno_store.proofs.Causes.{ready_is_open}
use Rattle.sno_store.proofs.Places.{batch_crash, batch_added, its_lines, its_end, its_length, its_zeros, file_is}
use Rattle.sno_store.proofs.store.Store.append.Goals as goal

pub returns-in_err-write_through-clause-crash : goal.returns-in_err-write_through-clause-crash
returns-in_err-write_through-clause-crash g c clean f left =
    let old = c.args.self.now in
    let bytes = c.args.bytes.now in
    let is = ready_is_open old.state c.requires.settled in
    let was = c.write_through.ensures.clean clean in
    let file = g.D.Disk.seen old.disk in
    let from = c.write_through.ensures.crash f left in
    let here = subst (λ (d : List ℕ). Mixed old.end bytes d f) (old.durable is was from.0 from.1) from.2 in
    batch_crash (recovered file) (recovered bytes) (are_lines file) (are_lines bytes) bytes c.requires.whole file old.end old.room (old.lines is was)
    (file_is file old.end old.room (old.lines is was) (old.zeros c.requires.settled was)) c.requires.room f here

pub returns-clause-crash : goal.returns-clause-crash
returns-clause-crash g c clean f left =
    let old = c.args.self.now in
    let bytes = c.args.bytes.now in
    let is = ready_is_open old.state c.requires.settled in
    let was = c.write_through.ensures.clean clean in
    let file = g.D.Disk.seen old.disk in
    let from = c.write_through.ensures.crash f left in
    let here = subst (λ (d : List ℕ). Mixed old.end bytes d f) (old.durable is was from.0 from.1) from.2 in
    batch_crash (recovered file) (recovered bytes) (are_lines file) (are_lines bytes) bytes c.requires.whole file old.end old.room (old.lines is was)
    (file_is file old.end old.room (old.lines is was) (old.zeros c.requires.settled was)) c.requires.room f here

pub returns-clause-added : goal.returns-clause-added
returns-clause-added g c clean =
    let old = c.args.self.now in
    let bytes = c.args.bytes.now in
    let is = ready_is_open old.state c.requires.settled in
    let was = c.write_through.ensures.clean clean in
    let file = g.D.Disk.seen old.disk in
    let now = g.D.Disk.seen c.write_through.new.disk in
    let olds = recovered file in
    let news = recovered bytes in
    let added = batch_added olds news (are_lines file) (are_lines bytes) bytes c.requires.whole file old.end old.room (old.lines is was)
    (file_is file old.end old.room (old.lines is was) (old.zeros c.requires.settled was)) c.requires.room now c.in_ok-write_through.ensures.others c.in_ok-write_through.ensures.written in
    its_lines (olds ++ news) (AreLines-append olds news (are_lines file) (are_lines bytes)) now (old.end + length bytes) (old.room - length bytes) added.0 added.1

pub invariant_of-self-2 : goal.invariant_of-self-2
invariant_of-self-2 g c =
    let old = c.args.self.now in
    let bytes = c.args.bytes.now in
    let is = ready_is_open old.state c.requires.settled in
    let file = g.D.Disk.seen old.disk in
    let now = g.D.Disk.seen c.write_through.new.disk in
    let olds = recovered file in
    let news = recovered bytes in
    let are = AreLines-append olds news (are_lines file) (are_lines bytes) in
    let short = old.short is in
    let added = λ (was : g.D.Disk.is_clean old.disk ≡ true). batch_added olds news (are_lines file) (are_lines bytes) bytes c.requires.whole file old.end old.room (old.lines is was)
    (file_is file old.end old.room (old.lines is was) (old.zeros c.requires.settled was)) c.requires.room now c.in_ok-write_through.ensures.others c.in_ok-write_through.ensures.written in
    record {
      usable = λ o. c.in_ok-write_through.ensures.usable;
      short = λ o. omega (arith, short, c.requires.room);
      some = λ o. omega (arith, c.requires.room);
      lines = λ o clean. let a = added (c.write_through.ensures.clean clean) in its_end (olds ++ news) are now (old.end + length bytes) (old.room - length bytes) a.0 a.1;
      all = λ o clean. let a = added (c.write_through.ensures.clean clean) in its_length (olds ++ news) are now (old.end + length bytes) (old.room - length bytes) a.0 a.1;
      durable = λ o clean. c.in_ok-write_through.ensures.durable;
      zeros = λ o clean. let a = added (c.write_through.ensures.clean clean) in its_zeros (olds ++ news) are now (old.end + length bytes) (old.room - length bytes) a.0 a.1;
      torn = λ found. absurd (let e : false ≡ true = found in cc);
    }
