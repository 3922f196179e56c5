-- What was read is the rest of the file.
use Rattle.std.proofs.Common.{◌≡◌, ◌++◌, ℕ, List, sym, ◌∙◌, ap, true}
use Rattle.sno_store.specs.States.{is_open}
use Rattle.sno_store.specs.Lines.{recovered, bytes_of}
use Rattle.sno_store.proofs.Scans.{split}
use Rattle.sno_store.proofs.store.Store.tail.Goals as goal

pub returns-clause-tail : goal.returns-clause-tail
returns-clause-tail g c clean =
    let old = c.args.self.now in
    let is : is_open old.state ≡ true = sym c.is_open.ensures ∙ c.if-not-is_open.false in
    let was = c.read_part.ensures.clean clean in
    let file = g.D.Disk.seen old.disk in
    split file old.end (old.lines is was) ∙ ap (λ (l : List ℕ). bytes_of (recovered file) ++ l) (sym (c.in_ok-tail.ensures.bytes clean))
