-- Each line has a line feed.
use Rattle.std.proofs.Common.{◌≡◌, arith, ap, length}
use Rattle.sno_store.specs.Shown.{lines_in}
use Rattle.sno_sealed.proofs.LineLemmas.{fewer}
use Rattle.sno_sealed.proofs.batches.bytes_in.Goals as goal

pub returns-clause-few : goal.returns-clause-few
returns-clause-few c = omega (arith, fewer (lines_in c.args.lines.now), ap length c.bytes.ensures, c.length_of.ensures, c.length_of.type_inv)
