-- One finding more; at the end all of them.
use Rattle.std.proofs.Common.{subst}
use Rattle.std.proofs.KnownBytes.{Appends-nil}
use Rattle.std.specs.Io.KnownBytes.{Appends}
use Rattle.sno_find.specs.Json.{finding_json}
use Rattle.sno_find.specs.declared.findings.Finding.{Finding}
use Rattle.sno_find.proofs.EditRows.{row_written}
use Rattle.sno_find.proofs.edit_rows.write_findings.Goals as goal

pub loop-finding-init : goal.loop-finding-init
loop-finding-init g c = Appends-nil (g.W.Write.contents c.args.writer.now)

pub loop-finding-preserved : goal.loop-finding-preserved
loop-finding-preserved g c =
    let before = g.W.Write.contents c.loop-finding.writer in
    let after = g.W.Write.contents c.write_finding.new.writer in
    let row = finding_json c.args.path.now c.args.text.now in
    let x = c.finding-item.result in
    let more = subst (λ (z : Finding). Appends before after (row z)) c.finding-item.is c.in_ok-write_finding.ensures in
    row_written (g.W.Write.contents c.args.writer.now) before after row c.args.findings.now c.loop-finding.finding-index x c.loop-finding-test.true c.loop-finding.invariant more
