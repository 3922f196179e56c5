-- Fewer bytes are all looked at.
use Rattle.std.proofs.Common.{arith, sym}
use Rattle.std.proofs.lemmas.List.{take_all}
use Rattle.sno_files.specs.declared.texts.TheConstants.{LOOKED_AT}
use Rattle.sno_files.proofs.texts.first_bytes.Goals as goal

pub returns-then-bytes-le-LOOKED_AT : goal.returns-then-bytes-le-LOOKED_AT
returns-then-bytes-le-LOOKED_AT c = sym (take_all LOOKED_AT c.args.bytes.now (omega (arith, c.if-bytes-le-LOOKED_AT.true)))
