-- There is a result for each file.
use Rattle.std.proofs.Common.{length, ap, arith, refl}
use Rattle.sno_files.proofs.FolderLemmas.{none_claimed}
use Rattle.sno_files.proofs.held.HeldFilesFolder.replace_all.Goals as goal

pub returns-clause-replaced : goal.returns-clause-replaced
returns-clause-replaced g c =
    none_claimed _ _ _ _ (omega (arith, c.in_ok-replace_files.ensures.len, ap length c.in_ok-results.ensures.items)) refl
