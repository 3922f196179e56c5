use Rattle.std.proofs.Common.{arith}
use Rattle.std.specs.Prelude.{refl, Some, [], ◌∷◌}
use Rattle.sno_replace.specs.Folders.{names}
use Rattle.sno_replace.proofs.Logs.{always_keeps, kept_if_quiet}
use Rattle.sno_replace.proofs.folder.Folder.replace.Goals as goal

pub returns-clause-whole : goal.returns-clause-whole
returns-clause-whole g c =
    λ entries a b old more. always_keeps entries (entries a) c.replace_with-replaced.new.self.done.items (names (Some a) (Some b) old)
    ((a, refl, omega arith), more) (names (Some a) (Some b) old ∷ []) (((a, refl, omega arith), more), tt)

pub returns-clause-kept : goal.returns-clause-kept
returns-clause-kept g c = kept_if_quiet c.replace_with-replaced.result c.replace_with-replaced.new.self.done.items c.replace_with-replaced.ensures.quiet
