-- What is copied comes before the zeros that are left.
use Rattle.std.proofs.Common.{ap, length, ◌++◌, ℕ, List}
use Rattle.std.proofs.lemmas.List.{drop-replicate}
use Rattle.sno_pattern.proofs.identifiers.pad.Goals as goal

pub returns : goal.returns
returns c =
    rw c.copy_from_slice.ensures.after
    (ap (λ (z : List ℕ). c.args.characters.now ++ z) (drop-replicate (length c.args.characters.now) 64 0))
