-- Files of the system: nothing is claimed of what they hold, so each list of results will do.
use Rattle.std.proofs.Common.{arith, ◌≡◌, List, [], ◌∷◌, length, Ok, Err}
use Rattle.sno_edit.specs.Batches.{AreReplaced, Written}
use Rattle.sno_edit.specs.declared.folders.NewText.{NewText}

pub none_claimed : {F : Type 0} (f g : F) (files : List NewText) (results : List Written) → length results ≡ length files → g ≡ f
    → AreReplaced (λ f path bytes. Unit {0}) f files results g
none_claimed f g [] [] same is = is
none_claimed f g [] (result ∷ results) same is = cc
none_claimed f g (file ∷ files) [] same is = cc
none_claimed f g (file ∷ files) (Ok written ∷ results) same is = (f, (tt, λ other bytes differs h. tt), none_claimed f g files results (omega (arith, same)) is)
none_claimed f g (file ∷ files) (Err fault ∷ results) same is = (f, λ path bytes h. tt, none_claimed f g files results (omega (arith, same)) is)
