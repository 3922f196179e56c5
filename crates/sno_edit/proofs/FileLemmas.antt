-- One file more.
use Rattle.std.proofs.Common.{◌≡◌, ℕ, ◌+◌, ◌<◌, List, [], ◌∷◌, ◌++◌, length, take, get_or, map, Result, refl, ap, sym, subst, ◌∙◌}
use Rattle.std.proofs.lemmas.List.{take_more}
use Rattle.std.specs.Borrow.{Bor}
use Rattle.sno_edit.specs.Rules.{FileRules}
use Rattle.sno_edit.specs.Held.{Held}
use Rattle.sno_edit.specs.Files.{AreFilesEnds, IsFileEnd}
use Rattle.sno_edit.specs.declared.files.Done.{Done}
use Rattle.sno_edit.specs.declared.faults.FileFault.{FileFault}

-- the paths that references lead to
abbrev pub paths_at : List (Bor (List ℕ)) → List (List ℕ)
paths_at paths = map (λ p. p.now) paths

paths_append : (a b : List (Bor (List ℕ))) → paths_at (a ++ b) ≡ paths_at a ++ paths_at b
paths_append [] b = refl
paths_append (p ∷ a) b = ap (λ t. p.now ∷ t) (paths_append a b)

pub ends_more : {F : Type 0} (holds : F → Held) (rules : FileRules) (first f g : F) (paths : List (Bor (List ℕ))) (i : ℕ) (d : Bor (List ℕ))
    (ends after : List (Result Done FileFault)) (end : Result Done FileFault) → i < length paths → AreFilesEnds holds rules first (paths_at (take i paths)) f ends
    → IsFileEnd rules (get_or paths i d).now (holds f) (holds g) end → after ≡ ends ++ end ∷ [] → AreFilesEnds holds rules first (paths_at (take (i + 1) paths)) g after
ends_more holds rules first f g paths i d ends after end lt so one is =
    let more : paths_at (take (i + 1) paths) ≡ paths_at (take i paths) ++ (get_or paths i d).now ∷ [] =
    ap paths_at (take_more paths i d lt) ∙ paths_append (take i paths) (get_or paths i d ∷ []) in
    subst (λ p. AreFilesEnds holds rules first p g after) (sym more)
    (subst (λ e. AreFilesEnds holds rules first (paths_at (take i paths) ++ (get_or paths i d).now ∷ []) g e) (sym is)
    (AreFilesEnds.one_more (paths_at (take i paths)) f g ends (get_or paths i d).now end so one))
