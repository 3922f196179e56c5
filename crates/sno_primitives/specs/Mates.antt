-- The first ends of BAL from all cursors of a text.
use Rattle.std.specs.Prelude.{◌≡◌, ℕ, zero, suc, ◌<◌, ◌≤◌, List, [], ◌∷◌, length}
use Rattle.std.proofs.Math.ListN.{get_or}
use Rattle.sno_pattern.specs.Ends.{bal_ends}

-- the ends of BAL by the first one; 0 says that there is no end
abbrev pub ends_from : List ℕ → ℕ → List ℕ
ends_from t zero = []
ends_from t (suc e) = suc e ∷ bal_ends t (suc e)

-- From this cursor on, the table has the first ends of BAL.
abbrev pub AreFirstEnds : List ℕ → ℕ → List ℕ → Type 0
AreFirstEnds t low ends = (c : ℕ) → low ≤ c → c < length t → bal_ends t c ≡ ends_from t (get_or ends c 0)
