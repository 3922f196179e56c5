-- Runs of characters of a set, or of the other characters, and where they end.
use Rattle.std.specs.Prelude.{◌≡◌, ℕ, ◌+◌, ◌*◌, ◌≤◌, Bool, true, false, not, List, length, drop}
use Rattle.std.specs.List.{take_while}
use Rattle.std.proofs.Math.ListN.{get_or}
use Rattle.sno_pattern.specs.Classes.{has}

-- whether a run goes on through the character: a run inside a set, or outside it
abbrev pub goes_through : Bool → List ℕ → ℕ → Bool
goes_through true members x = has members x
goes_through false members x = not (has members x)

-- where the run from a cursor ends
abbrev pub run_end : Bool → List ℕ → List ℕ → ℕ → ℕ
run_end inside members t c = c + length (take_while (goes_through inside members) (drop c t))

-- From the block `low` on, the ends are those of the runs from where the blocks begin. A block has 64 characters.
abbrev pub AreRunEnds : Bool → List ℕ → List ℕ → ℕ → List ℕ → Type 0
AreRunEnds inside members t low ends = (block : ℕ) → low ≤ block → block * 64 ≤ length t → get_or ends block 0 ≡ run_end inside members t (block * 64)
