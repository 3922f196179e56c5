-- What `Rules::admit` returns.
use Rattle.std.specs.Prelude.{◌≡◌, ℕ, ◌<◌, not, List, [], ◌∷◌, length, nat_eq, Option, Some, None, Result, Ok, Err}
use Rattle.std.specs.List.{position_from, IsDistinct}
use Rattle.sno_pattern.specs.Tree.{Tree, refs_below}
use Rattle.sno_pattern.specs.Guard.{Leads, Chain, Guarded}
use Rattle.sno_pattern.specs.Definitions.{Definitions}
use Rattle.sno_pattern.specs.declared.definitions.RulesFault.{RulesFault}
use Rattle.sno_pattern.specs.declared.definitions.RulesFault.TheVariants as fault

-- the first definition that refers past the last
abbrev pub first_bad_ref : List Tree → Option ℕ
first_bad_ref bodies = position_from (λ p. not (refs_below (length bodies) p)) 0 bodies

-- unguarded references lead from i to these definitions in turn, and from the last of them to j
abbrev pub IsWay : List Tree → ℕ → List ℕ → ℕ → Type 0
IsWay bodies i [] j = Leads bodies i j
IsWay bodies i (x ∷ rest) j = Leads bodies i x × IsWay bodies x rest j

-- distinct definitions that begin with `start`; each leads to the next, and the last to the first
abbrev pub IsCycle : List Tree → ℕ → List ℕ → Type 0
IsCycle bodies start [] = ⊥
IsCycle bodies start (i ∷ rest) = (i ≡ start) × IsWay bodies start rest start × IsDistinct nat_eq (i ∷ rest)

-- a cycle from the first definition, in order, that lies on one
abbrev pub IsFirstCycle : List Tree → List ℕ → Type 0
IsFirstCycle bodies cycle = (start : ℕ) × IsCycle bodies start cycle × ((j : ℕ) → j < start → Chain bodies j j → ⊥)

-- what `Rules::admit` returns for names and as many bodies: the first definition that refers past the last; then a cycle, from the
-- first definition that lies on one; otherwise these definitions, which are guarded. `Memory` may come instead of the last two.
abbrev pub IsAdmitted : Result Definitions RulesFault → List (List ℕ) → List Tree → Type 0
IsAdmitted (Ok rules) names bodies = (first_bad_ref bodies ≡ None) × Guarded bodies × (rules ≡ record { names = names; bodies = bodies })
IsAdmitted (Err (fault.BadRef place)) names bodies = first_bad_ref bodies ≡ Some place
IsAdmitted (Err (fault.Unguarded cycle)) names bodies = (first_bad_ref bodies ≡ None) × IsFirstCycle bodies cycle.items
IsAdmitted (Err fault.Memory) names bodies = first_bad_ref bodies ≡ None
