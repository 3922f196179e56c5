-- How the events of one start end.
use Rattle.std.specs.Prelude.{◌≡◌, ℕ, List, ◌++◌, map, Some, None}
use Rattle.sno_pattern.specs.Outcome.{Tried, cut_scan, found_in}
use Rattle.sno_pattern.specs.declared.events.Assign.{Assign}
use Rattle.sno_pattern.specs.declared.events.Event.{Event}
use Rattle.sno_pattern.specs.declared.found.Found.{Found}
use Rattle.sno_eval.specs.declared.endings.Ending.{Ending}
use Rattle.sno_eval.specs.declared.endings.Ending.TheVariants.{Success, Failure, Open}

-- the outcome of the match, with these assignments done and the other starts still to be tried
abbrev pub found_after : Ending → List Assign → List Tried → Found
found_after (Success hit) sets others = record { sets = sets; end = Some hit }
found_after Failure sets others = record { sets = sets; end = None }
found_after Open sets others = found_in sets (cut_scan others)

-- Whatever the other starts do: with the assignments `sets` already done, the events of this start lead to the ending,
-- with the assignments `new` done.
abbrev pub GoesOnAs : List Assign → ℕ → List Event → List Assign → Ending → Type 0
GoesOnAs sets start events new ending = (others : List Tried) → found_in sets (cut_scan (map (λ e. (start, e)) events ++ others)) ≡ found_after ending new others
