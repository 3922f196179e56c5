-- The cursor is past the places so far.
use Rattle.std.proofs.Common.{◌≤◌, ℕ, take}
use Rattle.sno_machine.specs.Beginnings.{IsPast}
use Rattle.sno_machine.proofs.starts.front_search.past_all.Given as goal

abbrev pub invariant-loop-place : goal.invariant-loop-place
invariant-loop-place l = (c : ℕ) → l.past ≤ c → IsPast (take l.place-index l.places) c
