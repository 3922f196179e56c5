-- There is a text of each name exactly if there is one of each name that is left.
use Rattle.std.proofs.Common.{◌≢◌, None, drop, map}
use Rattle.sno_desk.specs.Seen.{places_of}
use Rattle.sno_desk.proofs.seats.has_all.Given as goal

abbrev pub invariant-loop-name : goal.invariant-loop-name
invariant-loop-name l =
    (places_of l.opening (map (λ n. n.now) (drop l.name-index l.names)) ≢ None → places_of l.opening (map (λ n. n.now) l.names) ≢ None)
    × (places_of l.opening (map (λ n. n.now) l.names) ≢ None → places_of l.opening (map (λ n. n.now) (drop l.name-index l.names)) ≢ None)
