-- The round that is wanted is the one that is wanted from here.
use Rattle.std.proofs.Common.{◌≡◌, ◌-◌}
use Rattle.std.specs.Arc.{arc_value}
use Rattle.sno_traces.specs.Rounds.{round_from}
use Rattle.sno_traces.proofs.rounds.round_after.Given as goal

abbrev pub invariant-loop-matches : goal.invariant-loop-matches
invariant-loop-matches l = record {
  wanted : round_from l.once (l.earlier - l.matches) l.round.matches (arc_value l.round.text) ≡ round_from l.once l.earlier 0 (arc_value l.fn.text);
  counted : l.round.matches ≡ l.matches;
}
