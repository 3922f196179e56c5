-- The results so far are of calls.
use Rattle.std.proofs.Common.{All}
use Rattle.sno_files.specs.InThreads.{IsCalled}
use Rattle.sno_files.proofs.in_threads.take_turns.Given as goal

abbrev pub invariant-loop : goal.invariant-loop
invariant-loop g l = All (IsCalled g.F.Fn l.f l.places) l.results.items
