-- Each alternation and each reference takes some of the room.
use Rattle.sno_machine.proofs.starts.fronts.Collector.+collect.Given as goal

abbrev pub decreases-collect : goal.decreases-collect
decreases-collect l = l.self.now.room
