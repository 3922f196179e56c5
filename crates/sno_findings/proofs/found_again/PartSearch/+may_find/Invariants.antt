-- Each part that is looked at takes some of the room.
use Rattle.sno_findings.proofs.found_again.PartSearch.+may_find.Given as goal

abbrev pub decreases-may_find : goal.decreases-may_find
decreases-may_find l = l.self.now.room
