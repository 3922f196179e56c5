-- One statement of rules, performed on a text.
use Rattle.std.specs.Prelude.{◌≡◌, ℕ, List, Result, Ok, Err}
use Rattle.std.specs.Arc.{arc_value}
use Rattle.sno_edit.specs.Edits.{Edited}
use Rattle.sno_edit.specs.declared.faults.FileFault.{FileFault}
use Rattle.sno_edit.specs.Faults.{follows}
use Rattle.sno_edit.specs.declared.turns.Turn.{Turn}

-- a text before any statement is performed on it
abbrev pub begun : List ℕ → Edited
begun text = record { text = text; matches = 0 }

abbrev pub turn_seen : Turn → Edited
turn_seen t = record { text = arc_value t.text; matches = t.matches }

-- the result is the one wanted, out of memory, or refused for too long a history
abbrev pub GivesTurn : Result Turn FileFault → Result Edited FileFault → Type 0
GivesTurn (Ok t) wanted = wanted ≡ Ok (turn_seen t)
GivesTurn (Err fault) wanted = follows fault → wanted ≡ Err fault
