-- What is owned of a value that C keeps.
use base.Fml.{Fml, ftrue}
use base.Stored.{Coded}
use Rattle.std.specs.Coded.{coded_option}
use denote.RawPtr.{Ptr}
use Rattle.std.specs.Prelude.{Option, None, Some, Box}
use Rattle.std.specs.Global.{Global}
use Rattle.std.specs.Option.{option_map}
use Rattle.std.specs.Box.Ownership.{box_owns}
use Rattle.sno_compiled.specs.Blocks.{chunk}
use Rattle.sno_c.specs.declared.held.Held.{Held}
use Rattle.sno_c.specs.contracts.held.Held.{the_row}

-- the box at p with the value x, and nothing without a value
abbrev pub kept_at : Ptr → Option Held → Fml
kept_at p None = ftrue
kept_at p (Some x) = box_owns chunk the_row p x

-- what is in a box, if there is one
abbrev pub held_in : Option (Box Held Global) → Option Held
held_in = option_map (λ b. b.value)

-- how the logic stores what is held
abbrev pub held_coded : Coded (Option Held)
held_coded = coded_option the_row.coded
