-- What the calls that open a pattern return.
use Rattle.std.specs.Prelude.{Option, None, Some}
use Rattle.sno_seek.specs.Opening.{IsOpened}
use Rattle.sno_c.specs.declared.held.Held.{Held}
use Rattle.sno_c.specs.declared.held.Held.TheVariants.{Book, Pattern, Text}

-- what is held is a pattern that was read from lines, and nothing was sought yet
abbrev pub IsOpenedPattern : Held → Type 0
IsOpenedPattern (Pattern p) = IsOpened p
IsOpenedPattern (Text t) = ⊥
IsOpenedPattern (Book b) = ⊥

-- .. in an open handle
abbrev pub HasOpened : Option Held → Type 0
HasOpened None = ⊥
HasOpened (Some held) = IsOpenedPattern held
