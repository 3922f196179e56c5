-- The limits of traces, as numbers.
use Rattle.std.specs.Prelude.{◌≡◌, refl}
use Rattle.sno_trace.specs.declared.faults.TheConstants.{MAX_DEPTH}
use Rattle.sno_trace.specs.declared.lines.TheConstants.{MAX_LINES, USUAL_LINES, DEEPEST}

-- how deep parts, rounds and references may be nested
most_nested : MAX_DEPTH ≡ 2500
most_nested = refl

most_lines : MAX_LINES ≡ 10000
most_lines = refl

-- lines of a trace without a number of lines
usual_lines : USUAL_LINES ≡ 1000
usual_lines = refl

-- the most references for which a line is moved to the right
most_moved : DEEPEST ≡ 30
most_moved = refl
