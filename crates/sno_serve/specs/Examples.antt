-- Limits, written out: another number is refused here.
use Rattle.std.specs.Prelude.{◌≡◌, refl}
use Rattle.sno_serve.specs.declared.at_seat.TheConstants.{MAX_INDEX}
use Rattle.sno_serve.specs.declared.intake.TheConstants.{MAX_LINE}

-- the index past which no journal has an entry
highest_index : MAX_INDEX ≡ 1000000
highest_index = refl

-- the most bytes that a line may have
longest_line : MAX_LINE ≡ 16777216
longest_line = refl
